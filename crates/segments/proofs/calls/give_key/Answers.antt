-- Err in the order of the table, else the list is stored closed up with the key at its end.
use Rattle.std.specs.Prelude.{Result, Ok, Err, nat_eq, ⊤}
use Rattle.std.specs.List.{list_any}
use mathlib.Core.Path.{◌≡◌, refl, sym, ap, ap₂, ◌∙◌}
use mathlib.Core.Bool.{Bool, true, false, not, ◌&&◌}
use mathlib.Core.List.{List}
use Prim.Native.Nat.{ℕ, suc, ◌+◌, ◌≤◌, ◌<◌}
use native.Mathlib.Omega.{arith}
use borrow.Author.Rules.{rules}
use borrow.Author.Tests.{eq-eqb, ne_eqb, lt-ltb, le-ltb}
use lib.Dec.{eqb}
use lib.ListN.{length, set}
use Rattle.product.specs.declared.literal.Key.TheVariants.{Defined}
use Rattle.call.specs.declared.request.Request.{Request}
use Rattle.call.specs.declared.request.Request.TheVariants.{GiveKey}
use Rattle.model.specs.declared.answer.Refusal.{Refusal}
use Rattle.model.specs.declared.answer.Refusal.TheVariants.{NotOwner, AlreadyPresent, Full}
use Rattle.model.specs.Limits.{most_listed}
use Rattle.base.specs.Lists.{any, keep}
use Rattle.model.specs.Threads.{is_in}
use Rattle.model.specs.Answers.{Answer}
use Rattle.model.specs.Refusals.{conditions}
use Rattle.model.specs.Effects.{answer}
use Rattle.model.specs.State.{owns, made, segment_at}
use Rattle.model.specs.Cells.{Row, Table, Cells, segments_are, threads_are, cell, row_at, table_at, owner_cell, defined_cell, has_key, key_row, list_row, state_of}
use Rattle.model.specs.Stores.{store}
use Rattle.model.specs.Serving.{Serves}
use Rattle.base.proofs.Lists.{length_append_one}
use Rattle.model.proofs.Refinement.ServedCalls.{serves_refused, serves_accepted}
use Rattle.threads.specs.Editors.{EditorLent}
use Rattle.threads.proofs.Editors.{BeginsWithEditor, editor_missing}
use Rattle.segments.specs.declared.list.Kept.{Kept}
use Rattle.segments.specs.Internal.{Without, NamesTested}
use Rattle.segments.proofs.ArrayTests.{among_keys, owned_by, in_list, list_length, all_stay}
use Rattle.segments.proofs.EditConditions.{Names, Begun, name_missing, begun}
use Rattle.segments.proofs.RemovedKey.{key_row_snoc}
use Rattle.segments.proofs.calls.give_key.Goals as goal
use Rattle.segments.proofs.calls.give_key.Goals.{then-owner-user-via-then-owner-user, then-owner-user-via-else-owner-user+then-maker-user}

module _ (d : Cells) (text : List ℕ) (a s k : ℕ) where
  abbrev call : Request
  call = GiveKey a s k

  names : Names d call text a s k
  unfolding conditions
  names = (_, refl)

  begins : BeginsWithEditor d call text a
  begins = (_, names.1)

  abbrev table : Table
  table = table_at d.segments s

  abbrev codes : List ℕ
  codes = keep has_key (list_row s table)

  module _ {r : Answer} (lent : EditorLent (threads_are d.threads) a r) {u : ℕ} (user : r ≡ Ok u) {t : Result ⊤ Refusal}
      (tested : NamesTested d.registry d.makers s k t) (passed : t ≡ Ok tt) where
    z : Begun d a s k u
    z = begun d call text a s k names lent user tested passed

    -- the owner of the segment made the key
    rights : owns (state_of d) u s && made (state_of d) u k ≡ eqb (cell (row_at table 0) owner_cell) u && eqb (cell d.makers k) u
    rights = ap₂ (λ (x y : Bool). x && y) (owned_by d s z.there u) (ap (λ (m : ℕ). eqb m u) z.maker)

    not_owner : eqb (cell (row_at table 0) owner_cell) u && eqb (cell d.makers k) u ≡ false → Serves d call text (Err NotOwner) d
    unfolding conditions
    not_owner e = serves_refused d call text (rw (z.known, z.segment, z.key, rights, e))

    module _ (own : cell (row_at table 0) owner_cell ≡ u) (its : cell d.makers k ≡ u)
        {list : Row} (same : list ≡ list_row s table) {found : Bool} (asked : found ≡ list_any (λ y. nat_eq y (defined_cell k)) list) where
      v : found ≡ any (eqb (defined_cell k)) codes
      v = among_keys k z.low (list_row s table) same asked

      may : eqb (cell (row_at table 0) owner_cell) u && eqb (cell d.makers k) u ≡ true
      may = simp (eq-eqb _ _ own, eq-eqb _ _ its)

      listed : is_in (Defined k) (segment_at (state_of d) s).keys ≡ found
      listed = in_list d s z.there k ∙ sym v

      present : found ≡ true → Serves d call text (Err AlreadyPresent) d
      unfolding conditions
      present e = serves_refused d call text (rw (z.known, z.segment, z.key, rights, may, listed, e))

      module _ (absent : found ≡ false) {kept : Kept} (left : Without list (defined_cell k) kept) where
        w : Without (list_row s table) (defined_cell k) kept
        w = rw (← same) left

        -- without the key they are all
        all : keep (λ y. not (eqb (defined_cell k) y)) codes ≡ codes
        all = all_stay (defined_cell k) codes (sym v ∙ absent)

        many : kept.count ≡ length codes
        many = w.counted ∙ ap length all

        counted : length (segment_at (state_of d) s).keys ≡ kept.count
        counted = list_length d s z.there ∙ sym many

        full : most_listed ≤ kept.count → Serves d call text (Err Full) d
        unfolding conditions
        full h =
            serves_refused d call text
            (rw (z.known, z.segment, z.key, rights, may, listed, absent, counted, lt-ltb most_listed (suc kept.count) (omega arith)))

        given : kept.count < most_listed
            → Serves d call text (Ok (kept.count + 1)) (segments_are (set d.segments s (set table 1 (set kept.cells kept.count (defined_cell k)))) d)
        unfolding conditions answer store
        given h =
            let e = many in
            let l = length_append_one (segment_at (state_of d) s).keys (Defined k) in
            let c = counted in
            serves_accepted d call text
            (rw (z.known, z.segment, z.key, rights, may, listed, absent, counted, le-ltb most_listed (suc kept.count) (omega arith)))
            (omega arith)
            (ap (λ (r : Row). segments_are (set d.segments s (set table 1 r)) d)
            (ap₂ (λ (r : Row) (i : ℕ). set r i (defined_cell k)) (w.closed ∙ ap key_row all) e ∙ key_row_snoc codes (defined_cell k) (omega arith)))

pub returns-in_err-user : goal.returns-in_err-user
returns-in_err-user c =
    let r : c.from_residual.result ≡ c.editor.result = search (rules, c.in_err-user.was) in
    λ text d. rw r (editor_missing _ _ c.editor.ensures (GiveKey _ _ _) text (begins _ text _ _ _) _ c.in_err-user.was)

pub returns-in_err-test_names : goal.returns-in_err-test_names
returns-in_err-test_names c =
    let r : c.from_residual-in_err-test_names.result ≡ Err c.in_err-test_names.field-0.0 = search rules in
    λ text d.
    rw r
    (name_missing _ (GiveKey _ _ _) text _ _ _ (names _ text _ _ _) c.editor.ensures c.in_ok-user.was c.test_names.ensures.tested c.in_err-test_names.was)

pub returns-then-owner-user : goal.returns-then-owner-user
returns-then-owner-user c =
    λ text d.
    not_owner _ text _ _ _ c.editor.ensures c.in_ok-user.was c.test_names.ensures.tested c.in_ok-test_names.was
    (elim c.then-owner-user.branch [
      | then-owner-user-via-then-owner-user w ↦ simp (ne_eqb _ _ w.if-owner-user.true)
      | then-owner-user-via-else-owner-user+then-maker-user w ↦ simp (eq-eqb _ _ w.if-owner-user.false, ne_eqb _ _ w.if-maker-user.true)
    ])

pub returns-then-is_listed : goal.returns-then-is_listed
returns-then-is_listed c =
    λ text d. present _ text _ _ _ c.editor.ensures c.in_ok-user.was c.test_names.ensures.tested c.in_ok-test_names.was c.if-owner-user.false c.if-maker-user.false c.key_list-list.ensures c.is_listed.ensures c.if-is_listed.true

pub returns-then-count-ge-MOST_LISTED : goal.returns-then-count-ge-MOST_LISTED
returns-then-count-ge-MOST_LISTED c =
    λ text d. full _ text _ _ _ c.editor.ensures c.in_ok-user.was c.test_names.ensures.tested c.in_ok-test_names.was c.if-owner-user.false c.if-maker-user.false c.key_list-list.ensures c.is_listed.ensures c.if-is_listed.false c.without-count.ensures c.if-count-ge-MOST_LISTED.true

pub returns : goal.returns
returns c =
    λ text d. given _ text _ _ _ c.editor.ensures c.in_ok-user.was c.test_names.ensures.tested c.in_ok-test_names.was c.if-owner-user.false c.if-maker-user.false c.key_list-list.ensures c.is_listed.ensures c.if-is_listed.false c.without-count.ensures c.if-count-ge-MOST_LISTED.false
