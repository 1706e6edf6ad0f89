-- Err in the order of the table, else the list is stored closed up without the key, and the key goes from every
-- thread's frames.
use Rattle.std.specs.Prelude.{Result, Ok, Err, nat_eq, ⊤}
use Rattle.std.specs.List.{list_any}
use mathlib.Core.Path.{◌≡◌, refl, sym, ap₂, ◌∙◌}
use mathlib.Core.Bool.{Bool, true, false}
use mathlib.Core.List.{List, map}
use Prim.Native.Nat.{ℕ}
use borrow.Author.Rules.{rules}
use lib.Dec.{eqb}
use borrow.Author.Tests.{eq-eqb, ne_eqb}
use lib.ListN.{set}
use Rattle.call.specs.declared.request.Request.{Request}
use Rattle.call.specs.declared.request.Request.TheVariants.{TakeKey}
use Rattle.model.specs.declared.answer.Refusal.{Refusal}
use Rattle.model.specs.declared.answer.Refusal.TheVariants.{NotOwner, NotPresent}
use Rattle.model.specs.Answers.{Answer}
use Rattle.model.specs.Refusals.{conditions}
use Rattle.model.specs.Effects.{answer}
use Rattle.model.specs.State.{owns}
use Rattle.model.specs.Cells.{Row, Table, Cells, segments_are, threads_are, ◌and◌, cell, row_at, table_at, owner_cell, defined_cell, has_key, list_row, state_of}
use Rattle.model.specs.Stores.{revoke_code, store}
use Rattle.model.specs.Serving.{Serves}
use Rattle.model.proofs.Refinement.ServedCalls.{serves_refused, serves_accepted}
use Rattle.threads.specs.Editors.{EditorLent}
use Rattle.threads.proofs.Editors.{BeginsWithEditor, editor_missing}
use Rattle.base.specs.Lists.{any, keep}
use Rattle.segments.specs.declared.list.Kept.{Kept}
use Rattle.segments.specs.Internal.{Without, NamesTested}
use Rattle.segments.proofs.ArrayTests.{among_keys, owned_by, in_list, left_length}
use Rattle.segments.proofs.EditConditions.{Names, Begun, name_missing, begun}
use Rattle.segments.proofs.calls.take_key.Goals as goal

module _ (d : Cells) (text : List ℕ) (a s k : ℕ) where
  abbrev call : Request
  call = TakeKey a s k

  names : Names d call text a s k
  unfolding conditions
  names = (_, refl)

  begins : BeginsWithEditor d call text a
  begins = (_, names.1)

  abbrev table : Table
  table = table_at d.segments s

  module _ {r : Answer} (lent : EditorLent (threads_are d.threads) a r) {u : ℕ} (user : r ≡ Ok u) {t : Result ⊤ Refusal}
      (tested : NamesTested d.registry d.makers s k t) (passed : t ≡ Ok tt) where
    z : Begun d a s k u
    z = begun d call text a s k names lent user tested passed

    not_owner : (cell (row_at table 0) owner_cell ≡ u → ⊥) → Serves d call text (Err NotOwner) d
    unfolding conditions
    not_owner o = serves_refused d call text (rw (z.known, z.segment, z.key, owned_by d s z.there u ∙ ne_eqb (cell (row_at table 0) owner_cell) u o))

    module _ (own : cell (row_at table 0) owner_cell ≡ u) {list : Row} (same : list ≡ list_row s table) {found : Bool}
        (asked : found ≡ list_any (λ y. nat_eq y (defined_cell k)) list) where
      v : found ≡ any (eqb (defined_cell k)) (keep has_key (list_row s table))
      v = among_keys k z.low (list_row s table) same asked

      owner : owns (state_of d) u s ≡ true
      owner = owned_by d s z.there u ∙ eq-eqb (cell (row_at table 0) owner_cell) u own

      absent : found ≡ false → Serves d call text (Err NotPresent) d
      unfolding conditions
      absent e = serves_refused d call text (rw (z.known, z.segment, z.key, owner, in_list d s z.there k, ← v, e))

      taken : {kept : Kept} {threads : List Table} → found ≡ true → Without list (defined_cell k) kept
          → threads ≡ map (revoke_code s (defined_cell k)) d.threads
          → Serves d call text (Ok kept.count) ((segments_are (set d.segments s (set table 1 kept.cells)) and threads_are threads) d)
      unfolding conditions answer store
      taken {kept = kept} {threads = threads} e left revoked =
          let w : Without (list_row s table) (defined_cell k) kept = rw (← same) left in
          serves_accepted d call text
          (rw (z.known, z.segment, z.key, owner, in_list d s z.there k, ← v, e))
          (w.counted ∙ sym (left_length d s z.there k))
          (ap₂ (λ (r : Row) (ts : List Table). threads_are ts (segments_are (set d.segments s (set table 1 r)) d)) w.closed revoked)

pub returns-in_err-user : goal.returns-in_err-user
returns-in_err-user c =
    let r : c.from_residual.result ≡ c.editor.result = search (rules, c.in_err-user.was) in
    λ text d. rw r (editor_missing _ _ c.editor.ensures (TakeKey _ _ _) text (begins _ text _ _ _) _ c.in_err-user.was)

pub returns-in_err-test_names : goal.returns-in_err-test_names
returns-in_err-test_names c =
    let r : c.from_residual-in_err-test_names.result ≡ Err c.in_err-test_names.field-0.0 = search rules in
    λ text d.
    rw r
    (name_missing _ (TakeKey _ _ _) text _ _ _ (names _ text _ _ _) c.editor.ensures c.in_ok-user.was c.test_names.ensures.tested c.in_err-test_names.was)

pub returns-then-owner-user : goal.returns-then-owner-user
returns-then-owner-user c = λ text d. not_owner _ text _ _ _ c.editor.ensures c.in_ok-user.was c.test_names.ensures.tested c.in_ok-test_names.was c.if-owner-user.true

pub returns-then-not-is_listed : goal.returns-then-not-is_listed
returns-then-not-is_listed c =
    λ text d. absent _ text _ _ _ c.editor.ensures c.in_ok-user.was c.test_names.ensures.tested c.in_ok-test_names.was c.if-owner-user.false c.key_list-list.ensures c.is_listed.ensures c.if-not-is_listed.true

pub returns : goal.returns
returns c =
    λ text d. taken _ text _ _ _ c.editor.ensures c.in_ok-user.was c.test_names.ensures.tested c.in_ok-test_names.was c.if-owner-user.false c.key_list-list.ensures c.is_listed.ensures c.if-not-is_listed.false c.without-count.ensures c.revoke.ensures
