-- A refusal is the first test that fails; the lock's rows go to its segment's.
use Rattle.std.specs.Prelude.{Some, Result, Ok, Err}
use mathlib.Core.Path.{◌≡◌, refl, sym, ap, ap₂, ◌∙◌}
use mathlib.Core.Bool.{true, false, ◌||◌}
use mathlib.Core.List.{List, [], map}
use Prim.Native.Nat.{ℕ, suc, ◌+◌, ◌≤◌, ◌<◌}
use native.Mathlib.Omega.{arith}
use lib.Dec.{eqb}
use lib.ListN.{length, set, length-map}
use lib.Seq.{set-get_or}
use borrow.Author.Rules.{rules}
use borrow.Author.Tests.{eq-eqb, ne_eqb, lt-ltb, le-ltb}
use Rattle.product.specs.Sum.{Sum}
use Rattle.product.specs.Cells.{rows_of}
use Rattle.formula.specs.declared.text.Issued.{Issued}
use Rattle.formula.specs.declared.text.Refusal.{Refusal as TextRefusal}
use Rattle.formula.specs.declared.text.Refusal.TheVariants.{Malformed, TooWide, Unsatisfiable}
use Rattle.formula.specs.declared.text.Compiled.{Compiled}
use Rattle.formula.specs.Outcome.{Outcome, accepted, outcome_of, answer_of, compiled_of}
use Rattle.call.specs.declared.request.Request.{Request}
use Rattle.call.specs.declared.request.Request.TheVariants.{AddLock}
use Rattle.model.specs.declared.answer.Refusal.TheVariants.{NoSegment, NotOwner, Unfit}
use Rattle.model.specs.Answers.{Answer, of_text}
use Rattle.model.specs.Limits.{most_standing, most_numbers, passes}
use Rattle.model.specs.Operations.{takes_set}
use Rattle.model.specs.Refusals.{conditions}
use Rattle.model.specs.Effects.{answer}
use Rattle.model.specs.State.{is_segment, owns, segment_at, editor, issued}
use Rattle.model.specs.Cells.{Row, Table, Cells, registry_is, locks_are, cell, row_at, table_at, lock_count, owner_cell, kind_cell, used_rows, product_in, state_of}
use Rattle.model.specs.Stores.{count_up, store_rows, product_row, store}
use Rattle.model.specs.Serving.{Serves}
use Rattle.model.proofs.Refinement.ServedCalls.{serves_refused, serves_accepted, segments_in, is_segment_lem, segment_at_lem}
use Rattle.threads.proofs.Editors.{BeginsWithEditor, editor_missing, editor_known}
use Rattle.locks.specs.Internal.{rows_from, issued_in, is_full, LockStored, full, stored}
use Rattle.locks.proofs.CompiledRows.{operations_low, issued_is, refusing, refused_is, accepted_is, sum_kept, rows_stored}
use Rattle.locks.proofs.calls.add_lock.Goals as goal

module _ (d : Cells) (a s operations : ℕ) (text : List ℕ) where
  abbrev q : Request
  q = AddLock a s operations

  abbrev g : Row
  g = row_at (table_at d.segments s) 0

  abbrev o : Outcome
  o = outcome_of (issued (state_of d)) text

  begins : BeginsWithEditor d q text a
  unfolding conditions
  begins = (_, refl)

  module _ {n user : ℕ} (u : editor (state_of d) a ≡ Some user) (count : n ≡ segments_in d) where
    unknown_segment : n ≤ s → Serves d q text (Err NoSegment) d
    unfolding conditions state_of
    unknown_segment h = let none = is_segment_lem d s ∙ le-ltb s (segments_in d) (omega arith) in serves_refused d q text (rw (u, none))

    module _ (low : s < n) where
      here : s < segments_in d
      here = omega arith

      there : is_segment (state_of d) s ≡ true
      there = is_segment_lem d s ∙ lt-ltb s (segments_in d) here

      owner_is : owns (state_of d) user s ≡ eqb (cell g owner_cell) user
      owner_is = ap (λ x. eqb x.owner user) (segment_at_lem d s here)

      kind_is : takes_set (segment_at (state_of d) s).kind operations ≡ takes_set (cell g kind_cell) operations
      kind_is = ap (λ x. takes_set x.kind operations) (segment_at_lem d s here)

      other : (cell g owner_cell ≡ user → ⊥) → Serves d q text (Err NotOwner) d
      unfolding conditions state_of
      other e = let none = owner_is ∙ ne_eqb _ _ e in serves_refused d q text (rw (u, there, none))

      module _ (e : cell g owner_cell ≡ user) where
        own : owns (state_of d) user s ≡ true
        own = owner_is ∙ eq-eqb _ _ e

        unfit : takes_set (cell g kind_cell) operations ≡ false → Serves d q text (Err Unfit) d
        unfolding conditions state_of
        unfit f = let none = kind_is ∙ f in serves_refused d q text (rw (u, there, own, none))

        module _ (f : takes_set (cell g kind_cell) operations ≡ true) {i : Issued} {r : Result Compiled TextRefusal} (handed : i ≡ issued_in d.registry d.makers)
            (compiled : r ≡ compiled_of i text) where
          fit : takes_set (segment_at (state_of d) s).kind operations ≡ true
          fit = kind_is ∙ f

          outcome : r ≡ answer_of o
          outcome = compiled ∙ ap (λ (j : Issued). compiled_of j text) (handed ∙ sym (issued_is d))

          refused : {x : TextRefusal} → r ≡ Err x → Serves d q text (Err (of_text x)) d
          unfolding conditions state_of
          refused {x} e = by x (refused_is o (sym outcome ∙ e))
            where
              by : (x : TextRefusal) → o ≡ refusing x → Serves d q text (Err (of_text x)) d
              by Malformed h = serves_refused d q text (rw (u, there, own, fit, h))
              by TooWide h = serves_refused d q text (rw (u, there, own, fit, h))
              by Unsatisfiable h = serves_refused d q text (rw (u, there, own, fit, h))

          module _ {x : Compiled} (well : r ≡ Ok x) where
            abbrev t : Table
            t = table_at d.locks s

            abbrev lock : ℕ
            lock = cell d.registry lock_count

            same_locks : set d.locks s t ≡ d.locks
            same_locks = set-get_or d.locks s []

            module _ (ps : Sum) (h : o ≡ accepted ps) (own_rows : x ≡ record { count = length ps; rows = rows_of ps }) where
              full_is : (passes most_standing (length (segment_at (state_of d) s).products + length ps) || passes most_numbers (suc lock)) ≡ is_full d.registry t x.count
              unfolding is_full
              full_is =
                  ap₂ (λ (k m : ℕ). passes most_standing (k + m) || passes most_numbers (suc lock))
                  (ap (λ y. length y.products) (segment_at_lem d s here) ∙ length-map (used_rows t) product_in)
                  (sym (ap (λ (y : Compiled). y.count) own_rows))

              rows_are : rows_from lock operations x ≡ map (product_row lock operations) ps
              rows_are =
                  ap (rows_from lock operations) own_rows
                  ∙ rows_stored lock operations ps (rw h at (sum_kept (issued (state_of d)) text))

              by_rows : {r' : Answer} {registry' : Row} {t' : Table} → LockStored d.registry t operations x r' registry' t'
                  → Serves d q text r' (registry_is registry' (locks_are (set d.locks s t') d))
              unfolding conditions answer store state_of
              by_rows (full z) = let most = full_is ∙ z in rw same_locks (serves_refused d q text (rw (u, there, own, fit, h, most)))
              by_rows (stored z) =
                  let room = full_is ∙ z in
                  serves_accepted d q text (rw (u, there, own, fit, h, room)) refl
                  (rw h (ap (λ (ws : Table). registry_is (count_up d.registry lock_count) (locks_are (set d.locks s (store_rows (length (used_rows t)) ws t)) d)) rows_are))

            served : {r' : Answer} {registry' : Row} {t' : Table} → LockStored d.registry t operations x r' registry' t'
                → Serves d q text r' (registry_is registry' (locks_are (set d.locks s t') d))
            served stores = let (ps, h, own_rows) = accepted_is o (sym outcome ∙ well) in by_rows ps h own_rows stores

pub returns-in_err-user : goal.returns-in_err-user
returns-in_err-user c =
    let r : c.from_residual.result ≡ c.editor.result = search (rules, c.in_err-user.was) in
    λ d. rw r (editor_missing _ _ c.editor.ensures (AddLock _ _ _) _ (begins _ _ _ _ _) _ c.in_err-user.was)

pub returns-then-segments-s : goal.returns-then-segments-s
returns-then-segments-s c = λ d. unknown_segment _ _ _ _ _ (editor_known _ _ c.editor.ensures _ c.in_ok-user.was) c.segments.ensures.count c.if-segments-s.true

pub returns-then-owner-user : goal.returns-then-owner-user
returns-then-owner-user c =
    λ d. other _ _ _ _ _ (editor_known _ _ c.editor.ensures _ c.in_ok-user.was) c.segments.ensures.count c.if-segments-s.false c.if-owner-user.true

pub returns-then-not-fits : goal.returns-then-not-fits
returns-then-not-fits c =
    λ d. unfit _ _ _ _ _ (editor_known _ _ c.editor.ensures _ c.in_ok-user.was) c.segments.ensures.count c.if-segments-s.false c.if-owner-user.false (sym c.fits.ensures ∙ c.if-not-fits.true)

pub returns-in_err-compiled : goal.returns-in_err-compiled
returns-in_err-compiled c =
    let r : c.from_residual-in_err-compiled.result ≡ Err (of_text c.in_err-compiled.field-0.0) = search rules in
    λ d.
    rw r
    (refused _ _ _ _ _ (editor_known _ _ c.editor.ensures _ c.in_ok-user.was) c.segments.ensures.count c.if-segments-s.false c.if-owner-user.false (sym c.fits.ensures ∙ c.if-not-fits.false)
    c.issued.ensures c.compile.ensures c.in_err-compiled.was)

pub store_lock-requires : goal.store_lock-requires
store_lock-requires c =
    let a = c.args in
    operations_low (cell (row_at (table_at a.segments.now a.segment) 0) kind_cell) _ (sym c.fits.ensures ∙ c.if-not-fits.false)

pub returns : goal.returns
returns c =
    λ d.
    served _ _ _ _ _ (editor_known _ _ c.editor.ensures _ c.in_ok-user.was) c.segments.ensures.count c.if-segments-s.false c.if-owner-user.false (sym c.fits.ensures ∙ c.if-not-fits.false)
    c.issued.ensures c.compile.ensures c.in_ok-compiled.was c.store_lock.ensures
