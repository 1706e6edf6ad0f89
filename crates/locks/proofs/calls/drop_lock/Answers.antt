-- A refusal is the first test that fails; the lock's rows go from its segment's.
use Rattle.std.specs.Prelude.{Option, None, Some, Ok, Err}
use mathlib.Core.Path.{◌≡◌, refl, sym, ap, ◌∙◌}
use mathlib.Core.List.{List}
use mathlib.Core.Bool.{true}
use Prim.Native.Nat.{ℕ, ◌<◌}
use lib.Dec.{eqb}
use lib.ListN.{length, set, take}
use borrow.Author.Rules.{rules}
use borrow.Author.Tests.{eq-eqb, ne_eqb}
use Rattle.call.specs.declared.request.Request.{Request}
use Rattle.call.specs.declared.request.Request.TheVariants.{DropLock}
use Rattle.model.specs.declared.answer.Refusal.TheVariants.{NoLock, NotOwner}
use Rattle.model.specs.Limits.{most_segments}
use Rattle.model.specs.Answers.{Answer}
use Rattle.model.specs.Refusals.{conditions}
use Rattle.model.specs.Effects.{answer}
use Rattle.model.specs.State.{editor, owns, is_lock, lock_segment, segment_at, is_of_lock}
use Rattle.base.specs.Lists.{keep}
use Rattle.model.specs.Cells.{Table, Cells, locks_are, cell, row_at, table_at, owner_cell, state_of}
use Rattle.model.specs.Stores.{on_table, drop_rows, store}
use Rattle.model.specs.Serving.{Serves}
use Rattle.model.proofs.Refinement.ServedCalls.{serves_refused, serves_accepted, segments_in, segment_at_lem}
use Rattle.threads.proofs.Editors.{BeginsWithEditor, editor_missing, editor_known}
use Rattle.locks.specs.Internal.{segment_of_lock, Dropped}
use Rattle.locks.proofs.LockSegments.{lock_segment_is, no_lock_segment, has_lock_segment, count_at_lem}
use Rattle.locks.proofs.calls.drop_lock.Goals as goal

module _ (d : Cells) (a lock : ℕ) (text : List ℕ) where
  abbrev q : Request
  q = DropLock a lock

  begins : BeginsWithEditor d q text a
  unfolding conditions
  begins = (_, refl)

  module _ (size : length d.locks ≡ most_segments) {user : ℕ} (u : editor (state_of d) a ≡ Some user) {n : ℕ} (count : n ≡ segments_in d)
      {o : Option ℕ} (found : o ≡ segment_of_lock lock (take n d.locks)) where
    looked : o ≡ segment_of_lock lock (take (segments_in d) d.locks)
    looked = found ∙ ap (λ (k : ℕ). segment_of_lock lock (take k d.locks)) count

    unknown_lock : o ≡ None → Serves d q text (Err NoLock) d
    unfolding conditions state_of
    unknown_lock none = let e = no_lock_segment d lock size (sym none ∙ looked) in serves_refused d q text (rw (u, e))

    module _ {s : ℕ} (some : o ≡ Some s) where
      e : Some s ≡ segment_of_lock lock (take (segments_in d) d.locks)
      e = sym some ∙ looked

      place : lock_segment (state_of d) lock ≡ s
      place = (lock_segment_is d lock size e).0

      low : s < segments_in d
      low = (lock_segment_is d lock size e).1

      stands : is_lock (state_of d) lock ≡ true
      stands = has_lock_segment d lock size e

      owner_is : owns (state_of d) user (lock_segment (state_of d) lock) ≡ eqb (cell (row_at (table_at d.segments s) 0) owner_cell) user
      owner_is = ap (owns (state_of d) user) place ∙ ap (λ g. eqb g.owner user) (segment_at_lem d s low)

      other : (cell (row_at (table_at d.segments s) 0) owner_cell ≡ user → ⊥) → Serves d q text (Err NotOwner) d
      unfolding conditions state_of
      other o = let none = owner_is ∙ ne_eqb _ _ o in serves_refused d q text (rw (u, stands, none))

      gone : {t : Table} {r : ℕ} → cell (row_at (table_at d.segments s) 0) owner_cell ≡ user → Dropped lock (table_at d.locks s) t r
          → Serves d q text (Ok r) (locks_are (set d.locks s t) d)
      unfolding conditions answer store state_of
      gone {t} {r} o drop =
          let own = owner_is ∙ eq-eqb _ _ o in
          serves_accepted d q text
          (rw (u, stands, own))
          (drop.count ∙ sym (ap (λ (k : ℕ). length (keep (is_of_lock lock) (segment_at (state_of d) k).products)) place ∙ count_at_lem d lock s low))
          (ap (λ (w : Table). locks_are (set d.locks s w) d) drop.rows
          ∙ sym (ap (λ (k : ℕ). locks_are (on_table d.locks k (drop_rows lock)) d) place))

pub returns-in_err-user : goal.returns-in_err-user
returns-in_err-user c =
    let r : c.from_residual.result ≡ c.editor.result = search (rules, c.in_err-user.was) in
    λ text d. rw r (editor_missing _ _ c.editor.ensures (DropLock _ _) text (begins _ _ _ text) _ c.in_err-user.was)

pub returns-in_err-s : goal.returns-in_err-s
returns-in_err-s c =
    let r : ◌≡◌ {A = Answer} c.from_residual-in_err-s.result (Err NoLock) = search rules in
    λ text d. rw r (unknown_lock _ _ _ text c.told-locks (editor_known _ _ c.editor.ensures _ c.in_ok-user.was) c.segments-n.ensures.count c.segment_of.ensures c.in_err-s.ensures.ok_part)

pub returns-then-owner-user : goal.returns-then-owner-user
returns-then-owner-user c =
    λ text d. other _ _ _ text c.told-locks (editor_known _ _ c.editor.ensures _ c.in_ok-user.was) c.segments-n.ensures.count c.segment_of.ensures c.in_ok-s.ensures.ok_part c.if-owner-user.true

pub returns : goal.returns
returns c =
    λ text d.
    gone _ _ _ text c.told-locks (editor_known _ _ c.editor.ensures _ c.in_ok-user.was) c.segments-n.ensures.count c.segment_of.ensures c.in_ok-s.ensures.ok_part c.if-owner-user.false
    c.drop_rows-dropped.ensures
