-- The gates and nothing else; an access changes nothing.
use Rattle.std.specs.Prelude.{Ok, Err, None, Some}
use mathlib.Core.Path.{◌≡◌, refl, sym, ◌∙◌}
use mathlib.Core.Bool.{Bool, true, false, ◌&&◌}
use mathlib.Core.List.{List, []}
use Prim.Native.Nat.{ℕ, ◌≤◌, ◌<◌}
use lib.Dec.{eqb}
use borrow.Author.Rules.{rules}
use Rattle.formula.specs.Outcome.{outcome_of}
use Rattle.call.specs.declared.request.Request.TheVariants.{Access}
use Rattle.base.proofs.Truth.{and_left, or_right}
use Rattle.model.specs.declared.answer.Refusal.TheVariants.{NoThread, NoSegment, Unfit}
use Rattle.model.specs.Answers.{Answer}
use Rattle.model.specs.Limits.{most_segments}
use Rattle.model.specs.Operations.{execute, is_access, takes, is_operation}
use Rattle.model.specs.State.{is_thread, segment_at}
use Rattle.model.specs.Refusals.{conditions}
use Rattle.model.specs.Effects.{answer}
use Rattle.model.specs.Cells.{Cells, cell, row_at, table_at, segment_count, kind_cell, state_of}
use Rattle.model.specs.Stores.{store}
use Rattle.model.specs.Serving.{Serves}
use Rattle.model.proofs.Refinement.ServedCalls.{segments_in, segment_at_lem, serves_accepted}
use Rattle.base.specs.Counts.{Counted}
use Rattle.threads.specs.Places.{Placed}
use Rattle.checking.specs.Deciding.{refusal_of}
use Rattle.route.proofs.AccessConditions.{gates}
use Rattle.route.proofs.ArrayTests.{answered_by, granted, ungranted, thread_missing, segment_missing, misfit, turned_away, let_through}
use Rattle.route.proofs.access.Goals as goal

module _ (d : Cells) (text : List ℕ) (a b n : ℕ) where
  abbrev fit : Bool
  fit = is_access n && takes (segment_at (state_of d) b).kind n

  same : conditions outcome_of (state_of d) (Access a b n) text ≡ gates (state_of d) a b n fit []
  unfolding conditions
  same = refl

  no_thread_lem : Placed d.threads a (is_thread a) None → Serves d (Access a b n) text (Err NoThread) d
  no_thread_lem = thread_missing d (Access a b n) text a b n fit [] same

  module _ (i : ℕ) (placed : Placed d.threads a (is_thread a) (Some i)) (count : ℕ) (counted : Counted (cell d.registry segment_count) most_segments count) where
    no_segment_lem : count ≤ b → Serves d (Access a b n) text (Err NoSegment) d
    no_segment_lem h = segment_missing d (Access a b n) text a b n fit [] same i placed (rw counted.count at h)

    module _ (below : b < count) (known taken : Bool) (is_Known : known ≡ is_access n) (is-taken : taken ≡ takes (cell (row_at (table_at d.segments b) 0) kind_cell) n) where
      low : b < segments_in d
      low = rw counted.count at below

      fits : known && taken ≡ fit
      fits = rw (is_Known, is-taken, segment_at_lem d b low)

      unfit : known && taken ≡ false → Serves d (Access a b n) text (Err Unfit) d
      unfit e = misfit d (Access a b n) text a b n fit [] same i placed low (sym fits ∙ e)

      module _ (e : known && taken ≡ true) where
        known_operation : is_operation n ≡ true
        known_operation = or_right (eqb n execute) (sym is_Known ∙ and_left known taken e)

        served : (r : Answer) → r ≡ answered_by (table_at d.threads i) (table_at d.locks b) n → Serves d (Access a b n) text r d
        unfolding answer store
        served (Err x) h = turned_away d (Access a b n) text a b n fit [] same i placed low (sym fits ∙ e) known_operation h
        served (Ok lock) h =
            let (free, is) = let_through d (Access a b n) text a b n fit [] same i placed low (sym fits ∙ e) known_operation h in
            serves_accepted d (Access a b n) text free is refl

pub returns-in_err-place : goal.returns-in_err-place
returns-in_err-place c = λ text d.
    let refused : ◌≡◌ {A = Answer} c.from_residual.result (Err NoThread) = search rules in
    rw refused (no_thread_lem _ text _ _ _ (rw c.in_err-place.ensures.ok_part at c.find.ensures))

pub returns-then-segments-s : goal.returns-then-segments-s
returns-then-segments-s c = λ text d.
    no_segment_lem _ text _ _ _ _ (rw c.in_ok-place.ensures.ok_part at c.find.ensures) _ c.segments.ensures c.if-segments-s.true

pub returns-then-not-is_access-is_taken : goal.returns-then-not-is_access-is_taken
returns-then-not-is_access-is_taken c = λ text d.
    unfit _ text _ _ _ _ (rw c.in_ok-place.ensures.ok_part at c.find.ensures) _ c.segments.ensures c.if-segments-s.false
    _ _ c.is_access.ensures c.is_taken.ensures (search rules)

pub returns-in_err-check : goal.returns-in_err-check
returns-in_err-check c = λ text d.
    let is : ◌≡◌ {A = Answer} c.from_residual-in_err-check.result (Err (refusal_of c.in_err-check.field-0.0)) = search rules in
    rw is
    (served _ text _ _ _ _ (rw c.in_ok-place.ensures.ok_part at c.find.ensures) _ c.segments.ensures c.if-segments-s.false
    _ _ c.is_access.ensures c.is_taken.ensures (search rules) (Err _) (ungranted _ _ _ c.check.ensures _ c.in_err-check.was))

pub returns : goal.returns
returns c = λ text d.
    served _ text _ _ _ _ (rw c.in_ok-place.ensures.ok_part at c.find.ensures) _ c.segments.ensures c.if-segments-s.false
    _ _ c.is_access.ensures c.is_taken.ensures (search rules) (Ok _) (granted _ _ _ c.check.ensures _ c.in_ok-check.was)
