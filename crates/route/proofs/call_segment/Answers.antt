-- The gates, then the limit; a call let through stores the segment's list as the newest frame.
use Rattle.std.specs.Prelude.{Ok, Err, None, Some}
use mathlib.Core.Path.{◌≡◌, refl, sym, ap, ◌∙◌}
use mathlib.Core.Bool.{Bool, true, false, cond}
use mathlib.Core.List.{List, [], ◌∷◌}
use Prim.Native.Nat.{ℕ, suc, ◌≤◌, ◌<◌}
use lib.Dec.{ltb}
use lib.ListN.{length, set}
use lib.Seq.{set-get_or}
use borrow.Author.Rules.{rules}
use Rattle.formula.specs.Outcome.{outcome_of}
use Rattle.call.specs.declared.request.Request.TheVariants.{CallSegment}
use Rattle.base.specs.Conditions.{Condition, when, first_refusal}
use Rattle.model.specs.declared.answer.Refusal.{Refusal}
use Rattle.model.specs.declared.answer.Refusal.TheVariants.{NoThread, NoSegment, Unfit, Full}
use Rattle.model.specs.Answers.{Answer}
use Rattle.model.specs.Limits.{most_segments, most_frames, passes}
use Rattle.model.specs.Operations.{execute, takes}
use Rattle.model.specs.State.{is_thread, segment_at, thread_at}
use Rattle.model.specs.Refusals.{lock_of, tightest_product, conditions}
use Rattle.model.specs.Effects.{answer}
use Rattle.model.specs.Cells.{Row, Table, Cells, threads_are, cell, row_at, table_at, segment_count, kind_cell, list_row, depth_of, state_of}
use Rattle.model.specs.Stores.{push_row, on_table, store}
use Rattle.model.specs.Serving.{Serves}
use Rattle.model.proofs.Agreement.HistoryAnswers.{under_limit}
use Rattle.model.proofs.Refinement.ThreadTables.{length_frames}
use Rattle.model.proofs.Refinement.ServedCalls.{segments_in, segment_at_lem, serves_refused, serves_accepted}
use Rattle.base.specs.Counts.{Counted}
use Rattle.threads.specs.Places.{Placed}
use Rattle.threads.proofs.FoundThread.{stands, at_place}
use Rattle.checking.specs.Deciding.{refusal_of}
use Rattle.route.proofs.AccessConditions.{gates}
use Rattle.route.proofs.ArrayTests.{answered_by, granted, ungranted, thread_missing, segment_missing, misfit, turned_away, let_through}
use Rattle.route.proofs.call_segment.Goals as goal

module _ (d : Cells) (text : List ℕ) (a b : ℕ) where
  abbrev fit : Bool
  fit = takes (segment_at (state_of d) b).kind execute

  abbrev rest : List (Condition Refusal)
  rest = when (passes most_frames (suc (length (thread_at (state_of d) a).frames))) Full ∷ []

  same : conditions outcome_of (state_of d) (CallSegment a b) text ≡ gates (state_of d) a b execute fit rest
  unfolding conditions
  same = refl

  no_thread_lem : Placed d.threads a (is_thread a) None → Serves d (CallSegment a b) text (Err NoThread) d
  no_thread_lem = thread_missing d (CallSegment a b) text a b execute fit rest same

  module _ (i : ℕ) (placed : Placed d.threads a (is_thread a) (Some i)) (count : ℕ) (counted : Counted (cell d.registry segment_count) most_segments count) where
    no_segment_lem : count ≤ b → Serves d (CallSegment a b) text (Err NoSegment) d
    no_segment_lem h = segment_missing d (CallSegment a b) text a b execute fit rest same i placed (rw counted.count at h)

    module _ (below : b < count) where
      low : b < segments_in d
      low = rw counted.count at below

      fits : {r : Bool} → r ≡ takes (cell (row_at (table_at d.segments b) 0) kind_cell) execute → fit ≡ r
      fits e = rw (segment_at_lem d b low) (sym e)

      unfit : takes (cell (row_at (table_at d.segments b) 0) kind_cell) execute ≡ false → Serves d (CallSegment a b) text (Err Unfit) d
      unfit e = misfit d (CallSegment a b) text a b execute fit rest same i placed low (fits refl ∙ e)

      module _ (taken : takes (cell (row_at (table_at d.segments b) 0) kind_cell) execute ≡ true) where
        refused : {x : Refusal} → ◌≡◌ {A = Answer} (Err x) (answered_by (table_at d.threads i) (table_at d.locks b) execute) → Serves d (CallSegment a b) text (Err x) d
        refused h = turned_away d (CallSegment a b) text a b execute fit rest same i placed low (fits refl ∙ taken) refl h

        module _ (lock : ℕ) (passed : ◌≡◌ {A = Answer} (Ok lock) (answered_by (table_at d.threads i) (table_at d.locks b) execute)) where
          through : (first_refusal (conditions outcome_of (state_of d) (CallSegment a b) text) ≡ first_refusal rest) × (lock ≡ lock_of (tightest_product (state_of d) a b execute))
          through = let_through d (CallSegment a b) text a b execute fit rest same i placed low (fits refl ∙ taken) refl passed

          frames : length (thread_at (state_of d) a).frames ≡ depth_of (table_at d.threads i)
          frames = ap (λ t. length t.frames) (stands d placed).thread ∙ length_frames (table_at d.threads i) (depth_of (table_at d.threads i))

          -- the thread's table after the push
          module _ (list : Row) (own : list ≡ list_row b (table_at d.segments b)) (t : Table)
              (rows : t ≡ cond (ltb (depth_of (table_at d.threads i)) most_frames) (push_row list (table_at d.threads i)) (table_at d.threads i))
              (room : Bool) (is-room : room ≡ ltb (depth_of (table_at d.threads i)) most_frames) where
            abbrev after : Cells
            after = threads_are (set d.threads i t) d

            full : room ≡ false → Serves d (CallSegment a b) text (Err Full) after
            full e =
                let no : ltb (depth_of (table_at d.threads i)) most_frames ≡ false = sym is-room ∙ e in
                let was : t ≡ table_at d.threads i = rw no at rows in
                rw (was, set-get_or d.threads i [])
                (serves_refused d (CallSegment a b) text (through.0 ∙ rw (frames, under_limit most_frames (depth_of (table_at d.threads i)), no)))

            pushed : room ≡ true → Serves d (CallSegment a b) text (Ok lock) after
            unfolding answer store state_of
            pushed e =
                let yes : ltb (depth_of (table_at d.threads i)) most_frames ≡ true = sym is-room ∙ e in
                let now : t ≡ push_row (list_row b (table_at d.segments b)) (table_at d.threads i) = (rw yes at rows) ∙ ap (λ (w : Row). push_row w (table_at d.threads i)) own in
                serves_accepted d (CallSegment a b) text
                (through.0 ∙ rw (frames, under_limit most_frames (depth_of (table_at d.threads i)), yes))
                through.1
                (ap (λ (u : Table). threads_are (set d.threads i u) d) now
                ∙ ap (λ (k : ℕ). threads_are (on_table d.threads k (push_row (list_row b (table_at d.segments b)))) d) (at_place d placed))

pub returns-in_err-place : goal.returns-in_err-place
returns-in_err-place c = λ text d.
    let refused : ◌≡◌ {A = Answer} c.from_residual.result (Err NoThread) = search rules in
    rw refused (no_thread_lem _ text _ _ (rw c.in_err-place.ensures.ok_part at c.find.ensures))

pub returns-then-segments-s : goal.returns-then-segments-s
returns-then-segments-s c = λ text d.
    no_segment_lem _ text _ _ _ (rw c.in_ok-place.ensures.ok_part at c.find.ensures) _ c.segments.ensures c.if-segments-s.true

pub returns-then-not-is_taken : goal.returns-then-not-is_taken
returns-then-not-is_taken c = λ text d.
    unfit _ text _ _ _ (rw c.in_ok-place.ensures.ok_part at c.find.ensures) _ c.segments.ensures c.if-segments-s.false
    (sym c.is_taken.ensures ∙ c.if-not-is_taken.true)

pub returns-in_err-lock : goal.returns-in_err-lock
returns-in_err-lock c = λ text d.
    let is : ◌≡◌ {A = Answer} c.from_residual-in_err-lock.result (Err (refusal_of c.in_err-lock.field-0.0)) = search rules in
    rw is
    (refused _ text _ _ _ (rw c.in_ok-place.ensures.ok_part at c.find.ensures) _ c.segments.ensures c.if-segments-s.false
    (sym c.is_taken.ensures ∙ c.if-not-is_taken.false) (ungranted _ _ _ c.check.ensures _ c.in_err-lock.was))

pub returns-then-push : goal.returns-then-push
returns-then-push c = λ text d.
    pushed _ text _ _ _ (rw c.in_ok-place.ensures.ok_part at c.find.ensures) _ c.segments.ensures c.if-segments-s.false
    (sym c.is_taken.ensures ∙ c.if-not-is_taken.false) _ (granted _ _ _ c.check.ensures _ c.in_ok-lock.was)
    _ refl _ c.push.ensures.rows _ c.push.ensures.room c.if-push.true

pub returns-else-push : goal.returns-else-push
returns-else-push c = λ text d.
    full _ text _ _ _ (rw c.in_ok-place.ensures.ok_part at c.find.ensures) _ c.segments.ensures c.if-segments-s.false
    (sym c.is_taken.ensures ∙ c.if-not-is_taken.false) _ (granted _ _ _ c.check.ensures _ c.in_ok-lock.was)
    _ refl _ c.push.ensures.rows _ c.push.ensures.room c.if-push.false
