-- Err where the thread isn't live, else its place is free and the answer is its depth.
use Rattle.std.proofs.Common.{rules}
use Rattle.std.specs.Prelude.{Ok, Err, None, Some}
use mathlib.Core.Path.{◌≡◌, sym, ap, ◌∙◌}
use mathlib.Core.List.{List}
use Prim.Native.Nat.{ℕ}
use Rattle.call.specs.declared.request.Request.TheVariants.{EndThread}
use Rattle.model.specs.declared.answer.Refusal.TheVariants.{NoThread}
use Rattle.model.specs.Answers.{Answer}
use Rattle.model.specs.State.{is_thread}
use Rattle.model.specs.Refusals.{conditions}
use Rattle.model.specs.Effects.{answer}
use Rattle.model.specs.Cells.{Cells, threads_are, table_at, depth_of, state_of}
use Rattle.model.specs.Stores.{on_table, end_thread, store}
use Rattle.model.specs.Serving.{Serves}
use Rattle.model.proofs.Refinement.ServedCalls.{serves_refused, serves_accepted}
use Rattle.threads.specs.Places.{Placed}
use Rattle.threads.proofs.FoundThread.{stands, at_place, not_live}
use Rattle.threads.proofs.calls.end_thread.Goals as goal

module _ (d : Cells) (text : List ℕ) {n : ℕ} where
  no_thread : Placed d.threads n (is_thread n) None → Serves d (EndThread n) text (Err NoThread) d
  unfolding conditions
  no_thread missed = serves_refused d (EndThread n) text (rw (not_live d missed))

  ended : {i k : ℕ} → Placed d.threads n (is_thread n) (Some i) → k ≡ depth_of (table_at d.threads i)
      → Serves d (EndThread n) text (Ok k) (threads_are (on_table d.threads i end_thread) d)
  unfolding conditions answer state_of store
  ended found depth =
      let s = stands d found in
      serves_accepted d (EndThread n) text
      (rw s.live)
      (depth ∙ sym s.depth)
      (ap (λ (j : ℕ). threads_are (on_table d.threads j end_thread) d) (at_place d found))

pub returns-in_err-place : goal.returns-in_err-place
returns-in_err-place c =
    let refused : ◌≡◌ {A = Answer} c.from_residual.result (Err NoThread) = search rules in
    λ text d. rw refused (no_thread (threads_are c.args.threads.now d) text (rw c.in_err-place.ensures.ok_part at c.find.ensures))

pub returns : goal.returns
returns c =
    λ text d.
    ended (threads_are c.args.threads.now d) text (rw c.in_ok-place.ensures.ok_part at c.find.ensures) c.depth-frames.ensures.count
