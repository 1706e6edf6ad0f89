-- Err where the thread isn't live or has no frame, else its newest frame is left.
use Rattle.std.proofs.Common.{rules}
use Rattle.std.specs.Prelude.{Ok, Err, None, Some}
use mathlib.Core.Path.{◌≡◌, refl, sym, ap, ◌∙◌}
use mathlib.Core.List.{List}
use Prim.Native.Nat.{ℕ, zero, suc, ◌-◌}
use borrow.Author.Tests.{ne_eqb}
use lib.ListN.{length}
use Rattle.call.specs.declared.request.Request.TheVariants.{ReturnCall}
use Rattle.model.specs.declared.answer.Refusal.TheVariants.{NoThread, NotPresent}
use Rattle.model.specs.Answers.{Answer}
use Rattle.model.specs.Threads.{Thread}
use Rattle.model.specs.State.{is_thread, thread_at}
use Rattle.model.specs.Effects.{newest, answer}
use Rattle.model.specs.Refusals.{conditions}
use Rattle.model.specs.Cells.{Table, Cells, threads_are, cell, row_at, table_at, frame_count, depth_of, frames_of, state_of}
use Rattle.model.specs.Stores.{set_cell, on_table, pop_row, store}
use Rattle.model.specs.Serving.{Serves}
use Rattle.model.proofs.Refinement.ServedCalls.{serves_refused, serves_accepted}
use Rattle.threads.specs.Places.{Placed}
use Rattle.threads.proofs.FoundThread.{stands, at_place, not_live}
use Rattle.threads.proofs.calls.return_call.Goals as goal

newest_row : (t : Table) (k : ℕ) → (k ≡ 0 → ⊥) → cell (row_at t k) 0 ≡ newest (frames_of t k)
newest_row t zero some = absurd (some refl)
newest_row t (suc k) some = refl

module _ (d : Cells) (text : List ℕ) {n : ℕ} where
  no_thread : Placed d.threads n (is_thread n) None → Serves d (ReturnCall n) text (Err NoThread) d
  unfolding conditions
  no_thread missed = serves_refused d (ReturnCall n) text (rw (not_live d missed))

  module _ {i k : ℕ} (found : Placed d.threads n (is_thread n) (Some i)) (depth : k ≡ depth_of (table_at d.threads i)) where
    counted : length (thread_at (state_of d) n).frames ≡ k
    counted = (stands d found).depth ∙ sym depth

    no_frame : k ≡ 0 → Serves d (ReturnCall n) text (Err NotPresent) d
    unfolding conditions
    no_frame none = serves_refused d (ReturnCall n) text (rw ((stands d found).live, counted, none))

    left : (k ≡ 0 → ⊥)
        → Serves d (ReturnCall n) text (Ok (cell (row_at (table_at d.threads i) k) 0)) (threads_are (on_table d.threads i (λ r. set_cell r 0 frame_count (k - 1))) d)
    unfolding conditions answer state_of store
    left some =
        let s = stands d found in
        let t : Table = table_at d.threads i in
        serves_accepted d (ReturnCall n) text
        (rw (s.live, counted, ne_eqb k 0 some))
        (newest_row t k some ∙ ap (λ (j : ℕ). newest (frames_of t j)) depth ∙ sym (ap (λ (r : Thread). newest r.frames) s.thread))
        (ap (λ (m : ℕ). threads_are (on_table d.threads i (λ r. set_cell r 0 frame_count (m - 1))) d) depth
        ∙ ap (λ (j : ℕ). threads_are (on_table d.threads j pop_row) d) (at_place d found))

pub returns-in_err-place : goal.returns-in_err-place
returns-in_err-place c =
    let refused : ◌≡◌ {A = Answer} c.from_residual.result (Err NoThread) = search rules in
    λ text d. rw refused (no_thread (threads_are c.args.threads.now d) text (rw c.in_err-place.ensures.ok_part at c.find.ensures))

pub returns-then-frames-eq0 : goal.returns-then-frames-eq0
returns-then-frames-eq0 c =
    λ text d.
    no_frame (threads_are c.args.threads.now d) text (rw c.in_ok-place.ensures.ok_part at c.find.ensures) c.depth-frames.ensures.count c.if-frames-eq0.true

pub returns : goal.returns
returns c =
    λ text d.
    left (threads_are c.args.threads.now d) text (rw c.in_ok-place.ensures.ok_part at c.find.ensures) c.depth-frames.ensures.count c.if-frames-eq0.false
