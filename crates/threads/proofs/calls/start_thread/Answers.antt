-- Err where the user wasn't handed out, or no number or no place is left; else the thread stands at the place for
-- it.
use Rattle.std.proofs.Common.{rules}
use Rattle.std.specs.Prelude.{Ok, Err, None, Some}
use mathlib.Core.Path.{◌≡◌, refl, sym, ap, ap₂, ◌∙◌}
use mathlib.Core.Bool.{true, false, not, ◌||◌}
use mathlib.Core.List.{List, map}
use Prim.Native.Nat.{ℕ, suc, ◌+◌, ◌≤◌, ◌<◌}
use native.Mathlib.Numerals.{add-one}
use native.Mathlib.Omega.{arith}
use borrow.Author.Tests.{lt-ltb, le-ltb}
use lib.Dec.{ltb}
use lib.ListN.{set}
use Rattle.call.specs.declared.request.Request.TheVariants.{StartThread}
use Rattle.model.specs.declared.answer.Refusal.TheVariants.{UnknownUser, Full}
use Rattle.model.specs.Answers.{Answer}
use Rattle.model.specs.Limits.{most_threads, most_numbers, passes}
use Rattle.model.specs.State.{is_free, live_in}
use Rattle.model.specs.Refusals.{conditions}
use Rattle.model.specs.Effects.{answer}
use Rattle.model.specs.Cells.{Cells, registry_is, threads_are, cell, user_count, thread_count, place_in, state_of}
use Rattle.model.specs.Stores.{on_table, start_thread, store}
use Rattle.model.specs.Serving.{Serves}
use Rattle.model.proofs.Refinement.ServedCalls.{serves_refused, serves_accepted}
use Rattle.base.proofs.Lists.{case_bool}
use Rattle.threads.specs.Places.{Placed}
use Rattle.threads.proofs.FreePlace.{at_free, room, no_room}
use Rattle.threads.proofs.calls.start_thread.Goals as goal

module _ (d : Cells) (text : List ℕ) (u : ℕ) where
  abbrev n : ℕ
  n = cell d.registry thread_count

  abbrev live : ℕ
  live = live_in (map place_in d.threads)

  unknown_user : not (ltb u (cell d.registry user_count)) ≡ true → Serves d (StartThread u) text (Err UnknownUser) d
  unfolding conditions state_of
  unknown_user e = serves_refused d (StartThread u) text (rw e)

  module _ (is-user : not (ltb u (cell d.registry user_count)) ≡ false) where
    full : (passes most_threads (suc live) || passes most_numbers (suc n)) ≡ true → Serves d (StartThread u) text (Err Full) d
    unfolding conditions state_of
    full e = serves_refused d (StartThread u) text (rw (is-user, e))

    no_number : most_numbers ≤ n → Serves d (StartThread u) text (Err Full) d
    no_number h =
        let last : passes most_numbers (suc n) ≡ true = lt-ltb most_numbers (suc n) (omega arith) in
        full (case_bool (passes most_threads (suc live)) (λ e. simp e) (λ e. simp (e, last)))

    no_place : Placed d.threads n is_free None → Serves d (StartThread u) text (Err Full) d
    no_place missed = full (rw (no_room missed))

    started : {i : ℕ} → n < most_numbers → Placed d.threads n is_free (Some i)
        → Serves d (StartThread u) text (Ok n) (registry_is (set d.registry thread_count (n + 1)) (threads_are (on_table d.threads i (start_thread n u)) d))
    unfolding conditions answer state_of store
    started h found =
        serves_accepted d (StartThread u) text
        (rw (is-user, room found, le-ltb most_numbers (suc n) (omega arith)))
        refl
        (ap₂ (λ (m j : ℕ). registry_is (set d.registry thread_count m) (threads_are (on_table d.threads j (start_thread n u)) d)) (add-one n) (at_free found))

pub returns-then-not-is_user : goal.returns-then-not-is_user
returns-then-not-is_user c = λ text d. unknown_user _ text _ (ap not (sym c.is_user.ensures ∙ c.if-not-is_user.true))

pub returns-then-numbers-ge-MOST_NUMBERS : goal.returns-then-numbers-ge-MOST_NUMBERS
returns-then-numbers-ge-MOST_NUMBERS c = λ text d. no_number _ text _ (ap not (sym c.is_user.ensures ∙ c.if-not-is_user.false)) c.if-numbers-ge-MOST_NUMBERS.true

pub returns-in_err-free : goal.returns-in_err-free
returns-in_err-free c =
    let refused : ◌≡◌ {A = Answer} c.from_residual.result (Err Full) = search rules in
    λ text d.
    rw refused (no_place _ text _ (ap not (sym c.is_user.ensures ∙ c.if-not-is_user.false)) (rw c.in_err-free.ensures.ok_part at c.find_free.ensures))

pub returns : goal.returns
returns c =
    λ text d.
    started _ text _ (ap not (sym c.is_user.ensures ∙ c.if-not-is_user.false)) c.if-numbers-ge-MOST_NUMBERS.false (rw c.in_ok-free.ensures.ok_part at c.find_free.ensures)
