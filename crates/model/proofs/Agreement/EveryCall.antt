-- The model and the history agree: every call, accepted or not, keeps the agreement, so that they agree after every
-- list of calls from the empty state.
use Rattle.std.specs.Prelude.{Option, None, Some}
use mathlib.Core.Path.{◌≡◌, refl, sym, ap, ◌∙◌}
use mathlib.Core.Bool.{cond}
use mathlib.Core.List.{List, [], ◌∷◌}
use Prim.Native.Nat.{ℕ, suc}
use Rattle.formula.specs.Compiler.{Compiler, Laws}
use Rattle.formula.specs.Meaning.{Meaning}
use Rattle.call.specs.declared.request.Request.{Request}
use Rattle.call.specs.Calls.{Decoded}
use Rattle.call.specs.Calls.{Call, decoded}
use Rattle.call.specs.Requests.{call_of}
use Rattle.base.specs.Conditions.{first_refusal}
use Rattle.call.proofs.Requests.{requests_exactly}
use Rattle.model.specs.declared.answer.Refusal.{Refusal}
use Rattle.model.specs.Threads.{Thread}
use Rattle.model.specs.State.{State, empty_state, find_thread, thread_at}
use Rattle.model.specs.Refusals.{conditions}
use Rattle.model.specs.Model.{judged, step_decoded, step}
use Rattle.model.specs.History.{History, Event, event, empty_history, note_answer, advance, history_from, history, counts, count_from, accepted_of}
use Rattle.model.specs.Replay.{state_after, events_of}
use Rattle.model.proofs.Agreement.Places.{look}
use Rattle.model.proofs.Agreement.Agrees.{Agrees, empty_agrees}
use Rattle.model.proofs.Agreement.KeptAgreement.{keep_accepted}

-- ---- a thread that the history has

module _ (compile : Compiler) (d : State) (h : History) (count : ℕ → ℕ) (c : Agrees compile d h count) where
  pub found_as : (n : ℕ) → find_thread n d.places ≡ h.threads n
  found_as n = sym (look d.places d.thread_numbers h.threads c.threads n)

  pub thread_as : (n : ℕ) (t : Thread) → h.threads n ≡ Some t → thread_at d n ≡ t
  thread_as n t e = let f : find_thread n d.places ≡ Some t = found_as n ∙ e in simp f

-- ---- every call, accepted or not

pub request_letter : (x : Call) (q : Request) → decoded x ≡ Some q → x.letter ≡ (call_of q x.text).letter
request_letter x q e = ap (λ (y : Call). y.letter) ((requests_exactly x q).0 e)

abbrev pub counted : (ℕ → ℕ) → Event → ℕ → ℕ
counted count e = λ k. cond (counts k e) (suc (count k)) (count k)

module _ (compile : Compiler) (holds : Meaning) (laws : Laws compile holds) where
  pub step_agrees : (d : State) (h : History) (count : ℕ → ℕ) (x : Call) → Agrees compile d h count
      → Agrees compile (step compile d x).state (advance h (event x (step compile d x).answer)) (counted count (event x (step compile d x).answer))
  unfolding step advance
  step_agrees d h count x c = by_request (decoded x) refl
    where
      by_refusal : (q : Request) → x.letter ≡ (call_of q x.text).letter → (o : Option Refusal) → first_refusal (conditions compile d q x.text) ≡ o
          → Agrees compile (judged compile d q x.text o).state (note_answer h (Some q) x.text (judged compile d q x.text o).answer) (counted count (event x (judged compile d q x.text o).answer))
      by_refusal q l None e = rw l (keep_accepted compile holds laws x.text d h count c q e)
      by_refusal q l (Some r) e = c

      by_request : (o : Decoded) → decoded x ≡ o
          → Agrees compile (step_decoded compile d o x.text).state (note_answer h o x.text (step_decoded compile d o x.text).answer) (counted count (event x (step_decoded compile d o x.text).answer))
      by_request None e = c
      by_request (Some q) e = by_refusal q (request_letter x q e) (first_refusal (conditions compile d q x.text)) refl

  all_agree : (xs : List Call) (d : State) (h : History) (count : ℕ → ℕ) → Agrees compile d h count
      → Agrees compile (state_after compile d xs) (history_from h (events_of compile d xs)) (λ k. count_from k (count k) (events_of compile d xs))
  all_agree [] d h count c = c
  all_agree (x ∷ xs) d h count c = all_agree xs _ _ _ (step_agrees d h count x c)

  pub agree : (xs : List Call)
      → Agrees compile (state_after compile empty_state xs) (history (events_of compile empty_state xs)) (λ k. accepted_of k (events_of compile empty_state xs))
  agree xs = all_agree xs empty_state empty_history (λ k. 0) (empty_agrees compile)
