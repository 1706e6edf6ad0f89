-- Request P6: 'Grants themselves are the same set as before.' A theorem between the answer as it was, 'the lowest
-- opening grant lock is the answer', and the answer as it is: they are accepted together and refused alike, 14's number
-- included. It is said twice: of the next check, both answers read from the history of calls and answers; and of every
-- list of calls, beside the model with the answers as they were, which are the history's. Proved in
-- `proofs/Agreement/SameGrants.antt`.
use Rattle.std.specs.Prelude.{◌≡◌, Bool, false, ◌||◌, cond, List, [], ◌∷◌, ◌↔◌, ℕ, eqb, Ok, Err, Option, None, Some}
use Rattle.formula.specs.Outcome.{outcome_of}
use Rattle.formula.specs.Meaning.{text_holds, Meaning}
use Rattle.formula.specs.Compiler.{Compiler}
use Rattle.call.specs.declared.request.Request.{Request}
use Rattle.call.specs.Calls.{Decoded}
use Rattle.call.specs.Calls.{Call, decoded}
use Rattle.call.specs.Letters as letters
use Rattle.call.specs.Requests.{call_of}
use Rattle.base.specs.Conditions.{first_refusal}
use Rattle.base.specs.Lists.{first}
use Rattle.model.specs.declared.answer.Refusal.{Refusal}
use Rattle.model.specs.declared.answer.Refusal.TheVariants.{Corrupt}
use Rattle.model.specs.Answers.{Answer}
use Rattle.model.specs.Answers.{is_accepted}
use Rattle.model.specs.Operations.{execute, denies, grants}
use Rattle.model.specs.Threads.{Thread}
use Rattle.model.specs.State.{State, empty_state}
use Rattle.model.specs.Refusals.{opening_product, lock_of, conditions}
use Rattle.model.specs.Effects.{update, answer}
use Rattle.model.specs.Cells.{state_of}
use Rattle.model.specs.History.{Event, event, History, history}
use Rattle.model.specs.HistoryCheck.{Operation, thread_of, Fits, lock_opens, has_room, check_answer}
use Rattle.model.specs.Replay.{reached, events, answer_to}

-- accepted together, and refused alike
pub record Alike (before now : Answer) : Type 0 where
  pub accepted : is_accepted now ≡ is_accepted before
  pub refused : (r : Refusal) → (now ≡ Err r) ↔ (before ≡ Err r)

-- ---- of the next check, from the history

-- 'If a deny lock opens, the lowest one's number goes with refusal 14. Otherwise the lowest opening grant lock is the
-- answer, and 15 if none opens.' Then comes 10.
abbrev pub lowest_answer : Meaning → History → Operation → Thread → Answer
lowest_answer holds h o t =
    check_answer (first (lock_opens holds denies o t) h.locks) (first (lock_opens holds grants o t) h.locks)
    (has_room o t)

abbrev pub SameChecks : Meaning → List Event → Call → Answer → Type 0
SameChecks holds es next r =
    (o : Operation) (t : Thread) → Fits (history es) next o → (history es).threads (thread_of o) ≡ Some t
    → Alike (lowest_answer holds (history es) o t) r

-- ---- of every list of calls

-- the calls that are checked
abbrev pub is_checked : Request → Bool
is_checked q = let letter = (call_of q []).letter in eqb letter letters.C || eqb letter letters.A

module _ (compile : Compiler) where
  -- what an accepted call answered, a C and an A the lowest grant lock that opens
  unfoldable pub answer_before : State → Request → List ℕ → ℕ
  answer_before d q text =
      let x = call_of q text in
      cond (eqb x.letter letters.C) (lock_of (opening_product d grants x.a x.b execute))
      (cond (eqb x.letter letters.A) (lock_of (opening_product d grants x.a x.b x.c))
      (answer compile d q text))

  abbrev pub judged_before : State → Request → List ℕ → Option Refusal → record { state : State; answer : Answer }
  judged_before d q text None = record { state = update compile d q text; answer = Ok (answer_before d q text) }
  judged_before d q text (Some r) = record { state = d; answer = Err r }

  abbrev pub decoded_before : State → Decoded → List ℕ → record { state : State; answer : Answer }
  decoded_before d None text = record { state = d; answer = Err Corrupt }
  decoded_before d (Some q) text = judged_before d q text (first_refusal (conditions compile d q text))

  unfoldable pub step_before : State → Call → record { state : State; answer : Answer }
  step_before d x = decoded_before d (decoded x) x.text

  abbrev pub state_before : State → List Call → State
  state_before d [] = d
  state_before d (x ∷ xs) = state_before (step_before d x).state xs

  abbrev pub events_before : State → List Call → List Event
  events_before d [] = []
  events_before d (x ∷ xs) = event x (step_before d x).answer ∷ events_before (step_before d x).state xs

  -- after a list of calls from the empty state, and of the next call
  pub record SameAfter (xs : List Call) (next : Call) : Type 0 where
    pub state : state_of (reached compile xs) ≡ state_before empty_state xs
    pub answers : Alike (step_before (state_before empty_state xs) next).answer (answer_to compile xs next)
    -- what isn't checked is answered as before
    pub others : (q : Request) → decoded next ≡ Some q → is_checked q ≡ false
        → answer_to compile xs next ≡ (step_before (state_before empty_state xs) next).answer

-- the two answers as they were are one: the model's is the lowest grant lock's that opens, as the history tells it
abbrev pub SameBefore : Compiler → Meaning → List Call → Call → Type 0
SameBefore compile holds xs next =
    let h = history (events compile xs) in
    (o : Operation) (t : Thread) → Fits h next o → h.threads (thread_of o) ≡ Some t
    → (step_before compile (state_before compile empty_state xs) next).answer ≡ lowest_answer holds h o t

pub record SameGrants : Type 0 where
  pub checks : (xs : List Call) (next : Call)
      → SameChecks text_holds (events outcome_of xs) next (answer_to outcome_of xs next)
  pub lists : (xs : List Call) (next : Call) → SameAfter outcome_of xs next
  pub before : (xs : List Call) (next : Call) → SameBefore outcome_of text_holds xs next
