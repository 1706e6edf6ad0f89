-- Document 01, 'The history': 'An operation fits when its call isn't 18, an A's c is 2 or 4, and its segment is handed
-- out and takes it.' `Granting`, `TightestLock` and `SameGrants` are about a live thread's C or A that fits. Which
-- those are is told by the answers: all that are refused with neither 3 nor 7. So every accepted one is a live thread's
-- and fits. Proved in `proofs/Agreement/Fitting.antt`.
use Rattle.std.specs.Prelude.{◌≡◌, List, ℕ, Ok, Err, Some}
use Rattle.formula.specs.Outcome.{outcome_of}
use Rattle.formula.specs.Meaning.{Meaning}
use Rattle.formula.specs.Compiler.{Compiler, Laws}
use Rattle.call.specs.Calls.{Call, decoded}
use Rattle.model.specs.declared.answer.Refusal.TheVariants.{NoSegment, Unfit}
use Rattle.model.specs.Answers.{Answer}
use Rattle.model.specs.Threads.{Thread}
use Rattle.model.specs.History.{Event, History, history}
use Rattle.model.specs.HistoryCheck.{Operation, request_of, thread_of, Fits}
use Rattle.model.specs.Replay.{events, answer_to}

-- the call is a live thread's, and fits
pub record Judged (h : History) (next : Call) (o : Operation) : Type 0 where
  pub thread : Thread
  pub live : h.threads (thread_of o) ≡ Some thread
  pub fits : Fits h next o

-- What the events before the next call, a C or an A, say of its answer r.
pub record FitsBy (es : List Event) (next : Call) (r : Answer) : Type 0 where
  pub unrefused : (o : Operation) (t : Thread) → decoded next ≡ Some (request_of o)
      → (history es).threads (thread_of o) ≡ Some t → (r ≡ Err NoSegment → ⊥) → (r ≡ Err Unfit → ⊥)
      → Fits (history es) next o
  pub accepted : (o : Operation) (n : ℕ) → decoded next ≡ Some (request_of o) → r ≡ Ok n
      → Judged (history es) next o

abbrev pub FittingByLaws : Type 0
FittingByLaws =
    (compile : Compiler) (holds : Meaning) → Laws compile holds → (xs : List Call) (next : Call)
    → FitsBy (events compile xs) next (answer_to compile xs next)

abbrev pub Fitting : Type 0
Fitting = (xs : List Call) (next : Call) → FitsBy (events outcome_of xs) next (answer_to outcome_of xs next)
