-- Demand 3: 'For every list of the twelve calls (U, S, E, N, K, G, T, L, D, C, R and A), in any order and refused ones
-- included, from an empty desk: after it a live run's fitting next operation, a C or an A, is granted exactly when no
-- deny lock then standing for it opens, some grant lock standing for it does and, for a C, fewer than sixteen of the
-- run's calls are open. .. Opening is judged on the run's two identity keys and what each still open call handed over
-- when made. Live runs, segments, standing locks, open calls and keys are all read from the history of calls and
-- answers alone.' Since request P5 'a still open call now hands over its list less what was taken since, and the
-- history reads that way' (`Revocation`), and since request P6 the tightest lock answers (`TightestLock`). Proved in
-- `proofs/Agreement/Granting.antt`.
use Rattle.std.specs.Prelude.{◌≡◌, true, List, ◌↔◌, ℕ, Ok, Some}
use Rattle.formula.specs.Outcome.{outcome_of}
use Rattle.formula.specs.Meaning.{text_holds, Meaning}
use Rattle.formula.specs.Compiler.{Compiler, Laws}
use Rattle.call.specs.declared.request.Request.{Request}
use Rattle.call.specs.Calls.{Call, decoded}
use Rattle.model.specs.Answers.{Answer}
use Rattle.model.specs.Answers.{is_accepted}
use Rattle.model.specs.Threads.{Thread}
use Rattle.model.specs.History.{Event, history, hands_out, accepted_of}
use Rattle.model.specs.Replay.{events, answer_to}
use Rattle.model.specs.HistoryCheck.{Operation, thread_of, Fits, granted, Granted, answer_from}

-- What the events before the next call say of its answer r: whether it is granted, as an equation and in words
-- ('Granted means accepted'), and its whole answer; and 'the number that an accepted U, S, N, K or L answers is the
-- count of that letter's accepted calls earlier in the list'.
pub record Grants (compile : Compiler) (holds : Meaning) (es : List Event) (next : Call) (r : Answer) : Type 0 where
  pub equation : (o : Operation) (t : Thread) → Fits (history es) next o → (history es).threads (thread_of o) ≡ Some t
      → is_accepted r ≡ granted holds (history es) o t
  pub exactly : (o : Operation) (t : Thread) → Fits (history es) next o → (history es).threads (thread_of o) ≡ Some t
      → (is_accepted r ≡ true) ↔ Granted holds (history es) o t
  pub answer : (o : Operation) (t : Thread) → Fits (history es) next o → (history es).threads (thread_of o) ≡ Some t
      → r ≡ answer_from compile holds (history es) o t
  pub number : (q : Request) (n : ℕ) → decoded next ≡ Some q → hands_out q ≡ true → r ≡ Ok n
      → n ≡ accepted_of next.letter es

-- for whatever compiler keeps the laws
abbrev pub GrantingByLaws : Type 0
GrantingByLaws =
    (compile : Compiler) (holds : Meaning) → Laws compile holds → (xs : List Call) (next : Call)
    → Grants compile holds (events compile xs) next (answer_to compile xs next)

-- and so for the compiler that there is
abbrev pub Granting : Type 0
Granting =
    (xs : List Call) (next : Call)
    → Grants outcome_of text_holds (events outcome_of xs) next (answer_to outcome_of xs next)
