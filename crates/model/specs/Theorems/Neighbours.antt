-- Request P2: 'Take two lists of calls that become equal once the C, R and A records of runs other than one are struck
-- out. Every answer to the one run must come out equal in both, refusals and lock numbers included. This is to hold for
-- all lists from an empty desk.' The lists are answered on the arrays: `events` are the answers of `step_cells`, which
-- the guard's entry promises of each call (`Answers`), one after the other from `empty_cells`. In what follows n is the
-- number of the one thread. Proved in `proofs/Neighbours/EveryList.antt`.
use Rattle.std.specs.Prelude.{◌≡◌, Bool, ◌&&◌, not, cond, List, [], ◌∷◌, map, ℕ, eqb, Ok, Err}
use Rattle.base.specs.Lists.{any, keep}
use Rattle.formula.specs.Outcome.{outcome_of}
use Rattle.call.specs.Letters as letters
use Rattle.call.specs.Calls.{Call}
use Rattle.model.specs.Answers.{Answer}
use Rattle.model.specs.History.{Event, event}
use Rattle.model.specs.Replay.{events}

abbrev pub has_letter : List ℕ → Call → Bool
has_letter ls x = any (eqb x.letter) ls

-- 'the C, R and A records of runs other than one', by letter and field a alone: also those that are not well formed,
-- and those of numbers that are no thread's
abbrev pub is_struck : ℕ → Call → Bool
is_struck n x = has_letter (letters.C ∷ letters.R ∷ letters.A ∷ []) x && not (eqb x.a n)

-- what is left of a list once they are struck out
abbrev pub strike : ℕ → List Call → List Call
strike n xs = keep (λ x. not (is_struck n x)) xs

-- the letters whose field a names a thread, in the table's order; `every_thread_letter` of `SideBySide` has all of them
abbrev pub thread_letters : List ℕ
thread_letters =
    letters.E
    ∷ letters.N
    ∷ letters.K
    ∷ letters.G
    ∷ letters.T
    ∷ letters.L
    ∷ letters.D
    ∷ letters.C
    ∷ letters.R
    ∷ letters.A
    ∷ []

-- the one thread's own calls
abbrev pub is_own : ℕ → Call → Bool
is_own n x = has_letter thread_letters x && eqb x.a n

-- 'every answer to the one run', each with its call
abbrev pub answers_to : ℕ → List Event → List Event
answers_to n es = keep (λ e. is_own n e.call) es

-- an E of another thread: how many open calls it closes depends on what is struck out
abbrev pub ends_another : ℕ → Call → Bool
ends_another n x = has_letter (letters.E ∷ []) x && not (eqb x.a n)

abbrev pub without_number : Answer → Answer
without_number (Ok k) = Ok 0
without_number (Err r) = Err r

-- the event, but for the number that an accepted E of another thread answers
abbrev pub seen : ℕ → Event → Event
seen n e = event e.call (cond (ends_another n e.call) (without_number e.answer) e.answer)

-- the answers to all calls that are left, each with its call, but for that number
abbrev pub answers_left : ℕ → List Event → List Event
answers_left n es = map (seen n) (keep (λ e. not (is_struck n e.call)) es)

-- The request's own words, and what they follow from: not the one thread's calls alone but all that are left are
-- answered alike, but for that number.
pub record Undisturbed (n : ℕ) (es fs : List Event) : Type 0 where
  pub own : answers_to n es ≡ answers_to n fs
  pub left : answers_left n es ≡ answers_left n fs

abbrev pub Neighbours : Type 0
Neighbours =
    (n : ℕ) (xs ys : List Call) → strike n xs ≡ strike n ys
    → Undisturbed n (events outcome_of xs) (events outcome_of ys)
