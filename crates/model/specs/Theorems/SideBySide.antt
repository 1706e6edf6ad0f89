-- A worked example for `Neighbours`: two lists of calls that become equal once the C, R and A records of threads other
-- than 1 are struck out, 55 of them in the one, 33 accepted and 22 refused, and 25 in the other, 20 and 5. Thread 1
-- comes to grants and edits and to 2, 5, 6, 7, 8, 10, 14, 15 and 18, in both alike. Of all that is left only the E of
-- threads 0 and 2 answer otherwise. Proved in `proofs/Computed/SideBySide.antt`, by computing.
use Rattle.std.specs.Prelude.{◌≡◌, Bool, not, List, [], ◌∷◌, ◌++◌, map, ℕ, eqb, replicate}
use Rattle.base.specs.Bytes.{bytes}
use Rattle.base.specs.Lists.{any, keep}
use Rattle.formula.specs.Outcome.{outcome_of}
use Rattle.call.specs.Letters as letters
use Rattle.call.specs.Calls.{call_with, TableRow, table}
use Rattle.call.specs.Requests.{call_of}
use Rattle.model.specs.Answers.{answer_number}
use Rattle.model.specs.Replay.{events, answer_to}
use Rattle.model.specs.Notation.{Expected, U, S, E, N, K, G, T, L, D, C, R, A, ok, no, calls_of, got, Happens}
use Rattle.model.specs.Theorems.Editing.{edit_letters, run_letters}
use Rattle.model.specs.Theorems.Neighbours.{strike, thread_letters, answers_to, answers_left}

-- A letter whose field a names a thread is refused by 2 in the empty state, which has none.
abbrev pub names_thread : TableRow → Bool
names_thread r = eqb (answer_number (answer_to outcome_of [] (call_of r.request []))) 2

-- Segments 0 (the rate loader), 1 (the recalculation) and 2 (the totals sheet). Users 0 and 1 may call the two, user 0
-- may read the totals, but nobody from inside the recalculation, and they are saved only by way of both. Threads 0 and
-- 1 are user 0's, thread 2 is user 1's. Thread 0 sets all this up.
abbrev pub office : List Expected
office =
    ok U 0
    ∷ ok U 1
    ∷ ok (S 0) 0
    ∷ ok (S 0) 1
    ∷ ok (S 1) 2
    ∷ ok (N 0 0) 0
    ∷ ok (N 0 0) 1
    ∷ ok (N 0 1) 2
    ∷ ok (L 0 0 1 (bytes "U0|U1")) 0
    ∷ ok (L 0 1 1 (bytes "U0|U1")) 1
    ∷ ok (L 0 2 4 (bytes "S0&S1")) 2
    ∷ ok (L 0 2 2 (bytes "U0")) 3
    ∷ ok (L 0 2 10 (bytes "S1")) 4
    ∷ []

-- ---- thread 1

-- it calls the rate loader: it has S0, so it may read and not yet save
abbrev pub loading : List Expected
loading = ok (C 1 0) 0 ∷ no (A 1 2 4) 15 0 ∷ ok (A 1 2 2) 3 ∷ []

-- which calls the recalculation: with S1 it may save and no longer read
abbrev pub recalculating : List Expected
recalculating = ok (C 1 1) 1 ∷ ok (A 1 2 4) 2 ∷ no (A 1 2 2) 14 4 ∷ []

-- it edits too, what thread 0 of the same user made as well as what it makes itself
abbrev pub own_editing : List Expected
own_editing =
    ok (K 1) 2
    ∷ ok (G 1 1 2) 3
    ∷ no (G 1 1 2) 8 0
    ∷ ok (T 1 1 2) 2
    ∷ ok (N 1 0) 5
    ∷ no (L 1 4 2 (bytes "U0")) 6 0
    ∷ ok (L 1 5 1 (bytes "U1")) 7
    ∷ ok (D 1 7) 1
    ∷ no (D 1 7) 5 0
    ∷ no (N 1 2) 7 0
    ∷ []

-- sixteen open calls, one too many, a return, a save on the sheet that D1 opens, and three that are not well formed
abbrev pub nesting : List Expected
nesting =
    replicate 14 (ok (C 1 1) 1)
    ++ no (C 1 1) 10 0
    ∷ ok (R 1) 1
    ∷ ok (A 1 3 4) 5
    ∷ no (call_with letters.C 1 0 5 []) 18 0
    ∷ no (call_with letters.R 1 0 9 []) 18 0
    ∷ no (call_with letters.A 1 2 4 (bytes "U0")) 18 0
    ∷ []

-- it saves once more, no longer on the sheet that D1 opens, and is ended with fifteen open calls
abbrev pub ending : List Expected
ending = ok (A 1 2 4) 2 ∷ no (A 1 3 4) 15 0 ∷ ok (E 1) 15 ∷ no (A 1 2 4) 2 0 ∷ no (K 1) 2 0 ∷ no (E 1) 2 0 ∷ []

abbrev pub own : List Expected
own = loading ++ recalculating ++ own_editing ++ nesting ++ ending

-- ---- what else is left

-- A new user. Thread 0 makes a sheet and two keys, gives the recalculation both, takes D0 and locks the sheet by D1,
-- which thread 1 gets by its later calls; another lock is made and dropped. Thread 2 makes a sheet of user 1's, and may
-- not drop user 0's lock. There is no call with the letter c.
abbrev pub editing : List Expected
editing =
    ok U 2
    ∷ ok (N 0 1) 3
    ∷ ok (K 0) 0
    ∷ ok (K 0) 1
    ∷ ok (G 0 1 0) 2
    ∷ ok (G 0 1 1) 3
    ∷ ok (T 0 1 0) 2
    ∷ ok (L 0 3 4 (bytes "D1")) 5
    ∷ ok (L 0 2 2 (bytes "U2&R1|U2&R0")) 6
    ∷ no (D 2 6) 6 0
    ∷ ok (D 0 6) 2
    ∷ ok (N 2 1) 4
    ∷ no (call_with 99 0 1 0 []) 18 0
    ∷ []

-- an E of no live thread and one that is not well formed are refused; thread 0 takes D1 from the recalculation, also
-- from thread 1's open calls of it; threads 0 and 2 end, with so many open calls; another starts
abbrev pub changing : ℕ → ℕ → List Expected
changing closed₀ closed₂ =
    no (E 65) 2 0
    ∷ no (call_with letters.E 0 1 0 []) 18 0
    ∷ ok (T 0 1 1) 1
    ∷ ok (E 0) closed₀
    ∷ ok (E 2) closed₂
    ∷ ok (S 1) 3
    ∷ []

-- all that is left of both lists, without the two numbers
abbrev pub what_is_left : List Expected
what_is_left = office ++ loading ++ recalculating ++ editing ++ own_editing ++ nesting ++ changing 0 0 ++ ending

-- ---- its neighbours, on a busy day

-- thread 0 is sixteen calls deep in the recalculation, thread 2 one
abbrev pub busy₁ : List Expected
busy₁ =
    replicate 16 (ok (C 0 1) 1)
    ++ no (C 0 1) 10 0
    ∷ no (A 0 2 4) 15 0
    ∷ no (A 0 2 2) 14 4
    ∷ ok (C 2 1) 1
    ∷ no (A 2 2 4) 15 0
    ∷ no (A 2 2 2) 14 4
    ∷ []

-- thread 0 returns ten times, thread 2 once and once too often
abbrev pub busy₂ : List Expected
busy₂ =
    replicate 10 (ok (R 0) 1)
    ++ ok (R 2) 1
    ∷ no (R 2) 9 0
    ∷ no (C 0 2) 7 0
    ∷ no (C 0 3) 3 0
    ∷ no (call_with letters.R 0 1 0 []) 18 0
    ∷ []

-- thread 0 calls the rate loader too and saves; user 1 calls it, and may neither save nor read. There is no thread 65,
-- whose place would be thread 1's, and no thread with the last number.
abbrev pub busy₃ : List Expected
busy₃ =
    ok (C 0 0) 0
    ∷ ok (A 0 2 4) 2
    ∷ no (A 0 2 2) 14 4
    ∷ ok (C 2 0) 0
    ∷ no (A 2 2 4) 15 0
    ∷ no (A 2 2 2) 15 0
    ∷ no (A 0 9 4) 3 0
    ∷ no (A 0 0 4) 7 0
    ∷ no (call_with letters.A 0 2 4 (bytes "U0")) 18 0
    ∷ no (call_with letters.C 2 0 5 []) 18 0
    ∷ no (C 65 0) 2 0
    ∷ no (R 65) 2 0
    ∷ no (A 65 2 4) 2 0
    ∷ no (A 65535 2 4) 2 0
    ∷ []

-- thread 0 has five calls open when it ends, thread 2 one
abbrev pub busy₄ : List Expected
busy₄ = ok (R 0) 0 ∷ ok (R 0) 1 ∷ changing 5 1 ++ no (C 0 0) 2 0 ∷ no (R 2) 2 0 ∷ []

abbrev pub busy : List Expected
busy =
    office
    ++ busy₁
    ++ loading
    ++ busy₂
    ++ recalculating
    ++ busy₃
    ++ editing
    ++ own_editing
    ++ nesting
    ++ busy₄
    ++ ending

-- ---- and on a quieter one

-- thread 0 stays in the rate loader and has one call open when it ends, thread 2 sixteen; thread 3 calls before it is
-- started, and after
abbrev pub quiet : List Expected
quiet =
    office
    ++ ok (C 0 0) 0
    ∷ ok (C 0 0) 0
    ∷ no (A 0 2 4) 15 0
    ∷ no (C 3 0) 2 0
    ∷ loading
    ++ no (R 2) 9 0
    ∷ no (A 2 2 2) 15 0
    ∷ recalculating
    ++ replicate 16 (ok (C 2 0) 0)
    ++ no (C 2 1) 10 0
    ∷ editing
    ++ own_editing
    ++ nesting
    ++ ok (R 0) 0
    ∷ changing 1 16
    ++ ok (C 3 1) 1
    ∷ ending

pub record SideBySide : Type 0 where
  pub every_thread_letter : map (λ r. r.letter) (keep names_thread (table 0 0 0)) ≡ thread_letters
  -- they are those of edits and the others
  pub every_edit_letter : keep (λ l. not (any (eqb l) run_letters)) thread_letters ≡ edit_letters
  pub busy_happens : Happens busy
  pub quiet_happens : Happens quiet
  pub busy_struck : strike 1 (calls_of busy) ≡ calls_of what_is_left
  pub quiet_struck : strike 1 (calls_of quiet) ≡ calls_of what_is_left
  pub busy_own : map got (answers_to 1 (events outcome_of (calls_of busy))) ≡ own
  pub quiet_own : map got (answers_to 1 (events outcome_of (calls_of quiet))) ≡ own
  -- the E of threads 0 and 2 without their numbers
  pub busy_left : map got (answers_left 1 (events outcome_of (calls_of busy))) ≡ what_is_left
  pub quiet_left : map got (answers_left 1 (events outcome_of (calls_of quiet))) ≡ what_is_left
