-- A trial for each number from 1 to 15 of document 01's table with each letter that it can refuse, in the table's order
-- and often with a later one that holds too; calls that are not well formed; who edits; what a T withdraws; which lock
-- answers; the limits from both sides; and places that are freed and used again. Each letter of the table of calls
-- occurs accepted and refused. Proved in `proofs/Computed/Trials.antt`, by computing.
use Rattle.std.specs.Prelude.{◌≡◌, Bool, true, false, ◌&&◌, ◌||◌, not, List, [], ◌∷◌, ◌++◌, map, ℕ, ◌+◌, eqb, length, replicate, Option, None, Some}
use Rattle.product.specs.declared.literal.Key.{Key}
use Rattle.product.specs.declared.literal.Key.TheVariants.{Segment as SegmentKey, Defined}
use Rattle.formula.specs.Outcome.{outcome_of}
use Rattle.base.specs.Bytes.{bytes}
use Rattle.call.specs.Letters as letters
use Rattle.call.specs.Calls.{Call, call_with, TableRow, table}
use Rattle.model.specs.Answers.{answer_number, answer_value}
use Rattle.base.specs.Lists.{any, keep, each, map_option}
use Rattle.model.specs.Threads.{Frame}
use Rattle.model.specs.State.{State, empty_state, blank_segment, fresh_thread, free, taken}
use Rattle.model.specs.Refusals.{conditions}
use Rattle.model.specs.Model.{step}
use Rattle.model.specs.History.{hands_out, makers_of}
use Rattle.model.specs.Replay.{events, history_of}
use Rattle.model.specs.Notation.{Expected, U, S, E, N, K, G, T, L, D, C, R, A, ok, no, calls_of, Happens}
use Rattle.model.specs.Theorems.Editing.{user_in, owner_in}
use Rattle.model.specs.Theorems.SameGrants.{events_before}

-- users 0 and 1; thread 0 of user 1, threads 1 and 2 of user 0, and thread 3 of user 0, which has ended; there is no
-- thread 4, and no thread 65, whose place would be thread 1's. Segments 0 (code) and 1 (sheet) of user 0, 2 (sheet) of
-- user 1; D0 of user 0, D1 of user 1
abbrev pub start : List Expected
start =
    ok U 0
    ∷ ok U 1
    ∷ no (S 2) 1 0
    ∷ ok (S 1) 0
    ∷ ok (S 0) 1
    ∷ ok (S 0) 2
    ∷ ok (S 0) 3
    ∷ ok (E 3) 0
    ∷ ok (N 1 0) 0
    ∷ no (N 3 2) 2 0
    ∷ no (N 4 2) 2 0
    ∷ no (N 1 2) 7 0
    ∷ ok (N 2 1) 1
    ∷ ok (N 0 1) 2
    ∷ no (K 3) 2 0
    ∷ no (K 4) 2 0
    ∷ no (K 65) 2 0
    ∷ ok (K 1) 0
    ∷ ok (K 0) 1
    ∷ []

abbrev pub key_lists : List Expected
key_lists =
    no (G 3 9 9) 2 0
    ∷ no (G 1 9 9) 3 0
    ∷ no (G 0 1 2) 4 0
    ∷ no (G 0 1 1) 6 0
    ∷ no (G 1 1 1) 6 0
    ∷ ok (G 1 1 0) 2
    ∷ no (G 2 1 0) 8 0
    ∷ no (T 3 9 9) 2 0
    ∷ no (T 1 9 9) 3 0
    ∷ no (T 0 1 2) 4 0
    ∷ no (T 0 1 1) 6 0
    ∷ no (T 1 1 1) 9 0
    ∷ ok (T 2 1 0) 1
    ∷ no (T 2 1 0) 9 0
    ∷ []

abbrev pub threads : List Expected
threads =
    no (E 4) 2 0
    ∷ no (E 3) 2 0
    ∷ no (R 4) 2 0
    ∷ no (R 3) 2 0
    ∷ no (R 1) 9 0
    ∷ []

-- operations are judged before the text, and a text by 11, 12 and 13 in that order
abbrev pub locks : List Expected
locks =
    no (L 3 9 0 []) 2 0
    ∷ no (L 1 9 0 []) 3 0
    ∷ no (L 0 0 0 []) 6 0
    ∷ no (L 1 0 0 []) 7 0
    ∷ no (L 1 0 8 (bytes "U0")) 7 0
    ∷ no (L 1 0 17 (bytes "U0")) 7 0
    ∷ no (L 1 0 3 (bytes "U0")) 7 0
    ∷ no (L 1 0 5 (bytes "U0")) 7 0
    ∷ no (L 1 1 7 (bytes "U0")) 7 0
    ∷ no (L 1 0 1 []) 11 0
    ∷ no (L 1 0 1 (bytes "D2")) 11 0
    ∷ no (L 1 0 1 (bytes "R4")) 11 0
    ∷ no (L 1 0 1 (bytes "U0|U1|R0|R1|S0|S1|S2|D0|D1")) 12 0
    ∷ no (L 1 0 1 (bytes "D0&!D0")) 13 0
    ∷ ok (L 2 0 1 (bytes "R0")) 0
    ∷ []

-- lock 1 denies whoever is inside segment 0 already
abbrev pub calls : List Expected
calls =
    no (C 3 9) 2 0
    ∷ no (C 1 9) 3 0
    ∷ no (C 1 1) 7 0
    ∷ no (C 1 0) 15 0
    ∷ ok (C 0 0) 0
    ∷ ok (L 1 0 9 (bytes "S0")) 1
    ∷ no (C 0 0) 14 1
    ∷ ok (R 0) 0
    ∷ ok (C 0 0) 0
    ∷ []

-- lock 3 denies thread 1 to read; owners need a lock like everybody else
abbrev pub accesses : List Expected
accesses =
    ok (L 1 1 6 (bytes "U0|R0")) 2
    ∷ ok (L 1 1 10 (bytes "R1")) 3
    ∷ no (A 3 9 9) 2 0
    ∷ no (A 1 9 9) 3 0
    ∷ no (A 1 1 1) 7 0
    ∷ no (A 1 1 6) 7 0
    ∷ no (A 1 0 2) 7 0
    ∷ no (A 1 1 2) 14 3
    ∷ ok (A 1 1 4) 2
    ∷ ok (A 0 1 2) 2
    ∷ no (A 0 2 2) 15 0
    ∷ []

abbrev pub drops : List Expected
drops =
    no (D 3 9) 2 0
    ∷ no (D 1 9) 5 0
    ∷ no (D 0 2) 6 0
    ∷ ok (D 2 2) 2
    ∷ no (D 1 2) 5 0
    ∷ no (A 1 1 4) 15 0
    ∷ no (A 1 1 2) 14 3
    ∷ []

-- an ended thread doesn't edit what its user owns, and its R key may still be named; the ninth product of a segment is
-- too many, until the eight are dropped
abbrev pub ends : List Expected
ends =
    ok (E 0) 1
    ∷ no (E 0) 2 0
    ∷ no (R 0) 2 0
    ∷ no (C 0 0) 2 0
    ∷ no (L 0 2 2 (bytes "U0")) 2 0
    ∷ ok (L 1 0 1 (bytes "R0")) 4
    ∷ ok (S 1) 4
    ∷ ok (L 4 2 2 (bytes "D0|D1|U0|U1|R0|R1|S0|S1")) 5
    ∷ no (L 4 2 2 (bytes "U0")) 10 0
    ∷ ok (D 4 5) 8
    ∷ ok (L 4 2 2 (bytes "U0")) 6
    ∷ ok (A 1 2 2) 6
    ∷ []

-- 18 'before all else': an unnamed field, an unknown letter, a text outside L
abbrev pub unformed : List Expected
unformed =
    no (call_with 85 1 0 0 []) 18 0
    ∷ no (call_with 66 0 0 0 []) 18 0
    ∷ no (call_with 85 0 0 0 (48 ∷ [])) 18 0
    ∷ no (call_with 82 77 0 1 []) 18 0
    ∷ []

-- the keys that name a thread and its user: of three threads only the third is let in, then denied by what it holds,
-- and at last another by its user
abbrev pub identity : List Expected
identity =
    ok U 0
    ∷ ok U 1
    ∷ ok (S 1) 0
    ∷ ok (S 0) 1
    ∷ ok (S 0) 2
    ∷ ok (N 1 0) 0
    ∷ ok (L 1 0 1 (bytes "R2")) 0
    ∷ no (C 0 0) 15 0
    ∷ no (C 1 0) 15 0
    ∷ ok (C 2 0) 0
    ∷ ok (L 1 0 9 (bytes "S0&U0")) 1
    ∷ no (C 2 0) 14 1
    ∷ ok (R 2) 0
    ∷ ok (C 2 0) 0
    ∷ ok (L 1 0 9 (bytes "R2")) 2
    ∷ ok (R 2) 0
    ∷ no (C 2 0) 14 2
    ∷ ok (E 2) 0
    ∷ ok (L 1 0 1 (bytes "R2|U1")) 3
    ∷ ok (C 0 0) 3
    ∷ []

-- Who edits is the thread's user. Thread 1 of user 0 makes segment 0 and D0 and ends: it edits no more. User 1's
-- thread has the owner's number, and isn't the owner's. User 0's next thread gives, locks, drops and takes what the
-- first made. User 3's two threads, 3 and 5, edit what the other made, and neither user 1's nor user 2's does.
abbrev pub editors : List Expected
editors =
    ok U 0
    ∷ ok U 1
    ∷ ok U 2
    ∷ ok U 3
    ∷ ok (S 1) 0
    ∷ ok (S 0) 1
    ∷ ok (N 1 0) 0
    ∷ ok (K 1) 0
    ∷ ok (E 1) 0
    ∷ no (N 1 0) 2 0
    ∷ no (K 1) 2 0
    ∷ no (G 1 0 0) 2 0
    ∷ no (G 0 0 0) 6 0
    ∷ ok (S 0) 2
    ∷ ok (G 2 0 0) 2
    ∷ no (T 1 0 0) 2 0
    ∷ no (T 0 0 0) 6 0
    ∷ no (L 1 0 1 (bytes "D0")) 2 0
    ∷ no (L 0 0 1 (bytes "D0")) 6 0
    ∷ ok (L 2 0 1 (bytes "D0")) 0
    ∷ no (D 1 0) 2 0
    ∷ no (D 0 0) 6 0
    ∷ ok (D 2 0) 1
    ∷ ok (T 2 0 0) 1
    ∷ ok (S 3) 3
    ∷ ok (S 2) 4
    ∷ ok (S 3) 5
    ∷ ok (N 3 0) 1
    ∷ ok (K 5) 1
    ∷ no (G 4 1 1) 6 0
    ∷ no (G 0 1 1) 6 0
    ∷ no (G 5 1 0) 6 0
    ∷ ok (G 5 1 1) 2
    ∷ ok (L 5 1 1 (bytes "D1&U3")) 1
    ∷ no (D 4 1) 6 0
    ∷ ok (N 4 1) 2
    ∷ no (L 5 2 2 (bytes "U3")) 6 0
    ∷ no (T 4 1 1) 6 0
    ∷ ok (T 3 1 1) 1
    ∷ ok (D 3 1) 1
    ∷ []

-- Withdrawal (request P5). User 0's segments 0 and 1 hand over D0, segment 0 also D1; the sheet, segment 2, may be read
-- with D0, and written with D1 but not with D0. Thread 0, of user 1, has called segment 0; thread 1, of user 0, has
-- called it twice; thread 2, of user 0, has called segment 0 and then segment 1. So all three may read, and not write.
abbrev pub in_progress : List Expected
in_progress =
    ok U 0
    ∷ ok U 1
    ∷ ok (S 1) 0
    ∷ ok (S 0) 1
    ∷ ok (S 0) 2
    ∷ ok (N 1 0) 0
    ∷ ok (N 1 0) 1
    ∷ ok (N 1 1) 2
    ∷ ok (K 1) 0
    ∷ ok (K 1) 1
    ∷ ok (G 1 0 0) 2
    ∷ ok (G 1 0 1) 3
    ∷ ok (G 1 1 0) 2
    ∷ ok (L 1 0 1 (bytes "U0|U1")) 0
    ∷ ok (L 1 1 1 (bytes "U0|U1")) 1
    ∷ ok (L 1 2 2 (bytes "D0")) 2
    ∷ ok (L 1 2 4 (bytes "D1&!D0")) 3
    ∷ ok (C 0 0) 0
    ∷ ok (C 1 0) 0
    ∷ ok (C 1 0) 0
    ∷ ok (C 2 0) 0
    ∷ ok (C 2 1) 1
    ∷ []

-- User 1 may not take D0 from segment 0, and nothing is withdrawn. Thread 2 takes it for user 0: no open call of
-- segment 0 hands it over, and thread 2 still has it from segment 1.
abbrev pub withdrawal : List Expected
withdrawal =
    no (T 0 0 0) 6 0
    ∷ ok (A 0 2 2) 2
    ∷ no (A 0 2 4) 15 0
    ∷ ok (T 2 0 0) 2
    ∷ no (A 0 2 2) 15 0
    ∷ ok (A 0 2 4) 3
    ∷ no (A 1 2 2) 15 0
    ∷ ok (A 1 2 4) 3
    ∷ ok (A 2 2 2) 2
    ∷ no (A 2 2 4) 15 0
    ∷ []

-- D0 is given again, which serves thread 1's next call of segment 0 and no open one. A T of D1 from segment 1, which
-- hasn't it, is 9, and segment 0's open calls still hand D1 over, as the last saves show. Then D0 is taken from segment
-- 1 too: its open call in thread 2 has its own key alone, and is returned from like any other.
abbrev pub given_again : List Expected
given_again =
    ok (G 1 0 0) 3
    ∷ no (A 0 2 2) 15 0
    ∷ no (A 1 2 2) 15 0
    ∷ ok (C 1 0) 0
    ∷ ok (A 1 2 2) 2
    ∷ ok (R 1) 0
    ∷ no (A 1 2 2) 15 0
    ∷ no (T 1 1 1) 9 0
    ∷ ok (A 2 2 2) 2
    ∷ ok (T 1 1 0) 1
    ∷ no (A 2 2 2) 15 0
    ∷ ok (A 2 2 4) 3
    ∷ ok (R 2) 1
    ∷ ok (A 2 2 4) 3
    ∷ ok (E 1) 2
    ∷ []

abbrev pub revoked : List Expected
revoked = in_progress ++ withdrawal ++ given_again

-- Which lock answers (request P6). Thread 0 of user 0 reads sheet 1 while locks are made and dropped, and holds U0 and
-- R0 alone. Lock 1 is longer than lock 0; lock 2 is as long as lock 1, and stays behind it; lock 3 is the longest, by
-- barred keys; the long product of lock 4 doesn't open, so it counts for one key. Lock 5 is for writing. The deny locks
-- 6 and 7 open both, and 14 names the lower, though 7 is the longer.
abbrev pub locks_of_sheet : List Expected
locks_of_sheet =
    ok U 0
    ∷ ok U 1
    ∷ ok (S 0) 0
    ∷ ok (N 0 0) 0
    ∷ ok (N 0 1) 1
    ∷ ok (K 0) 0
    ∷ ok (L 0 1 2 (bytes "U0")) 0
    ∷ ok (A 0 1 2) 0
    ∷ ok (L 0 1 2 (bytes "U0&R0")) 1
    ∷ ok (A 0 1 2) 1
    ∷ ok (L 0 1 2 (bytes "R0&!D0")) 2
    ∷ ok (A 0 1 2) 1
    ∷ ok (L 0 1 2 (bytes "!U1&!S1&!D0")) 3
    ∷ ok (A 0 1 2) 3
    ∷ ok (L 0 1 2 (bytes "U0|D0&S0&S1&!U1&R0")) 4
    ∷ ok (A 0 1 2) 3
    ∷ ok (D 0 3) 1
    ∷ ok (A 0 1 2) 1
    ∷ ok (D 0 1) 1
    ∷ ok (A 0 1 2) 2
    ∷ no (A 0 1 4) 15 0
    ∷ ok (L 0 1 4 (bytes "U0&R0&!D0")) 5
    ∷ ok (A 0 1 2) 2
    ∷ ok (A 0 1 4) 5
    ∷ ok (L 0 1 10 (bytes "U0")) 6
    ∷ ok (L 0 1 10 (bytes "U0&R0")) 7
    ∷ no (A 0 1 2) 14 6
    ∷ ok (A 0 1 4) 5
    ∷ []

-- The same of calls of code segment 0. Lock 9 opens by two keys at first, and by its second product's three once S0 is
-- held, so lock 10, which is longer than the first product, stays behind it; without lock 9 it answers.
abbrev pub locks_of_code : List Expected
locks_of_code =
    ok (L 0 0 1 (bytes "R0")) 8
    ∷ ok (L 0 0 1 (bytes "R0&!S0|R0&S0&!U1")) 9
    ∷ ok (C 0 0) 9
    ∷ ok (L 0 0 1 (bytes "R0&U0")) 10
    ∷ ok (C 0 0) 9
    ∷ ok (D 0 9) 2
    ∷ ok (C 0 0) 10
    ∷ []

abbrev pub several_locks : List Expected
several_locks = locks_of_sheet ++ locks_of_code

-- Locks of several products that open at once, for a thread that isn't the first. Lock 0 opens by one key, by one key
-- and by three, so for thread 1 it is tighter than lock 1; lock 2, for writing, has four keys, and lock 0 none more for
-- having three products. For thread 0 lock 0 opens by one key, and no other does. Of lock 3 the longer product comes
-- first. Locks 1 and 4 have two keys each.
abbrev pub locks_of_products : List Expected
locks_of_products =
    ok U 0
    ∷ ok (S 0) 0
    ∷ ok (S 0) 1
    ∷ ok (N 0 0) 0
    ∷ ok (N 0 1) 1
    ∷ ok (K 0) 0
    ∷ ok (L 0 1 6 (bytes "U0|R1|U0&R1&!D0")) 0
    ∷ ok (L 0 1 6 (bytes "U0&R1")) 1
    ∷ ok (A 1 1 4) 0
    ∷ ok (A 1 1 2) 0
    ∷ ok (L 0 1 4 (bytes "U0&R1&!D0&!S0")) 2
    ∷ ok (A 1 1 4) 2
    ∷ ok (A 1 1 2) 0
    ∷ ok (A 0 1 4) 0
    ∷ ok (D 0 0) 3
    ∷ ok (L 0 1 6 (bytes "U0&R1&!D0|U0")) 3
    ∷ ok (A 1 1 2) 3
    ∷ ok (D 0 3) 2
    ∷ ok (L 0 1 2 (bytes "U0&!S0")) 4
    ∷ ok (A 1 1 2) 1
    ∷ []

-- what the Cs and As of a list answered before request P6, number and answer or second number
abbrev pub checked_before : List Expected → List (ℕ × ℕ)
checked_before expected =
    map (λ e. (answer_number e.answer, answer_value e.answer))
    (keep (λ e. eqb e.call.letter letters.C || eqb e.call.letter letters.A)
    (events_before outcome_of empty_state (calls_of expected)))

-- what the open calls of a thread then hand over, by the history
abbrev pub hands_then : List Expected → ℕ → Option (List Frame)
hands_then xs n = map_option (λ t. t.frames) ((history_of outcome_of (calls_of xs)).threads n)

-- an open call of a segment that hands over its own key and these
abbrev pub opened : ℕ → List Key → Frame
opened s keys = record { segment = s; keys = SegmentKey s ∷ keys }

-- 32 users, 64 segments; 64 live threads, where an ended one makes room; 8 keys in a list, where a taken one makes room
abbrev pub users : List Expected
users = each (ok U) 0 32 ++ no U 10 0 ∷ no (S 32) 1 0 ∷ no (S 65535) 1 0 ∷ ok (S 31) 0 ∷ []

abbrev pub segments : List Expected
segments = ok U 0 ∷ ok (S 0) 0 ∷ each (ok (N 0 1)) 0 64 ++ no (N 0 1) 10 0 ∷ []

abbrev pub live_threads : List Expected
live_threads =
    ok U 0
    ∷ each (ok (S 0)) 0 64
    ++ no (S 0) 10 0
    ∷ ok (E 5) 0
    ∷ ok (S 0) 64
    ∷ no (S 0) 10 0
    ∷ no (R 64) 9 0
    ∷ no (R 5) 2 0
    ∷ ok (N 64 0) 0
    ∷ no (K 5) 2 0
    ∷ []

abbrev pub key_ring : List Expected
key_ring = ok U 0 ∷ ok (S 0) 0 ∷ ok (N 0 0) 0 ∷ each (ok (K 0)) 0 8

abbrev pub keys_given : List Expected
keys_given =
    each (λ n. ok (G 0 0 n) (2 + n)) 0 7
    ++ no (G 0 0 7) 10 0
    ∷ no (G 0 0 3) 8 0
    ∷ ok (T 0 0 2) 7
    ∷ ok (G 0 0 7) 8
    ∷ []

abbrev pub listed : List Expected
listed = key_ring ++ keys_given

-- 16 open calls of a thread, where a return makes room
abbrev pub frames : List Expected
frames =
    ok U 0
    ∷ ok (S 0) 0
    ∷ ok (N 0 0) 0
    ∷ ok (L 0 0 1 (bytes "U0")) 0
    ∷ replicate 16 (ok (C 0 0) 0)
    ++ no (C 0 0) 10 0
    ∷ ok (R 0) 0
    ∷ ok (C 0 0) 0
    ∷ []

-- a state of one user, with so many thread numbers, lock numbers and defined keys handed out, one segment, a live
-- thread and one free place
abbrev pub late : ℕ → ℕ → ℕ → State
late t l k =
    record {
      users = 1;
      thread_numbers = t;
      lock_numbers = l;
      makers = replicate k 0;
      segments = blank_segment ∷ [];
      places = taken 0 (fresh_thread 0) ∷ free ∷ [];
    }

-- the number and the value of the answer
abbrev pub answer_in : State → Call → ℕ × ℕ
answer_in d x = (answer_number (step outcome_of d x).answer, answer_value (step outcome_of d x).answer)

-- the trials of the table of refusals
abbrev pub refusals : List Expected
refusals = start ++ key_lists ++ threads ++ locks ++ calls ++ accesses ++ drops ++ ends ++ unformed

-- a letter's call is accepted in one of them, and refused by a number of the table if it has any
abbrev pub is_accepting : ℕ → Expected → Bool
is_accepting letter e = eqb e.call.letter letter && eqb e.number 0

abbrev pub is_refusing : ℕ → Expected → Bool
is_refusing letter e = eqb e.call.letter letter && not (eqb e.number 0 || eqb e.number 18)

abbrev pub is_shown : List Expected → TableRow → Bool
is_shown es r =
    let refusable = not (eqb (length (conditions outcome_of empty_state r.request [])) 0) in
    any (is_accepting r.letter) es && (not refusable || any (is_refusing r.letter) es)

-- the letters of the table of calls that are not shown
abbrev pub letters_without : List Expected → List ℕ
letters_without es = map (λ r. r.letter) (keep (λ r. not (is_shown es r)) (table 0 0 0))

-- whether each letter of the table of calls hands out numbers
abbrev pub handing_out : List Bool
handing_out = map (λ r. hands_out r.request) (table 0 0 0)

pub record Trials : Type 0 where
  pub table : Happens refusals
  pub every_letter : letters_without (refusals ++ users) ≡ []
  -- U, S, N, K and L do
  pub numbered : handing_out
      ≡ true ∷ true ∷ false ∷ true ∷ true ∷ false ∷ false ∷ true ∷ false ∷ false ∷ false ∷ false ∷ []
  pub identity_happens : Happens identity
  pub editors_happen : Happens editors
  -- whose threads 0 to 5, segments 0 to 3 and keys are then, by the history
  pub editors_users : map (user_in (events outcome_of (calls_of editors))) (0 ∷ 1 ∷ 2 ∷ 3 ∷ 4 ∷ 5 ∷ [])
      ≡ Some 1 ∷ None ∷ Some 0 ∷ Some 3 ∷ Some 2 ∷ Some 3 ∷ []
  pub editors_owners : map (owner_in (events outcome_of (calls_of editors))) (0 ∷ 1 ∷ 2 ∷ 3 ∷ [])
      ≡ Some 0 ∷ Some 3 ∷ Some 2 ∷ None ∷ []
  pub editors_makers : makers_of (events outcome_of (calls_of editors)) ≡ 0 ∷ 3 ∷ []
  pub revoked_happens : Happens revoked
  -- what the open calls of threads 0 to 2 hand over before the withdrawal, after it and at the end
  pub handed_before : map (hands_then in_progress) (0 ∷ 1 ∷ 2 ∷ [])
      ≡ Some (opened 0 (Defined 0 ∷ Defined 1 ∷ []) ∷ [])
      ∷ Some (opened 0 (Defined 0 ∷ Defined 1 ∷ []) ∷ opened 0 (Defined 0 ∷ Defined 1 ∷ []) ∷ [])
      ∷ Some (opened 1 (Defined 0 ∷ []) ∷ opened 0 (Defined 0 ∷ Defined 1 ∷ []) ∷ [])
      ∷ []
  pub handed_after : map (hands_then (in_progress ++ withdrawal)) (0 ∷ 1 ∷ 2 ∷ [])
      ≡ Some (opened 0 (Defined 1 ∷ []) ∷ [])
      ∷ Some (opened 0 (Defined 1 ∷ []) ∷ opened 0 (Defined 1 ∷ []) ∷ [])
      ∷ Some (opened 1 (Defined 0 ∷ []) ∷ opened 0 (Defined 1 ∷ []) ∷ [])
      ∷ []
  pub handed_last : map (hands_then revoked) (0 ∷ 1 ∷ 2 ∷ [])
      ≡ Some (opened 0 (Defined 1 ∷ []) ∷ [])
      ∷ None
      ∷ Some (opened 0 (Defined 1 ∷ []) ∷ [])
      ∷ []
  pub several_happen : Happens several_locks
  pub products_happen : Happens locks_of_products
  -- and before: reads by lock 0 while it stands, and calls by lock 8
  pub several_before : checked_before several_locks
      ≡ (0, 0) ∷ (0, 0) ∷ (0, 0) ∷ (0, 0) ∷ (0, 0) ∷ (0, 0) ∷ (0, 0)
      ∷ (15, 0) ∷ (0, 0) ∷ (0, 5) ∷ (14, 6) ∷ (0, 5) ∷ (0, 8) ∷ (0, 8) ∷ (0, 8) ∷ []
  pub users_happen : Happens users
  pub segments_happen : Happens segments
  pub threads_happen : Happens live_threads
  pub listed_happens : Happens listed
  pub frames_happen : Happens frames
  -- on states of the model that are too long to reach by computing: 65,536 thread numbers and lock numbers, 1,024
  -- defined keys
  pub last_thread : answer_in (late 65535 0 0) (S 0) ≡ (0, 65535)
  pub no_thread : answer_in (late 65536 0 0) (S 0) ≡ (10, 0)
  pub last_lock : answer_in (late 0 65535 0) (L 0 0 1 (bytes "U0")) ≡ (0, 65535)
  pub no_lock : answer_in (late 0 65536 0) (L 0 0 1 (bytes "U0")) ≡ (10, 0)
  pub last_key : answer_in (late 0 0 1023) (K 0) ≡ (0, 1023)
  pub no_key : answer_in (late 0 0 1024) (K 0) ≡ (10, 0)
