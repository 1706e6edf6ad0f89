-- Searches worked out by hand, after a list of calls: which open call of a thread hands a key over, the newest first.
-- Proved in `proofs/Examples.antt`, by computing.
use Rattle.std.specs.Prelude.{◌≡◌, true, false, List, [], ◌∷◌, ◌++◌, map, ℕ, replicate, Ok, Err, None, Some}
use Rattle.base.specs.Bytes.{bytes}
use Rattle.product.specs.declared.literal.Key.TheVariants.{User, Thread, Segment, Defined}
use Rattle.formula.specs.Outcome.{outcome_of}
use Rattle.model.specs.declared.answer.Refusal.TheVariants.{NoThread}
use Rattle.model.specs.State.{State, fresh_thread, thread_at}
use Rattle.model.specs.Cells.{state_of}
use Rattle.model.specs.History.{Event}
use Rattle.model.specs.Replay.{reached, events}
use Rattle.model.specs.Notation.{Expected, U, S, E, N, K, G, T, L, C, R, ok, no, Happens, calls_of}
use Rattle.search.specs.Searching.{Searched, searched, searched_number, searched_value, is_found}
use Rattle.search.specs.Theorems.KeySets.{is_own_key}
use Rattle.search.specs.Theorems.HandedOut.{can_be_listed, can_be_listed_after}

-- Users 0 and 1; code segments 0, 1 and 2 of user 0, who may call them; D0 to D3. There is no thread 5 to make more.
-- Segment 0 hands over S0, D0 and D3, segment 1 S1, D0 and D1, segment 2 S2. Threads 0 to 2 are user 0's; thread 2 has
-- ended, and there is no thread 3.
abbrev pub office : List Expected
office =
    ok U 0
    ∷ ok U 1
    ∷ ok (S 0) 0
    ∷ ok (S 0) 1
    ∷ ok (S 0) 2
    ∷ ok (N 0 0) 0
    ∷ ok (N 0 0) 1
    ∷ ok (N 0 0) 2
    ∷ ok (K 0) 0
    ∷ ok (K 0) 1
    ∷ ok (K 0) 2
    ∷ ok (K 0) 3
    ∷ no (N 5 0) 2 0
    ∷ no (K 5) 2 0
    ∷ ok (G 0 0 0) 2
    ∷ ok (G 0 0 3) 3
    ∷ ok (G 0 1 0) 2
    ∷ ok (G 0 1 1) 3
    ∷ ok (L 0 0 1 (bytes "U0")) 0
    ∷ ok (L 0 1 1 (bytes "U0")) 1
    ∷ ok (L 0 2 1 (bytes "U0")) 2
    ∷ ok (E 2) 0
    ∷ []

-- Thread 0 calls segment 0, then 1. D1 is taken out of segment 1's list, and D2 put into segment 0's. Thread 0 calls 1
-- again, then 2; thread 1 calls segment 0. Then D1 is given again. So the open calls of thread 0 are, the newest first,
-- of segments 2 (S2), 1 (S1, D0), 1 (S1, D0; D1 was taken since) and 0 (S0, D0, D3); thread 1 has one, of segment 0
-- (S0, D0, D3, D2).
abbrev pub route : List Expected
route =
    ok (C 0 0) 0
    ∷ ok (C 0 1) 1
    ∷ ok (T 0 1 1) 2
    ∷ ok (G 0 0 2) 4
    ∷ ok (C 0 1) 1
    ∷ ok (C 1 0) 0
    ∷ ok (C 0 2) 2
    ∷ ok (G 0 1 1) 3
    ∷ []

-- thread 0 returns from its newest call
abbrev pub return : List Expected
return = ok (R 0) 2 ∷ []

-- or calls segment 2 twelve times more: sixteen open calls, and one too many
abbrev pub deep : List Expected
deep = replicate 12 (ok (C 0 2) 2) ++ no (C 0 1) 10 0 ∷ []

unfoldable pub desk : State
desk = state_of (reached outcome_of (calls_of (office ++ route)))

unfoldable pub after_return : State
after_return = state_of (reached outcome_of (calls_of (office ++ route ++ return)))

unfoldable pub at_depth : State
at_depth = state_of (reached outcome_of (calls_of (office ++ route ++ deep)))

abbrev pub numbers : Searched → ℕ × ℕ
numbers s = (searched_number s, searched_value s)

abbrev pub day_events : List Event
day_events = events outcome_of (calls_of (office ++ route))

pub record Examples : Type 0 where
  pub return_happens : Happens (office ++ route ++ return)
  pub deep_happens : Happens (office ++ route ++ deep)
  -- S1 is in two lists, D0 in three: the newest one's place; D3 is only in the oldest call
  pub newest : searched desk 0 (Segment 2) ≡ Ok (Some 0)
  pub second : searched desk 0 (Segment 1) ≡ Ok (Some 1)
  pub shared : searched desk 0 (Defined 0) ≡ Ok (Some 1)
  pub oldest : searched desk 0 (Segment 0) ≡ Ok (Some 3)
  pub oldest_only : searched desk 0 (Defined 3) ≡ Ok (Some 3)
  -- taken since, and given again after the calls were made; given after the call was made
  pub taken : searched desk 0 (Defined 1) ≡ Ok None
  pub given : searched desk 0 (Defined 2) ≡ Ok None
  -- its own U and R keys, held but handed over by no call; and another user's
  pub own_user : searched desk 0 (User 0) ≡ Ok None
  pub own_thread : searched desk 0 (Thread 0) ≡ Ok None
  pub other_user : searched desk 0 (User 1) ≡ Ok None
  -- never handed out: no 4
  pub no_segment : searched desk 0 (Segment 3) ≡ Ok None
  pub no_key : searched desk 0 (Defined 4) ≡ Ok None
  -- in the cells of a list D0, D1 are 64 and 65, no key is 65535; and 65536, in 16 bits, would be S0
  pub segment64 : searched desk 0 (Segment 64) ≡ Ok None
  pub segment65 : searched desk 0 (Segment 65) ≡ Ok None
  pub segment65535 : searched desk 0 (Segment 65535) ≡ Ok None
  pub defined65471 : searched desk 0 (Defined 65471) ≡ Ok None
  pub defined65472 : searched desk 0 (Defined 65472) ≡ Ok None
  pub defined65473 : searched desk 0 (Defined 65473) ≡ Ok None
  -- thread 1, which has D2
  pub another : searched desk 1 (Defined 2) ≡ Ok (Some 0)
  pub another_lacks : searched desk 1 (Segment 1) ≡ Ok None
  -- ended, and never started: 2 before all else
  pub ended : searched desk 2 (Segment 0) ≡ Err NoThread
  pub ended_own : searched desk 2 (User 0) ≡ Err NoThread
  pub unknown : searched desk 3 (Segment 64) ≡ Err NoThread
  -- after the return, and at depth 16: places count all open calls, whatever they hand over
  pub returned : searched after_return 0 (Segment 2) ≡ Ok None
  pub returned_first : searched after_return 0 (Defined 0) ≡ Ok (Some 0)
  pub returned_last : searched after_return 0 (Segment 0) ≡ Ok (Some 2)
  pub deep_first : searched at_depth 0 (Segment 2) ≡ Ok (Some 0)
  pub deep_shared : searched at_depth 0 (Defined 0) ≡ Ok (Some 13)
  pub deep_last : searched at_depth 0 (Segment 0) ≡ Ok (Some 15)
  -- the numbers of each kind of answer, and whether the key is found
  pub place : numbers (Ok (Some 3)) ≡ (0, 3)
  pub none : numbers (Ok None) ≡ (0, 65535)
  pub no_thread : numbers (Err NoThread) ≡ (2, 0)
  pub found : map is_found (Ok (Some 3) ∷ Ok None ∷ Err NoThread ∷ []) ≡ true ∷ false ∷ false ∷ []
  -- thread 0's own keys are U0 and R0, and those of a thread 2 of user 1 are U1 and R2
  pub own : map (is_own_key 0 (thread_at desk 0)) (User 0 ∷ User 1 ∷ Thread 0 ∷ Thread 1 ∷ Segment 0 ∷ Defined 0 ∷ [])
      ≡ true ∷ false ∷ true ∷ false ∷ false ∷ false ∷ []
  pub of_another : map (is_own_key 2 (fresh_thread 1)) (User 1 ∷ User 2 ∷ Thread 1 ∷ Thread 2 ∷ [])
      ≡ true ∷ false ∷ false ∷ true ∷ []
  -- what can be listed of three segments and four D keys, of four and three, and after these calls, of three and four
  pub of_three : map (can_be_listed 3 4) (Segment 2 ∷ Segment 3 ∷ Defined 3 ∷ Defined 4 ∷ [])
      ≡ true ∷ false ∷ true ∷ false ∷ []
  pub of_four : map (can_be_listed 4 3) (Segment 3 ∷ Segment 4 ∷ Defined 2 ∷ Defined 3 ∷ [])
      ≡ true ∷ false ∷ true ∷ false ∷ []
  pub identity : map (can_be_listed 3 4) (User 0 ∷ Thread 0 ∷ []) ≡ false ∷ false ∷ []
  pub listed_segments : map (can_be_listed_after day_events) (Segment 2 ∷ Segment 3 ∷ []) ≡ true ∷ false ∷ []
  pub listed_keys : map (can_be_listed_after day_events) (Defined 3 ∷ Defined 4 ∷ []) ≡ true ∷ false ∷ []
