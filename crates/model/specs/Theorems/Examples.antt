-- Worked examples, on the arrays and with the compiler that there is: the calls of document 01's starred trials under
-- 'Trial desks' (marked *), which stand as one theorem, with what is printed, in `StarredTrials` (transcript);
-- a few more; and lists of calls after which the premises of `Granting` hold. Proved in
-- `proofs/Computed/Examples.antt`, by computing.
use Rattle.std.specs.Prelude.{◌≡◌, true, List, [], ◌∷◌, ◌++◌, ℕ, replicate, take, Some}
use Rattle.product.specs.declared.literal.Key.TheVariants.{User, Segment as SegmentKey, Defined}
use Rattle.product.specs.declared.literal.Literal.TheVariants.{Plain, Barred}
use Rattle.formula.specs.Outcome.{outcome_of}
use Rattle.base.specs.Bytes.{bytes}
use Rattle.base.specs.Lists.{map_option}
use Rattle.model.specs.Threads.{Frame, key_set}
use Rattle.model.specs.State.{LockProduct, segment_at, thread_at}
use Rattle.model.specs.Effects.{lock_product}
use Rattle.model.specs.Cells.{state_of}
use Rattle.model.specs.History.{History}
use Rattle.model.specs.HistoryCheck.{calls, accesses, Fits}
use Rattle.model.specs.Replay.{reached, history_of}
use Rattle.model.specs.Notation.{Expected, U, S, E, N, K, G, T, L, D, C, R, A, ok, no, calls_of, Happens}

-- * the sixteen records: the totals, segment 2, may be saved only by way of segments 0 and 1
abbrev pub route : List Expected
route =
    ok U 0
    ∷ ok (S 0) 0
    ∷ ok (S 0) 1
    ∷ ok (N 0 0) 0
    ∷ ok (N 0 0) 1
    ∷ ok (N 0 1) 2
    ∷ ok (L 0 0 1 (bytes "U0")) 0
    ∷ ok (L 0 1 1 (bytes "U0")) 1
    ∷ ok (L 0 2 4 (bytes "S0&S1")) 2
    ∷ ok (C 0 0) 0
    ∷ ok (C 0 1) 1
    ∷ ok (C 1 1) 1
    ∷ ok (A 0 2 4) 2
    ∷ no (A 1 2 4) 15 0
    ∷ ok (R 0) 1
    ∷ no (A 0 2 4) 15 0
    ∷ []

-- * 'Empty desk: S 0 gives 1; R 0 gives 2.'
abbrev pub empty_desk : List Expected
empty_desk = no (S 0) 1 0 ∷ no (R 0) 2 0 ∷ []

-- * the texts as locks; D answers how many products each has
abbrev pub texts : List Expected
texts =
    ok U 0
    ∷ ok (S 0) 0
    ∷ ok (N 0 0) 0
    ∷ ok (K 0) 0
    ∷ ok (K 0) 1
    ∷ no (L 0 0 1 (bytes "D0&!D0")) 13 0
    ∷ ok (L 0 0 1 (bytes "(D0&!D0)|D1")) 0
    ∷ ok (D 0 0) 1
    ∷ ok (L 0 0 1 (bytes "D0|D0&D1")) 1
    ∷ ok (D 0 1) 2
    ∷ ok (L 0 0 1 (bytes "!(D0|D1)")) 2
    ∷ ok (D 0 2) 1
    ∷ no (L 0 0 1 (bytes "D01")) 11 0
    ∷ ok (K 0) 2
    ∷ ok (K 0) 3
    ∷ ok (L 0 0 1 (bytes "(D0|D1)&(D2|D3)")) 3
    ∷ ok (D 0 3) 4
    ∷ []

-- * 'Call one segment twice, return once: its S key is held', and a sheet that asks for it can be read
abbrev pub twice : List Expected
twice =
    ok U 0
    ∷ ok (S 0) 0
    ∷ ok (N 0 0) 0
    ∷ ok (N 0 1) 1
    ∷ ok (L 0 0 1 (bytes "U0")) 0
    ∷ ok (L 0 1 2 (bytes "S0")) 1
    ∷ ok (C 0 0) 0
    ∷ ok (C 0 0) 0
    ∷ ok (R 0) 0
    ∷ ok (A 0 1 2) 1
    ∷ ok (R 0) 0
    ∷ no (A 0 1 2) 15 0
    ∷ []

-- the key of the older open call stays when the newer one returns
abbrev pub back : List Expected
back =
    ok U 0
    ∷ ok (S 0) 0
    ∷ ok (N 0 0) 0
    ∷ ok (N 0 0) 1
    ∷ ok (N 0 1) 2
    ∷ ok (L 0 0 1 (bytes "U0")) 0
    ∷ ok (L 0 1 1 (bytes "U0")) 1
    ∷ ok (L 0 2 2 (bytes "S0")) 2
    ∷ ok (C 0 0) 0
    ∷ ok (C 0 1) 1
    ∷ ok (A 0 2 2) 2
    ∷ ok (R 0) 1
    ∷ ok (A 0 2 2) 2
    ∷ ok (R 0) 0
    ∷ no (A 0 2 2) 15 0
    ∷ []

-- 'The 16th open call is accepted; a 17th that a grant lock and no deny lock opens is 10, one without a lock 15.'
-- Returned from, the place is used again; and all sixteen are closed at the end.
abbrev pub deep : List Expected
deep =
    ok U 0
    ∷ ok (S 0) 0
    ∷ ok (N 0 0) 0
    ∷ ok (L 0 0 1 (bytes "U0")) 0
    ∷ replicate 16 (ok (C 0 0) 0)
    ++ no (C 0 0) 10 0
    ∷ ok (R 0) 0
    ∷ ok (C 0 0) 0
    ∷ ok (D 0 0) 1
    ∷ no (C 0 0) 15 0
    ∷ ok (E 0) 16
    ∷ []

-- A key is given, and a call hands it over: a deny lock on it opens, until the key is taken while the call is open.
-- Given again, it is no open call's, but the next call's. Then the deny lock is dropped, then the grant lock, and then
-- the thread ended.
abbrev pub edits : List Expected
edits =
    ok U 0
    ∷ ok (S 0) 0
    ∷ ok (N 0 0) 0
    ∷ ok (K 0) 0
    ∷ ok (G 0 0 0) 2
    ∷ ok (L 0 0 1 (bytes "U0")) 0
    ∷ ok (C 0 0) 0
    ∷ ok (L 0 0 9 (bytes "D0")) 1
    ∷ no (C 0 0) 14 1
    ∷ ok (T 0 0 0) 1
    ∷ ok (C 0 0) 0
    ∷ ok (G 0 0 0) 2
    ∷ ok (C 0 0) 0
    ∷ no (C 0 0) 14 1
    ∷ ok (D 0 1) 1
    ∷ ok (C 0 0) 0
    ∷ ok (D 0 0) 1
    ∷ no (C 0 0) 15 0
    ∷ ok (E 0) 4
    ∷ []

-- what is stored of two locks on segment 0 with one dropped between them, and of one on segment 1; no thread ever has
-- the keys U0 and U1 both
abbrev pub standing : List Expected
standing =
    ok U 0
    ∷ ok U 1
    ∷ ok (S 0) 0
    ∷ ok (S 1) 1
    ∷ ok (N 0 0) 0
    ∷ ok (N 1 1) 1
    ∷ ok (K 0) 0
    ∷ ok (L 0 0 1 (bytes "D0&U1&S1&!S0&U0")) 0
    ∷ ok (L 0 0 1 (bytes "D0|U1")) 1
    ∷ ok (L 1 1 6 (bytes "!D0")) 2
    ∷ ok (D 0 1) 2
    ∷ ok (L 0 0 9 (bytes "!(U0&!S1)")) 3
    ∷ []

abbrev pub products_on : ℕ → List LockProduct
products_on s = (segment_at (state_of (reached outcome_of (calls_of standing))) s).products

-- the history after the first n events of the route
abbrev pub before : ℕ → History
before n = history_of outcome_of (calls_of (take n route))

-- an open call that handed over its segment's own key alone
abbrev pub opened : ℕ → Frame
opened s = record { segment = s; keys = SegmentKey s ∷ [] }

pub record Examples : Type 0 where
  pub route_happens : Happens route
  pub empty_desk_happens : Happens empty_desk
  pub texts_happen : Happens texts
  pub twice_happens : Happens twice
  -- after the first return the S key is held, by the history and by the arrays
  pub twice_held :
      map_option (λ t. key_set 0 t (SegmentKey 0)) ((history_of outcome_of (calls_of (take 9 twice))).threads 0)
      ≡ Some true
  pub twice_stored :
      key_set 0 (thread_at (state_of (reached outcome_of (calls_of (take 9 twice)))) 0) (SegmentKey 0) ≡ true
  pub back_happens : Happens back
  pub deep_happens : Happens deep
  pub edits_happen : Happens edits
  pub standing_happens : Happens standing
  pub standing_code : products_on 0
      ≡ lock_product 0 1
      (Plain (User 0) ∷ Plain (User 1) ∷ Barred (SegmentKey 0) ∷ Plain (SegmentKey 1) ∷ Plain (Defined 0) ∷ [])
      ∷ lock_product 3 9 (Barred (User 0) ∷ [])
      ∷ lock_product 3 9 (Plain (SegmentKey 1) ∷ [])
      ∷ []
  pub standing_sheet : products_on 1 ≡ lock_product 2 6 (Barred (Defined 0) ∷ []) ∷ []
  -- the premises of `Granting` hold before the first C of the route, before its first A, which is granted, and before
  -- its last, which isn't
  pub call_fits : Fits (before 9) (C 0 0) (calls 0 0)
  pub call_live : (before 9).threads 0 ≡ Some (record { user = 0; frames = [] })
  pub access_fits : Fits (before 12) (A 0 2 4) (accesses 0 2 4)
  pub access_live : (before 12).threads 0
      ≡ Some (record { user = 0; frames = opened 1 ∷ opened 0 ∷ [] })
  pub last_fits : Fits (before 15) (A 0 2 4) (accesses 0 2 4)
  pub last_live : (before 15).threads 0 ≡ Some (record { user = 0; frames = opened 0 ∷ [] })
