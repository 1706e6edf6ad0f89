-- Worked examples of the check, on the rows of one thread and of some locks, for every kind of number of an operation;
-- the answers, number and value, are worked out by hand from document 01. Proved in `proofs/Examples.antt`, by
-- computing.
use Rattle.std.specs.Prelude.{◌≡◌, [], ◌∷◌, ℕ, replicate}
use Rattle.model.specs.Cells.{Table}
use Rattle.checking.specs.Deciding.{check_of, checked_number, checked_value}

-- a thread of user 1 with that number and one open call, of segment 0, which handed over S0 and D2
abbrev pub thread : ℕ → Table
thread number =
    (number ∷ 1 ∷ 1 ∷ 1 ∷ 0 ∷ 0 ∷ 0 ∷ 0 ∷ [])
    ∷ (0 ∷ 66 ∷ replicate 6 65535)
    ∷ replicate 15 (replicate 8 0)

-- lock 5 grants reading and writing by `!S1&D2`, lock 7 denies writing by `U1`, lock 9 grants execution by `R3`
abbrev pub locks : Table
locks =
    (327718 ∷ 32769 ∷ 66 ∷ 0 ∷ 0 ∷ 0 ∷ 0 ∷ 0 ∷ [])
    ∷ (458780 ∷ 131073 ∷ 0 ∷ 0 ∷ 0 ∷ 0 ∷ 0 ∷ 0 ∷ [])
    ∷ (589841 ∷ 262147 ∷ 0 ∷ 0 ∷ 0 ∷ 0 ∷ 0 ∷ 0 ∷ [])
    ∷ replicate 5 (replicate 8 0)

-- lock 3 grants reading by `U1`, lock 4 by `S0&D2`, lock 6 by `S0&!S1` and lock 8 by `U1&R3&S0&S1`, which doesn't open;
-- locks 9 and 10 deny writing by `U1` and by `U1&S0`, and lock 11 grants it by `U1&S0&D2`; lock 12 grants execution by
-- a product without literals, which no text has
abbrev pub several : Table
several =
    (196626 ∷ 131073 ∷ 0 ∷ 0 ∷ 0 ∷ 0 ∷ 0 ∷ 0 ∷ [])
    ∷ (262178 ∷ 0 ∷ 66 ∷ 0 ∷ 0 ∷ 0 ∷ 0 ∷ 0 ∷ [])
    ∷ (393250 ∷ 0 ∷ 32769 ∷ 0 ∷ 0 ∷ 0 ∷ 0 ∷ 0 ∷ [])
    ∷ (524354 ∷ 131073 ∷ 262147 ∷ 0 ∷ 1 ∷ 0 ∷ 0 ∷ 0 ∷ [])
    ∷ (589852 ∷ 131073 ∷ 0 ∷ 0 ∷ 0 ∷ 0 ∷ 0 ∷ 0 ∷ [])
    ∷ (655404 ∷ 131073 ∷ 0 ∷ 0 ∷ 0 ∷ 0 ∷ 0 ∷ 0 ∷ [])
    ∷ (720948 ∷ 131073 ∷ 0 ∷ 66 ∷ 0 ∷ 0 ∷ 0 ∷ 0 ∷ [])
    ∷ (786433 ∷ 0 ∷ 0 ∷ 0 ∷ 0 ∷ 0 ∷ 0 ∷ 0 ∷ [])
    ∷ []

abbrev pub answered_by : Table → ℕ → ℕ → ℕ × ℕ
answered_by products number operation =
    let k = check_of (thread number) products operation in
    (checked_number k, checked_value k)

abbrev pub answered : ℕ → ℕ → ℕ × ℕ
answered = answered_by locks

pub record Examples : Type 0 where
  pub reads : answered 3 2 ≡ (0, 5)
  pub writes : answered 3 4 ≡ (14, 7)
  pub executes : answered 3 1 ≡ (0, 9)
  pub another_thread : answered 4 1 ≡ (15, 0)
  -- what is no operation opens nothing: 0, sums of operations, deny, and beyond
  pub zero : answered 3 0 ≡ (15, 0)
  pub execute_and_read : answered 3 3 ≡ (15, 0)
  pub read_and_write : answered 3 6 ≡ (15, 0)
  pub deny : answered 3 8 ≡ (15, 0)
  pub sixteen : answered 3 16 ≡ (15, 0)
  pub lock_unit : answered 3 65536 ≡ (15, 0)
  -- of the locks that open the tightest answers, the lower of equal ones; the lowest deny lock is named, whatever is
  -- longer
  pub tightest : answered_by several 3 2 ≡ (0, 4)
  pub lowest_deny : answered_by several 3 4 ≡ (14, 9)
  pub no_literal : answered_by several 3 1 ≡ (0, 12)
