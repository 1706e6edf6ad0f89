-- Rows in numbers, worked out by hand: the letters are 85 (U), 82 (R), 83 (S) and 68 (D). And a listing in numbers, for
-- the owner and for a colleague, with one lent row more than each needs. Proved in `proofs/Examples.antt`, by
-- computing.
use Rattle.std.specs.Prelude.{◌≡◌, List, [], ◌∷◌, ℕ, Ok}
use Rattle.product.specs.declared.literal.Key.TheVariants.{User, Thread, Segment, Defined}
use Rattle.product.specs.declared.literal.Literal.TheVariants.{Plain, Barred}
use Rattle.formula.specs.Outcome.{outcome_of}
use Rattle.base.specs.Bytes.{bytes}
use Rattle.model.specs.State.{State}
use Rattle.model.specs.Cells.{state_of}
use Rattle.model.specs.Notation.{Expected, U, S, N, L, ok, Happens, calls_of}
use Rattle.model.specs.Replay.{reached}
use Rattle.rows.specs.Notation.{blank, signed, grant, denial}
use Rattle.listing.specs.Numbers.{row_numbers, listed_numbers}

abbrev pub no_key : List ℕ
no_key = 0 ∷ 0 ∷ 0 ∷ []

-- a code segment of user 0 with one deny lock
abbrev pub office : List Expected
office = ok U 0 ∷ ok U 1 ∷ ok (S 0) 0 ∷ ok (N 0 0) 0 ∷ ok (L 0 0 9 (bytes "S0&!U1")) 0 ∷ []

unfoldable pub desk : State
desk = state_of (reached outcome_of (calls_of office))

abbrev pub scribble : List (List ℕ)
scribble = (9 ∷ 8 ∷ 7 ∷ []) ∷ no_key ∷ no_key ∷ no_key ∷ no_key ∷ no_key ∷ (6 ∷ 5 ∷ 4 ∷ []) ∷ []

-- user u lends two scribbled rows, and of segment 0 gets this one
abbrev pub Gets : ℕ → List (List ℕ) → Type 0
Gets u row =
    listed_numbers desk u 0 (scribble ∷ scribble ∷ []) ≡ record { answer = Ok 1; rows = row ∷ scribble ∷ [] }

pub record Examples : Type 0 where
  pub happens : Happens office
  -- lock 65535 grants writing with !U31, !R7, R65535, !S63, !D8 and D1023
  pub granting : row_numbers
      (grant 65535 4
      (signed (Barred (User 31)) ∷ signed (Barred (Thread 7)) ∷ signed (Plain (Thread 65535))
      ∷ signed (Barred (Segment 63)) ∷ signed (Barred (Defined 8)) ∷ signed (Plain (Defined 1023)) ∷ []))
      ≡ (65535 ∷ 4 ∷ 0 ∷ []) ∷ (85 ∷ 31 ∷ 1 ∷ []) ∷ (82 ∷ 7 ∷ 1 ∷ []) ∷ (82 ∷ 65535 ∷ 0 ∷ []) ∷ (83 ∷ 63 ∷ 1 ∷ [])
      ∷ (68 ∷ 8 ∷ 1 ∷ []) ∷ (68 ∷ 1023 ∷ 0 ∷ []) ∷ []
  pub denying : row_numbers (denial 2 6 (signed (Plain (User 0)) ∷ blank ∷ blank ∷ blank ∷ blank ∷ blank ∷ []))
      ≡ (2 ∷ 6 ∷ 1 ∷ []) ∷ (85 ∷ 0 ∷ 0 ∷ []) ∷ no_key ∷ no_key ∷ no_key ∷ no_key ∷ no_key ∷ []
  pub owner : Gets 0 ((0 ∷ 1 ∷ 1 ∷ []) ∷ (85 ∷ 1 ∷ 1 ∷ []) ∷ (83 ∷ 0 ∷ 0 ∷ []) ∷ no_key ∷ no_key ∷ no_key ∷ no_key ∷ [])
  pub colleague : Gets 1 ((0 ∷ 1 ∷ 1 ∷ []) ∷ no_key ∷ no_key ∷ no_key ∷ no_key ∷ no_key ∷ no_key ∷ [])
