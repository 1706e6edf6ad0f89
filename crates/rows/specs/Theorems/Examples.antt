-- Listings worked out by hand, after calls that make three locks on a sheet: lock 0 grants writing, lock 1 denies
-- reading and writing and has two products, lock 3 grants reading (lock 2 was dropped). Proved in
-- `proofs/Examples.antt`, by computing.
use Rattle.std.specs.Prelude.{◌≡◌, List, [], ◌∷◌, ◌++◌, ℕ, replicate, Ok}
use Rattle.product.specs.declared.literal.Key.TheVariants.{User, Thread, Segment, Defined}
use Rattle.product.specs.declared.literal.Literal.TheVariants.{Plain, Barred}
use Rattle.formula.specs.Outcome.{outcome_of}
use Rattle.base.specs.Bytes.{bytes}
use Rattle.model.specs.Answers.{answer_number, answer_value}
use Rattle.base.specs.Lists.{concat_map}
use Rattle.model.specs.State.{State, segment_at}
use Rattle.model.specs.Cells.{state_of}
use Rattle.model.specs.Notation.{Expected, U, S, N, K, L, D, ok, Happens, calls_of}
use Rattle.model.specs.Replay.{reached, events}
use Rattle.rows.specs.declared.row.Row.{Row}
use Rattle.rows.specs.Listing.{listed}
use Rattle.rows.specs.Theorems.Discretion.{products_in, SameButTexts}
use Rattle.rows.specs.Notation.{blank, signed, grant, denial, no_keys}

-- users 0 and 1, each with a thread of that number, key D0; segment 0 is a sheet of user 0, segment 1 a code segment of
-- his with one lock, segment 2 a sheet of user 1 without
abbrev pub office : List Expected
office =
    ok U 0
    ∷ ok U 1
    ∷ ok (S 0) 0
    ∷ ok (S 1) 1
    ∷ ok (N 0 1) 0
    ∷ ok (N 0 0) 1
    ∷ ok (N 1 1) 2
    ∷ ok (K 0) 0
    ∷ ok (L 0 0 4 (bytes "S1&R0&U0")) 0
    ∷ ok (L 0 0 14 (bytes "!D0|U1")) 1
    ∷ ok (L 0 0 2 (bytes "D0")) 2
    ∷ ok (L 0 0 2 (bytes "S0")) 3
    ∷ ok (D 0 2) 1
    ∷ ok (L 0 1 1 (bytes "!(U1|D0)")) 4
    ∷ []

-- the same with other formulas
abbrev pub other_formulas : List Expected
other_formulas =
    ok U 0
    ∷ ok U 1
    ∷ ok (S 0) 0
    ∷ ok (S 1) 1
    ∷ ok (N 0 1) 0
    ∷ ok (N 0 0) 1
    ∷ ok (N 1 1) 2
    ∷ ok (K 0) 0
    ∷ ok (L 0 0 4 (bytes "U0|U1|D0")) 0
    ∷ ok (L 0 0 14 (bytes "S2")) 1
    ∷ ok (L 0 0 2 (bytes "D0")) 2
    ∷ ok (L 0 0 2 (bytes "S0|S1|S2")) 3
    ∷ ok (D 0 2) 1
    ∷ ok (L 0 1 1 (bytes "U0")) 4
    ∷ []

-- and after `office`: segment 3, a sheet of user 1 with five locks, the first of six keys
abbrev pub branch : List Expected
branch =
    ok (N 1 1) 3
    ∷ ok (L 1 3 12 (bytes "D0&!S1&S0&!R0&!U1&U0")) 5
    ∷ ok (L 1 3 12 (bytes "!D0")) 6
    ∷ ok (L 1 3 6 (bytes "U0")) 7
    ∷ ok (L 1 3 10 (bytes "!S0")) 8
    ∷ ok (L 1 3 2 (bytes "R0")) 9
    ∷ []

unfoldable pub desk : State
desk = state_of (reached outcome_of (calls_of (office ++ branch)))

unfoldable pub other_desk : State
other_desk = state_of (reached outcome_of (calls_of other_formulas))

-- what the owner of segment 0 sees, and what anyone else does
abbrev pub owner_rows : List Row
owner_rows =
    grant 0 4
    (signed (Plain (User 0)) ∷ signed (Plain (Thread 0)) ∷ signed (Plain (Segment 1)) ∷ blank ∷ blank ∷ blank ∷ [])
    ∷ denial 1 6 (signed (Barred (Defined 0)) ∷ blank ∷ blank ∷ blank ∷ blank ∷ blank ∷ [])
    ∷ denial 1 6 (signed (Plain (User 1)) ∷ blank ∷ blank ∷ blank ∷ blank ∷ blank ∷ [])
    ∷ grant 3 2 (signed (Plain (Segment 0)) ∷ blank ∷ blank ∷ blank ∷ blank ∷ blank ∷ [])
    ∷ []

abbrev pub colleague_rows : List Row
colleague_rows = grant 0 4 no_keys ∷ denial 1 6 no_keys ∷ grant 3 2 no_keys ∷ []

-- the same of segment 3
abbrev pub five_rows : List Row
five_rows =
    denial 5 4
    (signed (Plain (User 0)) ∷ signed (Barred (User 1)) ∷ signed (Barred (Thread 0)) ∷ signed (Plain (Segment 0))
    ∷ signed (Barred (Segment 1)) ∷ signed (Plain (Defined 0)) ∷ [])
    ∷ denial 6 4 (signed (Barred (Defined 0)) ∷ blank ∷ blank ∷ blank ∷ blank ∷ blank ∷ [])
    ∷ grant 7 6 (signed (Plain (User 0)) ∷ blank ∷ blank ∷ blank ∷ blank ∷ blank ∷ [])
    ∷ denial 8 2 (signed (Barred (Segment 0)) ∷ blank ∷ blank ∷ blank ∷ blank ∷ blank ∷ [])
    ∷ grant 9 2 (signed (Plain (Thread 0)) ∷ blank ∷ blank ∷ blank ∷ blank ∷ blank ∷ [])
    ∷ []

abbrev pub five_blanks : List Row
five_blanks =
    denial 5 4 no_keys ∷ denial 6 4 no_keys ∷ grant 7 6 no_keys ∷ denial 8 2 no_keys ∷ grant 9 2 no_keys ∷ []

-- a row that was lent with something in it
abbrev pub scribble : Row
scribble = denial 77 5 (signed (Barred (Thread 9)) ∷ blank ∷ blank ∷ blank ∷ blank ∷ blank ∷ [])

abbrev pub scribbles : ℕ → List Row
scribbles n = replicate n scribble

-- user u, who lends n scribbled rows, gets so many rows of segment s, and these stand in the lent rows afterwards
abbrev pub Gets : State → ℕ → ℕ → ℕ → ℕ → List Row → Type 0
Gets d u s n count rows = listed d u s (scribbles n) ≡ record { answer = Ok count; rows = rows }

-- and here is refused by document 01's or 02's number, and gets his rows back as they were
abbrev pub Fails : State → ℕ → ℕ → ℕ → ℕ → Type 0
Fails d u s n number =
    let o = listed d u s (scribbles n) in
    (answer_number o.answer ≡ number) × (answer_value o.answer ≡ 0) × (o.rows ≡ scribbles n)

pub record Examples : Type 0 where
  pub happens : Happens (office ++ branch)
  pub other_happens : Happens other_formulas
  -- they differ only in the texts of locks, and segment 0 has three locks, one of two products, as `Discretion` has
  -- them
  pub same_but_texts : SameButTexts (events outcome_of (calls_of office)) (events outcome_of (calls_of other_formulas))
  pub standing : (segment_at desk 0).products ≡ concat_map products_in
      (record {
        number = 0;
        operations = 4;
        first = Plain (User 0) ∷ Plain (Thread 0) ∷ Plain (Segment 1) ∷ [];
        more = [];
      }
      ∷ record { number = 1; operations = 14; first = Barred (Defined 0) ∷ []; more = (Plain (User 1) ∷ []) ∷ [] }
      ∷ record { number = 3; operations = 2; first = Plain (Segment 0) ∷ []; more = [] } ∷ [])
  -- the owner: four rows, the fifth untouched; enough, and one too few
  pub owner : Gets desk 0 0 5 4 (owner_rows ++ scribble ∷ [])
  pub owner_exactly : Gets desk 0 0 4 4 owner_rows
  pub owner_short : Fails desk 0 0 3 19
  -- a colleague: three rows, where the owner would need a fourth; enough, and one too few
  pub colleague : Gets desk 1 0 5 3 (colleague_rows ++ scribble ∷ scribble ∷ [])
  pub colleague_exactly : Gets desk 1 0 3 3 colleague_rows
  pub colleague_short : Fails desk 1 0 2 19
  -- a code segment
  pub code : Gets desk 0 1 1 1
      (grant 4 1 (signed (Barred (User 1)) ∷ signed (Barred (Defined 0)) ∷ blank ∷ blank ∷ blank ∷ blank ∷ []) ∷ [])
  pub code_for_others : Gets desk 1 1 1 1 (grant 4 1 no_keys ∷ [])
  -- no locks, with no rows lent and with some
  pub no_locks : Gets desk 1 2 0 0 []
  pub no_locks_for_others : Gets desk 0 2 2 0 (scribble ∷ scribble ∷ [])
  -- another owner, six keys, locks with the same operations, and three rows beyond the last
  pub six_keys : Gets desk 1 3 8 5 (five_rows ++ scribble ∷ scribble ∷ scribble ∷ [])
  pub six_keys_for_others : Gets desk 0 3 8 5 (five_blanks ++ scribble ∷ scribble ∷ scribble ∷ [])
  -- 1 before 3 and before 19; that 3 is before 19 is in `in_order` of `ListRefusing`: a segment that isn't handed out
  -- needs no rows
  pub stranger : Fails desk 2 0 0 1
  pub stranger_nowhere : Fails desk 2 4 0 1
  pub nowhere : Fails desk 0 4 0 3
  -- other formulas, of seven products: a colleague gets what he got before
  pub other_owner : Fails other_desk 0 0 6 19
  pub other_colleague : Gets other_desk 1 0 5 3 (colleague_rows ++ scribble ∷ scribble ∷ [])
