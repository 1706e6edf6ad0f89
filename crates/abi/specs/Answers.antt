-- How a caller in C sees the outcome of a formula text (document 01: lock text): one number, and rows of cells; and a
-- truth value.
use Rattle.std.specs.Prelude.{Bool, true, false, List, ℕ, length}
use Rattle.product.specs.Cells.{rows_of}
use Rattle.formula.specs.declared.text.Issued.{Issued}
use Rattle.formula.specs.declared.text.Refusal.TheVariants.{Malformed, TooWide, Unsatisfiable}
use Rattle.formula.specs.Outcome.{Outcome, accepted, malformed, too_wide, unsatisfiable, refusal_number}

abbrev pub issued_with : ℕ → ℕ → ℕ → ℕ → Issued
issued_with u t s d = record { users = u; threads = t; segments = s; defined = d }

-- how many products there are, or document 01's number of the refusal
abbrev pub number_in : Outcome → ℕ
number_in (accepted ps) = length ps
number_in malformed = refusal_number Malformed
number_in too_wide = refusal_number TooWide
number_in unsatisfiable = refusal_number Unsatisfiable

-- the products' cells, blank rows after them; of a refusal what stood there
abbrev pub rows_in : Outcome → List (List ℕ) → List (List ℕ)
rows_in (accepted ps) old = rows_of ps
rows_in malformed old = old
rows_in too_wide old = old
rows_in unsatisfiable old = old

-- a truth value as a number
abbrev pub bit : Bool → ℕ
bit true = 1
bit false = 0
