-- What compiling a formula text answers: its products, or a refusal. Document 01, 'Lock text' and refusals 11 to 13.
-- The reader need not be believed: `MalformedExactly` (Theorems/Grammar), `TooWideExactly` (Theorems/Width),
-- `UnsatisfiableExactly` (Theorems/Unsatisfiable) and `OpeningLaw` (Theorems/Opening) say each answer without it.
use Rattle.std.specs.Prelude.{false, cond, List, [], ◌∷◌, ℕ, leb, length, Option, None, Some, Result, Ok, Err}
use Rattle.base.specs.Lists.{or_default}
use Rattle.product.specs.Sum.{Sum, Sum?}
use Rattle.product.specs.Cells.{rows_of}
use Rattle.formula.specs.declared.text.Issued.{Issued}
use Rattle.formula.specs.declared.text.Refusal.{Refusal}
use Rattle.formula.specs.declared.text.Refusal.TheVariants.{Malformed, TooWide, Unsatisfiable}
use Rattle.formula.specs.declared.text.Compiled.{Compiled}
use Rattle.formula.specs.Tree.{ors, Tree}
use Rattle.formula.specs.Text.{issued_to, most_bytes}
use Rattle.formula.specs.Nodes.{list_of}
use Rattle.formula.specs.Internal.Reader.{read_text}

-- document 01: accepted, misspelt, too wide, void
pub data Outcome : Type 0 where
  accepted : Sum → Outcome
  malformed too_wide unsatisfiable : Outcome

-- too wide where some node does not fit, else unsatisfiable where the whole formula's list is empty
abbrev pub judge_list : Sum? → Outcome
judge_list None = too_wide
judge_list (Some []) = unsatisfiable
judge_list (Some (p ∷ ps)) = accepted (p ∷ ps)

-- malformed before all else: no text of the grammar, which one that is too long is not either
abbrev pub judge : Option (Tree ors) → Outcome
judge None = malformed
judge (Some t) = judge_list (list_of false t)

unfoldable pub outcome_of : Issued → List ℕ → Outcome
outcome_of i s = cond (leb (length s) most_bytes) (judge (read_text (issued_to i) s)) malformed

-- document 01's number of a refusal
abbrev pub refusal_number : Refusal → ℕ
refusal_number Malformed = 11
refusal_number TooWide = 12
refusal_number Unsatisfiable = 13

-- what refuses an outcome's text
abbrev pub refusal_in : Outcome → Option Refusal
refusal_in (accepted ps) = None
refusal_in malformed = Some Malformed
refusal_in too_wide = Some TooWide
refusal_in unsatisfiable = Some Unsatisfiable

-- its number; 0 of none
abbrev pub number_of_refusal : Outcome → ℕ
number_of_refusal o = or_default 0 refusal_number (refusal_in o)

abbrev pub sum_in : Outcome → Sum
sum_in (accepted ps) = ps
sum_in malformed = []
sum_in too_wide = []
sum_in unsatisfiable = []

-- the answer in arrays, every place of it: the products' rows, and blank rows after them; or the refusal alone
abbrev pub answered : Sum → Option Refusal → Result Compiled Refusal
answered ps None = Ok (record { count = length ps; rows = rows_of ps })
answered ps (Some r) = Err r

abbrev pub answer_of : Outcome → Result Compiled Refusal
answer_of o = answered (sum_in o) (refusal_in o)

abbrev pub compiled_of : Issued → List ℕ → Result Compiled Refusal
compiled_of i s = answer_of (outcome_of i s)
