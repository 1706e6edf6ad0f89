-- What the guard's functions promise: the answer and every array afterwards are those of the definitions, whatever
-- numbers are in the arrays, with the compiler that there is.
use Rattle.std.specs.Prelude.{◌≡◌, List, ℕ}
use Rattle.formula.specs.Outcome.{outcome_of}
use Rattle.call.specs.declared.request.Request.{Request}
use Rattle.call.specs.Calls.{Call}
use Rattle.base.specs.Conditions.{first_refusal}
use Rattle.model.specs.Answers.{Answer}
use Rattle.model.specs.Refusals.{conditions}
use Rattle.model.specs.Cells.{Cells, state_of}
use Rattle.model.specs.Stores.{judged_cells, step_cells}

-- r is the answer and d are the arrays afterwards
pub record Gives (o : record { cells : Cells; answer : Answer }) (r : Answer) (d : Cells) : Type 0 where
  pub answer : r ≡ o.answer
  pub cells : d ≡ o.cells

-- what a well formed call on arrays d, with its text, leaves and answers
abbrev pub served : Cells → Request → List ℕ → record { cells : Cells; answer : Answer }
served d q text = judged_cells outcome_of d q text (first_refusal (conditions outcome_of (state_of d) q text))

-- r is its answer and d' are the arrays afterwards
abbrev pub Serves : Cells → Request → List ℕ → Answer → Cells → Type 0
Serves d q text r d' = Gives (served d q text) r d'

-- A function that is lent some of the arrays: `lent` puts what it is lent over any other arrays, and `changed` puts
-- what it leaves over those. Every array that `changed` does not name is as it was, and what the arrays that are not
-- lent hold makes no difference.
abbrev pub ServesText : (Cells → Cells) → Request → List ℕ → Answer → (Cells → Cells) → Type 0
ServesText lent q text r changed = (d : Cells) → Serves (lent d) q text r (changed (lent d))

-- of a call that has no text
abbrev pub ServesLent : (Cells → Cells) → Request → Answer → (Cells → Cells) → Type 0
ServesLent lent q r changed = (text : List ℕ) → ServesText lent q text r changed

-- any call
abbrev pub Answers : Cells → Call → Answer → Cells → Type 0
Answers d x r d' = Gives (step_cells outcome_of d x) r d'
