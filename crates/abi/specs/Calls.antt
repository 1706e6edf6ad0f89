-- How a caller in C sees an answer of the guard: one number, with the arrays afterwards.
use Rattle.std.specs.Prelude.{◌≡◌, List, ℕ, ◌+◌, ◌*◌}
use Rattle.call.specs.declared.request.Request.{Request}
use Rattle.model.specs.Answers.{Answer}
use Rattle.model.specs.Answers.{answer_number, answer_value}
use Rattle.model.specs.Cells.{Cells}
use Rattle.model.specs.Serving.{served}

-- its number and its value in one: an accepted call's answer, and above every answer a refusal's two numbers
abbrev pub answer_code : Answer → ℕ
answer_code r = answer_number r * 65536 + answer_value r

pub record Tells (o : record { cells : Cells; answer : Answer }) (r : ℕ) (d : Cells) : Type 0 where
  pub number : r ≡ answer_code o.answer
  pub cells : d ≡ o.cells

-- as `ServesLent` of the model's `Serving`
abbrev pub TellsLent : (Cells → Cells) → Request → ℕ → (Cells → Cells) → Type 0
TellsLent lent q r changed = (text : List ℕ) (d : Cells) → Tells (served (lent d) q text) r (changed (lent d))
