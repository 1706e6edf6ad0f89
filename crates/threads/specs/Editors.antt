-- Request P4: who edits, as the function that N, K, G, T, L and D ask answers it.
use Rattle.std.specs.Prelude.{◌≡◌, ℕ, Ok, Err, Option, None, Some}
use Rattle.model.specs.Answers.{Answer}
use Rattle.model.specs.declared.answer.Refusal.TheVariants.{NoThread}
use Rattle.model.specs.State.{editor}
use Rattle.model.specs.Cells.{Cells, state_of}

-- the user, or 2
abbrev pub editor_answer : Option ℕ → Answer
editor_answer None = Err NoThread
editor_answer (Some u) = Ok u

-- r is the answer for thread n of a function that is lent some of the arrays, whatever the others hold, as in the
-- model's `Serving`
abbrev pub EditorLent : (Cells → Cells) → ℕ → Answer → Type 0
EditorLent lent n r = (d : Cells) → r ≡ editor_answer (editor (state_of (lent d)) n)
