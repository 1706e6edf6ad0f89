-- What is stored fits the arrays: where every number of the arrays fits its cell, 16 bits of makers, segments and
-- threads and 32 bits of counts and lock rows, and the call's fields have 16 bits, it is so after the call, and an
-- accepted call's answer and a refusal's second number have 16 bits. So it is after every list of such calls from the
-- empty state. Proved in `proofs/Limits/Widths.antt`.
use Rattle.std.specs.Prelude.{◌≡◌, List, [], ◌∷◌, ℕ, ◌<◌, Ok, Err}
use Rattle.formula.specs.Outcome.{outcome_of}
use Rattle.formula.specs.Compiler.{Compiler, Laws}
use Rattle.formula.specs.Meaning.{Meaning}
use Rattle.call.specs.Calls.{Call}
use Rattle.model.specs.declared.answer.Refusal.{Refusal}
use Rattle.model.specs.Answers.{second_number}
use Rattle.model.specs.Cells.{Cells, Sized, cell, row_at, table_at}
use Rattle.model.specs.Stores.{step_cells}
use Rattle.model.specs.Replay.{reached}

abbrev pub word : ℕ
word = 65536

abbrev pub double_word : ℕ
double_word = 4294967296

pub record Fitting (d : Cells) : Type 0 where
  pub registry : (j : ℕ) → cell d.registry j < double_word
  pub makers : (j : ℕ) → cell d.makers j < word
  pub segments : (s i j : ℕ) → cell (row_at (table_at d.segments s) i) j < word
  pub locks : (s i j : ℕ) → cell (row_at (table_at d.locks s) i) j < double_word
  pub threads : (p i j : ℕ) → cell (row_at (table_at d.threads p) i) j < word

-- 'Fields a, b, c are 16-bit'
pub record Fields (x : Call) : Type 0 where
  pub a : x.a < word
  pub b : x.b < word
  pub c : x.c < word

pub record Contained (compile : Compiler) (d : Cells) (x : Call) : Type 0 where
  pub stored : Fitting (step_cells compile d x).cells
  pub answered : (n : ℕ) → (step_cells compile d x).answer ≡ Ok n → n < word
  pub refused : (r : Refusal) → (step_cells compile d x).answer ≡ Err r → second_number r < word

abbrev pub WidthsByLaws : Type 0
WidthsByLaws =
    (compile : Compiler) (holds : Meaning) → Laws compile holds → (d : Cells) → Sized d → Fitting d
    → (x : Call) → Fields x → Contained compile d x

-- every call of a list
abbrev pub AllFields : List Call → Type 0
AllFields [] = Unit {0}
AllFields (x ∷ xs) = Fields x × AllFields xs

pub record Widths : Type 0 where
  pub call : (d : Cells) → Sized d → Fitting d → (x : Call) → Fields x → Contained outcome_of d x
  pub list : (xs : List Call) → AllFields xs → Fitting (reached outcome_of xs)
