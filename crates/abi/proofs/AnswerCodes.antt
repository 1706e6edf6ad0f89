-- An answer as a number, and the number taken apart again.
use mathlib.Core.Path.{◌≡◌, ap, ◌∙◌}
use mathlib.Core.List.{List}
use Prim.Native.Nat.{ℕ, ◌+◌, ◌*◌, ◌/◌, ◌%◌, ◌<◌}
use native.Mathlib.Omega.{arith}
use Rattle.model.specs.Answers.{Answer}
use Rattle.model.specs.Cells.{Cells}
use Rattle.model.specs.Serving.{Gives}
use Rattle.rows.specs.Listing.{Listed, Lists}
use Rattle.abi.specs.Calls.{answer_code, Tells}
use Rattle.abi.specs.LockList.{TellsRows}

pub tells : (o : record { cells : Cells; answer : Answer }) (r : Answer) (d : Cells) (n : ℕ) → Gives o r d → n ≡ answer_code r → Tells o n d
tells o r d n g e = record { number = e ∙ ap answer_code g.answer; cells = g.cells }

pub tells_rows : {X : Type 0} {o : Listed X} {r : Answer} {n : ℕ} {rows : List X} → Lists o r rows → n ≡ answer_code r → TellsRows o n rows
tells_rows g e = record { number = e ∙ ap answer_code g.answer; rows = g.rows }

pub taken_apart : (m n : ℕ) → n < 65536 → ((m * 65536 + n) / 65536 ≡ m) × ((m * 65536 + n) % 65536 ≡ n)
taken_apart m n h = (omega arith, omega arith)
