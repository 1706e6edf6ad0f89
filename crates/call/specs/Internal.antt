-- What the crate's private functions promise each other. Nothing here is part of what a reader must believe.
use Rattle.std.specs.Prelude.{cond, List, [], ◌∷◌, ℕ, eqb, Option, None, Some}
use Rattle.call.specs.declared.request.Request.{Request}
use Rattle.call.specs.Calls.{TableRow, table}

-- a line of the table: the request, and how many of the fields it names; none of an unknown letter
abbrev pub Line : Type 0
Line = Option (Request × ℕ)

-- the line of a letter
abbrev pub line_in : List TableRow → ℕ → Line
line_in [] letter = None
line_in (r ∷ rs) letter = cond (eqb letter r.letter) (Some (r.request, r.named)) (line_in rs letter)

unfoldable pub line_of : ℕ → ℕ → ℕ → ℕ → Line
line_of letter a b c = line_in (table a b c) letter
