-- What worked examples of rows are written with.
use Rattle.std.specs.Prelude.{true, false, List, [], ◌∷◌, ℕ, Option, None, Some}
use Rattle.product.specs.declared.literal.Literal.{Literal}
use Rattle.rows.specs.declared.row.Row.{Row}

abbrev pub blank : Option Literal
blank = None

abbrev pub signed : Literal → Option Literal
signed x = Some x

abbrev pub grant : ℕ → ℕ → List (Option Literal) → Row
grant lock operations keys = record { lock = lock; operations = operations; deny = false; keys = keys }

abbrev pub denial : ℕ → ℕ → List (Option Literal) → Row
denial lock operations keys = record { lock = lock; operations = operations; deny = true; keys = keys }

abbrev pub no_keys : List (Option Literal)
no_keys = blank ∷ blank ∷ blank ∷ blank ∷ blank ∷ blank ∷ []
