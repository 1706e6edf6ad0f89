-- A row of a lock list in numbers, seven times three of them, and a listing in such rows.
use Rattle.std.specs.Prelude.{cond, List, [], ◌∷◌, map, ℕ, length, Option, None, Some}
use Rattle.product.specs.declared.literal.Key.{Key}
use Rattle.product.specs.declared.literal.Literal.{Literal}
use Rattle.product.specs.declared.literal.Literal.TheVariants.{Plain, Barred}
use Rattle.product.specs.Atom.{number_of}
use Rattle.formula.specs.Spelling.{letter_of}
use Rattle.base.specs.Conditions.{first_refusal}
use Rattle.model.specs.Answers.{Answer}
use Rattle.model.specs.State.{State}
use Rattle.model.specs.Cells.{Cells, state_of}
use Rattle.rows.specs.declared.row.Row.{Row}
use Rattle.rows.specs.Rows.{rows_for}
use Rattle.rows.specs.Listing.{list_conditions, Listed, listed_by, Lists}

-- the letter of a key as a text spells it, its number, and 1 where it is barred
abbrev pub key_numbers : Key → ℕ → List ℕ
key_numbers k barred = letter_of k ∷ number_of k ∷ barred ∷ []

abbrev pub literal_numbers : Literal → List ℕ
literal_numbers (Plain k) = key_numbers k 0
literal_numbers (Barred k) = key_numbers k 1

-- no letter is 0
abbrev pub slot_numbers : Option Literal → List ℕ
slot_numbers None = 0 ∷ 0 ∷ 0 ∷ []
slot_numbers (Some x) = literal_numbers x

-- the lock, its operations and 1 where it is a deny lock, and then each slot
abbrev pub row_numbers : Row → List (List ℕ)
row_numbers r = (r.lock ∷ r.operations ∷ cond r.deny 1 0 ∷ []) ∷ map slot_numbers r.keys

unfoldable pub listed_numbers : State → ℕ → ℕ → List (List (List ℕ)) → Listed (List (List ℕ))
listed_numbers d u s lent =
    listed_by (map row_numbers (rows_for d u s)) lent (first_refusal (list_conditions d u s (length lent)))

-- as `ListsLent`
abbrev pub ListsNumbers : (Cells → Cells) → ℕ → ℕ → List (List (List ℕ)) → Answer → List (List (List ℕ)) → Type 0
ListsNumbers lent u s rows r rows' = (d : Cells) → Lists (listed_numbers (state_of (lent d)) u s rows) r rows'
