-- By cases of the refusal: the rows that are filled are those before the lent ones that stay.
use Rattle.std.specs.Prelude.{Ok, Option, None, Some}
use mathlib.Core.Path.{◌≡◌, refl, sym, ap, ◌∙◌}
use mathlib.Core.List.{List, ◌++◌, map}
use Prim.Native.Nat.{ℕ}
use lib.ListN.{length, drop, length-map}
use lib.Seq.{take-append_seam}
use Rattle.base.specs.Conditions.{first_refusal}
use Rattle.model.specs.declared.answer.Refusal.{Refusal}
use Rattle.rows.specs.declared.row.Row.{Row}
use Rattle.rows.specs.Rows.{rows_for}
use Rattle.rows.specs.Listing.{list_conditions, listed_by, listed}
use Rattle.listing.specs.Numbers.{row_numbers, listed_numbers}
use Rattle.listing.specs.Theorems.InNumbers.{told, InNumbers}

abbrev Lent : Type 0
Lent = List (List (List ℕ))

by_case : (rows lent : List Row) (lent' : Lent) (o : Option Refusal)
    → listed_by (map row_numbers rows) lent' o ≡ told lent' (listed_by rows lent o).rows (listed_by rows lent o).answer
by_case rows lent lent' None =
    let n = length-map rows row_numbers in
    let t = sym (take-append_seam rows (drop (length rows) lent)) in
    λ i. record { answer = Ok (n i); rows = map row_numbers (t i) ++ drop (n i) lent' }
by_case rows lent lent' (Some r) = refl

pub in_numbers : InNumbers
unfolding listed listed_numbers
in_numbers d u s lent lent' e =
    ap (λ (n : ℕ). listed_by (map row_numbers (rows_for d u s)) lent' (first_refusal (list_conditions d u s n))) (sym e)
    ∙ by_case (rows_for d u s) lent lent' (first_refusal (list_conditions d u s (length lent)))
