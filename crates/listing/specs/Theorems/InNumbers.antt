-- A listing in numbers is the listing: the same answer, the rows that it fills in numbers, and the lent rows beyond. So
-- what `rows` promises of a listing, a caller in C has. Proved in `proofs/InNumbers.antt`.
use Rattle.std.specs.Prelude.{◌≡◌, List, ◌++◌, map, ℕ, length, take, drop, Ok, Err}
use Rattle.model.specs.Answers.{Answer}
use Rattle.model.specs.State.{State}
use Rattle.rows.specs.declared.row.Row.{Row}
use Rattle.rows.specs.Listing.{Listed, listed}
use Rattle.listing.specs.Numbers.{row_numbers, listed_numbers}

abbrev pub told : List (List (List ℕ)) → List Row → Answer → Listed (List (List ℕ))
told lent rows (Ok n) = record { answer = Ok n; rows = map row_numbers (take n rows) ++ drop n lent }
told lent rows (Err r) = record { answer = Err r; rows = lent }

abbrev pub InNumbers : Type 0
InNumbers =
    (d : State) (u s : ℕ) (lent : List Row) (lent' : List (List (List ℕ))) → length lent ≡ length lent'
    → listed_numbers d u s lent' ≡ told lent' (listed d u s lent).rows (listed d u s lent).answer
