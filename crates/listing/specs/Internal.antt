-- What the crate's private functions promise each other. Nothing here is part of what a reader must believe.
use Rattle.std.specs.Prelude.{List, ◌++◌, map, ℕ, length, take, drop}
use Rattle.base.specs.Conditions.{first_refusal}
use Rattle.model.specs.Answers.{Answer}
use Rattle.model.specs.State.{State}
use Rattle.model.specs.Cells.{Cells, state_of}
use Rattle.rows.specs.declared.row.Row.{Row}
use Rattle.rows.specs.Rows.{rows_for}
use Rattle.rows.specs.Listing.{list_conditions, Listed, listed_by, Lists}

-- the first i elements of xs, and then ys's
abbrev pub midway : {X : Type 0} → List X → List X → ℕ → List X
midway xs ys i = take i xs ++ drop i ys

-- a listing in rows of any form
abbrev pub listed_as : {X : Type 0} → (Row → X) → State → ℕ → ℕ → List X → Listed X
listed_as told d u s lent =
    listed_by (map told (rows_for d u s)) lent (first_refusal (list_conditions d u s (length lent)))

abbrev pub ListsTold : {X : Type 0} → (Row → X) → (Cells → Cells) → ℕ → ℕ → List X → Answer → List X → Type 0
ListsTold told lent u s rows r rows' = (d : Cells) → Lists (listed_as told (state_of (lent d)) u s rows) r rows'
