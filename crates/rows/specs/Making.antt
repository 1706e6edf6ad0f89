-- What the row maker gives: the rows that are to be written, in an array, or a refusal.
use Rattle.std.specs.Prelude.{◌≡◌, false, List, [], ◌++◌, ℕ, ◌-◌, ◌≤◌, length, replicate, Result, Ok, Err, IfOk, Option, None, Some}
use Rattle.base.specs.Conditions.{first_refusal}
use Rattle.model.specs.declared.answer.Refusal.{Refusal}
use Rattle.model.specs.Limits.{most_standing}
use Rattle.model.specs.State.{State}
use Rattle.model.specs.Cells.{Cells, state_of}
use Rattle.rows.specs.declared.row.Row.{Row}
use Rattle.rows.specs.declared.list.Listing.{Listing}
use Rattle.rows.specs.Rows.{rows_for, slots_of}
use Rattle.rows.specs.Listing.{list_conditions}

-- a row that is not written
abbrev pub spare_row : Row
spare_row = record { lock = 0; operations = 0; deny = false; keys = slots_of [] }

abbrev pub listing_of : List Row → Listing
listing_of rows = record { count = length rows; rows = rows ++ replicate (most_standing - length rows) spare_row }

abbrev pub made_by : List Row → Option Refusal → Result Listing Refusal
made_by rows None = Ok (listing_of rows)
made_by rows (Some r) = Err r

unfoldable pub made_for : State → ℕ → ℕ → ℕ → Result Listing Refusal
made_for d u s lent = made_by (rows_for d u s) (first_refusal (list_conditions d u s lent))

pub record Makes (arrays : Cells → Cells) (u s lent : ℕ) (m : Result Listing Refusal) : Type 0 where
  pub made : (d : Cells) → m ≡ made_for (state_of (arrays d)) u s lent
  -- follow from it and the arrays' sizes, and are said so that callers find the bounds
  pub few : IfOk m (λ l. l.count ≤ most_standing)
  pub fit : IfOk m (λ l. l.count ≤ lent)
