-- How a caller in C sees a lock list: one number, with the lent rows afterwards.
use Rattle.std.specs.Prelude.{◌≡◌, List, ℕ}
use Rattle.model.specs.Cells.{Cells, state_of}
use Rattle.rows.specs.Listing.{Listed}
use Rattle.listing.specs.Numbers.{listed_numbers}
use Rattle.abi.specs.Calls.{answer_code}

pub record TellsRows {X : Type 0} (o : Listed X) (r : ℕ) (rows' : List X) : Type 0 where
  pub number : r ≡ answer_code o.answer
  pub rows : rows' ≡ o.rows

-- as `ListsNumbers` of the listing's `Numbers`
abbrev pub TellsLocks : (Cells → Cells) → ℕ → ℕ → List (List (List ℕ)) → ℕ → List (List (List ℕ)) → Type 0
TellsLocks lent u s rows r rows' = (d : Cells) → TellsRows (listed_numbers (state_of (lent d)) u s rows) r rows'
