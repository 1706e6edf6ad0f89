-- What the crate's private functions promise each other. Nothing here is part of what a reader must believe.
use Rattle.std.specs.Prelude.{◌≡◌, Bool, cond, List, [], map, set, ℕ, ◌+◌, ◌≤◌, ltb, Option, None, Some}
use Rattle.product.specs.declared.literal.Literal.{Literal}
use Rattle.model.specs.Limits.{most_standing}
use Rattle.model.specs.State.{LockProduct}
use Rattle.model.specs.Cells.{Row as CellsRow, Table, cell, literal_in, product_in, used_rows}
use Rattle.rows.specs.declared.row.Row.{Row}
use Rattle.rows.specs.declared.list.Listing.{Listing}
use Rattle.rows.specs.Rows.{list_row, row_with_keys, row_without_keys, firsts_of}
use Rattle.rows.specs.Making.{listing_of}

-- key i of the n in the cells of a product row
unfoldable pub key_in : ℕ → CellsRow → ℕ → Option Literal
key_in n w i = cond (ltb i n) (Some (literal_in (cell w (i + 1)))) None

-- the row of a product, and where it isn't shown with the keys blank
unfoldable pub row_in : Bool → LockProduct → Row
row_in shown r = list_row r.lock r.operations (cond shown r.product [])

-- the rows of a segment's table
unfoldable pub gathered : Bool → Table → List Row
gathered shown t =
    let products = map product_in (used_rows t) in
    cond shown (map row_with_keys products) (map row_without_keys (firsts_of products))

-- a listing with a row more
abbrev pub with_row : Listing → Row → Listing
with_row l r = record { count = l.count + 1; rows = set l.rows l.count r }

pub record Gathered (shown : Bool) (t : Table) (l : Listing) : Type 0 where
  pub listing : l ≡ listing_of (gathered shown t)
  -- follows from it and the table's size, and is said so that callers find the bound
  pub few : l.count ≤ most_standing
