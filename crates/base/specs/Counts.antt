-- A count that stands in a cell, read as no more than its limit.
use Rattle.std.specs.Prelude.{◌≡◌, ℕ, ◌≤◌, min}

-- one that stands in a cell, as no more than its limit
pub record Counted (x most r : ℕ) : Type 0 where
  pub count : r ≡ min x most
  -- follows from it, and is said so that callers find the bound
  pub low : r ≤ most
