-- Counts as they are read.
use Rattle.std.specs.Prelude.{◌≡◌, ℕ, ◌≤◌, min, length, take}
use Rattle.model.specs.Limits.{most_defined}
use Rattle.model.specs.Cells.{Row}

-- how many defined keys there are (document 01: D keys handed out), of the count that stands in the registry and the
-- array of their makers
pub record Handed (count : ℕ) (makers : Row) (r : ℕ) : Type 0 where
  pub keys : r ≡ length (take (min count most_defined) makers)
  pub low : r ≤ most_defined
