-- What is stored as numbers is read back: a literal whose key has a number of 16 bits, a product of such literals that
-- fits a row, and a sum of such products that fits 8 rows. Proved in `proofs/StoredSums.antt`.
use Rattle.std.specs.Prelude.{◌≡◌, ℕ, ◌≤◌, ◌<◌, length, Some}
use Rattle.product.specs.declared.literal.Literal.{Literal}
use Rattle.product.specs.Product.{Product, All}
use Rattle.product.specs.Sum.{Sum, most_products, most_literals}
use Rattle.product.specs.Code.{code_of, literal_at, literal_of, code_limit, Numbered}
use Rattle.product.specs.Cells.{product_of, row_of, sum_of, rows_of}

-- the two readings of a number agree where a literal's number can be
abbrev pub SameReading : Type 0
SameReading = (x : ℕ) → x < code_limit → literal_of x ≡ literal_at x

abbrev pub LiteralBack : Type 0
LiteralBack = (x : Literal) → Numbered x → literal_of (code_of x) ≡ x

pub record Storable (p : Product) : Type 0 where
  pub short : length p ≤ most_literals
  pub numbers : All Numbered p

abbrev pub ProductBack : Type 0
ProductBack = (p : Product) → Storable p → product_of (row_of p) ≡ p

abbrev pub SumBack : Type 0
SumBack = (ps : Sum) → length ps ≤ most_products → All Storable ps → sum_of (length ps) (rows_of ps) ≡ Some ps
