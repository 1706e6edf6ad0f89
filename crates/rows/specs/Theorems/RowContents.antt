-- A row has all of a lock and of a product that fits: nothing is cut, and nothing is changed. Proved in
-- `proofs/RowContents.antt`.
use Rattle.std.specs.Prelude.{◌≡◌, cond, List, [], ◌∷◌, ℕ, ◌+◌, ◌≤◌, ◌<◌, length, Option, None, Some}
use Rattle.product.specs.declared.literal.Literal.{Literal}
use Rattle.product.specs.Product.{Product}
use Rattle.product.specs.Sum.{most_literals}
use Rattle.model.specs.Operations.{deny, operation_sets}
use Rattle.rows.specs.Rows.{list_row}

abbrev pub and_signed : Option Literal → Product → Product
and_signed None p = p
and_signed (Some x) p = x ∷ p

-- the signed keys of slots
abbrev pub signed_in : List (Option Literal) → Product
signed_in [] = []
signed_in (s ∷ ss) = and_signed s (signed_in ss)

-- the row of lock n with a set of operations and the keys of a product
pub record RowContents : Type 0 where
  pub lock : (n operations : ℕ) (p : Product) → (list_row n operations p).lock ≡ n
  -- 1, 2 and 4, and beside them whether there is an 8
  pub operations : (n operations : ℕ) (p : Product) → operations < operation_sets
      → (list_row n operations p).operations + cond (list_row n operations p).deny deny 0 ≡ operations
  pub beside : (n operations : ℕ) (p : Product) → (list_row n operations p).operations < deny
  -- the product's literals in its order, in six slots
  pub keys : (n operations : ℕ) (p : Product) → length p ≤ most_literals → signed_in (list_row n operations p).keys ≡ p
  pub six : (n operations : ℕ) (p : Product) → length p ≤ most_literals
      → length (list_row n operations p).keys ≡ most_literals
