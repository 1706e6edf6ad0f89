-- Document 02, P1: the rows of a segment's lock list, and who gets which.
use Rattle.std.specs.Prelude.{not, cond, List, [], ◌∷◌, ◌++◌, map, ℕ, ◌-◌, ◌%◌, length, take, replicate, Option, None, Some}
use Rattle.product.specs.declared.literal.Literal.{Literal}
use Rattle.product.specs.Product.{Product}
use Rattle.product.specs.Sum.{most_literals}
use Rattle.base.specs.Lists.{keep_if}
use Rattle.model.specs.Operations.{deny, includes}
use Rattle.model.specs.State.{LockProduct, State, segment_at, owns, is_of_lock}
use Rattle.rows.specs.declared.row.Row.{Row}

-- ---- a row

-- The signed keys in the product's order, and blank slots after them. No product that a call stores has more literals
-- than a row has slots (`short` of the compiler's `Kept`).
abbrev pub slots_of : Product → List (Option Literal)
slots_of p = map (λ x. Some x) (take most_literals p) ++ replicate (most_literals - length p) None

-- 'the lock's number, operations, grant or deny and the signed keys': operations are 1, 2 and 4, deny stands by itself
abbrev pub list_row : ℕ → ℕ → Product → Row
list_row lock operations p =
    record { lock = lock; operations = operations % deny; deny = includes operations deny; keys = slots_of p }

-- the row of a product, and 'the keys blank'
abbrev pub row_with_keys : LockProduct → Row
row_with_keys r = list_row r.lock r.operations r.product

abbrev pub row_without_keys : LockProduct → Row
row_without_keys r = list_row r.lock r.operations []

-- ---- the rows for a user

-- each lock's first product: a lock's products stand together, so it is the one that is not of the lock before it
abbrev pub firsts_after : ℕ → List LockProduct → List LockProduct
firsts_after n [] = []
firsts_after n (r ∷ rs) = keep_if (not (is_of_lock n r)) r (firsts_after r.lock rs)

abbrev pub firsts_of : List LockProduct → List LockProduct
firsts_of [] = []
firsts_of (r ∷ rs) = r ∷ firsts_after r.lock rs

-- 'The owner gets one row for each product, by lock number and then in the formula's list order .. Anyone else gets one
-- such row for each standing lock, by number, the keys blank.' In these orders the products are stored: `FromHistory`.
unfoldable pub rows_for : State → ℕ → ℕ → List Row
rows_for d u s =
    let products = (segment_at d s).products in
    cond (owns d u s) (map row_with_keys products) (map row_without_keys (firsts_of products))
