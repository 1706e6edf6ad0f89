-- What the crate's private functions promise each other. Nothing here is part of what a reader must believe.
use Rattle.std.specs.Prelude.{◌≡◌, cond, ◌||◌, List, [], ◌∷◌, ◌++◌, map, ℕ, ◌-◌, ◌≤◌, ◌<◌, length, get_or, take, drop, replicate, None, Some}
use Rattle.product.specs.Product.{Product, contradictory}
use Rattle.product.specs.Sum.{Sum, Sum?, most_products, most_literals, cap, present}
use Rattle.product.specs.Code.{literal_of, code_limit}
use Rattle.product.specs.Cells.{row_cells, too_wide_count, size_of, product_of, products_of, row_of, rows_of}

-- a count that is clamped, of a row of 8 cells
pub record Size (row : List ℕ) (n : ℕ) : Type 0 where
  pub size : n ≡ size_of row
  pub small : n ≤ most_literals
  pub cells : length row ≡ row_cells

-- two products are joined in sixteen cells, which have the literals of both
abbrev pub wide_cells : ℕ
wide_cells = 16

abbrev pub most_joined : ℕ
most_joined = 12

-- the product that the first n of sixteen cells hold
abbrev pub wide_of : ℕ → List ℕ → Product
wide_of n cells = map literal_of (take n cells)

-- a sum with p at its end, unless p is contradictory or there already; with each of several
unfoldable pub add : Sum → Product → Sum
add ps p = cond (contradictory p || present p ps) ps (ps ++ p ∷ [])

abbrev pub add_to : Sum? → Product → Sum?
add_to None p = None
add_to (Some ps) p = cap (add ps p)

unfoldable pub add_each : Sum? → Sum → Sum?
add_each x [] = x
add_each x (p ∷ ps) = add_each (add_to x p) ps

-- rows being filled: n products, or 9 where they are too wide; up to 8 they are the cells of the sum that they read as
pub record Clean (rows : List (List ℕ)) (n : ℕ) : Type 0 where
  pub bound : n ≤ too_wide_count
  pub cells : n ≤ most_products → rows ≡ rows_of (products_of n rows)

-- sixteen cells that hold the numbers of n literals, and 0 elsewhere
pub record Blank (cells : List ℕ) (n : ℕ) : Type 0 where
  pub most : n ≤ most_joined
  pub rest : drop n cells ≡ replicate (wide_cells - n) 0
  pub coded : (j : ℕ) → j < n → get_or cells j 0 < code_limit

-- a row of the product p
pub record Row (p : Product) (row : List ℕ) : Type 0 where
  pub cells : row ≡ row_of p
  pub product : product_of row ≡ p
