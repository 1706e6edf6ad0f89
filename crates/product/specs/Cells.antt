-- Sums in arrays. A product is a row of 8 cells: its literals as numbers from cell 0 on, in cell 7 how many they are, 0
-- elsewhere. A sum is 8 rows and the number of its products; a number above 8 says that it is too wide. Assumes
-- nothing.
use Rattle.std.specs.Prelude.{◌≡◌, cond, List, [], ◌∷◌, ◌++◌, map, ℕ, ◌-◌, min, leb, length, get_or, take, replicate, None, Some}
use Rattle.product.specs.Product.{Product}
use Rattle.product.specs.Sum.{Sum, Sum?, most_products, most_literals}
use Rattle.product.specs.Code.{code_of, literal_of}

abbrev pub row_cells : ℕ
row_cells = 8

abbrev pub count_cell : ℕ
count_cell = 7

-- the count of a sum that is too wide
abbrev pub too_wide_count : ℕ
too_wide_count = 9

-- the product that a row holds, whatever its numbers are
abbrev pub size_of : List ℕ → ℕ
size_of row = min (get_or row count_cell 0) most_literals

abbrev pub product_of : List ℕ → Product
product_of row = map literal_of (take (size_of row) row)

-- the sum that the first n rows hold
abbrev pub products_of : ℕ → List (List ℕ) → Sum
products_of n rows = map product_of (take n rows)

abbrev pub sum_of : ℕ → List (List ℕ) → Sum?
sum_of n rows = cond (leb n most_products) (Some (products_of n rows)) None

-- the cells of a product, and of a sum: every cell that is not used is 0
abbrev pub row_of : Product → List ℕ
row_of p = map code_of p ++ replicate (count_cell - length p) 0 ++ length p ∷ []

abbrev pub blank_row : List ℕ
blank_row = replicate row_cells 0

abbrev pub rows_of : Sum → List (List ℕ)
rows_of ps = map row_of ps ++ replicate (most_products - length ps) blank_row

abbrev pub cells_of : Sum? → List (List ℕ)
cells_of None = rows_of []
cells_of (Some ps) = rows_of ps

abbrev pub count_of : Sum? → ℕ
count_of None = too_wide_count
count_of (Some ps) = length ps

-- rows and a count are a sum's, cell by cell, and read as that sum
pub record HoldsSum (x : Sum?) (rows : List (List ℕ)) (n : ℕ) : Type 0 where
  pub cells : rows ≡ cells_of x
  pub count : n ≡ count_of x
  pub reads : sum_of n rows ≡ x
