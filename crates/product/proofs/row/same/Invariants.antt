-- What is left from place i on has the answer of the whole.
use mathlib.Core.Path.{◌≡◌}
use lib.ListN.{drop}
use Rattle.product.specs.Cells.{product_of}
use Rattle.product.specs.Product.{same_product}
use Rattle.product.proofs.row.same.Given as goal

abbrev pub invariant-loop-i : goal.invariant-loop-i
invariant-loop-i l = same_product (product_of l.p) (product_of l.q) ≡ same_product (drop l.i (product_of l.p)) (drop l.i (product_of l.q))
