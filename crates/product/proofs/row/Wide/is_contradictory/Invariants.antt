-- What is left from place i on has the answer of the whole.
use mathlib.Core.Path.{◌≡◌}
use lib.ListN.{drop}
use Rattle.product.specs.Product.{contradictory}
use Rattle.product.specs.Internal.{wide_of}
use Rattle.product.proofs.row.Wide.is_contradictory.Given as goal

abbrev pub invariant-loop-i : goal.invariant-loop-i
invariant-loop-i l = let p = wide_of l.self-inside.size l.self-inside.cells in contradictory p ≡ contradictory (drop l.i p)
