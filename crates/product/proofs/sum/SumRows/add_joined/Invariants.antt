-- What is left to add makes the total.
use mathlib.Core.Path.{◌≡◌}
use mathlib.Core.List.{map}
use lib.ListN.{drop}
use Rattle.product.specs.Internal.{add_each}
use Rattle.product.specs.Cells.{product_of}
use Rattle.product.specs.Sum.{join_each}
use Rattle.product.proofs.sum.SumRows.add_joined.Given as goal

abbrev pub invariant-loop-q : goal.invariant-loop-q
invariant-loop-q l = add_each l.initial.self (join_each (product_of l.p) (map product_of l.more)) ≡ add_each l.self (join_each (product_of l.p) (map product_of (drop l.q-index l.more)))
