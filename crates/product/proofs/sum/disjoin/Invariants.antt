-- What is left to add makes the total.
use Rattle.std.specs.Prelude.{Some}
use mathlib.Core.Path.{◌≡◌}
use mathlib.Core.List.{[], ◌++◌, map}
use lib.ListN.{length, take, drop}
use Rattle.product.specs.Cells.{product_of}
use Rattle.product.specs.Internal.{add_each}
use Rattle.product.proofs.sum.disjoin.Given as goal

abbrev pub invariant-loop-p : goal.invariant-loop-p
invariant-loop-p l =
    let rows = take l.n l.left ++ take l.m l.right in
    add_each (Some []) (map product_of rows) ≡ add_each l.sum (map product_of (drop (length l.yielded) rows))
