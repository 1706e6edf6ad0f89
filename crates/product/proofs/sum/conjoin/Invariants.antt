-- What is left to add makes the total, a left product with all right ones at a turn.
use Rattle.std.specs.Prelude.{Some}
use mathlib.Core.Path.{◌≡◌}
use mathlib.Core.List.{[], map}
use lib.ListN.{take, drop}
use Rattle.product.specs.Cells.{product_of, products_of}
use Rattle.product.specs.Sum.{join_all}
use Rattle.product.specs.Internal.{add_each}
use Rattle.product.proofs.sum.conjoin.Given as goal

abbrev pub invariant-loop-p : goal.invariant-loop-p
invariant-loop-p l =
    let rights = products_of l.m l.right in
    add_each (Some []) (join_all (products_of l.n l.left) rights) ≡ add_each l.sum (join_all (map product_of (drop l.p-index (take l.n l.left))) rights)
