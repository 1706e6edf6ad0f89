-- What is left to add makes the total, a left product with all right ones at a turn; and adding all is tidying their
-- list.
use mathlib.Core.Path.{refl, sym, ◌∙◌}
use mathlib.Core.List.{[], map}
use Prim.Native.Nat.{◌+◌}
use Rattle.std.proofs.lemmas.List.{drop_more}
use lib.ListN.{get_or, take, drop, drop_of_length-le}
use Rattle.product.specs.Cells.{product_of, products_of}
use Rattle.product.specs.Sum.{join_each, join_all}
use Rattle.product.specs.Internal.{add_each}
use Rattle.product.proofs.FilledRows.{each_append, conjoined}
use Rattle.product.proofs.sum.conjoin.Goals as goal

pub loop-p-preserved : goal.loop-p-preserved
unfolding join_all
loop-p-preserved c =
    let v = c.loop-p in
    let a = c.args in
    let left = take a.n a.left.now in
    let rights = products_of a.m a.right.now in
    v.invariant
    ∙ rw (drop_more left v.p-index [] c.loop-p-test.true, c.add_joined.ensures)
    (each_append v.sum (join_each (product_of (get_or left v.p-index [])) rights) (join_all (map product_of (drop (v.p-index + 1) left)) rights))

pub returns : goal.returns
unfolding add_each join_all
returns c =
    let a = c.args in
    conjoined a.left.now a.right.now a.n a.m c.if-n-gt-MOST_PRODUCTS.false c.if-m-gt-MOST_PRODUCTS.false
    (sym (c.loop-p.invariant ∙ rw (drop_of_length-le (take a.n a.left.now) c.loop-p-test.false) refl)) c.store.ensures
