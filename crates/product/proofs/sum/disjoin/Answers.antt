-- What is left to add makes the total; and adding all is tidying their list.
use mathlib.Core.Path.{refl, sym, ap, ◌∙◌}
use mathlib.Core.List.{List, ◌++◌, map}
use Prim.Native.Nat.{ℕ, ◌+◌, ◌≤◌}
use native.Mathlib.Omega.{arith}
use Rattle.std.proofs.lemmas.List.{drop_more, length_push}
use Rattle.std.proofs.lemmas.Iterator.{YieldsList-from_slice}
use Rattle.std.proofs.lemmas.Iterator.Consumers.{YieldsList-from_chain, YieldsList-turn, YieldsList-end}
use lib.ListN.{length, take, drop, drop_of_length-le}
use Rattle.product.specs.Cells.{product_of}
use Rattle.product.specs.Internal.{add_to, add_each}
use Rattle.product.proofs.FilledRows.{disjoined}
use Rattle.product.proofs.sum.disjoin.Goals as goal

pub loop-p-preserved : goal.loop-p-preserved
unfolding add_each
loop-p-preserved c =
    let v = c.loop-p in
    let a = c.args in
    let p = c.in-Some.p in
    let rows = take a.n a.left.now ++ take a.m a.right.now in
    let i = length v.yielded in
    let t = YieldsList-turn (YieldsList-from_chain (YieldsList-from_slice (take a.n a.left.now) cc) (YieldsList-from_slice (take a.m a.right.now) cc) (cc) cc) v.yielded _ v.yielded_by _ _ p c.in-Some.is c.next.ensures.steps in
    rw (length_push v.yielded p, c.add.ensures, c.widen.ensures.product) (
    v.invariant
    ∙ ap (λ (qs : List (List ℕ)). add_each v.sum (map product_of qs)) (drop_more rows i p.now t.0)
    ∙ ap (λ (r : List ℕ). add_each (add_to v.sum (product_of r)) (map product_of (drop (i + 1) rows))) (sym t.1)
    )

pub returns : goal.returns
unfolding add_each
returns c =
    let v = c.loop-p in
    let a = c.args in
    let rows = take a.n a.left.now ++ take a.m a.right.now in
    let t = YieldsList-end (YieldsList-from_chain (YieldsList-from_slice (take a.n a.left.now) cc) (YieldsList-from_slice (take a.m a.right.now) cc) (cc) cc) v.yielded _ v.yielded_by _ _ c.in-None.is c.next.ensures.steps in
    let past : length rows ≤ length v.yielded = omega (arith, t.1) in
    disjoined a.left.now a.right.now a.n a.m c.if-n-gt-MOST_PRODUCTS.false c.if-m-gt-MOST_PRODUCTS.false
    (sym (v.invariant ∙ rw (drop_of_length-le rows past) refl)) c.store.ensures
