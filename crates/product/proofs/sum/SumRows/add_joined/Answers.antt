-- What is left to add makes the total.
use mathlib.Core.Path.{refl, sym, ◌∙◌}
use mathlib.Core.List.{[]}
use Rattle.std.proofs.lemmas.List.{drop_more}
use lib.ListN.{drop_of_length-le}
use Rattle.product.specs.Sum.{join_each}
use Rattle.product.specs.Internal.{add_each}
use Rattle.product.proofs.sum.SumRows.add_joined.Goals as goal

pub loop-q-preserved : goal.loop-q-preserved
unfolding add_each join_each
loop-q-preserved c =
    let v = c.loop-q in
    v.invariant ∙ rw (drop_more c.args.more.now v.q-index [] c.loop-q-test.true, c.add.ensures, c.join.ensures) refl

pub returns : goal.returns
unfolding add_each join_each
returns c = sym (c.loop-q.invariant ∙ rw (drop_of_length-le c.args.more.now c.loop-q-test.false) refl)
