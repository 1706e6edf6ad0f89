-- What is left from place i on has the answer of the whole.
use mathlib.Core.Path.{sym, ap, ◌∙◌}
use Rattle.product.proofs.Insertion.{wide_cons, wide_past}
use Rattle.product.specs.Product.{contradictory}
use Rattle.product.proofs.row.Wide.is_contradictory.Goals as goal

pub returns-then-clashes : goal.returns-then-clashes
unfolding contradictory
returns-then-clashes c =
    let v = c.loop-i in
    sym (v.invariant ∙ rw (wide_cons c.self.invariant v.i c.loop-i-test.true, ← c.from.ensures, c.self.view_is, ← c.clashes.ensures, c.if-clashes.true))
    ∙ ap contradictory c.self.view_is

pub loop-i-preserved : goal.loop-i-preserved
unfolding contradictory
loop-i-preserved c =
    let v = c.loop-i in
    v.invariant ∙ rw (wide_cons c.self.invariant v.i c.loop-i-test.true, ← c.from.ensures, c.self.view_is, ← c.clashes.ensures, c.if-clashes.false)

pub returns : goal.returns
unfolding contradictory
returns c =
    let v = c.loop-i in
    sym (v.invariant ∙ rw (wide_past c.self.invariant v.i c.loop-i-test.false)) ∙ ap contradictory c.self.view_is
