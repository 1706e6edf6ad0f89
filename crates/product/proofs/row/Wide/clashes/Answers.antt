-- What is left from place i on has the answer of the whole.
use mathlib.Core.Path.{sym, ap, ◌∙◌}
use lib.ListN.{drop}
use Rattle.product.proofs.Insertion.{wide_cons, wide_past}
use Rattle.product.specs.Product.{Product, clashes}
use Rattle.product.proofs.row.Wide.clashes.Goals as goal

pub returns-then-is_opposed_to : goal.returns-then-is_opposed_to
unfolding clashes
returns-then-is_opposed_to c =
    let v = c.loop-i in
    sym (v.invariant ∙ rw (wide_cons c.self.invariant v.i c.loop-i-test.true, ← c.from.ensures, ← c.is_opposed_to.ensures, c.if-is_opposed_to.true))
    ∙ ap (λ (p : Product). clashes c.args.x (drop c.args.from p)) c.self.view_is

pub loop-i-preserved : goal.loop-i-preserved
unfolding clashes
loop-i-preserved c =
    let v = c.loop-i in
    v.invariant ∙ rw (wide_cons c.self.invariant v.i c.loop-i-test.true, ← c.from.ensures, ← c.is_opposed_to.ensures, c.if-is_opposed_to.false)

pub returns : goal.returns
unfolding clashes
returns c =
    let v = c.loop-i in
    sym (v.invariant ∙ rw (wide_past c.self.invariant v.i c.loop-i-test.false))
    ∙ ap (λ (p : Product). clashes c.args.x (drop c.args.from p)) c.self.view_is
