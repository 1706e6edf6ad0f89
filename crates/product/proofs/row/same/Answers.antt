-- What is left from place i on has the answer of the whole.
use borrow.Author.Rules.{rules}
use mathlib.Core.Path.{sym, ◌∙◌}
use native.Mathlib.Omega.{arith}
use Rattle.product.proofs.WideRows.{row_cons, row_past, rows_differ}
use Rattle.product.specs.Product.{same_product}
use Rattle.product.proofs.DerivedOrders.{unequal_same}
use Rattle.product.proofs.row.same.Goals as goal

pub returns-then-n-size : goal.returns-then-n-size
returns-then-n-size c = sym (rows_differ c.size-n.ensures c.size.ensures c.if-n-size.true)

pub returns-then-ne : goal.returns-then-ne
unfolding same_product
returns-then-ne c =
    let v = c.loop-i in
    let inside = c.loop-i-test.true in
    sym (v.invariant ∙ rw (
      row_cons c.size-n.ensures v.i inside,
      row_cons c.size.ensures v.i (omega (arith, inside, c.if-n-size.false)),
      ← c.from.ensures,
      ← c.from-in-loop-i.ensures,
      unequal_same c.from.result c.from-in-loop-i.result c.ne.ensures,
      c.if-ne.true,
    ))

pub loop-i-preserved : goal.loop-i-preserved
unfolding same_product
loop-i-preserved c =
    let v = c.loop-i in
    let inside = c.loop-i-test.true in
    v.invariant ∙ rw (
      row_cons c.size-n.ensures v.i inside,
      row_cons c.size.ensures v.i (omega (arith, inside, c.if-n-size.false)),
      ← c.from.ensures,
      ← c.from-in-loop-i.ensures,
      unequal_same c.from.result c.from-in-loop-i.result c.ne.ensures,
      c.if-ne.false,
    )

pub returns : goal.returns
unfolding same_product
returns c =
    let v = c.loop-i in
    sym (v.invariant ∙ rw (
      row_past c.size-n.ensures v.i (search rules),
      row_past c.size.ensures v.i (omega (arith, c.loop-i-test.false, c.if-n-size.false)),
    ))
