-- The loop copies: below i the cells are the numbers of the row's literals, from i on they are 0 (`Copied`).
use Rattle.std.proofs.Common.{arith}
use Rattle.product.proofs.WideRows.{copied_next, copied_all}
use Rattle.product.proofs.Insertion.{wide_length}
use Rattle.product.proofs.row.Wide.widen.Goals as goal

pub loop-i-preserved : goal.loop-i-preserved
loop-i-preserved c = copied_next c.size-size.ensures c.loop-i-test.true c.from.ensures c.from-in-loop-i.ensures c.loop-i.invariant

pub invariant_of-result : goal.invariant_of-result
invariant_of-result c = (copied_all c.size-size.ensures c.loop-i.auto.i-end c.loop-i-test.false c.loop-i.invariant).blank

pub returns : goal.returns
returns c =
    let all = copied_all c.size-size.ensures c.loop-i.auto.i-end c.loop-i-test.false c.loop-i.invariant in
    record { product = all.product; few = omega (arith, wide_length all.blank, all.few) }
