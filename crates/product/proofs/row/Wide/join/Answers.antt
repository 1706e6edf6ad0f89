-- The loop puts the second row's literals among the first's, one by one (`Uniting`).
use Rattle.product.proofs.WideRows.{uniting_next, uniting_end}
use Rattle.product.proofs.row.Wide.join.Goals as goal

pub loop-i-preserved : goal.loop-i-preserved
loop-i-preserved c =
    uniting_next c.size-i-end.ensures c.loop-i.invariant c.loop-i-test.true c.from.ensures c.insert.ensures.product c.insert.ensures.few

pub returns : goal.returns
returns c = uniting_end c.size-i-end.ensures c.loop-i.invariant c.loop-i-test.false
