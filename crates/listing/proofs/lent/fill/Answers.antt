-- The first i rows are told, and the next one is.
use Rattle.std.proofs.Common.{rules}
use Rattle.listing.proofs.MidwayRows.{midway_more}
use Rattle.listing.proofs.lent.fill.Goals as goal

pub loop-i-preserved : goal.loop-i-preserved
loop-i-preserved g c = midway_more g.R.LentRow.told c.args.made.now c.args.rows.now c.loop-i.i _ c.loop-i.invariant c.tell.ensures c.loop-i-test.true (search rules)
