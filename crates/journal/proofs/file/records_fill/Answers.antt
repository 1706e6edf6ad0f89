-- A record more is read.
use Rattle.journal.proofs.RecordSizes.{turn}
use Rattle.journal.proofs.file.records_fill.Goals as goal

pub loop-preserved : goal.loop-preserved
loop-preserved c = turn _ _ _ _ _ c.loop.invariant c.loop-test.true _ c.in-Some.ensures
