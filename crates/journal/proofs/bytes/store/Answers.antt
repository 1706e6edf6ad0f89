-- The first i bytes are stored, and the next one is.
use Rattle.journal.proofs.StoredBytes.{store_more}
use Rattle.journal.proofs.bytes.store.Goals as goal

pub loop-i-preserved : goal.loop-i-preserved
loop-i-preserved c = store_more _ _ _ _ _ c.loop-i-test.true c.loop-i.invariant
