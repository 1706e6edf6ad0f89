-- The used rows that stay are closed up, and the end is marked (`dropped`).
use Rattle.locks.proofs.KeptRows.{dropped}
use Rattle.locks.proofs.rows.drop_rows.Goals as goal

pub returns : goal.returns
returns c = dropped c.used-n.ensures c.close_up-kept.ensures c.end_rows.ensures
