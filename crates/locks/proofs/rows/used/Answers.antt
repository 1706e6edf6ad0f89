-- The place of the end, or all.
use native.Mathlib.Omega.{arith}
use Rattle.locks.proofs.UsedRows.{used_count}
use Rattle.locks.proofs.rows.used.Goals as goal

pub returns : goal.returns
returns c = used_count (omega arith) _ c.end.ensures c.unwrap_or.ensures
