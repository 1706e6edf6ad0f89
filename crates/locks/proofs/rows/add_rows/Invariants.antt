-- The rows so far are stored (`Adding`), and then the end.
use Rattle.locks.specs.Internal.{row_from}
use Rattle.locks.proofs.AddedRows.{Adding}
use Rattle.locks.proofs.rows.add_rows.Given as goal

abbrev pub invariant-loop-k : goal.invariant-loop-k
invariant-loop-k l = Adding l.initial.products l.from (row_from l.lock.number l.lock.operations.bits) l.compiled.rows l.k l.products
