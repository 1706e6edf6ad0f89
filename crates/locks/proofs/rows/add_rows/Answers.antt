-- The rows so far are stored (`Adding`), and then the end.
use borrow.Author.Rules.{rules}
use Rattle.locks.proofs.AddedRows.{adding_start, adding_next, adding_end}
use Rattle.locks.proofs.rows.add_rows.Goals as goal

pub loop-k-init : goal.loop-k-init
loop-k-init c = adding_start

pub loop-k-preserved : goal.loop-k-preserved
loop-k-preserved c = adding_next c.loop-k.invariant (search rules) c.row.ensures

pub returns : goal.returns
returns c = adding_end c.loop-k.invariant (search rules) (search rules) c.end_rows.ensures
