-- The row has the cells of the literals so far.
use borrow.Author.Rules.{rules}
use native.Mathlib.Omega.{arith}
use Rattle.locks.proofs.LiteralCells.{no_literals, next_literal, row_made}
use Rattle.locks.proofs.cells.Lock.row.Goals as goal

pub loop-i-init : goal.loop-i-init
loop-i-init c = no_literals _ _

pub loop-i-preserved : goal.loop-i-preserved
loop-i-preserved c = next_literal _ _ _ c.loop-i.invariant (omega (arith, c.min-n.ensures, c.loop-i-test.true)) (search rules)

pub returns : goal.returns
returns c = row_made _ _ _ c.min-n.ensures c.loop-i.invariant (search rules)
