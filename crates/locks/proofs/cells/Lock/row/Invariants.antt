-- The row has the cells of the literals so far.
use Prim.Native.Nat.{◌+◌, ◌*◌}
use mathlib.Core.Path.{◌≡◌}
use Rattle.locks.proofs.LiteralCells.{with_literals}
use Rattle.locks.proofs.cells.Lock.row.Given as goal

abbrev pub invariant-loop-i : goal.invariant-loop-i
invariant-loop-i l = l.row ≡ with_literals (l.fn.self.number * 65536 + l.n * 16 + l.fn.self.operations.bits) l.cells l.i
