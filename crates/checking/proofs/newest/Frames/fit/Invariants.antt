-- The frames that were asked fit: those below the next one.
use Prim.Native.Nat.{ℕ, ◌<◌}
use Rattle.model.specs.Cells.{row_at}
use Rattle.checking.specs.Internal.{RowFits}
use Rattle.checking.proofs.newest.Frames.fit.Given as goal

abbrev pub invariant-loop-row : goal.invariant-loop-row
invariant-loop-row l = (j : ℕ) → 0 < j → j < l.row → RowFits (row_at l.self.thread.now j)
