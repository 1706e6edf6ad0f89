-- The newest frame with the code is the newest of those still to be asked.
use Prim.Native.Nat.{◌≤◌}
use Rattle.model.specs.Cells.{depth_of}
use Rattle.checking.specs.Internal.{newest_row}
use Rattle.checking.proofs.LoopSteps.{Asked}
use Rattle.checking.proofs.newest.Frames.newest_row.Given as goal

abbrev pub invariant-loop-row : goal.invariant-loop-row
invariant-loop-row l = (l.row ≤ 16) × Asked (newest_row l.self.thread.now (depth_of l.self.thread.now) l.code) l.self.thread.now l.code l.row
