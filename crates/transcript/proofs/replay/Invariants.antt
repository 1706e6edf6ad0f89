-- The invariant is that some records are answered and the rest are left; the measure is the bytes that are left.
use Prim.Native.Nat.{◌-◌}
use lib.ListN.{length}
use Rattle.model.specs.Cells.{cells_with}
use Rattle.transcript.proofs.ReplayLoop.{ReplayLoop}
use Rattle.transcript.proofs.replay.Given as goal

abbrev pub invariant-loop-entry : goal.invariant-loop-entry
invariant-loop-entry l =
    ReplayLoop l.file (cells_with l.initial.registry l.initial.makers l.initial.segments l.initial.locks l.initial.threads) l.initial.buffer (cells_with l.registry l.makers l.segments l.locks l.threads) l.buffer l.at l.place l.used

abbrev pub decreases-loop-entry : goal.decreases-loop-entry
decreases-loop-entry l = length l.file - l.at
