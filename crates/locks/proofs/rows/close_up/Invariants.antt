-- The rows so far are closed up (`ClosedUp`).
use Rattle.locks.specs.Internal.{ClosedUp}
use Rattle.locks.proofs.rows.close_up.Given as goal

abbrev pub invariant-loop-from : goal.invariant-loop-from
invariant-loop-from l = ClosedUp l.lock l.from l.initial.products l.products l.to
