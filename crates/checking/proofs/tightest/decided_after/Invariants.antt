-- Outer loop: what decides is what decides from row p on, with the longest grant row found before it. Inner loop: the
-- row opens exactly when the literals up to k agree.
use Prim.Native.Nat.{◌+◌}
use lib.ListN.{drop}
use Rattle.model.specs.Cells.{row_at}
use Rattle.checking.specs.Deciding.{keys_of}
use Rattle.checking.specs.Internal.{GrantHead, decided_from}
use Rattle.checking.proofs.LoopSteps.{Left, Deciding}
use Rattle.checking.proofs.tightest.decided_after.Given as goal

abbrev pub invariant-loop-k : goal.invariant-loop-k
invariant-loop-k l = Left (keys_of l.frames.thread.now) (row_at l.products l.p) l.k

abbrev pub invariant-products : goal.invariant-products
invariant-products l =
    GrantHead l.found
    × Deciding (decided_from (keys_of l.frames.thread.now) l.operation l.first (drop (l.from + 1) l.products)) (keys_of l.frames.thread.now) l.operation l.products l.found l.p
