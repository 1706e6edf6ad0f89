-- Outer loop: what decides is what decides from row p on, with no grant row found before it. Inner loop: the row opens
-- exactly when the literals up to k agree.
use Rattle.model.specs.Cells.{row_at}
use Rattle.checking.specs.Deciding.{keys_of}
use Rattle.checking.specs.Internal.{opening_of}
use Rattle.checking.proofs.LoopSteps.{Left, Deciding}
use Rattle.checking.proofs.opening.Given as goal

abbrev pub invariant-loop-k : goal.invariant-loop-k
invariant-loop-k l = Left (keys_of l.frames.thread.now) (row_at l.products l.p) l.k

abbrev pub invariant-products : goal.invariant-products
invariant-products l = Deciding (opening_of l.thread l.products l.operation) (keys_of l.frames.thread.now) l.operation l.products 0 l.p
