-- The loop keeps what it has seen of the list (`Removing`).
use Rattle.segments.proofs.RemovedKey.{Removing}
use Rattle.segments.proofs.list.without.Given as goal

abbrev pub invariant-loop-x : goal.invariant-loop-x
invariant-loop-x l = Removing l.list l.code l.cells l.count l.x-index
