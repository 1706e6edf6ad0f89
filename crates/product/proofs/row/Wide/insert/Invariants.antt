-- The loop carries a literal upwards (`Placing`).
use Rattle.std.proofs.Common.{◌≡◌}
use Rattle.product.proofs.Insertion.{Placing}
use Rattle.product.proofs.row.Wide.insert.Given as goal

abbrev pub invariant-loop-i : goal.invariant-loop-i
invariant-loop-i l =
    let old = l.initial.self-inside in
    Placing l.fn.x old.size old.cells l.self-inside.cells l.carried l.i × (l.self-inside.size ≡ old.size)
