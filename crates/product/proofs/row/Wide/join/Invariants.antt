-- The loop puts the second row's literals among the first's, one by one (`Uniting`).
use Rattle.product.proofs.WideRows.{Uniting}
use Rattle.product.specs.Cells.{product_of}
use Rattle.product.proofs.row.Wide.join.Given as goal

abbrev pub invariant-loop-i : goal.invariant-loop-i
invariant-loop-i l = Uniting (product_of l.p) l.q l.joined l.i
