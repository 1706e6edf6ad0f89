-- The loop copies: below i the cells are the numbers of the row's literals, from i on they are 0 (`Copied`).
use Rattle.product.proofs.WideRows.{Copied}
use Rattle.product.proofs.row.Wide.widen.Given as goal

abbrev pub invariant-loop-i : goal.invariant-loop-i
invariant-loop-i l = Copied l.row l.cells l.i
