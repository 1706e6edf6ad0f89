-- The rows so far, and what the rest of the table gives (`Gathering`).
use Rattle.rows.proofs.RowsMade.{Gathering}
use Rattle.rows.proofs.list.gather.Given as goal

abbrev pub invariant-loop-product : goal.invariant-loop-product
invariant-loop-product l = Gathering l.shown l.products l.listing l.last l.product-index
