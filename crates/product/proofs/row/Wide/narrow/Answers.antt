-- The first six cells, a 0 and the count are the product's row, since the cells beyond are 0.
use Rattle.std.proofs.Common.{arith}
use Rattle.product.proofs.Insertion.{view_length}
use Rattle.product.proofs.WideRows.{narrowed}
use Rattle.product.proofs.row.Wide.narrow.Goals as goal

pub returns : goal.returns
returns c =
    let n = view_length c.self.invariant c.self.view_is in
    rw c.self.view_is at (narrowed (omega (arith, n, c.requires)) c.self.invariant)
