-- Each key is made by its number, and the rest is read from the head.
use Rattle.std.proofs.Common.{rules}
use Rattle.std.specs.Prelude.{None}
use Rattle.rows.specs.Internal.{key_in}
use Rattle.rows.proofs.RowMade.{row_made, array_made}
use Rattle.rows.proofs.row.row_of.Goals as goal

pub returns : goal.returns
returns c =
    row_made c.args.shown c.args.cells.now (search rules)
    (array_made _ (key_in c.if-shown.n c.args.cells.now) _ (λ i y q k. search rules) None _ 6 c.from_fn.ensures.items) c.has.ensures
