-- The rows, one after the other.
use Rattle.std.proofs.Common.{rules, tests, ◌∙◌}
use Rattle.std.proofs.lemmas.Iterator.{YieldsList-from_slice}
use Rattle.std.proofs.lemmas.Iterator.Search.{any_from_yields_List}
use Rattle.product.specs.Product.{same_product}
use Rattle.product.specs.Cells.{product_of}
use Rattle.product.proofs.FilledRows.{present_some}
use Rattle.product.proofs.sum.is_present.Goals as goal

pub returns : goal.returns
returns c =
    let p = product_of c.args.row.now in
    let rows = c.args.rows.now in
    any_from_yields_List (λ row. same_product p (product_of row)) _ _ c.any.result c.any.ensures.ran (YieldsList-from_slice rows cc) (λ x b q k. search (rules, tests))
    ∙ present_some p rows
