-- The sum's rows, one after the other.
use Rattle.std.proofs.Common.{rules, tests, sym, ap, ◌∙◌}
use Rattle.std.proofs.lemmas.Iterator.{YieldsList-from_slice}
use Rattle.std.proofs.lemmas.Iterator.Search.{any_from_yields_List}
use lib.ListN.{take}
use Rattle.product.specs.Product.{opens}
use Rattle.product.specs.Cells.{product_of}
use Rattle.product.specs.Held.{held_by, opens_sum}
use Rattle.product.proofs.FilledRows.{sum_few}
use Rattle.product.proofs.KeySets.{opens_some}
use Rattle.product.proofs.held.opens.Goals as goal

pub returns-then-n-le-MOST_PRODUCTS : goal.returns-then-n-le-MOST_PRODUCTS
returns-then-n-le-MOST_PRODUCTS c =
    let a = c.args in
    let ρ = held_by a.keys.now in
    let rows = take a.n a.rows.now in
    any_from_yields_List (λ row. opens ρ (product_of row)) _ _ c.any.result c.any.ensures.ran (YieldsList-from_slice rows cc) (λ x b q k. search (rules, tests))
    ∙ opens_some ρ rows ∙ sym (ap (opens_sum ρ) (sum_few a.rows.now c.if-n-le-MOST_PRODUCTS.true))
