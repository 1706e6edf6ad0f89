-- The row's literals, one after the other.
use Rattle.std.proofs.Common.{rules, tests, ◌∙◌}
use Rattle.std.proofs.lemmas.Iterator.{YieldsList-from_slice}
use Rattle.std.proofs.lemmas.Iterator.Search.{all_from_yields_List}
use lib.ListN.{take}
use Rattle.product.specs.Atom.{agrees}
use Rattle.product.specs.Code.{literal_of}
use Rattle.product.specs.Held.{held_by}
use Rattle.product.specs.Cells.{size_of}
use Rattle.product.proofs.KeySets.{opens_all}
use Rattle.product.proofs.held.product_opens.Goals as goal

pub returns : goal.returns
returns c =
    let row = c.args.row.now in
    let ρ = held_by c.args.keys.now in
    let cells = take (size_of row) row in
    all_from_yields_List (λ x. agrees ρ (literal_of x)) _ _ c.all.result c.all.ensures.ran (YieldsList-from_slice cells cc) (λ x b q k. search (rules, tests))
    ∙ opens_all ρ cells
