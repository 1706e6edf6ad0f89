-- Those asked are the used rows.
use Rattle.std.proofs.Common.{rules, tests, ◌∙◌}
use Rattle.std.proofs.lemmas.Iterator.{YieldsList-from_slice}
use Rattle.std.proofs.lemmas.Iterator.Search.{any_from_yields_List, YieldsList-from_take_while}
use Rattle.locks.specs.Internal.{is_of}
use Rattle.locks.proofs.UsedRows.{begins, row_asked}
use Rattle.locks.proofs.rows.has_row.Goals as goal

pub returns : goal.returns
returns c =
    any_from_yields_List (is_of c.args.lock) _ _ _ c.any.ensures.ran
    (YieldsList-from_take_while _ begins (YieldsList-from_slice c.args.products.now cc) c.take_while.ensures.closure
    c.take_while.ensures.done (λ x b q k. search (rules, tests)))
    (λ x b q k. search (rules, tests))
    ∙ row_asked c.args.lock c.args.products.now
