-- Few keys one by one, many by the library's search.
use Rattle.std.proofs.Common.{rules, tests}
use Rattle.std.proofs.lemmas.Iterator.{YieldsList-from_slice}
use Rattle.std.proofs.lemmas.Iterator.Search.{any_from_yields_List}
use lib.Dec.{eqb}
use Rattle.product.proofs.KeySets.{any_held}
use Rattle.product.proofs.held.is_held.Goals as goal

pub returns-then-keys-lt-MANY_KEYS : goal.returns-then-keys-lt-MANY_KEYS
returns-then-keys-lt-MANY_KEYS c =
    let keys = c.args.keys.now in
    any_held keys c.args.key c.from-number.ensures
    (any_from_yields_List (λ y. eqb y c.from-number.result) _ _ c.any.result c.any.ensures.ran (YieldsList-from_slice keys cc) (λ x b q k. search (rules, tests)))

pub returns : goal.returns
returns c = any_held c.args.keys.now c.args.key c.from-number.ensures c.contains.ensures.value
