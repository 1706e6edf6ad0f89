-- Pairs of key and sign compare as literals do.
use Rattle.product.proofs.DerivedOrders.{before_pairs}
use Rattle.product.proofs.literal.Literal.is_before.Goals as goal

pub returns : goal.returns
returns c = before_pairs c.args.self c.args.other c.key.ensures c.key-2.ensures c.sign.ensures c.sign-2.ensures c.lt.ensures
