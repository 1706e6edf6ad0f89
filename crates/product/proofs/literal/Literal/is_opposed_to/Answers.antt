-- By the keys, and by the literals where those are equal.
use Rattle.product.proofs.DerivedOrders.{opposed_same, opposed_other}
use Rattle.product.proofs.literal.Literal.is_opposed_to.Goals as goal

pub returns-then-eq : goal.returns-then-eq
returns-then-eq c = opposed_same c.args.self c.args.other c.key.ensures c.key-2.ensures c.eq.ensures c.if-eq.true c.ne.ensures

pub returns-else-eq : goal.returns-else-eq
returns-else-eq c = opposed_other c.args.self c.args.other c.key.ensures c.key-2.ensures c.eq.ensures c.if-eq.false
