-- The remainder by 2 is the sign, and the half is the key's number.
use borrow.Author.Tests.{eq-eqb, ne_eqb}
use Rattle.product.specs.Code.{literal_at}
use Rattle.product.proofs.literal.LiteralFromU32.from.Goals as goal

pub returns-then-number-eq0 : goal.returns-then-number-eq0
unfolding literal_at
returns-then-number-eq0 c = simp (c.key_at-key.ensures, eq-eqb _ _ c.if-number-eq0.true)

pub returns-else-number-eq0 : goal.returns-else-number-eq0
unfolding literal_at
returns-else-number-eq0 c = simp (c.key_at-key.ensures, ne_eqb _ _ c.if-number-eq0.false)
