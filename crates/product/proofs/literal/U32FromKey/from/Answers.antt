-- Each kind adds 65,536 for every kind before it, and a number of 16 bits stays below that.
use borrow.Author.Rules.{rules}
use native.Mathlib.Omega.{arith}
use Rattle.product.specs.declared.literal.Key.TheVariants.{User, Thread, Segment, Defined}
use Rattle.product.proofs.Codes.{key_encoded}
use Rattle.product.proofs.literal.U32FromKey.from.Goals as goal

pub returns-in-User : goal.returns-in-User
returns-in-User c = key_encoded (User c.in-User.n) c.in-User.is (omega arith) (search rules)

pub returns-in-Thread : goal.returns-in-Thread
returns-in-Thread c = key_encoded (Thread c.in-Thread.n) c.in-Thread.is (omega arith) (search rules)

pub returns-in-Segment : goal.returns-in-Segment
returns-in-Segment c = key_encoded (Segment c.in-Segment.n) c.in-Segment.is (omega arith) (search rules)

pub returns-in-Defined : goal.returns-in-Defined
returns-in-Defined c = key_encoded (Defined c.in-Defined.n) c.in-Defined.is (omega arith) (search rules)
