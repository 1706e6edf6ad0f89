-- The first digit says the kind.
use borrow.Author.Rules.{rules}
use Rattle.product.proofs.Codes.{user_at, thread_at_lem, segment_at_lem, defined_at}
use Rattle.product.proofs.literal.key_at.Goals as goal

pub returns-in-0 : goal.returns-in-0
returns-in-0 c = user_at _ c.in-0.is

pub returns-in-1 : goal.returns-in-1
returns-in-1 c = thread_at_lem _ c.in-1.is

pub returns-in-2 : goal.returns-in-2
returns-in-2 c = segment_at_lem _ c.in-2.is

pub returns-in_default : goal.returns-in_default
returns-in_default c = search (rules, defined_at)
