-- The first digit says the kind.
use native.Mathlib.Omega.{arith}
use Rattle.abi.proofs.KeyNumbers.{thread_read, segment_read, defined_read, other_read}
use Rattle.abi.proofs.key_search.key_read.Goals as goal

pub returns-in-1 : goal.returns-in-1
returns-in-1 c = thread_read _ c.in-1.is

pub returns-in-2 : goal.returns-in-2
returns-in-2 c = segment_read _ c.in-2.is

pub returns-in-3 : goal.returns-in-3
returns-in-3 c = defined_read _ c.in-3.is

pub returns-in_default : goal.returns-in_default
returns-in_default c = other_read _ (omega arith) (omega arith) (omega arith)
