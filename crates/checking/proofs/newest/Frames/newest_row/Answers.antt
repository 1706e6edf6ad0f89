-- The newest frame with the code is the newest of those still to be asked.
use native.Mathlib.Omega.{arith}
use borrow.Author.Rules.{rules}
use Rattle.checking.proofs.LoopSteps.{asked_hit, asked_miss, asked_end}
use Rattle.checking.proofs.newest.Frames.newest_row.Goals as goal

pub returns-then-contains : goal.returns-then-contains
returns-then-contains c =
    asked_hit c.loop-row.invariant.1 (omega arith) _ c.contains.ensures.value c.if-contains.true

pub loop-row-preserved : goal.loop-row-preserved
loop-row-preserved c =
    (search rules, asked_miss c.loop-row.invariant.1 (omega arith) _ c.contains.ensures.value c.if-contains.false)

pub returns : goal.returns
returns c = asked_end c.loop-row.invariant.1 (omega arith)
