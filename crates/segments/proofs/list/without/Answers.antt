-- The loop keeps what it has seen of the list (`Removing`).
use borrow.Author.Rules.{rules}
use Rattle.segments.proofs.RemovedKey.{removing_start, removing_none, removing_hit, removing_miss, removing_end}
use Rattle.segments.proofs.list.without.Goals as goal
use Rattle.segments.proofs.list.without.Goals.{then-x+then-x-code, else-x, else-x-via-then-x+else-x-code, else-x-via-else-x}

pub loop-x-init : goal.loop-x-init
loop-x-init c = removing_start

pub loop-x-preserved : goal.loop-x-preserved
loop-x-preserved c =
    let inv = c.loop-x.invariant in
    elim c.if-x.branch [
      | then-x+then-x-code w ↦ rw (w.cells-is, w.count-is) (removing_miss inv (search rules) (search rules) w.if-x.true w.if-x-code.true)
      | else-x w ↦
          rw (w.cells-is, w.count-is)
          (elim w.else-x.branch [
            | else-x-via-then-x+else-x-code b ↦ removing_hit inv (search rules) b.if-x.true b.if-x-code.false
            | else-x-via-else-x b ↦ removing_none inv (search rules) b.if-x.false
          ])
    ]

pub returns : goal.returns
returns c = removing_end c.loop-x.invariant (search rules) (search rules)
