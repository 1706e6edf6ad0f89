-- The threads of the groups so far are changed.
use native.Mathlib.Omega.{arith}
use Rattle.threads.proofs.RevokedRows.{changed_next_group}
use Rattle.threads.proofs.revocation.revoke.Goals as goal

pub loop-group-preserved : goal.loop-group-preserved
loop-group-preserved c = changed_next_group _ _ _ _ _ (omega arith) (omega arith) c.loop-group.invariant c.revoke_each.ensures
