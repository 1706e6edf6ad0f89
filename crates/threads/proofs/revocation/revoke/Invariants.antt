-- The threads of the groups so far are changed.
use Rattle.std.proofs.Common.{◌≡◌, ◌*◌}
use Rattle.model.specs.Stores.{revoke_code}
use Rattle.threads.proofs.RevokedRows.{changed_before}
use Rattle.threads.proofs.revocation.revoke.Given as goal

abbrev pub invariant-loop-group : goal.invariant-loop-group
invariant-loop-group l = l.threads ≡ changed_before (revoke_code l.segment l.code) (l.group * 4) l.initial.threads
