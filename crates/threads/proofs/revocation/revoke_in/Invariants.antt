-- What is left to do is the older frames.
use Rattle.std.proofs.Common.{◌≡◌}
use Rattle.model.specs.Stores.{revoke_rows, revoke_code}
use Rattle.threads.proofs.revocation.revoke_in.Given as goal

abbrev pub invariant-loop-frame : goal.invariant-loop-frame
invariant-loop-frame l = revoke_rows l.segment l.code l.thread l.frame ≡ revoke_code l.segment l.code l.initial.thread
