-- The threads so far are changed.
use Rattle.std.proofs.Common.{[]}
use Rattle.base.proofs.Scans.{Changed}
use Rattle.model.specs.Stores.{revoke_code}
use Rattle.threads.proofs.revocation.revoke_each.Given as goal

abbrev pub invariant-loop-thread : goal.invariant-loop-thread
invariant-loop-thread l = Changed (revoke_code l.segment l.code) [] l.initial.threads l.thread-index l.threads
