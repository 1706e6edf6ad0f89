-- The threads so far are changed.
use mathlib.Core.Path.{sym, ◌∙◌}
use Rattle.std.proofs.Common.{rules}
use Rattle.base.proofs.Scans.{changed_end}
use Rattle.threads.proofs.RevokedRows.{none_changed}
use Rattle.threads.proofs.revocation.revoke_each.Goals as goal

pub returns-then-are_idle : goal.returns-then-are_idle
returns-then-are_idle c = none_changed _ _ _ (sym c.are_idle.ensures ∙ c.if-are_idle.true)

pub returns : goal.returns
returns c = changed_end _ _ c.loop-thread.invariant (search rules)
