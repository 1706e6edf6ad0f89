-- The cells so far are changed.
use Rattle.std.proofs.Common.{cond, eqb}
use Rattle.base.proofs.Scans.{Changed}
use Rattle.model.specs.Cells.{no_key}
use Rattle.threads.proofs.revocation.strike.Given as goal

abbrev pub invariant-loop-cell : goal.invariant-loop-cell
invariant-loop-cell l = Changed (λ x. cond (eqb l.code x) no_key x) 0 l.initial.row l.cell-index l.row
