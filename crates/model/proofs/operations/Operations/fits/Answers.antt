-- Four tests decide, by the kind.
use Rattle.model.proofs.Refinement.OperationSets.{fits_code, fits_sheet}
use Rattle.model.proofs.operations.Operations.fits.Goals as goal

pub returns-then-kind-eq0 : goal.returns-then-kind-eq0
returns-then-kind-eq0 c =
    rw (c.has-executes.ensures, c.has-reads.ensures, c.has-writes.ensures) (fits_code _ c.args.self.bits c.if-kind-eq0.true)

pub returns-else-kind-eq0 : goal.returns-else-kind-eq0
returns-else-kind-eq0 c =
    rw (c.has-executes.ensures, c.has-reads.ensures, c.has-writes.ensures) (fits_sheet _ c.args.self.bits c.if-kind-eq0.false)
