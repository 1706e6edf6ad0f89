-- Each count, as it is read.
use Rattle.locks.proofs.CompiledRows.{issued_made}
use Rattle.locks.proofs.calls.issued.Goals as goal

pub returns : goal.returns
returns c = issued_made c.args.registry.now c.args.makers.now c.segments.ensures.count c.defined.ensures.keys
