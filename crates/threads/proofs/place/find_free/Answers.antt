-- The test is whether it is free.
use Rattle.std.proofs.Common.{rules}
use Rattle.model.specs.State.{is_free}
use Rattle.threads.proofs.place.find_free.Goals as goal

pub returns : goal.returns
returns c = c.place_for.ensures is_free (λ t r h. search rules)
