-- The test is of the number.
use Rattle.std.proofs.Common.{rules}
use Rattle.model.specs.State.{is_thread}
use Rattle.threads.proofs.place.find.Goals as goal

pub returns : goal.returns
returns c = c.place_for.ensures (is_thread c.args.number) (λ t r h. search rules)
