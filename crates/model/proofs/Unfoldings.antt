-- What a proof by computing about steps of the guard unfolds: `unfolding computing` is all that it says.
use Rattle.formula.proofs.Unfoldings.{computing as formula-computing}
use Rattle.call.proofs.Unfoldings.{computing as call-computing}
use Rattle.model.specs.Refusals.{opening_product, tightest_product, conditions}
use Rattle.model.specs.Effects.{update, answer}
use Rattle.model.specs.Model.{step}
use Rattle.model.specs.Cells.{state_of}
use Rattle.model.specs.Stores.{store, step_cells}
use Rattle.model.specs.History.{note, advance}

unfoldable pub computing : Unit {0}
unfolding formula-computing call-computing opening_product tightest_product conditions update answer step state_of store step_cells note advance
computing = tt
