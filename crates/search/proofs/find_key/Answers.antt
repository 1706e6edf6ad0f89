-- The thread's place, and the newest frame of its table.
use Rattle.std.proofs.Common.{rules}
use Rattle.std.specs.Prelude.{Err}
use Rattle.std.specs.Option.{option_map}
use mathlib.Core.Path.{◌≡◌, ap, ◌∙◌}
use Rattle.model.specs.declared.answer.Refusal.TheVariants.{NoThread}
use Rattle.model.specs.Cells.{threads_are}
use Rattle.search.specs.Searching.{Searched}
use Rattle.search.proofs.Exactly.{found}
use Rattle.search.proofs.ThreadSearched.{same_value, missing, at_place}
use Rattle.search.proofs.find_key.Goals as goal

pub returns-in_err-place : goal.returns-in_err-place
returns-in_err-place c =
    let refused : ◌≡◌ {A = Searched} c.from_residual.result (Err NoThread) = search rules in
    λ d. refused ∙ missing (threads_are c.args.threads.now d) c.args.key (rw c.in_err-place.ensures.ok_part at c.find.ensures)

pub returns : goal.returns
returns c =
    let same : c.map.result ≡ option_map (λ x. x) c.newest_call.result = search rules in
    λ d.
    ap found (same ∙ same_value c.newest_call.result)
    ∙ at_place (threads_are c.args.threads.now d) c.args.key (rw c.in_ok-place.ensures.ok_part at c.find.ensures) c.newest_call.ensures
