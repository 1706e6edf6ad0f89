-- A well formed call is its request; any other is refused.
use mathlib.Core.Path.{◌≡◌, sym, ◌∙◌}
use Rattle.std.proofs.lemmas.Result.{err_from_is_err_and}
use Rattle.model.specs.declared.answer.Refusal.TheVariants.{Corrupt}
use Rattle.guard.proofs.Calls.{as_call, not_well_formed}
use Rattle.guard.proofs.call.Goals as goal

pub returns-in_err-request : goal.returns-in_err-request
returns-in_err-request c =
    let p = err_from_is_err_and c.from_residual.result c.from_residual.ensures.1 in
    let none = c.in_err-request.ensures.ok_part in
    let refused = rw none at c.in_err-request.ensures.value in
    let is : c.in_err-request.field-0.0 ≡ Corrupt = cc in
    rw (p.1, p.2, is) (not_well_formed _ _ (sym c.decode.ensures ∙ none))

pub returns : goal.returns
returns c = as_call _ _ _ _ _ (sym c.decode.ensures ∙ c.in_ok-request.ensures.ok_part) c.serve.ensures
