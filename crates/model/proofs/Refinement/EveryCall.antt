-- The arrays hold the model: every call, accepted or not, and every list of calls.
use Rattle.std.specs.Prelude.{Option, None, Some}
use mathlib.Core.Path.{◌≡◌, refl, ap, ap₂, ◌∙◌}
use mathlib.Core.List.{List, [], ◌∷◌}
use Rattle.formula.specs.Outcome.{outcome_of}
use Rattle.formula.specs.Meaning.{text_holds, Meaning}
use Rattle.formula.specs.Compiler.{Compiler, Laws}
use Rattle.formula.proofs.Opening.{laws}
use Rattle.call.specs.declared.request.Request.{Request}
use Rattle.call.specs.Calls.{Decoded}
use Rattle.call.specs.Calls.{Call, decoded}
use Rattle.base.specs.Conditions.{first_refusal}
use Rattle.model.specs.declared.answer.Refusal.{Refusal}
use Rattle.model.specs.Answers.{Answer}
use Rattle.model.specs.State.{State, empty_state}
use Rattle.model.specs.Refusals.{conditions}
use Rattle.model.specs.Model.{judged, step_decoded, step}
use Rattle.model.specs.Cells.{Cells, Sized, state_of, empty_cells}
use Rattle.model.specs.Stores.{judged_cells, step_cells_decoded, step_cells}
use Rattle.model.specs.History.{Event, event}
use Rattle.model.specs.Replay.{cells_after, events_in, state_after, events_of}
use Rattle.model.specs.Theorems.Refinement.{Follows, RefinementByLaws, Refinement}
use Rattle.model.proofs.Refinement.Sizes.{empty_sized}
use Rattle.model.proofs.Refinement.Stores.{store_accepted}

-- what a call on the arrays leaves and answers, beside what a call on the model does
abbrev Beside : record { cells : Cells; answer : Answer } → record { state : State; answer : Answer } → Type 0
Beside y z = (state_of y.cells ≡ z.state) × (y.answer ≡ z.answer) × Sized y.cells

pub refinement_by_laws : RefinementByLaws
unfolding step_cells step
refinement_by_laws compile holds law d c x = let b = by_decoded (decoded x) in record { state = b.0; answer = b.1; sized = b.2 }
  where
    by_refusal : (q : Request) (o : Option Refusal) → first_refusal (conditions compile (state_of d) q x.text) ≡ o
        → Beside (judged_cells compile d q x.text o) (judged compile (state_of d) q x.text o)
    by_refusal q None e = let s = store_accepted compile holds law x.text d c q e in (s.state, refl, s.sized)
    by_refusal q (Some r) e = (refl, refl, c)

    by_decoded : (k : Decoded) → Beside (step_cells_decoded compile d k x.text) (step_decoded compile (state_of d) k x.text)
    by_decoded None = (refl, refl, c)
    by_decoded (Some q) = by_refusal q (first_refusal (conditions compile (state_of d) q x.text)) refl

module _ (compile : Compiler) (holds : Meaning) (law : Laws compile holds) where
  same_events : (xs : List Call) (d : Cells) → Sized d → events_in compile d xs ≡ events_of compile (state_of d) xs
  same_events [] d c = refl
  same_events (x ∷ xs) d c =
      let r = refinement_by_laws compile holds law d c x in
      ap₂ (λ (a : Answer) (es : List Event). event x a ∷ es) r.answer
      (same_events xs (step_cells compile d x).cells r.sized ∙ ap (λ (s : State). events_of compile s xs) r.state)

  same_after : (xs : List Call) (d : Cells) → Sized d → (state_of (cells_after compile d xs) ≡ state_after compile (state_of d) xs) × Sized (cells_after compile d xs)
  same_after [] d c = (refl, c)
  same_after (x ∷ xs) d c =
      let r = refinement_by_laws compile holds law d c x in
      let (rest, s) = same_after xs (step_cells compile d x).cells r.sized in
      (rest ∙ ap (λ (y : State). state_after compile y xs) r.state, s)

-- ---- from the empty state

empty_state_lem : state_of empty_cells ≡ empty_state
unfolding state_of
empty_state_lem = refl

pub follows : (compile : Compiler) (holds : Meaning) → Laws compile holds → (xs : List Call) → Follows compile xs
follows compile holds law xs =
    let (state, sized) = same_after compile holds law xs empty_cells empty_sized in
    record {
      state = state ∙ ap (λ (d : State). state_after compile d xs) empty_state_lem;
      events = same_events compile holds law xs empty_cells empty_sized ∙ ap (λ (d : State). events_of compile d xs) empty_state_lem;
      sized = sized;
    }

pub refinement : Refinement
refinement =
    record { call = λ d c x. refinement_by_laws outcome_of text_holds laws d c x; list = follows outcome_of text_holds laws; empty = empty_state_lem }
