-- What is stored fits its cell: every call, accepted or not, and every list of calls.
use Rattle.std.specs.Prelude.{Ok, Err, Option, None, Some}
use mathlib.Core.Path.{◌≡◌, refl, subst}
use mathlib.Core.List.{List, [], ◌∷◌}
use Prim.Native.Nat.{ℕ, ◌<◌}
use native.Mathlib.Omega.{arith}
use Rattle.formula.specs.Outcome.{outcome_of}
use Rattle.formula.specs.Meaning.{text_holds}
use Rattle.formula.proofs.Opening.{laws}
use Rattle.call.specs.declared.request.Request.{Request}
use Rattle.call.specs.Calls.{Decoded}
use Rattle.call.specs.Calls.{Call, decoded}
use Rattle.base.specs.Conditions.{first_refusal}
use Rattle.call.specs.Requests.{call_of}
use Rattle.call.proofs.Requests.{requests_exactly}
use Rattle.model.specs.declared.answer.Refusal.{Refusal}
use Rattle.model.specs.declared.answer.Refusal.TheVariants.{Corrupt}
use Rattle.model.specs.Answers.{Answer}
use Rattle.model.specs.Answers.{second_number}
use Rattle.model.specs.Refusals.{conditions}
use Rattle.model.specs.Effects.{answer}
use Rattle.model.specs.Cells.{Cells, Sized, state_of, empty_cells}
use Rattle.model.specs.Stores.{judged_cells, step_cells_decoded, step_cells}
use Rattle.model.specs.Replay.{cells_after}
use Rattle.model.specs.Theorems.Widths.{word, Fitting, Fields, AllFields, Contained, WidthsByLaws, Widths}
use Rattle.model.proofs.Refinement.EveryCall.{refinement_by_laws, follows}
use Rattle.model.proofs.Limits.FittingCells.{empty_fits}
use Rattle.model.proofs.Limits.RequestWidths.{fit_accepted, fit_refused}

-- an answer's number has 16 bits
accepted_low : (m n : ℕ) → m < word → ◌≡◌ {A = Answer} (Ok m) (Ok n) → n < word
accepted_low m n h e = let same : m ≡ n = cc in omega arith

-- a refusal answers no number
refused_low : (r : Refusal) (n : ℕ) → ◌≡◌ {A = Answer} (Err r) (Ok n) → n < word
refused_low r n e = let z : ◌≡◌ {A = ℕ} 0 1 = cc in absurd (omega arith)

-- an acceptance has no second number, and a refusal its own
accepted_second : (m : ℕ) (r : Refusal) → ◌≡◌ {A = Answer} (Ok m) (Err r) → second_number r < word
accepted_second m r e = let z : ◌≡◌ {A = ℕ} 0 1 = cc in absurd (omega arith)

refused_second : (q r : Refusal) → second_number q < word → ◌≡◌ {A = Answer} (Err q) (Err r) → second_number r < word
refused_second q r h e = let same : q ≡ r = cc in subst (λ (x : Refusal). second_number x < word) same h

-- what a call leaves and answers
abbrev LeftFits : record { cells : Cells; answer : Answer } → Type 0
LeftFits y = Fitting y.cells × ((n : ℕ) → y.answer ≡ Ok n → n < word) × ((r : Refusal) → y.answer ≡ Err r → second_number r < word)

pub widths_by_laws : WidthsByLaws
unfolding step_cells
widths_by_laws compile holds law d c k x l = let b = by_decoded (decoded x) refl in record { stored = b.0; answered = b.1; refused = b.2 }
  where
    by_refusal : (q : Request) → Fields (call_of q x.text) → (o : Option Refusal) → first_refusal (conditions compile (state_of d) q x.text) ≡ o
        → LeftFits (judged_cells compile d q x.text o)
    by_refusal q h None e =
        let s = fit_accepted compile holds law d c k x.text q h e in
        let n = answer compile (state_of d) q x.text in
        (s.stored, (λ m. accepted_low n m s.answered), accepted_second n)
    by_refusal q h (Some r) e =
        let second = fit_refused compile d c k x.text q r e in
        (k, refused_low r, (λ y. refused_second r y second))

    by_decoded : (y : Decoded) → decoded x ≡ y → LeftFits (step_cells_decoded compile d y x.text)
    by_decoded None e = (k, refused_low Corrupt, (λ y. refused_second Corrupt y (omega arith)))
    by_decoded (Some q) e =
        by_refusal q (subst Fields ((requests_exactly x q).0 e) l) (first_refusal (conditions compile (state_of d) q x.text)) refl

-- ---- every list of calls

contained : (d : Cells) → Sized d → Fitting d → (x : Call) → Fields x → Contained outcome_of d x
contained d c k x l = widths_by_laws outcome_of text_holds laws d c k x l

list_fits : (xs : List Call) (d : Cells) → Sized d → Fitting d → AllFields xs → Fitting (cells_after outcome_of d xs)
list_fits [] d c k l = k
list_fits (x ∷ xs) d c k l =
    list_fits xs (step_cells outcome_of d x).cells (refinement_by_laws outcome_of text_holds laws d c x).sized (contained d c k x l.0).stored l.1

pub widths : Widths
widths = record { call = contained; list = λ xs l. list_fits xs empty_cells (follows outcome_of text_holds laws []).sized empty_fits l }
