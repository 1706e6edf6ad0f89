-- An edit asks nothing of a thread but whose it is.
use Rattle.std.specs.Prelude.{Ok, Option, None, Some}
use mathlib.Core.Path.{◌≡◌, refl, sym, ap, ◌∙◌}
use mathlib.Core.Bool.{true, false≢true}
use mathlib.Core.List.{List}
use Prim.Native.Nat.{ℕ}
use Rattle.base.specs.Conditions.{Condition, first_refusal}
use Rattle.formula.specs.Outcome.{outcome_of}
use Rattle.call.specs.declared.request.Request.{Request}
use Rattle.call.specs.declared.request.Request.TheVariants as request
use Rattle.call.specs.Calls.{Decoded}
use Rattle.call.specs.Calls.{Call, decoded}
use Rattle.call.specs.Requests.{call_of}
use Rattle.call.proofs.Requests.{requests_exactly}
use Rattle.model.specs.declared.answer.Refusal.{Refusal}
use Rattle.model.specs.Answers.{Answer}
use Rattle.model.specs.State.{editor}
use Rattle.model.specs.Refusals.{conditions}
use Rattle.model.specs.Cells.{Cells, state_of}
use Rattle.model.specs.Effects.{answer}
use Rattle.model.specs.Stores.{store, judged_cells, step_cells_decoded, step_cells}
use Rattle.model.specs.Theorems.Neighbours.{has_letter}
use Rattle.model.specs.Theorems.Editing.{edit_letters, by_thread}

module _ (d : Cells) (text : List ℕ) (a : ℕ) where
  abbrev does : Request → record { cells : Cells; answer : Answer }
  does q = step_cells_decoded outcome_of d (Some q) text

  judged_alike : (q q' : Request) → conditions outcome_of (state_of d) q' text ≡ conditions outcome_of (state_of d) q text
      → store outcome_of d q' text ≡ store outcome_of d q text → answer outcome_of (state_of d) q' text ≡ answer outcome_of (state_of d) q text → does q' ≡ does q
  judged_alike q q' same stored answered =
      ap (λ (cs : List (Condition Refusal)). judged_cells outcome_of d q' text (first_refusal cs)) same ∙ by (first_refusal (conditions outcome_of (state_of d) q text))
    where
      by : (o : Option Refusal) → judged_cells outcome_of d q' text o ≡ judged_cells outcome_of d q text o
      by None = λ i. record { cells = stored i; answer = Ok (answered i) }
      by (Some r) = refl

  -- an edit that names the one, and the same with the other
  request_alike : (q : Request) → has_letter edit_letters (call_of q text) ≡ true → editor (state_of d) a ≡ editor (state_of d) (call_of q text).a
      → (q' : Request) × (by_thread a (call_of q text) ≡ call_of q' text) × (does q' ≡ does q)
  unfolding conditions store answer
  request_alike request.NewUser h e = absurd (false≢true h)
  request_alike (request.StartThread n) h e = absurd (false≢true h)
  request_alike (request.EndThread n) h e = absurd (false≢true h)
  request_alike (request.NewSegment n b) h e = (request.NewSegment a b, refl, judged_alike (request.NewSegment n b) (request.NewSegment a b) (rw e refl) (rw e refl) refl)
  request_alike (request.NewKey n) h e = (request.NewKey a, refl, judged_alike (request.NewKey n) (request.NewKey a) (rw e refl) (rw e refl) refl)
  request_alike (request.GiveKey n b c) h e = (request.GiveKey a b c, refl, judged_alike (request.GiveKey n b c) (request.GiveKey a b c) (rw e refl) refl refl)
  request_alike (request.TakeKey n b c) h e = (request.TakeKey a b c, refl, judged_alike (request.TakeKey n b c) (request.TakeKey a b c) (rw e refl) refl refl)
  request_alike (request.AddLock n b c) h e = (request.AddLock a b c, refl, judged_alike (request.AddLock n b c) (request.AddLock a b c) (rw e refl) refl refl)
  request_alike (request.DropLock n b) h e = (request.DropLock a b, refl, judged_alike (request.DropLock n b) (request.DropLock a b) (rw e refl) refl refl)
  request_alike (request.CallSegment n b) h e = absurd (false≢true h)
  request_alike (request.ReturnCall n) h e = absurd (false≢true h)
  request_alike (request.Access n b c) h e = absurd (false≢true h)

module _ (d : Cells) where
  step_as : (x : Call) (q : Request) → decoded x ≡ Some q → step_cells outcome_of d x ≡ step_cells_decoded outcome_of d (Some q) x.text
  unfolding step_cells
  step_as x q e = ap (λ (k : Decoded). step_cells_decoded outcome_of d k x.text) e

  pub call_alike : (x : Call) (q : Request) (a : ℕ) → decoded x ≡ Some q → has_letter edit_letters x ≡ true
      → editor (state_of d) a ≡ editor (state_of d) x.a → step_cells outcome_of d (by_thread a x) ≡ step_cells outcome_of d x
  call_alike x q a e h same =
      let s = (requests_exactly x q).0 e in
      let (q', named, does-same) =
      request_alike d x.text a q (sym (ap (has_letter edit_letters) s) ∙ h) (same ∙ ap (λ (y : Call). editor (state_of d) y.a) s) in
      step_as (by_thread a x) q' ((requests_exactly (by_thread a x) q').1 (ap (by_thread a) s ∙ named)) ∙ does-same ∙ sym (step_as x q e)
