-- The first three conditions of a C or an A are a live thread, a segment handed out, and an operation that the segment
-- takes; `Mirror` says that the history tells them.
use Rattle.std.specs.Prelude.{Ok, Err, Option, None, Some}
use mathlib.Core.Path.{◌≡◌, sym, ap, ◌∙◌}
use mathlib.Core.Bool.{Bool, true, false, ◌&&◌}
use mathlib.Core.List.{List}
use Prim.Native.Nat.{ℕ}
use borrow.Author.Tests.{not-false}
use Rattle.formula.specs.Outcome.{outcome_of}
use Rattle.formula.specs.Meaning.{text_holds, Meaning}
use Rattle.formula.specs.Compiler.{Compiler, Laws}
use Rattle.formula.proofs.Opening.{laws}
use Rattle.call.specs.declared.request.Request.TheVariants as request
use Rattle.call.specs.Calls.{Call, decoded}
use Rattle.base.specs.Conditions.{first_refusal}
use Rattle.base.specs.Lists.{is_some}
use Rattle.base.proofs.Conditions.{all_fail}
use Rattle.base.proofs.Truth.{and_left, and_right}
use Rattle.base.proofs.Lists.{case_bool, is_some_some}
use Rattle.model.specs.declared.answer.Refusal.{Refusal}
use Rattle.model.specs.declared.answer.Refusal.TheVariants.{NoSegment, Unfit}
use Rattle.model.specs.Operations.{takes}
use Rattle.model.specs.Threads.{Thread}
use Rattle.model.specs.State.{State, segment_at, is_live, is_segment}
use Rattle.model.specs.Refusals.{conditions}
use Rattle.model.specs.Model.{judged, step}
use Rattle.model.specs.Cells.{state_of}
use Rattle.model.specs.History.{History, history}
use Rattle.model.specs.HistoryCheck.{Operation, calls, accesses, request_of, thread_of, target_of, operation_of, is_known, Fits}
use Rattle.model.specs.Replay.{reached, events, answer_to}
use Rattle.model.specs.Theorems.Fitting.{Judged, FittingByLaws, Fitting}
use Rattle.model.proofs.Agreement.HistoryAnswers.{taken}
use Rattle.model.proofs.Agreement.Granting.{answer_is}
use Rattle.model.proofs.Agreement.Mirror.{mirror_by_laws}
use Rattle.model.proofs.Refinement.EveryCall.{refinement_by_laws, follows}

-- ---- on the model

record Passed (d : State) (o : Operation) : Type 0 where
  live : is_live d (thread_of o) ≡ true
  out : is_segment d (target_of o) ≡ true
  fit : (is_known o && takes (segment_at d (target_of o)).kind (operation_of o)) ≡ true

passed : (compile : Compiler) (d : State) (text : List ℕ) (o : Operation) → first_refusal (conditions compile d (request_of o) text) ≡ None → Passed d o
unfolding conditions
passed compile d text (calls a b) e =
    let f = all_fail (conditions compile d (request.CallSegment a b) text) e in
    record { live = not-false _ f.0; out = not-false _ f.1.0; fit = not-false _ f.1.1.0 }
passed compile d text (accesses a b c) e =
    let f = all_fail (conditions compile d (request.Access a b c) text) e in
    record { live = not-false _ f.0; out = not-false _ f.1.0; fit = not-false _ f.1.1.0 }

segment_missing : (compile : Compiler) (d : State) (text : List ℕ) (o : Operation) → is_live d (thread_of o) ≡ true → is_segment d (target_of o) ≡ false
    → first_refusal (conditions compile d (request_of o) text) ≡ Some NoSegment
unfolding conditions
segment_missing compile d text (calls a b) live out = simp (live, out)
segment_missing compile d text (accesses a b c) live out = simp (live, out)

unfit : (compile : Compiler) (d : State) (text : List ℕ) (o : Operation) → is_live d (thread_of o) ≡ true → is_segment d (target_of o) ≡ true
    → (is_known o && takes (segment_at d (target_of o)).kind (operation_of o)) ≡ false
    → first_refusal (conditions compile d (request_of o) text) ≡ Some Unfit
unfolding conditions
unfit compile d text (calls a b) live out isnt = simp (live, out, isnt)
unfit compile d text (accesses a b c) live out isnt = simp (live, out, isnt)

refused_by : (compile : Compiler) (d : State) (next : Call) (o : Operation) (r : Refusal) → decoded next ≡ Some (request_of o)
    → first_refusal (conditions compile d (request_of o) next.text) ≡ Some r → (step compile d next).answer ≡ Err r
refused_by compile d next o r e f =
    answer_is compile d next (request_of o) e ∙ ap (λ (k : Option Refusal). (judged compile d (request_of o) next.text k).answer) f

-- ---- on the arrays

module _ (compile : Compiler) (holds : Meaning) (law : Laws compile holds) (xs : List Call) (next : Call) (o : Operation) (e : decoded next ≡ Some (request_of o)) where
  d : State
  d = state_of (reached compile xs)

  h : History
  h = history (events compile xs)

  same_answer : answer_to compile xs next ≡ (step compile d next).answer
  unfolding d
  same_answer = (refinement_by_laws compile holds law (reached compile xs) (follows compile holds law xs).sized next).answer

  abbrev fit : Bool
  fit = is_known o && takes (segment_at d (target_of o)).kind (operation_of o)

  fits_as : is_segment d (target_of o) ≡ true → fit ≡ true → Fits h next o
  unfolding d h
  fits_as out fits =
      let m = mirror_by_laws compile holds law xs in
      let (entry, has) = is_some_some (h.segments (target_of o)) (sym (m.segment (target_of o)) ∙ out) in
      record {
        well_formed = e;
        known = and_left (is_known o) _ fits;
        entry = entry;
        handed_out = has;
        taken = sym (ap (λ (j : ℕ). takes j (operation_of o)) (m.kind (target_of o) entry has)) ∙ and_right (is_known o) _ fits;
      }

  fits_unrefused : (t : Thread) → h.threads (thread_of o) ≡ Some t → (answer_to compile xs next ≡ Err NoSegment → ⊥) → (answer_to compile xs next ≡ Err Unfit → ⊥)
      → Fits h next o
  unfolding d h
  fits_unrefused t live here takes-it =
      let alive : is_live d (thread_of o) ≡ true = (mirror_by_laws compile holds law xs).live (thread_of o) ∙ ap is_some live in
      case_bool (is_segment d (target_of o))
      (λ out. case_bool fit
      (fits_as out)
      (λ isnt. absurd (takes-it (same_answer ∙ refused_by compile d next o Unfit e (unfit compile d next.text o alive out isnt)))))
      (λ out. absurd (here (same_answer ∙ refused_by compile d next o NoSegment e (segment_missing compile d next.text o alive out))))

  fits_accepted : (n : ℕ) → answer_to compile xs next ≡ Ok n → Judged h next o
  unfolding d h
  fits_accepted n a =
      let k = passed compile d next.text o (taken compile d next (request_of o) n e (sym same_answer ∙ a)).free in
      let (t, live) = is_some_some (h.threads (thread_of o)) (sym ((mirror_by_laws compile holds law xs).live (thread_of o)) ∙ k.live) in
      record { thread = t; live = live; fits = fits_as k.out k.fit }

pub fitting_by_laws : FittingByLaws
unfolding h
fitting_by_laws compile holds law xs next =
    record {
      unrefused = λ o t e. fits_unrefused compile holds law xs next o e t;
      accepted = λ o n e. fits_accepted compile holds law xs next o e n;
    }

pub fitting : Fitting
fitting = fitting_by_laws outcome_of text_holds laws
