-- Which number an accepted call answers decides nothing: the conditions and the changes are the same, and so is the
-- state after every list of calls. Of the history: a grant lock opens exactly where there is a tightest.
use Rattle.std.specs.Prelude.{Ok, Err, Option, None, Some}
use mathlib.Core.Path.{◌≡◌, refl, sym, ap, subst, ◌∙◌}
use mathlib.Core.Bool.{Bool, true, false, cond, true≢false, false≢true}
use mathlib.Core.List.{List, [], ◌∷◌}
use Prim.Native.Nat.{ℕ}
use native.Mathlib.Omega.{arith}
use Rattle.formula.specs.Outcome.{outcome_of}
use Rattle.formula.specs.Meaning.{text_holds, Meaning}
use Rattle.formula.specs.Compiler.{Compiler, Laws}
use Rattle.formula.proofs.Opening.{laws}
use Rattle.call.specs.declared.request.Request.{Request}
use Rattle.call.specs.Calls.{Decoded}
use Rattle.call.specs.Calls.{Call, decoded}
use Rattle.call.proofs.EveryRequest.{every_request}
use Rattle.base.specs.Conditions.{first_refusal}
use Rattle.base.specs.Lists.{first, is_some}
use Rattle.base.proofs.Lists.{is_some_first}
use Rattle.model.specs.declared.answer.Refusal.{Refusal}
use Rattle.model.specs.Answers.{Answer}
use Rattle.model.specs.Operations.{denies, grants}
use Rattle.model.specs.State.{State, empty_state}
use Rattle.model.specs.Refusals.{opening_product, lock_of, conditions}
use Rattle.model.specs.Effects.{answer}
use Rattle.model.specs.Model.{judged, step_decoded, step}
use Rattle.model.specs.History.{Lock, history}
use Rattle.model.specs.HistoryCheck.{Operation, calls, accesses, request_of, thread_of, target_of, operation_of, lock_opens, has_room, check_answer, tightest_lock}
use Rattle.model.specs.Replay.{state_after, reached, events, answer_to}
use Rattle.model.specs.Theorems.SameGrants.{Alike, lowest_answer, SameChecks, is_checked, answer_before, judged_before, decoded_before, step_before, state_before, SameAfter, SameBefore, SameGrants}
use Rattle.model.proofs.Agreement.EveryCall.{agree}
use Rattle.model.proofs.Agreement.HistoryAnswers.{answered, lowest_from}
use Rattle.model.proofs.Agreement.Granting.{granting_by_laws, some_tightest}
use Rattle.model.proofs.Refinement.EveryCall.{refinement_by_laws, follows}

alike_same : (r : Answer) → Alike r r
alike_same r = record { accepted = refl; refused = λ x. (λ e. e, λ e. e) }

alike_accepted : (m n : ℕ) → Alike (Ok m) (Ok n)
alike_accepted m n =
    record {
      accepted = refl;
      refused = λ x. (λ e. let z : ◌≡◌ {A = ℕ} 0 1 = cc in absurd (omega arith), λ e. let z : ◌≡◌ {A = ℕ} 0 1 = cc in absurd (omega arith));
    }

-- ---- of the next check

alike_answers : (d g g' : Option Lock) (room : Bool) → is_some g ≡ is_some g' → Alike (check_answer d g room) (check_answer d g' room)
alike_answers (Some l) g g' room s = alike_same (check_answer (Some l) g room)
alike_answers None None None room s = alike_same (check_answer None None room)
alike_answers None None (Some k) room s = absurd (false≢true s)
alike_answers None (Some l) None room s = absurd (true≢false s)
alike_answers None (Some l) (Some k) true s = alike_accepted l.number k.number
alike_answers None (Some l) (Some k) false s = alike_same (check_answer None (Some l) false)

same_checks : (compile : Compiler) (holds : Meaning) → Laws compile holds → (xs : List Call) (next : Call)
    → SameChecks holds (events compile xs) next (answer_to compile xs next)
same_checks compile holds law xs next o t fits live =
    let h = history (events compile xs) in
    subst (Alike (lowest_answer holds h o t)) (sym ((granting_by_laws compile holds law xs next).answer o t fits live))
    (alike_answers (first (lock_opens holds denies o t) h.locks) (first (lock_opens holds grants o t) h.locks) (tightest_lock compile holds h o t) (has_room o t)
    (is_some_first (lock_opens holds grants o t) h.locks ∙ sym (some_tightest holds h o t compile)))

-- ---- of every list of calls

abbrev Stepped : Type 0
Stepped = record { state : State; answer : Answer }

record SameStep (before now : Stepped) : Type 0 where
  state : before.state ≡ now.state
  answers : Alike before.answer now.answer

module _ (compile : Compiler) where
  same_judged : (d : State) (q : Request) (text : List ℕ) (o : Option Refusal) → SameStep (judged_before compile d q text o) (judged compile d q text o)
  same_judged d q text None = record { state = refl; answers = alike_accepted (answer_before compile d q text) (answer compile d q text) }
  same_judged d q text (Some r) = record { state = refl; answers = alike_same (Err r) }

  same_decoded : (d : State) (k : Decoded) (text : List ℕ) → SameStep (decoded_before compile d k text) (step_decoded compile d k text)
  same_decoded d None text = record { state = refl; answers = alike_same (decoded_before compile d None text).answer }
  same_decoded d (Some q) text = same_judged d q text (first_refusal (conditions compile d q text))

  same_step : (d : State) (x : Call) → SameStep (step_before compile d x) (step compile d x)
  unfolding step_before step
  same_step d x = same_decoded d (decoded x) x.text

  same_states : (d : State) (xs : List Call) → state_before compile d xs ≡ state_after compile d xs
  same_states d [] = refl
  same_states d (x ∷ xs) = ap (λ (e : State). state_before compile e xs) (same_step d x).state ∙ same_states (step compile d x).state xs

  -- what isn't checked answers as before
  other_answer : (d : State) (q : Request) (text : List ℕ) → is_checked q ≡ false → answer compile d q text ≡ answer_before compile d q text
  unfolding answer_before
  other_answer d q text e =
      ap (λ (b : Bool). cond b 0 (answer compile d q text)) (sym e)
      ∙ every_request (λ r. cond (is_checked r) 0 (answer compile d r text)) (λ r. cond (is_checked r) 0 (answer_before compile d r text)) (λ a b c. refl) q
      ∙ ap (λ (b : Bool). cond b 0 (answer_before compile d q text)) e

  other_judged : (d : State) (q : Request) (text : List ℕ) → is_checked q ≡ false → (o : Option Refusal)
      → (judged compile d q text o).answer ≡ (judged_before compile d q text o).answer
  other_judged d q text e None = ap Ok (other_answer d q text e)
  other_judged d q text e (Some r) = refl

  other_step : (d : State) (x : Call) (q : Request) → decoded x ≡ Some q → is_checked q ≡ false → (step compile d x).answer ≡ (step_before compile d x).answer
  unfolding step_before step
  other_step d x q w e =
      ap (λ (k : Decoded). (step_decoded compile d k x.text).answer) w
      ∙ other_judged d q x.text e (first_refusal (conditions compile d q x.text))
      ∙ sym (ap (λ (k : Decoded). (decoded_before compile d k x.text).answer) w)

  same_after : (holds : Meaning) → Laws compile holds → (xs : List Call) (next : Call) → SameAfter compile xs next
  same_after holds law xs next =
      let f = follows compile holds law xs in
      let r = refinement_by_laws compile holds law (reached compile xs) f.sized next in
      let after = state_after compile empty_state xs in
      let last : answer_to compile xs next ≡ (step compile after next).answer = r.answer ∙ ap (λ (d : State). (step compile d next).answer) f.state in
      let before : state_before compile empty_state xs ≡ after = same_states empty_state xs in
      record {
        state = f.state ∙ sym before;
        answers = rw (before, last) (same_step after next).answers;
        others = λ q w e. last ∙ other_step after next q w e ∙ ap (λ (d : State). (step_before compile d next).answer) (sym before);
      }

-- ---- the answers as they were

module _ (compile : Compiler) (d : State) where
  checked_before_lem : (text : List ℕ) (o : Operation)
      → answer_before compile d (request_of o) text ≡ lock_of (opening_product d grants (thread_of o) (target_of o) (operation_of o))
  unfolding answer_before
  checked_before_lem text (calls a b) = refl
  checked_before_lem text (accesses a b c) = refl

  judged_before_lem : (q : Request) (text : List ℕ) (o : Option Refusal) → (judged_before compile d q text o).answer ≡ answered o (answer_before compile d q text)
  judged_before_lem q text None = refl
  judged_before_lem q text (Some r) = refl

  step_before_lem : (x : Call) (q : Request) → decoded x ≡ Some q
      → (step_before compile d x).answer ≡ answered (first_refusal (conditions compile d q x.text)) (answer_before compile d q x.text)
  unfolding step_before
  step_before_lem x q e =
      ap (λ (k : Decoded). (decoded_before compile d k x.text).answer) e
      ∙ judged_before_lem q x.text (first_refusal (conditions compile d q x.text))

same_before : (compile : Compiler) (holds : Meaning) → Laws compile holds → (xs : List Call) (next : Call) → SameBefore compile holds xs next
same_before compile holds law xs next =
    rw (same_states compile empty_state xs, (follows compile holds law xs).events)
    (λ o t fits live.
    let d = state_after compile empty_state xs in
    step_before_lem compile d next (request_of o) fits.well_formed
    ∙ ap (answered (first_refusal (conditions compile d (request_of o) next.text))) (checked_before_lem compile d next.text o)
    ∙ lowest_from compile holds law next.text _ _ _ (agree compile holds law xs) o t live fits.entry fits.handed_out fits.known fits.taken)

pub same_grants : SameGrants
same_grants =
    record { checks = same_checks outcome_of text_holds laws; lists = same_after outcome_of text_holds laws; before = same_before outcome_of text_holds laws }
