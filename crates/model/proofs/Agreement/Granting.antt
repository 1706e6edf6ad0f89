-- Demand 3: the agreement of model and history, read at the call after the list; the arrays hold the model.
use Rattle.std.specs.Prelude.{Option, None, Some}
use mathlib.Core.Path.{◌≡◌, refl, sym, ap, ◌∙◌}
use mathlib.Core.Bool.{Bool, true, false, ◌&&◌, not}
use mathlib.Core.List.{List}
use Prim.Native.Nat.{ℕ}
use borrow.Author.Tests.{not-true}
use Rattle.formula.specs.Outcome.{outcome_of}
use Rattle.formula.specs.Meaning.{text_holds, Meaning}
use Rattle.formula.specs.Compiler.{Compiler, Laws}
use Rattle.formula.proofs.Opening.{laws}
use Rattle.call.specs.declared.request.Request.{Request}
use Rattle.call.specs.Calls.{Decoded}
use Rattle.call.specs.Calls.{Call, decoded}
use Rattle.base.specs.Conditions.{first_refusal}
use Rattle.base.proofs.Truth.{and_left, and_right}
use Rattle.model.specs.Answers.{is_accepted}
use Rattle.base.specs.Lists.{any, first, is_some}
use Rattle.model.specs.Operations.{denies, grants}
use Rattle.model.specs.Threads.{Thread, key_set}
use Rattle.model.specs.State.{State, empty_state}
use Rattle.model.specs.Refusals.{conditions}
use Rattle.model.specs.Model.{judged, step_decoded, step}
use Rattle.model.specs.History.{History, Lock, Event, history, accepted_of}
use Rattle.model.specs.HistoryCheck.{Operation, request_of, thread_of, Fits, has_room, lock_opens, granted, Granted, check_answer, tightness, tightest_lock, answer_from}
use Rattle.model.specs.Theorems.Granting.{Grants, GrantingByLaws, Granting}
use Rattle.model.specs.Replay.{state_after, events_of, reached, answer_to}
use Rattle.base.proofs.Lists.{case_bool, clash, any_passes, any_found, is_some_first}
use Rattle.base.proofs.Greatest.{is_some_greatest}
use Rattle.model.proofs.Agreement.Agrees.{Agrees}
use Rattle.model.proofs.Agreement.EveryCall.{agree, request_letter}
use Rattle.model.proofs.Agreement.HistoryAnswers.{taken, counted_as, answers_from}
use Rattle.model.proofs.Refinement.EveryCall.{refinement_by_laws, follows}

-- ---- the test and the words

module _ (holds : Meaning) (h : History) (o : Operation) (t : Thread) where
  abbrev barring : Lock → Bool
  barring = lock_opens holds denies o t

  abbrev giving : Lock → Bool
  giving = lock_opens holds grants o t

  to_words : granted holds h o t ≡ true → Granted holds h o t
  to_words g =
      let rest = and_right (not (any barring h.locks)) (any giving h.locks && has_room o t) g in
      let (l, m, u) = any_found giving h.locks (and_left (any giving h.locks) (has_room o t) rest) in
      record {
        undenied = λ k n. case_bool (barring k)
            (λ q. clash (any_passes barring k h.locks n q) (not-true _ (and_left (not (any barring h.locks)) (any giving h.locks && has_room o t) g)))
            (λ q. q);
        lock = l;
        standing = m;
        opens = u;
        room = and_right (any giving h.locks) (has_room o t) rest;
      }

  from_words : Granted holds h o t → granted holds h o t ≡ true
  from_words g =
      case_bool (any barring h.locks)
      (λ q. let (l, m, u) = any_found barring h.locks q in clash u (g.undenied l m))
      (λ q. simp (q, any_passes giving g.lock h.locks g.standing g.opens, g.room))

  -- the answer accepts where the test says so, whichever grant lock answers
  pub answer_accepts : (g : Option Lock) → is_some g ≡ any giving h.locks
      → is_accepted (check_answer (first barring h.locks) g (has_room o t)) ≡ granted holds h o t
  answer_accepts g e = accepts (first barring h.locks) g (has_room o t) ∙ rw (is_some_first barring h.locks, e)
    where
      accepts : (d g : Option Lock) (room : Bool) → is_accepted (check_answer d g room) ≡ (not (is_some d) && (is_some g && room))
      accepts (Some l) g room = refl
      accepts None None room = refl
      accepts None (Some l) true = refl
      accepts None (Some l) false = refl

  pub some_tightest : (compile : Compiler) → is_some (tightest_lock compile holds h o t) ≡ any giving h.locks
  some_tightest compile = is_some_greatest (tightness compile (key_set (thread_of o) t)) giving h.locks

-- ---- on the model

pub answer_is : (compile : Compiler) (d : State) (x : Call) (q : Request) → decoded x ≡ Some q
    → (step compile d x).answer ≡ (judged compile d q x.text (first_refusal (conditions compile d q x.text))).answer
unfolding step
answer_is compile d x q e = ap (λ (k : Decoded). (step_decoded compile d k x.text).answer) e

on_model : (compile : Compiler) (holds : Meaning) → Laws compile holds → (xs : List Call) (next : Call)
    → Grants compile holds (events_of compile empty_state xs) next (step compile (state_after compile empty_state xs) next).answer
on_model compile holds l xs next =
    record {
      equation = equation;
      exactly = λ o t f live. (λ a. to_words holds h o t (sym (equation o t f live) ∙ a), λ g. equation o t f live ∙ from_words holds h o t g);
      answer = whole;
      number = λ q n e hands k.
          (taken compile d next q n e k).number
          ∙ counted_as compile next.text d h (λ m. accepted_of m es) c q hands
          ∙ ap (λ (m : ℕ). accepted_of m es) (sym (request_letter next q e));
    }
  where
    d : State
    d = state_after compile empty_state xs

    es : List Event
    es = events_of compile empty_state xs

    h : History
    h = history es

    c : Agrees compile d h (λ m. accepted_of m es)
    c = agree compile holds l xs

    whole : (o : Operation) (t : Thread) → Fits h next o → h.threads (thread_of o) ≡ Some t → (step compile d next).answer ≡ answer_from compile holds h o t
    whole o t fits live =
        answer_is compile d next (request_of o) fits.well_formed
        ∙ answers_from compile holds l next.text _ _ _ c o t live fits.entry fits.handed_out fits.known fits.taken

    equation : (o : Operation) (t : Thread) → Fits h next o → h.threads (thread_of o) ≡ Some t → is_accepted (step compile d next).answer ≡ granted holds h o t
    equation o t f live = ap is_accepted (whole o t f live) ∙ answer_accepts holds h o t (tightest_lock compile holds h o t) (some_tightest holds h o t compile)

-- ---- on the arrays

pub granting_by_laws : GrantingByLaws
granting_by_laws compile holds l xs next =
    let f = follows compile holds l xs in
    let r = refinement_by_laws compile holds l (reached compile xs) f.sized next in
    let last : answer_to compile xs next ≡ (step compile (state_after compile empty_state xs) next).answer = r.answer ∙ ap (λ (d : State). (step compile d next).answer) f.state in
    rw (f.events, last) (on_model compile holds l xs next)

pub granting : Granting
granting = granting_by_laws outcome_of text_holds laws
