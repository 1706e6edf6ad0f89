-- What an accepted call answers, by the agreement of model and history: before it, and for key lists after it.
use Rattle.std.specs.Prelude.{Ok, Some}
use mathlib.Core.Path.{◌≡◌, sym, ap, ap₂, ◌∙◌}
use mathlib.Core.Bool.{true}
use mathlib.Core.List.{List, ◌∷◌, Memᴰ}
use Prim.Native.Nat.{ℕ, ◌<◌}
use native.Mathlib.Omega.{arith}
use lib.ListN.{length, get_or, set, length-set, length-map}
use lib.Seq.{get_or-set_same}
use borrow.Author.Tests.{ltb-true, not-false}
use Rattle.formula.specs.Outcome.{outcome_of}
use Rattle.formula.specs.Meaning.{text_holds, Meaning}
use Rattle.formula.specs.Compiler.{Compiler, Laws}
use Rattle.formula.proofs.Opening.{laws}
use Rattle.call.specs.declared.request.Request.TheVariants.{EndThread, GiveKey, TakeKey, DropLock, ReturnCall}
use Rattle.call.specs.Calls.{Call, decoded}
use Rattle.base.proofs.Conditions.{all_fail}
use Rattle.model.specs.Answers.{Answer}
use Rattle.base.specs.Lists.{keep}
use Rattle.model.specs.Threads.{Frame, Thread}
use Rattle.model.specs.State.{State, empty_state, Segment, blank_segment, segment_at, is_lock, is_of_lock, lock_segment}
use Rattle.model.specs.Effects.{lock_product, give_key, take_key, newest, update, answer}
use Rattle.model.specs.Refusals.{conditions}
use Rattle.model.specs.Model.{step}
use Rattle.model.specs.History.{History, Lock, event, advance, history, list_of, accepted_of}
use Rattle.model.specs.Replay.{reached, state_after, events_of, answer_to}
use Rattle.model.specs.HistoryLocks.{products_of, stored_of}
use Rattle.model.specs.Theorems.Numbering.{Numbers, NumberingByLaws, Numbering}
use Rattle.base.proofs.Lists.{eqb_self}
use Rattle.model.proofs.Agreement.Locks.{found}
use Rattle.model.proofs.Agreement.ReadLocks.{lock_homed, lock_stores, locks_rise}
use Rattle.model.proofs.Agreement.Agrees.{Agrees}
use Rattle.model.proofs.Agreement.KeptAgreement.{keys_agree}
use Rattle.model.proofs.Agreement.EveryCall.{agree, thread_as, counted, step_agrees}
use Rattle.model.proofs.Agreement.HistoryAnswers.{taken}
use Rattle.model.proofs.Refinement.EveryCall.{refinement_by_laws, follows}

module _ (compile : Compiler) (holds : Meaning) (law : Laws compile holds) (d : State) (h : History) (count : ℕ → ℕ) (c : Agrees compile d h count) (next : Call) where
  abbrev r : Answer
  r = (step compile d next).answer

  abbrev text : List ℕ
  text = next.text

  ended_as : (a n : ℕ) → decoded next ≡ Some (EndThread a) → r ≡ Ok n → (t : Thread) → h.threads a ≡ Some t → n ≡ length t.frames
  unfolding answer
  ended_as a n e k t live = (taken compile d next (EndThread a) n e k).number ∙ ap (λ (x : Thread). length x.frames) (thread_as compile d h count c a t live)

  left_as : (a n : ℕ) → decoded next ≡ Some (ReturnCall a) → r ≡ Ok n → (t : Thread) → h.threads a ≡ Some t
      → (f : Frame) (fs : List Frame) → t.frames ≡ f ∷ fs → n ≡ f.segment
  unfolding answer
  left_as a n e k t live f fs w =
      (taken compile d next (ReturnCall a) n e k).number ∙ ap (λ (x : Thread). newest x.frames) (thread_as compile d h count c a t live) ∙ ap newest w

  -- the list that the history has after a change of segment b is the changed one
  listed_as : (b : ℕ) (f : Segment → Segment) → b < length d.segments → (step compile d next).state.segments ≡ set d.segments b (f (segment_at d b))
      → list_of (advance h (event next r)) b ≡ (f (segment_at d b)).keys
  listed_as b f lt w =
      let d' = (step compile d next).state in
      let same : length d'.segments ≡ length d.segments = ap length w ∙ length-set d.segments b _ in
      keys_agree compile d' _ (counted count (event next r)) (step_agrees compile holds law d h count next c) b (omega arith)
      ∙ ap (λ (gs : List Segment). (get_or gs b blank_segment).keys) w
      ∙ ap (λ (g : Segment). g.keys) (get_or-set_same d.segments b (f (segment_at d b)) blank_segment lt)

  given_as : (a b k n : ℕ) → decoded next ≡ Some (GiveKey a b k) → r ≡ Ok n → n ≡ length (list_of (advance h (event next r)) b)
  unfolding answer conditions update
  given_as a b k n e w =
      let t = taken compile d next (GiveKey a b k) n e w in
      let lt = ltb-true b (length d.segments) (not-false _ (all_fail (conditions compile d (GiveKey a b k) text) t.free).1.0) in
      t.number ∙ ap length (sym (listed_as b (give_key k) lt (ap (λ (s : State). s.segments) t.state)))

  taken_as : (a b k n : ℕ) → decoded next ≡ Some (TakeKey a b k) → r ≡ Ok n → n ≡ length (list_of (advance h (event next r)) b)
  unfolding answer conditions update
  taken_as a b k n e w =
      let t = taken compile d next (TakeKey a b k) n e w in
      let lt = ltb-true b (length d.segments) (not-false _ (all_fail (conditions compile d (TakeKey a b k) text) t.free).1.0) in
      t.number ∙ ap length (sym (listed_as b (take_key k) lt (ap (λ (s : State). s.segments) t.state)))

  dropped_as : (a b n : ℕ) → decoded next ≡ Some (DropLock a b) → r ≡ Ok n → (l : Lock) → Memᴰ l h.locks → l.number ≡ b
      → n ≡ length (products_of compile l.text)
  unfolding answer conditions
  dropped_as a b n e w l m same =
      let t = taken compile d next (DropLock a b) n e w in
      let there : is_lock d b ≡ true = not-false _ (all_fail (conditions compile d (DropLock a b) text) t.free).1.0 in
      let segment_for : lock_segment d b ≡ l.segment =
      sym (found compile d.segments d.lock_numbers h.locks c.locks b there)
      ∙ ap c.locks.segment_for (sym same) ∙ lock_homed compile d.segments d.lock_numbers h.locks c.locks l m in
      let own : keep (is_of_lock l.number) (segment_at d l.segment).products ≡ stored_of compile l =
      lock_stores compile holds law d.segments d.lock_numbers h.locks c.locks l m l.segment ∙ rw (eqb_self l.segment) in
      t.number
      ∙ ap₂ (λ (k s : ℕ). length (keep (is_of_lock k) (segment_at d s).products)) (sym same) segment_for
      ∙ ap length own
      ∙ length-map (products_of compile l.text) (lock_product l.number l.operations)

on_model : (compile : Compiler) (holds : Meaning) → Laws compile holds → (xs : List Call) (next : Call)
    → Numbers compile (events_of compile empty_state xs) next (step compile (state_after compile empty_state xs) next).answer
on_model compile holds law xs next =
    let d = state_after compile empty_state xs in
    let es = events_of compile empty_state xs in
    let count : ℕ → ℕ = λ k. accepted_of k es in
    let c = agree compile holds law xs in
    record {
      ended = ended_as compile holds law d (history es) count c next;
      key_given = given_as compile holds law d (history es) count c next;
      key_taken = taken_as compile holds law d (history es) count c next;
      dropped = dropped_as compile holds law d (history es) count c next;
      left = left_as compile holds law d (history es) count c next;
      in_order = locks_rise compile d.segments d.lock_numbers (history es).locks c.locks;
    }

pub numbering_by_laws : NumberingByLaws
numbering_by_laws compile holds law xs next =
    let f = follows compile holds law xs in
    let r = refinement_by_laws compile holds law (reached compile xs) f.sized next in
    let last : answer_to compile xs next ≡ (step compile (state_after compile empty_state xs) next).answer = r.answer ∙ ap (λ (d : State). (step compile d next).answer) f.state in
    rw (f.events, last) (on_model compile holds law xs next)

pub numbering : Numbering
numbering = numbering_by_laws outcome_of text_holds laws
