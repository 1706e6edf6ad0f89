-- One call on a state and on what thread n sees of it: if it isn't struck out, both come to the same, but for the
-- number of another thread's E; if it is, thread n sees no change. Each letter has a line in each of the four tables.
use Rattle.std.specs.Prelude.{Ok, Option, None, Some}
use mathlib.Core.Path.{◌≡◌, refl, sym, ap, ◌∙◌}
use mathlib.Core.Bool.{Bool, true, false, not, cond, false≢true}
use mathlib.Core.List.{List, map}
use Prim.Native.Nat.{ℕ}
use lib.Dec.{eqb}
use borrow.Author.Tests.{eqb-true, not-true, not-false}
use Rattle.base.specs.Conditions.{first_refusal}
use Rattle.base.proofs.Conditions.{all_fail}
use Rattle.formula.specs.Compiler.{Compiler}
use Rattle.call.specs.declared.request.Request.{Request}
use Rattle.call.specs.declared.request.Request.TheVariants as request
use Rattle.call.specs.Calls.{Decoded}
use Rattle.call.specs.Calls.{Call, decoded}
use Rattle.call.specs.Requests.{call_of}
use Rattle.call.proofs.Requests.{requests_exactly}
use Rattle.model.specs.declared.answer.Refusal.{Refusal}
use Rattle.model.specs.Answers.{Answer}
use Rattle.model.specs.Threads.{Thread}
use Rattle.model.specs.State.{State, fresh_thread, is_free, is_live, free, taken}
use Rattle.model.specs.Refusals.{opening_product, tightest_product, conditions}
use Rattle.model.specs.Effects.{with_places, on_segment, at_place, on_thread, push_frame, pop_frame, take_key, revoke_thread, update, answer}
use Rattle.model.specs.Model.{judged, step_decoded, step}
use Rattle.model.specs.Theorems.Neighbours.{is_struck, ends_another, without_number}
use Rattle.model.proofs.Agreement.Places.{lives}
use Rattle.model.proofs.Neighbours.Erased.{view, erase, free_kept, all_twice, live_kept, place_kept, home_kept, own_kept, alive_kept, user_kept, KeepsUser, change_kept, each_seen, change_seen, change_unseen}

module _ (compile : Compiler) (n : ℕ) (text : List ℕ) where
  same_thread : (m : ℕ) → not (eqb m n) ≡ false → m ≡ n
  same_thread m h = eqb-true m n (not-false _ h)

  conditions_same : (d : State) (q : Request) → is_struck n (call_of q text) ≡ false
      → conditions compile (view n d) q text ≡ conditions compile d q text
  unfolding conditions opening_product
  conditions_same d request.NewUser h = refl
  conditions_same d (request.StartThread a) h = rw (live_kept n d.places)
  conditions_same d (request.EndThread a) h = rw (alive_kept n d.places a)
  conditions_same d (request.NewSegment a b) h = rw (user_kept n d.places a)
  conditions_same d (request.NewKey a) h = rw (user_kept n d.places a)
  conditions_same d (request.GiveKey a b c) h = rw (user_kept n d.places a)
  conditions_same d (request.TakeKey a b c) h = rw (user_kept n d.places a)
  conditions_same d (request.AddLock a b c) h = rw (user_kept n d.places a)
  conditions_same d (request.DropLock a b) h = rw (user_kept n d.places a)
  conditions_same d (request.CallSegment a b) h = rw (same_thread a h, own_kept n d.places)
  conditions_same d (request.ReturnCall a) h = rw (same_thread a h, own_kept n d.places)
  conditions_same d (request.Access a b c) h = rw (same_thread a h, own_kept n d.places)

  answer_same : (d : State) (q : Request) → is_struck n (call_of q text) ≡ false → ends_another n (call_of q text) ≡ false
      → answer compile (view n d) q text ≡ answer compile d q text
  unfolding answer tightest_product
  answer_same d request.NewUser h k = refl
  answer_same d (request.StartThread a) h k = refl
  answer_same d (request.EndThread a) h k = rw (same_thread a k, own_kept n d.places)
  answer_same d (request.NewSegment a b) h k = refl
  answer_same d (request.NewKey a) h k = refl
  answer_same d (request.GiveKey a b c) h k = refl
  answer_same d (request.TakeKey a b c) h k = refl
  answer_same d (request.AddLock a b c) h k = refl
  answer_same d (request.DropLock a b) h k = refl
  answer_same d (request.CallSegment a b) h k = rw (same_thread a h, own_kept n d.places)
  answer_same d (request.ReturnCall a) h k = rw (same_thread a h, own_kept n d.places)
  answer_same d (request.Access a b c) h k = rw (same_thread a h, own_kept n d.places)

  -- what leaves the places as they are
  idle : (d after : State) → with_places after (map (erase n) d.places) ≡ with_places after (map (erase n) (map (erase n) d.places))
  idle d after = ap (with_places after) (sym (all_twice n d.places))

  update_same : (d : State) (q : Request) → view n (update compile d q text) ≡ view n (update compile (view n d) q text)
  unfolding update
  update_same d request.NewUser = idle d (update compile d request.NewUser text)
  update_same d (request.StartThread a) =
      ap (with_places (update compile d (request.StartThread a) text))
      (change_seen n d.places _ _ (λ x. taken d.thread_numbers (fresh_thread a)) (place_kept n is_free (free_kept n) d.thread_numbers d.places) (λ x. refl))
  update_same d (request.EndThread a) =
      ap (with_places d) (change_seen n d.places _ _ (λ x. free) (home_kept n d.places a) (λ x. refl))
  update_same d (request.NewSegment a b) = rw (user_kept n d.places a) (idle d (update compile d (request.NewSegment a b) text))
  update_same d (request.NewKey a) = rw (user_kept n d.places a) (idle d (update compile d (request.NewKey a) text))
  update_same d (request.GiveKey a b c) = idle d (update compile d (request.GiveKey a b c) text)
  update_same d (request.TakeKey a b c) = ap (with_places (on_segment d b (take_key c))) (each_seen n (revoke_thread b c) (λ t. refl) d.places)
  update_same d (request.AddLock a b c) = idle d (update compile d (request.AddLock a b c) text)
  update_same d (request.DropLock a b) = idle d (update compile d (request.DropLock a b) text)
  update_same d (request.CallSegment a b) =
      ap (with_places d) (change_seen n d.places _ _ (on_thread (push_frame b _)) (home_kept n d.places a) (change_kept n (push_frame b _) (λ t. refl)))
  update_same d (request.ReturnCall a) =
      ap (with_places d) (change_seen n d.places _ _ (on_thread pop_frame) (home_kept n d.places a) (change_kept n pop_frame (λ t. refl)))
  update_same d (request.Access a b c) = idle d d

  -- another live thread changed, as an accepted C or R of its does
  unseen_thread : (d : State) (a : ℕ) (f : Thread → Thread) → KeepsUser f → not (eqb a n) ≡ true → not (is_live d a) ≡ false
      → view n (at_place d a (on_thread f)) ≡ view n d
  unseen_thread d a f h other live =
      ap (with_places d) (change_unseen n d.places a f h (not-true _ other) (lives a d.places (not-false _ live)))

  update_unseen : (d : State) (q : Request) → is_struck n (call_of q text) ≡ true
      → first_refusal (conditions compile d q text) ≡ None → view n (update compile d q text) ≡ view n d
  unfolding update conditions
  update_unseen d request.NewUser h e = absurd (false≢true h)
  update_unseen d (request.StartThread a) h e = absurd (false≢true h)
  update_unseen d (request.EndThread a) h e = absurd (false≢true h)
  update_unseen d (request.NewSegment a b) h e = absurd (false≢true h)
  update_unseen d (request.NewKey a) h e = absurd (false≢true h)
  update_unseen d (request.GiveKey a b c) h e = absurd (false≢true h)
  update_unseen d (request.TakeKey a b c) h e = absurd (false≢true h)
  update_unseen d (request.AddLock a b c) h e = absurd (false≢true h)
  update_unseen d (request.DropLock a b) h e = absurd (false≢true h)
  update_unseen d (request.CallSegment a b) h e =
      unseen_thread d a (push_frame b _) (λ t. refl) h (all_fail (conditions compile d (request.CallSegment a b) text) e).0
  update_unseen d (request.ReturnCall a) h e =
      unseen_thread d a pop_frame (λ t. refl) h (all_fail (conditions compile d (request.ReturnCall a) text) e).0
  update_unseen d (request.Access a b c) h e = refl

module _ (compile : Compiler) (n : ℕ) where
  -- what is seen of an answer, of another thread's E or not
  abbrev pub shown : Bool → Answer → Answer
  shown another r = cond another (without_number r) r

  abbrev pub Alike : Bool → record { state : State; answer : Answer } → record { state : State; answer : Answer } → Type 0
  Alike another x y = (view n x.state ≡ view n y.state) × (shown another x.answer ≡ shown another y.answer)

  numbers_same : (d : State) (q : Request) (text : List ℕ) → is_struck n (call_of q text) ≡ false
      → (another : Bool) → ends_another n (call_of q text) ≡ another
      → shown another (Ok (answer compile d q text)) ≡ shown another (Ok (answer compile (view n d) q text))
  numbers_same d q text h true e = refl
  numbers_same d q text h false e = ap Ok (sym (answer_same compile n text d q h e))

  seen_alike : (d : State) (x : Call) → is_struck n x ≡ false → Alike (ends_another n x) (step compile d x) (step compile (view n d) x)
  unfolding step
  seen_alike d x h = by_decoded (decoded x) refl
    where
      by_refusal : (q : Request) → x ≡ call_of q x.text → (o : Option Refusal)
          → Alike (ends_another n x) (judged compile d q x.text o) (judged compile (view n d) q x.text o)
      by_refusal q s None =
          (update_same compile n x.text d q, numbers_same d q x.text (sym (ap (is_struck n) s) ∙ h) (ends_another n x) (sym (ap (ends_another n) s)))
      by_refusal q s (Some r) = (idle compile n x.text d d, refl)

      by_decoded : (k : Decoded) → decoded x ≡ k → Alike (ends_another n x) (step_decoded compile d k x.text) (step_decoded compile (view n d) k x.text)
      by_decoded None e = (idle compile n x.text d d, refl)
      by_decoded (Some q) e =
          let s = (requests_exactly x q).0 e in
          rw (conditions_same compile n x.text d q (sym (ap (is_struck n) s) ∙ h)) (by_refusal q s (first_refusal (conditions compile d q x.text)))

  pub struck_unseen : (d : State) (x : Call) → is_struck n x ≡ true → view n (step compile d x).state ≡ view n d
  unfolding step
  struck_unseen d x h = by_decoded (decoded x) refl
    where
      by_refusal : (q : Request) → x ≡ call_of q x.text → (o : Option Refusal) → first_refusal (conditions compile d q x.text) ≡ o
          → view n (judged compile d q x.text o).state ≡ view n d
      by_refusal q s None e = update_unseen compile n x.text d q (sym (ap (is_struck n) s) ∙ h) e
      by_refusal q s (Some r) e = refl

      by_decoded : (k : Decoded) → decoded x ≡ k → view n (step_decoded compile d k x.text).state ≡ view n d
      by_decoded None e = refl
      by_decoded (Some q) e = by_refusal q ((requests_exactly x q).0 e) (first_refusal (conditions compile d q x.text)) refl

  -- the same call on two states that thread n sees alike
  pub left_alike : (d e : State) → view n d ≡ view n e → (x : Call) → is_struck n x ≡ false → Alike (ends_another n x) (step compile d x) (step compile e x)
  left_alike d e same x h =
      let (v, a) = seen_alike d x h in
      let (w, b) = seen_alike e x h in (
        v ∙ ap (λ (s : State). view n (step compile s x).state) same ∙ sym w,
        a ∙ ap (λ (s : State). shown (ends_another n x) (step compile s x).answer) same ∙ sym b,
      )
