-- The limits, by an invariant that every accepted call keeps: a call that adds something was not refused by 10, which
-- is its limit, and the others add nothing.
use Rattle.std.specs.Prelude.{None}
use mathlib.Core.Path.{◌≡◌}
use mathlib.Core.List.{List, [], ◌∷◌, ◌++◌}
use Prim.Native.Nat.{ℕ, suc, ◌+◌, ◌≤◌, zero-le, suc-le-suc}
use native.Mathlib.Omega.{arith}
use lib.ListN.{length, get_or, length-map}
use Rattle.formula.specs.Outcome.{outcome_of, sum_in}
use Rattle.formula.specs.Meaning.{text_holds}
use Rattle.formula.specs.Compiler.{Compiler}
use Rattle.formula.proofs.Opening.{laws}
use Rattle.call.specs.declared.request.Request.{Request}
use Rattle.call.specs.declared.request.Request.TheVariants as request
use Rattle.base.specs.Conditions.{first_refusal}
use Rattle.base.proofs.Conditions.{all_fail}
use Rattle.base.proofs.Truth.{neither}
use Rattle.model.specs.Limits.{most_users, most_threads, most_segments, most_defined, most_listed, most_standing, most_frames, most_numbers, passes}
use Rattle.model.specs.State.{user_of, State, empty_state, Segment, segment_at, Place, free, is_free, live_in, place_for, place_of, thread_at, lock_segment, issued}
use Rattle.model.specs.Refusals.{conditions}
use Rattle.model.specs.Effects.{on_segment, on_thread, at_place, push_frame, pop_frame, give_key, take_key, revoke_frame, revoke_thread, drop_products, update}
use Rattle.model.specs.Replay.{state_after}
use Rattle.model.specs.Theorems.Bounds.{BoundsAlways, Bounds}
use Rattle.base.proofs.Lists.{length_append_one}
use Rattle.model.proofs.Refinement.Counts.{within}
use Rattle.model.proofs.Refinement.EveryCall.{follows}
use Rattle.model.proofs.Limits.Invariants.{keep_calls}
use Rattle.model.proofs.Limits.Kept.{Shallow, SegmentKept, Kept, kept_empty, kept_within, with_users_lem, with_thread_numbers_lem, with_lock_numbers_lem, with_makers_lem, with_segments_lem, with_places_lem, places_set, places_each, shallow_push, shallow_pop, segments_set, segments_add, give_kept, take_kept, add_kept, drop_kept}

-- ---- each request

module _ (compile : Compiler) (d : State) (k : Kept d) (text : List ℕ) where
  -- an accepted q keeps the invariant
  abbrev Keeps : Request → Type 0
  Keeps q = first_refusal (conditions compile d q text) ≡ None → Kept (update compile d q text)

  at_place_lem : (a : ℕ) (f : Place → Place) → Shallow (f (get_or d.places (place_of a d.places) free)) → Kept (at_place d a f)
  at_place_lem a f h = with_places_lem k _ (places_set d.places k.places (place_of a d.places) _ h)

  on_segment_lem : (s : ℕ) (f : Segment → Segment) → SegmentKept (f (segment_at d s)) → Kept (on_segment d s f)
  on_segment_lem s f h = with_segments_lem k _ (segments_set d.segments k.segments s (f (segment_at d s)) h)

  keep_accepted : (q : Request) → Keeps q
  unfolding conditions update
  keep_accepted request.NewUser e = with_users_lem k _ (within most_users (suc d.users) (all_fail (conditions compile d request.NewUser text) e).0)
  keep_accepted (request.StartThread a) e =
      let full = (all_fail (conditions compile d (request.StartThread a) text) e).1.0 in
      let numbers = (neither (passes most_threads (suc (live_in d.places))) (passes most_numbers (suc d.thread_numbers)) full).1 in
      with_thread_numbers_lem
      (with_places_lem k _ (places_set d.places k.places (place_for d.thread_numbers is_free d.places) _ zero-le))
      _ (within most_numbers (suc d.thread_numbers) numbers)
  keep_accepted (request.EndThread a) e = at_place_lem a (λ p. free) zero-le
  keep_accepted (request.NewSegment a b) e =
      let full = (all_fail (conditions compile d (request.NewSegment a b) text) e).1.1.0 in
      let room = within most_segments (suc (length d.segments)) full in
      with_segments_lem k _ (segments_add d.segments k.segments _ (record { listed = suc-le-suc zero-le; products = zero-le }) room)
  keep_accepted (request.NewKey a) e =
      let more : length (d.makers ++ user_of d a ∷ []) ≡ suc (length d.makers) = length_append_one d.makers (user_of d a) in
      let full = (all_fail (conditions compile d (request.NewKey a) text) e).1.0 in
      let room : suc (length d.makers) ≤ most_defined = within most_defined (suc (length d.makers)) full in
      with_makers_lem k _ (omega arith)
  keep_accepted (request.GiveKey a b c) e =
      let full = (all_fail (conditions compile d (request.GiveKey a b c) text) e).1.1.1.1.1.0 in
      let room = within most_listed (suc (length (segment_at d b).keys)) full in
      on_segment_lem b (give_key c) (give_kept c (segment_at d b) (k.segments.each b) room)
  keep_accepted (request.TakeKey a b c) e =
      let listed = on_segment_lem b (take_key c) (take_kept c (segment_at d b) (k.segments.each b)) in
      with_places_lem listed _ (places_each d.places k.places (revoke_thread b c) (λ t. length-map t.frames (revoke_frame b c)))
  keep_accepted (request.AddLock a b c) e =
      let ps = sum_in (compile (issued d) text) in
      let n = length (segment_at d b).products + length ps in
      let full = (all_fail (conditions compile d (request.AddLock a b c) text) e).1.1.1.1.1.1.1.0 in
      let (products, numbers) = neither (passes most_standing n) (passes most_numbers (suc d.lock_numbers)) full in
      let more = add_kept d.lock_numbers c ps (segment_at d b) (k.segments.each b) (within most_standing n products) in
      with_lock_numbers_lem (with_segments_lem k _ (segments_set d.segments k.segments b _ more)) _ (within most_numbers (suc d.lock_numbers) numbers)
  keep_accepted (request.DropLock a b) e = on_segment_lem (lock_segment d b) (drop_products b) (drop_kept b (segment_at d (lock_segment d b)) (k.segments.each (lock_segment d b)))
  keep_accepted (request.CallSegment a b) e =
      let full = (all_fail (conditions compile d (request.CallSegment a b) text) e).1.1.1.1.1.0 in
      let room = within most_frames (suc (length (thread_at d a).frames)) full in
      let keys = (segment_at d b).keys in
      at_place_lem a (on_thread (push_frame b keys)) (shallow_push b keys (get_or d.places (place_of a d.places) free) room)
  keep_accepted (request.ReturnCall a) e =
      let i = place_of a d.places in
      at_place_lem a (on_thread pop_frame) (shallow_pop (get_or d.places i free) (k.places.frames i))
  keep_accepted (request.Access a b c) e = k

-- ---- every list of calls

pub bounds_always : BoundsAlways
bounds_always compile xs = kept_within (state_after compile empty_state xs) (keep_calls compile Kept (keep_accepted compile) empty_state kept_empty xs)

pub bounds : Bounds
bounds =
    record {
      model = bounds_always outcome_of;
      arrays = λ xs. rw (follows outcome_of text_holds laws xs).state (bounds_always outcome_of xs);
    }
