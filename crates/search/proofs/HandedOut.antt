-- By the invariant of `ListedKeys`, which every accepted call keeps: N gives a segment its own S key, G a D key that
-- was handed out, C copies a list into a frame, the others add no key, and the counts only grow.
use Rattle.std.specs.Prelude.{None, Ok, Some}
use mathlib.Core.Path.{◌≡◌, sym, ap, ◌∙◌}
use mathlib.Core.Bool.{not}
use mathlib.Core.List.{List, [], ◌∷◌, ◌++◌}
use Prim.Native.Nat.{ℕ, suc}
use native.Mathlib.Omega.{arith}
use lib.ListN.{length, get_or, set, length-set}
use borrow.Author.Tests.{lt-ltb, not-false}
use Rattle.base.specs.Conditions.{first_refusal}
use Rattle.base.proofs.Conditions.{all_fail}
use Rattle.base.proofs.Lists.{All-append, All-keep, length_append_one, everywhere_set, everywhere_map, everywhere_append_one, everywhere_all}
use Rattle.product.specs.declared.literal.Key.{Key}
use Rattle.product.specs.declared.literal.Key.TheVariants.{Defined}
use Rattle.formula.specs.declared.text.Issued.{Issued}
use Rattle.formula.specs.Outcome.{outcome_of, sum_in}
use Rattle.formula.specs.Compiler.{Compiler}
use Rattle.call.specs.declared.request.Request.{Request}
use Rattle.call.specs.declared.request.Request.TheVariants as request
use Rattle.model.specs.Threads.{same_key}
use Rattle.model.specs.State.{State, empty_state, Segment, blank_segment, fresh_segment, segment_at, user_of, is_key, issued, Place, free, is_free, place_for, place_of, thread_at, lock_segment}
use Rattle.model.specs.Refusals.{conditions}
use Rattle.model.specs.Effects.{on_segment, on_thread, at_place, push_frame, pop_frame, give_key, take_key, revoke_thread, add_products, drop_products, update}
use Rattle.model.specs.Cells.{state_of}
use Rattle.model.specs.Replay.{reached}
use Rattle.model.proofs.Limits.Invariants.{keep_calls}
use Rattle.model.proofs.Refinement.EveryCall.{refinement}
use Rattle.model.proofs.Agreement.Mirror.{mirror}
use Rattle.search.specs.Searching.{searched}
use Rattle.search.specs.Theorems.Exactly.{no_frame, call_at}
use Rattle.search.specs.Theorems.HandedOut.{can_be_listed, HandedOut}
use Rattle.search.proofs.Exactly.{exactly}
use Rattle.search.proofs.ListedKeys.{Listed, SegmentListed, FrameListed, PlaceListed, AllListed, Kept, place_push, place_pop, place_revoke, one_listed, more, kept_empty}

-- ---- each request

module _ (compile : Compiler) (d : State) (k : Kept d) (text : List ℕ) where
  abbrev InLists : Key → Type 0
  InLists = Listed (length d.segments) (length d.makers)

  abbrev InPlace : Place → Type 0
  InPlace = PlaceListed (length d.segments) (length d.makers)

  abbrev InSegment : Segment → Type 0
  InSegment = SegmentListed (length d.segments) (length d.makers)

  keep_at_place : (a : ℕ) (f : Place → Place) → InPlace (f (get_or d.places (place_of a d.places) free)) → Kept (at_place d a f)
  keep_at_place a f h =
      record { segments = k.segments; places = everywhere_set InPlace free d.places k.places (place_of a d.places) _ h }

  keep_on_segment : (s : ℕ) (f : Segment → Segment) → InSegment (f (segment_at d s)) → Kept (on_segment d s f)
  keep_on_segment s f h =
      let same : length (set d.segments s (f (segment_at d s))) ≡ length d.segments = length-set d.segments s (f (segment_at d s)) in
      more (omega arith) (omega arith)
      (record { segments = everywhere_set InSegment blank_segment d.segments k.segments s (f (segment_at d s)) h; places = k.places })

  keep_accepted : (q : Request) → first_refusal (conditions compile d q text) ≡ None → Kept (update compile d q text)
  unfolding conditions update
  keep_accepted request.NewUser e = k
  keep_accepted (request.StartThread a) e =
      record {
        segments = k.segments;
        places = everywhere_set InPlace free d.places k.places (place_for d.thread_numbers is_free d.places) _ tt;
      }
  keep_accepted (request.EndThread a) e = keep_at_place a (λ p. free) tt
  keep_accepted (request.NewSegment a b) e =
      let s = length d.segments in
      let g = fresh_segment s (user_of d a) b in
      let gs = d.segments ++ g ∷ [] in
      let count : length gs ≡ suc s = length_append_one d.segments g in
      let grown : AllListed (length gs) (length d.makers) d.segments d.places = more (omega arith) (omega arith) k in
      let own = lt-ltb s (length gs) (omega arith) in
      record {
        segments = everywhere_append_one (SegmentListed (length gs) (length d.makers)) blank_segment d.segments grown.segments g (own, tt);
        places = grown.places;
      }
  keep_accepted (request.NewKey a) e =
      let count : length (d.makers ++ user_of d a ∷ []) ≡ suc (length d.makers) = length_append_one d.makers (user_of d a) in
      more (omega arith) (omega arith) k
  keep_accepted (request.GiveKey a b c) e =
      let known = not-false (is_key d c) (all_fail (conditions compile d (request.GiveKey a b c) text) e).1.1.0 in
      keep_on_segment b (give_key c) (All-append InLists (segment_at d b).keys (Defined c ∷ []) (k.segments b) (known, tt))
  keep_accepted (request.TakeKey a b c) e =
      let InTaken : Place → Type 0 = PlaceListed (length (on_segment d b (take_key c)).segments) (length d.makers) in
      let listed = keep_on_segment b (take_key c) (All-keep InLists (λ j. not (same_key (Defined c) j)) (segment_at d b).keys (k.segments b)) in
      record {
        segments = listed.segments;
        places = everywhere_map InTaken InTaken free (on_thread (revoke_thread b c)) (place_revoke _ _ b c) tt d.places listed.places;
      }
  keep_accepted (request.AddLock a b c) e = keep_on_segment b (add_products d.lock_numbers c (sum_in (compile (issued d) text))) (k.segments b)
  keep_accepted (request.DropLock a b) e = keep_on_segment (lock_segment d b) (drop_products b) (k.segments (lock_segment d b))
  keep_accepted (request.CallSegment a b) e =
      let i = place_of a d.places in
      let keys = (segment_at d b).keys in
      keep_at_place a (on_thread (push_frame b keys)) (place_push _ _ b keys (get_or d.places i free) (k.segments b) (k.places i))
  keep_accepted (request.ReturnCall a) e =
      let i = place_of a d.places in
      keep_at_place a (on_thread pop_frame) (place_pop _ _ (get_or d.places i free) (k.places i))
  keep_accepted (request.Access a b c) e = k

-- ---- what the search finds

found_listed : (d : State) → Kept d → (n : ℕ) (k : Key) (p : ℕ) → searched d n k ≡ Ok (Some p)
    → Listed (length d.segments) (length d.makers) k
found_listed d kept n k p e =
    let fs = (thread_at d n).frames in
    let listed = everywhere_all (FrameListed _ _) no_frame tt fs (kept.places (place_of n d.places)) p in
    one_listed _ _ k (call_at fs p).keys listed (((exactly d n k).at p).0 e).1.hands_over

pub handed_out : HandedOut
handed_out xs n k p e =
    let kept : Kept (state_of (reached outcome_of xs)) = rw (refinement.list xs).state (keep_calls outcome_of Kept (keep_accepted outcome_of) empty_state kept_empty xs) in
    sym (ap (λ (i : Issued). can_be_listed i.segments i.defined k) (mirror.state xs).handed_out)
    ∙ found_listed (state_of (reached outcome_of xs)) kept n k p e
