-- The limits as an invariant, part by part: a law for each field of the state in the place of what was there, and what
-- a change of a place or of a segment leaves within its limit. There are always 64 places, so no more threads live; and
-- the frames are bounded place by place.
use mathlib.Core.Path.{◌≡◌, ◌∙◌}
use mathlib.Core.Bool.{not}
use mathlib.Core.List.{List, [], ◌∷◌, ◌++◌, map}
use Prim.Native.Nat.{ℕ, suc, ◌+◌, ◌≤◌, zero-le}
use native.Mathlib.Omega.{arith}
use lib.ListN.{length, set, length-append, length-set, length-map, length-replicate}
use Rattle.product.specs.declared.literal.Key.{Key}
use Rattle.product.specs.declared.literal.Key.TheVariants.{Defined}
use Rattle.product.specs.Sum.{Sum}
use Rattle.base.specs.Lists.{or_default, tail_of}
use Rattle.model.specs.Limits.{most_users, most_threads, most_segments, most_defined, most_listed, most_standing, most_frames, most_numbers}
use Rattle.model.specs.Threads.{Thread, same_key}
use Rattle.model.specs.State.{State, empty_state, Segment, blank_segment, Place, free, taken, is_free, live_in, thread_in, blank_thread, is_of_lock}
use Rattle.model.specs.Effects.{with_users, with_thread_numbers, with_lock_numbers, with_makers, with_segments, with_places, on_thread, push_frame, pop_frame, give_key, take_key, lock_product, add_products, drop_products}
use Rattle.model.specs.Theorems.Bounds.{Within}
use Rattle.base.proofs.Lists.{length_keep, length_append_one, Everywhere, everywhere_set, everywhere_map, everywhere_append_one, everywhere_replicate}

-- ---- laws of lists

module _ {A : Type 0} where
  length_tail_of : (xs : List A) → length (tail_of xs) ≤ length xs
  length_tail_of [] = zero-le
  length_tail_of (x ∷ xs) = omega arith

-- ---- the invariant

abbrev pub occupant : Place → Thread
occupant p = or_default blank_thread (λ t. t) (thread_in p)

abbrev pub Shallow : Place → Type 0
Shallow p = length (occupant p).frames ≤ most_frames

pub record PlacesKept (places : List Place) : Type 0 where
  pub count : length places ≡ most_threads
  pub frames : Everywhere Shallow free places

pub record SegmentKept (g : Segment) : Type 0 where
  pub listed : length g.keys ≤ most_listed
  pub products : length g.products ≤ most_standing

pub record SegmentsKept (segments : List Segment) : Type 0 where
  pub count : length segments ≤ most_segments
  pub each : Everywhere SegmentKept blank_segment segments

pub record Kept (d : State) : Type 0 where
  pub users : d.users ≤ most_users
  pub thread_numbers : d.thread_numbers ≤ most_numbers
  pub lock_numbers : d.lock_numbers ≤ most_numbers
  pub defined : length d.makers ≤ most_defined
  pub segments : SegmentsKept d.segments
  pub places : PlacesKept d.places

pub kept_empty : Kept empty_state
kept_empty =
    record {
      users = zero-le;
      thread_numbers = zero-le;
      lock_numbers = zero-le;
      defined = zero-le;
      segments = record { count = zero-le; each = λ s. record { listed = zero-le; products = zero-le } };
      places = record { count = length-replicate most_threads free; frames = everywhere_replicate Shallow free zero-le most_threads };
    }

pub kept_within : (d : State) → Kept d → Within d
kept_within d k =
    let live : live_in d.places ≤ length d.places = length_keep (λ p. not (is_free p)) d.places in
    let places : length d.places ≡ most_threads = k.places.count in
    record {
      users = k.users;
      threads = omega arith;
      segments = k.segments.count;
      defined = k.defined;
      listed = λ s. (k.segments.each s).listed;
      products = λ s. (k.segments.each s).products;
      frames = λ i n t e. rw e at (k.places.frames i);
      thread_numbers = k.thread_numbers;
      lock_numbers = k.lock_numbers;
    }

-- a part within its limit in the place of what was there
module _ {d : State} (k : Kept d) where
  pub with_users_lem : (x : ℕ) → x ≤ most_users → Kept (with_users d x)
  with_users_lem x h =
      record { users = h; thread_numbers = k.thread_numbers; lock_numbers = k.lock_numbers; defined = k.defined; segments = k.segments; places = k.places }

  pub with_thread_numbers_lem : (x : ℕ) → x ≤ most_numbers → Kept (with_thread_numbers d x)
  with_thread_numbers_lem x h =
      record { users = k.users; thread_numbers = h; lock_numbers = k.lock_numbers; defined = k.defined; segments = k.segments; places = k.places }

  pub with_lock_numbers_lem : (x : ℕ) → x ≤ most_numbers → Kept (with_lock_numbers d x)
  with_lock_numbers_lem x h =
      record { users = k.users; thread_numbers = k.thread_numbers; lock_numbers = h; defined = k.defined; segments = k.segments; places = k.places }

  pub with_makers_lem : (x : List ℕ) → length x ≤ most_defined → Kept (with_makers d x)
  with_makers_lem x h =
      record { users = k.users; thread_numbers = k.thread_numbers; lock_numbers = k.lock_numbers; defined = h; segments = k.segments; places = k.places }

  pub with_segments_lem : (x : List Segment) → SegmentsKept x → Kept (with_segments d x)
  with_segments_lem x h =
      record { users = k.users; thread_numbers = k.thread_numbers; lock_numbers = k.lock_numbers; defined = k.defined; segments = h; places = k.places }

  pub with_places_lem : (x : List Place) → PlacesKept x → Kept (with_places d x)
  with_places_lem x h =
      record { users = k.users; thread_numbers = k.thread_numbers; lock_numbers = k.lock_numbers; defined = k.defined; segments = k.segments; places = h }

-- ---- each part under each kind of change

pub places_set : (places : List Place) → PlacesKept places → (i : ℕ) (p : Place) → Shallow p → PlacesKept (set places i p)
places_set places k i p h =
    record { count = length-set places i p ∙ k.count; frames = everywhere_set Shallow free places k.frames i p h }

-- every thread changed to one with as many frames
pub places_each : (places : List Place) → PlacesKept places → (f : Thread → Thread) → ((t : Thread) → length (f t).frames ≡ length t.frames)
    → PlacesKept (map (on_thread f) places)
places_each places k f same =
    record { count = length-map places (on_thread f) ∙ k.count; frames = everywhere_map Shallow Shallow free (on_thread f) shallow_same zero-le places k.frames }
  where
    shallow_same : (p : Place) → Shallow p → Shallow (on_thread f p)
    shallow_same free h = zero-le
    shallow_same (taken n t) h = let l = same t in omega arith

pub shallow_push : (s : ℕ) (keys : List Key) (p : Place) → suc (length (occupant p).frames) ≤ most_frames → Shallow (on_thread (push_frame s keys) p)
shallow_push s keys free h = zero-le
shallow_push s keys (taken n t) h = h

pub shallow_pop : (p : Place) → Shallow p → Shallow (on_thread pop_frame p)
shallow_pop free h = zero-le
shallow_pop (taken n t) h = let l : length (tail_of t.frames) ≤ length t.frames = length_tail_of t.frames in omega arith

pub segments_set : (segments : List Segment) → SegmentsKept segments → (s : ℕ) (g : Segment) → SegmentKept g → SegmentsKept (set segments s g)
segments_set segments k s g h =
    let same : length (set segments s g) ≡ length segments = length-set segments s g in
    let c : length segments ≤ most_segments = k.count in
    record { count = omega arith; each = everywhere_set SegmentKept blank_segment segments k.each s g h }

pub segments_add : (segments : List Segment) → SegmentsKept segments → (g : Segment) → SegmentKept g → suc (length segments) ≤ most_segments
    → SegmentsKept (segments ++ g ∷ [])
segments_add segments k g h c =
    let more : length (segments ++ g ∷ []) ≡ suc (length segments) = length_append_one segments g in
    record { count = omega arith; each = everywhere_append_one SegmentKept blank_segment segments k.each g h }

pub give_kept : (k : ℕ) (g : Segment) → SegmentKept g → suc (length g.keys) ≤ most_listed → SegmentKept (give_key k g)
give_kept k g h c =
    let more : length (g.keys ++ Defined k ∷ []) ≡ suc (length g.keys) = length_append_one g.keys (Defined k) in
    record { listed = omega arith; products = h.products }

pub take_kept : (k : ℕ) (g : Segment) → SegmentKept g → SegmentKept (take_key k g)
take_kept k g h =
    let fewer : length (take_key k g).keys ≤ length g.keys = length_keep (λ j. not (same_key (Defined k) j)) g.keys in
    let c : length g.keys ≤ most_listed = h.listed in
    record { listed = omega arith; products = h.products }

pub add_kept : (lock operations : ℕ) (ps : Sum) (g : Segment) → SegmentKept g → length g.products + length ps ≤ most_standing
    → SegmentKept (add_products lock operations ps g)
add_kept lock operations ps g h c =
    let added = map (lock_product lock operations) ps in
    let more : length (g.products ++ added) ≡ length g.products + length added = length-append g.products added in
    let same : length added ≡ length ps = length-map ps (lock_product lock operations) in
    record { listed = h.listed; products = omega arith }

pub drop_kept : (n : ℕ) (g : Segment) → SegmentKept g → SegmentKept (drop_products n g)
drop_kept n g h =
    let fewer : length (drop_products n g).products ≤ length g.products = length_keep (λ r. not (is_of_lock n r)) g.products in
    let c : length g.products ≤ most_standing = h.products in
    record { listed = h.listed; products = omega arith }
