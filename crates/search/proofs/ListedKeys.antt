-- The invariant by which a key that the search finds was handed out: each key in a segment's list and in a frame is the
-- S key of a segment handed out, or a D key handed out. It stays when more are handed out.
use mathlib.Core.Path.{◌≡◌, ap, ◌∙◌}
use mathlib.Core.Bool.{true, not}
use mathlib.Core.List.{List, [], ◌∷◌, map}
use Prim.Native.Nat.{ℕ, ◌≤◌}
use native.Mathlib.Omega.{arith}
use lib.Dec.{eqb}
use lib.ListN.{length, get_or}
use borrow.Author.Tests.{ltb-true, lt-ltb}
use Rattle.base.specs.Lists.{tail_of}
use Rattle.base.proofs.Lists.{All, All-keep, All-map, case_bool, all_at, any_found, Everywhere, everywhere_replicate}
use Rattle.product.specs.declared.literal.Key.{Key}
use Rattle.product.specs.declared.literal.Key.TheVariants.{User, Thread as ThreadKey, Segment as SegmentKey, Defined}
use Rattle.model.specs.Limits.{most_threads}
use Rattle.model.specs.Threads.{Frame, same_key, is_in}
use Rattle.model.specs.State.{State, empty_state, Segment, blank_segment, Place, free, taken}
use Rattle.model.specs.Effects.{on_thread, push_frame, pop_frame, revoke_frame, revoke_thread}
use Rattle.model.proofs.Limits.Kept.{occupant}
use Rattle.model.proofs.Keys.{same_key_lem}
use Rattle.search.specs.Theorems.HandedOut.{can_be_listed}

-- ---- when s segments and n D keys were handed out

module _ (s n : ℕ) where
  abbrev pub Listed : Key → Type 0
  Listed k = can_be_listed s n k ≡ true

  abbrev pub SegmentListed : Segment → Type 0
  SegmentListed g = All Listed g.keys

  abbrev pub FrameListed : Frame → Type 0
  FrameListed f = All Listed f.keys

  abbrev pub PlaceListed : Place → Type 0
  PlaceListed p = All FrameListed (occupant p).frames

  pub record AllListed (gs : List Segment) (ps : List Place) : Type 0 where
    pub segments : Everywhere SegmentListed blank_segment gs
    pub places : Everywhere PlaceListed free ps

  pub place_push : (b : ℕ) (keys : List Key) (p : Place) → All Listed keys → PlaceListed p → PlaceListed (on_thread (push_frame b keys) p)
  place_push b keys free new h = tt
  place_push b keys (taken m t) new h = (new, h)

  pub place_pop : (p : Place) → PlaceListed p → PlaceListed (on_thread pop_frame p)
  place_pop free h = tt
  place_pop (taken m t) h = tail t.frames h
    where
      tail : (fs : List Frame) → All FrameListed fs → All FrameListed (tail_of fs)
      tail [] h = tt
      tail (f ∷ fs) h = h.1

  pub place_revoke : (b c : ℕ) (p : Place) → PlaceListed p → PlaceListed (on_thread (revoke_thread b c) p)
  place_revoke b c free h = tt
  place_revoke b c (taken m t) h = each t.frames h
    where
      each : (fs : List Frame) → All FrameListed fs → All FrameListed (map (revoke_frame b c) fs)
      each [] h = tt
      each (f ∷ fs) h =
          (case_bool (eqb f.segment b) (λ e. simp e (All-keep Listed (λ j. not (same_key (Defined c) j)) f.keys h.0)) (λ e. simp e h.0), each fs h.1)

  -- a key of a list
  pub one_listed : (k : Key) (keys : List Key) → All Listed keys → is_in k keys ≡ true → Listed k
  one_listed k keys h found =
      let (x, there, same) = any_found (same_key k) keys found in
      ap (can_be_listed s n) (same_key_lem k x same) ∙ all_at Listed keys h x there

-- and then more
module _ {s n s' n' : ℕ} (segments : s ≤ s') (defined : n ≤ n') where
  more_keys : (k : Key) → Listed s n k → Listed s' n' k
  more_keys (User m) h = h
  more_keys (ThreadKey m) h = h
  more_keys (SegmentKey m) h = let l = ltb-true m s h in lt-ltb m s' (omega arith)
  more_keys (Defined m) h = let l = ltb-true m n h in lt-ltb m n' (omega arith)

  pub more : {gs : List Segment} {ps : List Place} → AllListed s n gs ps → AllListed s' n' gs ps
  more {gs} {ps} a =
      record {
        segments = λ i. All-map more_keys (get_or gs i blank_segment).keys (a.segments i);
        places = λ i. All-map (λ f. All-map more_keys f.keys) (occupant (get_or ps i free)).frames (a.places i);
      }

-- ---- the invariant

abbrev pub Kept : State → Type 0
Kept d = AllListed (length d.segments) (length d.makers) d.segments d.places

pub kept_empty : Kept empty_state
kept_empty = record { segments = λ i. tt; places = everywhere_replicate (PlaceListed 0 0) free tt most_threads }
