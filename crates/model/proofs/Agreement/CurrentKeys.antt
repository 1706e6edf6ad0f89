-- The D keys that an open call hands over are in its segment's list: C copies the list, G, N, L and D take no key out
-- of one, and T takes a key out of the list and of every open call of its segment.
use Rattle.std.specs.Prelude.{None}
use mathlib.Core.Path.{◌≡◌, refl, sym, ap, ◌∙◌}
use mathlib.Core.Bool.{true, not, false≢true}
use mathlib.Core.List.{List, [], ◌∷◌, ◌++◌, map, Memᴰ}
use mathlib.Core.Logic.{◌⊎◌, inl, inr, ⊎_elim}
use Prim.Native.Nat.{ℕ, zero, suc}
use lib.Dec.{eqb}
use lib.ListN.{length, get_or, set}
use borrow.Author.Tests.{eqb-false}
use Rattle.base.specs.Conditions.{first_refusal}
use Rattle.base.specs.Lists.{tail_of}
use Rattle.base.proofs.Lists.{All, All-map, all_at, any_append, case_bool, Everywhere, everywhere_map, everywhere_set, everywhere_replicate}
use Rattle.base.proofs.Truth.{and_left, and_right, both_and}
use Rattle.product.specs.declared.literal.Key.TheVariants.{Defined}
use Rattle.formula.specs.Outcome.{sum_in}
use Rattle.formula.specs.Compiler.{Compiler}
use Rattle.call.specs.Calls.{Call}
use Rattle.call.specs.declared.request.Request.{Request}
use Rattle.call.specs.declared.request.Request.TheVariants as request
use Rattle.model.specs.Limits.{most_threads}
use Rattle.model.specs.Threads.{Frame, same_key, is_in, hands}
use Rattle.model.specs.State.{State, empty_state, Segment, blank_segment, fresh_segment, segment_at, user_of, issued, Place, free, taken, is_free, place_for, place_of, thread_at, lock_segment}
use Rattle.model.specs.Refusals.{conditions}
use Rattle.model.specs.Effects.{on_segment, on_thread, push_frame, pop_frame, give_key, take_key, revoke_frame, revoke_thread, add_products, drop_products, update}
use Rattle.model.specs.Replay.{state_after}
use Rattle.model.proofs.Keys.{in_without}
use Rattle.model.proofs.Limits.Kept.{occupant}
use Rattle.model.proofs.Limits.Invariants.{keep_calls}

-- ---- lists

-- D key k is in the list of segment s
abbrev Listed : List Segment → ℕ → ℕ → Type 0
Listed gs s k = is_in (Defined k) (get_or gs s blank_segment).keys ≡ true

-- no list loses a key
abbrev Grows : List Segment → List Segment → Type 0
Grows gs gs' = (s k : ℕ) → Listed gs s k → Listed gs' s k

set_read : (gs : List Segment) (b : ℕ) (f : Segment → Segment) (s : ℕ)
    → (get_or (set gs b (f (get_or gs b blank_segment))) s blank_segment ≡ get_or gs s blank_segment)
    ⊎ ((s ≡ b) × (get_or (set gs b (f (get_or gs b blank_segment))) s blank_segment ≡ f (get_or gs s blank_segment)))
set_read [] b f s = inl refl
set_read (g ∷ gs) zero f zero = inr (refl, refl)
set_read (g ∷ gs) zero f (suc s) = inl refl
set_read (g ∷ gs) (suc b) f zero = inl refl
set_read (g ∷ gs) (suc b) f (suc s) = ⊎_elim (λ e. inl e) (λ e. inr (ap suc e.0, e.1)) (set_read gs b f s)

abbrev has_defined : ℕ → Segment → Type 0
has_defined k g = is_in (Defined k) g.keys ≡ true

has_path : (k : ℕ) {g g' : Segment} → g' ≡ g → has_defined k g → has_defined k g'
has_path k e h = ap (λ (x : Segment). is_in (Defined k) x.keys) e ∙ h

grows_set : (gs : List Segment) (b : ℕ) (f : Segment → Segment) → ((g : Segment) (k : ℕ) → has_defined k g → has_defined k (f g))
    → Grows gs (set gs b (f (get_or gs b blank_segment)))
grows_set gs b f h s k l =
    ⊎_elim (λ e. has_path k e l) (λ e. has_path k e.1 (h (get_or gs s blank_segment) k l)) (set_read gs b f s)

grows_append : (gs : List Segment) (g : Segment) → Grows gs (gs ++ g ∷ [])
grows_append [] g s k l = absurd (false≢true l)
grows_append (x ∷ gs) g zero k l = l
grows_append (x ∷ gs) g (suc s) k l = grows_append gs g s k l

-- ---- frames

module _ (gs : List Segment) where
  abbrev FrameCurrent : Frame → Type 0
  FrameCurrent f = (k : ℕ) → hands f (Defined k) ≡ true → Listed gs f.segment k

  abbrev PlaceCurrent : Place → Type 0
  PlaceCurrent p = All FrameCurrent (occupant p).frames

  place_push : (b : ℕ) (p : Place) → PlaceCurrent p → PlaceCurrent (on_thread (push_frame b (get_or gs b blank_segment).keys) p)
  place_push b free h = tt
  place_push b (taken m t) h = (λ k l. l, h)

  place_pop : (p : Place) → PlaceCurrent p → PlaceCurrent (on_thread pop_frame p)
  place_pop free h = tt
  place_pop (taken m t) h = tail t.frames h
    where
      tail : (fs : List Frame) → All FrameCurrent fs → All FrameCurrent (tail_of fs)
      tail [] h = tt
      tail (f ∷ fs) h = h.1

places_grown : (gs gs' : List Segment) → Grows gs gs' → (ps : List Place) → Everywhere (PlaceCurrent gs) free ps → Everywhere (PlaceCurrent gs') free ps
places_grown gs gs' grows ps h i = All-map (λ f c k l. grows f.segment k (c k l)) (occupant (get_or ps i free)).frames (h i)

-- ---- T

module _ (gs : List Segment) (b c : ℕ) where
  abbrev taken_out : List Segment
  taken_out = set gs b (take_key c (get_or gs b blank_segment))

  frame_current : (f : Frame) → FrameCurrent gs f → FrameCurrent taken_out (revoke_frame b c f)
  frame_current f h = case_bool (eqb f.segment b) (λ e. simp e here) (λ e. simp e (elsewhere (eqb-false f.segment b e)))
    where
      here : (k : ℕ) → is_in (Defined k) (take_key c (record { owner = 0; kind = 0; keys = f.keys; products = [] })).keys ≡ true → Listed taken_out f.segment k
      here k l =
          let both = sym (in_without (Defined k) c f.keys) ∙ l in
          let other = and_left (not (same_key (Defined c) (Defined k))) (is_in (Defined k) f.keys) both in
          let was : Listed gs f.segment k = h k (and_right (not (same_key (Defined c) (Defined k))) (is_in (Defined k) f.keys) both) in
          ⊎_elim (λ e. has_path k e was)
          (λ e. has_path k e.1 (in_without (Defined k) c (get_or gs f.segment blank_segment).keys ∙ both_and other was))
          (set_read gs b (take_key c) f.segment)

      elsewhere : (f.segment ≡ b → ⊥) → FrameCurrent taken_out f
      elsewhere ne k l = ⊎_elim (λ e. has_path k e (h k l)) (λ e. absurd (ne e.0)) (set_read gs b (take_key c) f.segment)

  place_revoke : (p : Place) → PlaceCurrent gs p → PlaceCurrent taken_out (on_thread (revoke_thread b c) p)
  place_revoke free h = tt
  place_revoke (taken m t) h = each t.frames h
    where
      each : (fs : List Frame) → All (FrameCurrent gs) fs → All (FrameCurrent taken_out) (map (revoke_frame b c) fs)
      each [] h = tt
      each (f ∷ fs) h = (frame_current f h.0, each fs h.1)

-- ---- each request

abbrev pub Current : State → Type 0
Current d = Everywhere (PlaceCurrent d.segments) free d.places

give_has : (c : ℕ) (g : Segment) (k : ℕ) → has_defined k g → has_defined k (give_key c g)
give_has c g k l = any_append (same_key (Defined k)) g.keys (Defined c ∷ []) ∙ rw l

module _ (compile : Compiler) (d : State) (h : Current d) (text : List ℕ) where
  -- a segment that loses no key
  on_segment_lem : (b : ℕ) (f : Segment → Segment) → ((g : Segment) (k : ℕ) → has_defined k g → has_defined k (f g)) → Current (on_segment d b f)
  on_segment_lem b f keeps =
      places_grown d.segments (set d.segments b (f (segment_at d b))) (grows_set d.segments b f keeps) d.places h

  keep_accepted : (q : Request) → first_refusal (conditions compile d q text) ≡ None → Current (update compile d q text)
  unfolding update
  keep_accepted request.NewUser e = h
  keep_accepted (request.StartThread a) e =
      everywhere_set (PlaceCurrent d.segments) free d.places h (place_for d.thread_numbers is_free d.places) _ tt
  keep_accepted (request.EndThread a) e = everywhere_set (PlaceCurrent d.segments) free d.places h (place_of a d.places) _ tt
  keep_accepted (request.NewSegment a b) e =
      let g = fresh_segment (length d.segments) (user_of d a) b in
      places_grown d.segments (d.segments ++ g ∷ []) (grows_append d.segments g) d.places h
  keep_accepted (request.NewKey a) e = h
  keep_accepted (request.GiveKey a b c) e = on_segment_lem b (give_key c) (give_has c)
  keep_accepted (request.TakeKey a b c) e =
      everywhere_map (PlaceCurrent d.segments) (PlaceCurrent (taken_out d.segments b c)) free (on_thread (revoke_thread b c))
      (place_revoke d.segments b c) tt d.places h
  keep_accepted (request.AddLock a b c) e = on_segment_lem b (add_products d.lock_numbers c (sum_in (compile (issued d) text))) (λ g k l. l)
  keep_accepted (request.DropLock a b) e = on_segment_lem (lock_segment d b) (drop_products b) (λ g k l. l)
  keep_accepted (request.CallSegment a b) e =
      let i = place_of a d.places in
      everywhere_set (PlaceCurrent d.segments) free d.places h i _ (place_push d.segments b (get_or d.places i free) (h i))
  keep_accepted (request.ReturnCall a) e =
      let i = place_of a d.places in
      everywhere_set (PlaceCurrent d.segments) free d.places h i _ (place_pop d.segments (get_or d.places i free) (h i))
  keep_accepted (request.Access a b c) e = h

pub current_after : (compile : Compiler) (xs : List Call) → Current (state_after compile empty_state xs)
current_after compile xs =
    keep_calls compile Current (keep_accepted compile) empty_state (everywhere_replicate (PlaceCurrent []) free tt most_threads) xs

-- an open call of a thread
pub frame_listed : (d : State) → Current d → (n : ℕ) (f : Frame) → Memᴰ f (thread_at d n).frames → (k : ℕ) → hands f (Defined k) ≡ true
    → is_in (Defined k) (segment_at d f.segment).keys ≡ true
frame_listed d h n f m = all_at (FrameCurrent d.segments) (thread_at d n).frames (h (place_of n d.places)) f m
