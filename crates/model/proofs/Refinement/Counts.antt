-- The arrays hold the model's state: one that a call leaves alone, and one with one more handed out. The state's fields
-- are written out here and nowhere else.
use mathlib.Core.Path.{◌≡◌, refl, ap, ◌∙◌}
use mathlib.Core.Bool.{false}
use mathlib.Core.List.{List}
use Prim.Native.Nat.{ℕ, suc, ◌≤◌, ◌<◌, min}
use native.Mathlib.Omega.{arith}
use lib.ListN.{length, take}
use lib.Seq.{get_or-set_same, get_or-set_other}
use borrow.Author.Tests.{ltb-false}
use Rattle.base.specs.Lists.{each}
use Rattle.model.specs.Limits.{most_segments, most_defined, passes}
use Rattle.model.specs.State.{State, Segment, Place}
use Rattle.model.specs.Effects.{with_segments, with_users, with_thread_numbers, with_lock_numbers, with_makers}
use Rattle.model.specs.Cells.{Row, Cells, Sized, cell, segment_count, segment_in, state_of, user_count, thread_count, defined_count, lock_count}
use Rattle.model.specs.Stores.{count_up, hand_out}
use Rattle.model.proofs.Refinement.ServedCalls.{segments_in}
use Rattle.model.proofs.Refinement.Sizes.{sized_count}

-- a limit's test that failed to refuse
pub within : (most n : ℕ) → passes most n ≡ false → n ≤ most
within most n h = ltb-false most n h

-- the arrays hold that state, and have their sizes
pub record Holds (d : Cells) (s : State) : Type 0 where
  pub state : state_of d ≡ s
  pub sized : Sized d

pub as_held : (d : Cells) → Sized d → Holds d (state_of d)
as_held d c = record { state = refl; sized = c }

state_path : {u u' t t' l l' : ℕ} {m m' : List ℕ} {g g' : List Segment} {p p' : List Place} → u ≡ u' → t ≡ t' → l ≡ l' → m ≡ m' → g ≡ g' → p ≡ p'
    → ◌≡◌ {A = State} (record { users = u; thread_numbers = t; lock_numbers = l; makers = m; segments = g; places = p })
    (record { users = u'; thread_numbers = t'; lock_numbers = l'; makers = m'; segments = g'; places = p' })
state_path u t l m g p = λ i. record { users = u i; thread_numbers = t i; lock_numbers = l i; makers = m i; segments = g i; places = p i }

module _ (r : Row) (size : length r ≡ 8) where
  counted : (j : ℕ) → j < 8 → cell (count_up r j) j ≡ suc (cell r j)
  counted j lt = get_or-set_same r j (suc (cell r j)) 0 (omega arith)

  uncounted : (j i : ℕ) → (i ≡ j → ⊥) → cell (count_up r j) i ≡ cell r i
  uncounted j i ne = get_or-set_other r j i (suc (cell r j)) 0 ne

module _ (d : Cells) (c : Sized d) where
  abbrev r : Row
  r = d.registry

  -- a count that is not the one
  other : (j i : ℕ) → (i ≡ j → ⊥) → cell (count_up r j) i ≡ cell r i
  other = uncounted r c.registry

  one_more_lem : (j : ℕ) → j < 8 → cell (count_up r j) j ≡ suc (cell r j)
  one_more_lem = counted r c.registry

  makers_kept : (j : ℕ) → (defined_count ≡ j → ⊥) → take (min (cell (count_up r j) defined_count) most_defined) d.makers ≡ take (min (cell r defined_count) most_defined) d.makers
  makers_kept j ne = ap (λ (n : ℕ). take (min n most_defined) d.makers) (other j defined_count ne)

  segments_kept : (j : ℕ) → (segment_count ≡ j → ⊥) → each (segment_in d) 0 (min (cell (count_up r j) segment_count) most_segments) ≡ each (segment_in d) 0 (segments_in d)
  segments_kept j ne = ap (λ (n : ℕ). each (segment_in d) 0 (min n most_segments)) (other j segment_count ne)

  count_user : state_of (hand_out user_count d) ≡ with_users (state_of d) (suc (cell r user_count))
  unfolding state_of
  count_user =
      state_path (one_more_lem user_count (omega arith)) (other user_count thread_count (λ p. omega arith)) (other user_count lock_count (λ p. omega arith))
      (makers_kept user_count (λ p. omega arith)) (segments_kept user_count (λ p. omega arith)) refl

  count_thread : state_of (hand_out thread_count d) ≡ with_thread_numbers (state_of d) (suc (cell r thread_count))
  unfolding state_of
  count_thread =
      state_path (other thread_count user_count (λ p. omega arith)) (one_more_lem thread_count (omega arith)) (other thread_count lock_count (λ p. omega arith))
      (makers_kept thread_count (λ p. omega arith)) (segments_kept thread_count (λ p. omega arith)) refl

  count_lock : state_of (hand_out lock_count d) ≡ with_lock_numbers (state_of d) (suc (cell r lock_count))
  unfolding state_of
  count_lock =
      state_path (other lock_count user_count (λ p. omega arith)) (other lock_count thread_count (λ p. omega arith)) (one_more_lem lock_count (omega arith))
      (makers_kept lock_count (λ p. omega arith)) (segments_kept lock_count (λ p. omega arith)) refl

  count_segment : state_of (hand_out segment_count d) ≡ with_segments (state_of d) (each (segment_in d) 0 (min (suc (cell r segment_count)) most_segments))
  unfolding state_of
  count_segment =
      state_path (other segment_count user_count (λ p. omega arith)) (other segment_count thread_count (λ p. omega arith)) (other segment_count lock_count (λ p. omega arith))
      (makers_kept segment_count (λ p. omega arith))
      (ap (λ (n : ℕ). each (segment_in d) 0 (min n most_segments)) (one_more_lem segment_count (omega arith))) refl

  count_key : state_of (hand_out defined_count d) ≡ with_makers (state_of d) (take (min (suc (cell r defined_count)) most_defined) d.makers)
  unfolding state_of
  count_key =
      state_path (other defined_count user_count (λ p. omega arith)) (other defined_count thread_count (λ p. omega arith)) (other defined_count lock_count (λ p. omega arith))
      (ap (λ (n : ℕ). take (min n most_defined) d.makers) (one_more_lem defined_count (omega arith)))
      (segments_kept defined_count (λ p. omega arith)) refl

-- one more handed out of what the arrays hold
module _ {d : Cells} {s : State} (h : Holds d s) where
  pub next_user : Holds (hand_out user_count d) (with_users s (suc (cell d.registry user_count)))
  next_user =
      record {
        state = count_user d h.sized ∙ ap (λ (x : State). with_users x (suc (cell d.registry user_count))) h.state;
        sized = sized_count h.sized user_count;
      }

  pub next_thread : Holds (hand_out thread_count d) (with_thread_numbers s (suc (cell d.registry thread_count)))
  next_thread =
      record {
        state = count_thread d h.sized ∙ ap (λ (x : State). with_thread_numbers x (suc (cell d.registry thread_count))) h.state;
        sized = sized_count h.sized thread_count;
      }

  pub next_lock : Holds (hand_out lock_count d) (with_lock_numbers s (suc (cell d.registry lock_count)))
  next_lock =
      record {
        state = count_lock d h.sized ∙ ap (λ (x : State). with_lock_numbers x (suc (cell d.registry lock_count))) h.state;
        sized = sized_count h.sized lock_count;
      }

-- a segment and a defined key: the arrays have the new one already, and only the count was missing
pub next_segment : (d : Cells) (s : State) → Sized d → (gs : List Segment) → each (segment_in d) 0 (min (suc (cell d.registry segment_count)) most_segments) ≡ gs
    → with_segments (state_of d) gs ≡ with_segments s gs → Holds (hand_out segment_count d) (with_segments s gs)
next_segment d s c gs new rest =
    record { state = count_segment d c ∙ ap (with_segments (state_of d)) new ∙ rest; sized = sized_count c segment_count }

pub next_key : (d : Cells) (s : State) → Sized d → (ms : List ℕ) → take (min (suc (cell d.registry defined_count)) most_defined) d.makers ≡ ms
    → with_makers (state_of d) ms ≡ with_makers s ms → Holds (hand_out defined_count d) (with_makers s ms)
next_key d s c ms new rest = record { state = count_key d c ∙ ap (with_makers (state_of d)) new ∙ rest; sized = sized_count c defined_count }
