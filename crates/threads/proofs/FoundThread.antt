-- What the place of a thread says of the thread: where there is one it is live, and its table holds it.
use Rattle.std.specs.Prelude.{None, Some}
use mathlib.Core.Path.{◌≡◌, refl, sym, ap, ◌∙◌}
use mathlib.Core.Bool.{Bool, true, false}
use mathlib.Core.List.{List, [], ◌∷◌, map}
use Prim.Native.Nat.{ℕ, ◌%◌, ◌≤◌, ◌<◌}
use native.Mathlib.Omega.{arith}
use lib.Dec.{eqb}
use lib.ListN.{length, get_or, length-map}
use borrow.Author.Tests.{eqb-true}
use Rattle.base.specs.Lists.{is_some, map_option, index_of, or_default}
use Rattle.model.specs.Limits.{most_threads}
use Rattle.model.specs.State.{Place, free, taken, is_thread, place_for, place_of, thread_in, is_live, blank_thread, thread_at, editor}
use Rattle.model.specs.Cells.{Table, Cells, cell, row_at, table_at, number_cell, user_cell, live_cell, frames_of, depth_of, place_in, state_of}
use Rattle.base.proofs.Lists.{case_bool, clash}
use Rattle.model.proofs.Refinement.ThreadTables.{length_frames}
use Rattle.threads.specs.Places.{Placed}
use Rattle.threads.proofs.PlaceScan.{place_at, below_some, below_none}

-- thread n stands at place i
pub record Standing (d : Cells) (n i : ℕ) : Type 0 where
  pub live : is_live (state_of d) n ≡ true
  pub thread : thread_at (state_of d) n ≡ record { user = cell (row_at (table_at d.threads i) 0) user_cell; frames = frames_of (table_at d.threads i) (depth_of (table_at d.threads i)) }
  pub depth : length (thread_at (state_of d) n).frames ≡ depth_of (table_at d.threads i)
  pub number : cell (row_at (table_at d.threads i) 0) number_cell ≡ n
  pub edits : editor (state_of d) n ≡ Some (cell (row_at (table_at d.threads i) 0) user_cell)

-- the place passes the test where there is one below the length
index_hits : {A : Type 0} (p : A → Bool) (e : A) (xs : List A) → index_of p xs < length xs → p (get_or xs (index_of p xs) e) ≡ true
index_hits p e [] h = absurd (omega arith)
index_hits p e (x ∷ xs) h = case_bool (p x) (λ t. simp t) (λ f. simp f (index_hits p e xs (let g = rw f at h in omega arith)))

index_past : {A : Type 0} (p : A → Bool) (e : A) (xs : List A) → length xs ≤ index_of p xs → get_or xs (index_of p xs) e ≡ e
index_past p e [] h = refl
index_past p e (x ∷ xs) h = case_bool (p x) (λ t. let g = rw t at h in absurd (omega arith)) (λ f. simp f (index_past p e xs (let g = rw f at h in omega arith)))

module _ (n : ℕ) (p : Place → Bool) (places : List Place) (size : length places ≡ most_threads) where
  pub place_hits : place_for n p places < most_threads → p (get_or places (place_for n p places) free) ≡ true
  place_hits h = case_bool (p (get_or places (n % most_threads) free)) (λ t. simp t) (λ f. simp f (index_hits p free places (let g = rw f at h in omega arith)))

  -- only the scan goes past the end
  place_past : most_threads ≤ place_for n p places → get_or places (place_for n p places) free ≡ free
  place_past h =
      case_bool (p (get_or places (n % most_threads) free))
      (λ t. let g = rw t at h in absurd (omega arith))
      (λ f. simp f (index_past p free places (let g = rw f at h in omega arith)))

-- a table that holds thread n
holds : (n : ℕ) (t : Table) → is_thread n (place_in t) ≡ true
    → (place_in t ≡ taken n (record { user = cell (row_at t 0) user_cell; frames = frames_of t (depth_of t) })) × (cell (row_at t 0) number_cell ≡ n)
holds n t h =
    case_bool (eqb (cell (row_at t 0) live_cell) 0)
    (λ e. let g = rw e at h in clash g refl)
    (λ e. let q : n ≡ cell (row_at t 0) number_cell = eqb-true n (cell (row_at t 0) number_cell) (rw e at h) in (simp (e, q), sym q))

module _ (d : Cells) {n : ℕ} where
  -- the place that is found holds the thread
  pub stands : {i : ℕ} → Placed d.threads n (is_thread n) (Some i) → Standing d n i
  unfolding state_of
  stands {i} found =
      let (is, low) = below_some found.place in
      let places : List Place = map place_in d.threads in
      let sized : length places ≡ most_threads = length-map d.threads place_in ∙ found.count in
      let at : get_or places (place_of n places) free ≡ place_in (table_at d.threads i) = rw is (place_at d.threads (place_of n places)) in
      let hit : is_thread n (place_in (table_at d.threads i)) ≡ true = sym (ap (is_thread n) at) ∙ place_hits n (is_thread n) places sized low in
      let (is-taken, number) = holds n (table_at d.threads i) hit in
      let held = at ∙ is-taken in
      record {
        live = ap (λ (x : Place). is_some (thread_in x)) held;
        thread = ap (λ (x : Place). or_default blank_thread (λ t. t) (thread_in x)) held;
        depth = ap (λ (x : Place). length (or_default blank_thread (λ t. t) (thread_in x)).frames) held ∙ length_frames (table_at d.threads i) (depth_of (table_at d.threads i));
        number = number;
        edits = ap (λ (x : Place). map_option (λ t. t.user) (thread_in x)) held;
      }

  -- the place is the definitions'
  pub at_place : {i : ℕ} → Placed d.threads n (is_thread n) (Some i) → i ≡ place_of n (map place_in d.threads)
  at_place found = (below_some found.place).0

  module _ (missed : Placed d.threads n (is_thread n) None) where
    past : get_or (map place_in d.threads) (place_of n (map place_in d.threads)) free ≡ free
    past = place_past n (is_thread n) (map place_in d.threads) (length-map d.threads place_in ∙ missed.count) (below_none missed.place)

    pub not_live : is_live (state_of d) n ≡ false
    unfolding state_of
    not_live = ap (λ (x : Place). is_some (thread_in x)) past

    pub no_editor : editor (state_of d) n ≡ None
    unfolding state_of
    no_editor = ap (λ (x : Place). map_option (λ t. t.user) (thread_in x)) past
