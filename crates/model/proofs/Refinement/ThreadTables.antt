-- A thread's table after S, E, C, R and T holds the place that the call leaves: each store is read back, and the rows
-- of the other frames stay.
use mathlib.Core.Path.{◌≡◌, refl, sym, ap, ap₂, ◌∙◌}
use mathlib.Core.Bool.{true, false, cond}
use mathlib.Core.List.{List, [], ◌∷◌, map}
use mathlib.Core.Logic.{◌⊎◌, inl, inr, ⊎_elim}
use Prim.Native.Nat.{ℕ, zero, suc, ◌-◌, ◌≤◌, ◌<◌, min}
use native.Mathlib.Omega.{arith}
use lib.Dec.{eqb}
use lib.ListN.{length, set, length-set}
use lib.Seq.{get_or-set_same, get_or-set_other}
use borrow.Author.Tests.{eqb-true, eqb-false, ne_eqb}
use Rattle.product.specs.declared.literal.Key.{Key}
use Rattle.base.specs.Lists.{tail_of}
use Rattle.model.specs.Limits.{most_segments}
use Rattle.model.specs.State.{fresh_thread, free, taken}
use Rattle.model.specs.Effects.{on_thread, push_frame, pop_frame, without, revoke_frame, revoke_thread}
use Rattle.model.specs.Threads.{Frame, Thread}
use Rattle.model.specs.Cells.{Row, Table, cell, row_at, frame_count, live_cell, number_cell, user_cell, no_key, defined_cell, key_in, keys_in, frame_of, frames_of, depth_of, place_in}
use Rattle.model.specs.Stores.{set_cell, start_thread, end_thread, push_row, pop_row, revoke_row, revoke_rows, revoke_code}
use Rattle.base.proofs.Lists.{case_bool}
use Rattle.model.proofs.Refinement.SegmentTables.{same_code}

-- ---- frames

pub length_frames : (t : Table) (n : ℕ) → length (frames_of t n) ≡ n
length_frames t zero = refl
length_frames t (suc n) = ap suc (length_frames t n)

frames_same : (t' t : Table) (n : ℕ) → ((j : ℕ) → 0 < j → j ≤ n → row_at t' j ≡ row_at t j) → frames_of t' n ≡ frames_of t n
frames_same t' t zero h = refl
frames_same t' t (suc n) h =
    ap₂ (λ (f : Frame) (fs : List Frame). f ∷ fs) (ap frame_of (h (suc n) (omega arith) (omega arith))) (frames_same t' t n (λ j l u. h j l (omega arith)))

tail_frames : (t : Table) (n : ℕ) → tail_of (frames_of t n) ≡ frames_of t (n - 1)
tail_frames t zero = refl
tail_frames t (suc n) = let e : n ≡ suc n - 1 = omega arith in ap (frames_of t) e

-- ---- a live thread's place, by its cells

place_is : (t : Table) (n u : ℕ) (frames : List Frame) → eqb (cell (row_at t 0) live_cell) 0 ≡ false → cell (row_at t 0) number_cell ≡ n
    → cell (row_at t 0) user_cell ≡ u → frames_of t (depth_of t) ≡ frames → place_in t ≡ taken n (record { user = u; frames = frames })
place_is t n u frames live p q r = simp (live, p, q, r)

pub live_place : (t : Table) → eqb (cell (row_at t 0) live_cell) 0 ≡ false
    → place_in t ≡ taken (cell (row_at t 0) number_cell) (record { user = cell (row_at t 0) user_cell; frames = frames_of t (depth_of t) })
live_place t live = simp live

pub start_place : (n u : ℕ) (t : Table) → 0 < length t → place_in (start_thread n u t) ≡ taken n (fresh_thread u)
start_place n u t h =
    let row : row_at (start_thread n u t) 0 ≡ n ∷ u ∷ 0 ∷ 1 ∷ 0 ∷ 0 ∷ 0 ∷ 0 ∷ [] = get_or-set_same t 0 _ [] h in
    place_is (start_thread n u t) n u []
    (ap (λ (w : Row). eqb (cell w live_cell) 0) row) (ap (λ (w : Row). cell w number_cell) row) (ap (λ (w : Row). cell w user_cell) row)
    (ap (λ (w : Row). frames_of (start_thread n u t) (min (cell w frame_count) 16)) row)

pub end_place : (t : Table) → 0 < length t → length (row_at t 0) ≡ 8 → place_in (end_thread t) ≡ free
end_place t h l =
    let row : row_at (end_thread t) 0 ≡ set (row_at t 0) live_cell 0 = get_or-set_same t 0 _ [] h in
    let dead : cell (row_at (end_thread t) 0) live_cell ≡ 0 = ap (λ (w : Row). cell w live_cell) row ∙ get_or-set_same (row_at t 0) 3 0 0 (omega arith) in
    simp dead

-- ---- the count of frames set to n, and the rows that it counts

module _ (t t₁ : Table) (n : ℕ) (frames : List Frame) (h : 0 < length t₁) (first : row_at t₁ 0 ≡ row_at t 0) (l : length (row_at t 0) ≡ 8) (low : n ≤ 16)
    (rows : frames_of (set_cell t₁ 0 frame_count n) n ≡ frames) where
  abbrev t₂ : Table
  t₂ = set_cell t₁ 0 frame_count n

  counted_row : row_at t₂ 0 ≡ set (row_at t 0) 2 n
  counted_row = get_or-set_same t₁ 0 _ [] h ∙ ap (λ (w : Row). set w 2 n) first

  counted : depth_of t₂ ≡ n
  counted =
      let e : cell (row_at t₂ 0) 2 ≡ n = ap (λ (w : Row). cell w 2) counted_row ∙ get_or-set_same (row_at t 0) 2 n 0 (omega arith) in
      rw e (omega arith)

  other : (j : ℕ) → (j ≡ 2 → ⊥) → cell (row_at t₂ 0) j ≡ cell (row_at t 0) j
  other j ne = ap (λ (w : Row). cell w j) counted_row ∙ get_or-set_other (row_at t 0) 2 j n 0 ne

  -- a place that was free still is, and one that was taken has those frames
  recounted : place_in t₂ ≡ on_thread (λ r. record { user = r.user; frames = frames }) (place_in t)
  recounted =
      let alive : cell (row_at t₂ 0) 3 ≡ cell (row_at t 0) 3 = other 3 (λ p. omega arith) in
      case_bool (eqb (cell (row_at t 0) 3) 0)
      (λ e. let dead : eqb (cell (row_at t₂ 0) 3) 0 ≡ true = ap (λ (x : ℕ). eqb x 0) alive ∙ e in simp (dead, e))
      (λ e. let lives : eqb (cell (row_at t₂ 0) 3) 0 ≡ false = ap (λ (x : ℕ). eqb x 0) alive ∙ e in
      place_is t₂ _ _ frames lives (other 0 (λ p. omega arith)) (other 1 (λ p. omega arith)) (ap (frames_of t₂) counted ∙ rows) ∙ sym (simp e))

-- what two changes of frames make of a place whose frames are known
same_change : (f : Thread → Thread) (frames : List Frame) (t : Table)
    → ((u : ℕ) → f (record { user = u; frames = frames_of t (depth_of t) }) ≡ record { user = u; frames = frames })
    → on_thread (λ r. record { user = r.user; frames = frames }) (place_in t) ≡ on_thread f (place_in t)
same_change f frames t h =
    case_bool (eqb (cell (row_at t 0) live_cell) 0)
    (λ e. simp e)
    (λ e. simp e (ap (taken (cell (row_at t 0) number_cell)) (sym (h (cell (row_at t 0) user_cell)))))

-- C
pub push_place : (w : Row) (t : Table) → length t ≡ 17 → length (row_at t 0) ≡ 8 → depth_of t < 16
    → place_in (push_row w t) ≡ on_thread (push_frame (cell w 0) (keys_in w)) (place_in t)
push_place w t h l room =
    let n : ℕ = depth_of t in
    let t₁ : Table = set t (suc n) w in
    let h₁ : length t₁ ≡ 17 = length-set t (suc n) w ∙ h in
    let t₂ : Table = set_cell t₁ 0 frame_count (suc n) in
    let new : row_at t₂ (suc n) ≡ w = get_or-set_other t₁ 0 (suc n) _ [] (λ p. omega arith) ∙ get_or-set_same t (suc n) w [] (omega arith) in
    let old : (j : ℕ) → 0 < j → j ≤ n → row_at t₂ j ≡ row_at t j = λ j a b. get_or-set_other t₁ 0 j _ [] (λ p. omega arith) ∙ get_or-set_other t (suc n) j w [] (λ p. omega arith) in
    let frames : List Frame = frame_of w ∷ frames_of t n in
    recounted t t₁ (suc n) frames (omega arith) (get_or-set_other t (suc n) 0 w [] (λ p. omega arith)) l (omega arith)
    (ap₂ (λ (f : Frame) (fs : List Frame). f ∷ fs) (ap frame_of new) (frames_same t₂ t n old))
    ∙ same_change (push_frame (cell w 0) (keys_in w)) frames t (λ u. refl)

-- R
pub pop_place : (t : Table) → length t ≡ 17 → length (row_at t 0) ≡ 8 → place_in (pop_row t) ≡ on_thread pop_frame (place_in t)
pop_place t h l =
    let n : ℕ = depth_of t - 1 in
    let t₂ : Table = set_cell t 0 frame_count n in
    recounted t t n (frames_of t n) (omega arith) refl l (omega arith)
    (frames_same t₂ t n (λ j a b. get_or-set_other t 0 j _ [] (λ p. omega arith)))
    ∙ same_change pop_frame (frames_of t n) t (λ u. ap (λ (fs : List Frame). record { user = u; frames = fs }) (tail_frames t (depth_of t)))

-- ---- T

-- a row changed in its place; beyond the end there is none
row_changed : (t : Table) (i : ℕ) (f : Row → Row) → f [] ≡ [] → row_at (set t i (f (row_at t i))) i ≡ f (row_at t i)
row_changed [] i f e = sym e
row_changed (w ∷ t) zero f e = refl
row_changed (w ∷ t) (suc i) f e = row_changed t i f e

module _ (s k : ℕ) (low : s < most_segments) where
  abbrev stays : ℕ → ℕ
  stays y = cond (eqb (defined_cell k) y) no_key y

  -- a cell with the code has no key any more, and no other key has that code
  keys_revoked : (w : Row) → keys_in (map stays w) ≡ without k (keys_in w)
  keys_revoked [] = refl
  keys_revoked (y ∷ w) =
      case_bool (eqb (defined_cell k) y)
      (λ e. case_bool (eqb y no_key) (λ f. simp (e, f) (keys_revoked w)) (λ f. simp (e, f, same_code k y) (keys_revoked w)))
      (λ e. case_bool (eqb y no_key)
      (λ f. simp (e, f) (keys_revoked w))
      (λ f. simp (e, f, same_code k y) (ap (λ (ks : List Key). key_in y ∷ ks) (keys_revoked w))))

  first_stays : (w : Row) → cell w 0 ≡ s → cell (map stays w) 0 ≡ cell w 0
  first_stays [] e = refl
  first_stays (y ∷ w) e = let other : eqb (defined_cell k) y ≡ false = ne_eqb (defined_cell k) y (λ p. omega arith) in simp other

  no_row : revoke_row s (defined_cell k) [] ≡ []
  no_row = case_bool (eqb 0 s) (λ e. simp e) (λ e. simp e)

  frame_revoked : (w : Row) → frame_of (revoke_row s (defined_cell k) w) ≡ revoke_frame s k (frame_of w)
  frame_revoked w =
      case_bool (eqb (cell w 0) s)
      (λ e. simp e (λ i. record { segment = first_stays w (eqb-true (cell w 0) s e) i; keys = keys_revoked w i }))
      (λ e. simp e)

  abbrev after : Table → ℕ → Table
  after t n = revoke_rows s (defined_cell k) t n

  -- the rows of the oldest n frames change, and no other
  row_kept : (t : Table) (n j : ℕ) → (j ≡ 0) ⊎ (n < j) → row_at (after t n) j ≡ row_at t j
  row_kept t zero j h = refl
  row_kept t (suc n) j h =
      row_kept (set t (suc n) _) n j (⊎_elim (λ p. inl p) (λ p. inr (omega arith)) h)
      ∙ get_or-set_other t (suc n) j _ [] (⊎_elim (λ p q. omega arith) (λ p q. omega arith) h)

  row_revoked : (t : Table) (n j : ℕ) → 0 < j → j ≤ n → row_at (after t n) j ≡ revoke_row s (defined_cell k) (row_at t j)
  row_revoked t zero j a b = absurd (omega arith)
  row_revoked t (suc n) j a b =
      let t₁ : Table = set t (suc n) (revoke_row s (defined_cell k) (row_at t (suc n))) in
      case_bool (eqb j (suc n))
      (λ e. let p = eqb-true j (suc n) e in
      row_kept t₁ n j (inr (omega arith))
      ∙ ap (row_at t₁) p ∙ row_changed t (suc n) (revoke_row s (defined_cell k)) no_row ∙ ap (λ (m : ℕ). revoke_row s (defined_cell k) (row_at t m)) (sym p))
      (λ e. let p = eqb-false j (suc n) e in
      row_revoked t₁ n j a (omega (arith, p))
      ∙ ap (revoke_row s (defined_cell k)) (get_or-set_other t (suc n) j _ [] p))

  frames_revoked : (t t' : Table) (n : ℕ) → ((j : ℕ) → 0 < j → j ≤ n → row_at t' j ≡ revoke_row s (defined_cell k) (row_at t j))
      → frames_of t' n ≡ map (revoke_frame s k) (frames_of t n)
  frames_revoked t t' zero h = refl
  frames_revoked t t' (suc n) h =
      ap₂ (λ (f : Frame) (fs : List Frame). f ∷ fs)
      (ap frame_of (h (suc n) (omega arith) (omega arith)) ∙ frame_revoked (row_at t (suc n)))
      (frames_revoked t t' n (λ j a b. h j a (omega arith)))

  pub revoke_place : (t : Table) → place_in (revoke_code s (defined_cell k) t) ≡ on_thread (revoke_thread s k) (place_in t)
  revoke_place t =
      let n : ℕ = depth_of t in
      let t' : Table = after t n in
      let first : row_at t' 0 ≡ row_at t 0 = row_kept t n 0 (inl refl) in
      let depth : depth_of t' ≡ n = ap (λ (w : Row). min (cell w frame_count) 16) first in
      let frames : List Frame = map (revoke_frame s k) (frames_of t n) in
      let rows : frames_of t' (depth_of t') ≡ frames = ap (frames_of t') depth ∙ frames_revoked t t' n (row_revoked t n) in
      case_bool (eqb (cell (row_at t 0) live_cell) 0)
      (λ e. let dead : eqb (cell (row_at t' 0) live_cell) 0 ≡ true = ap (λ (w : Row). eqb (cell w live_cell) 0) first ∙ e in simp (dead, e))
      (λ e. let lives : eqb (cell (row_at t' 0) live_cell) 0 ≡ false = ap (λ (w : Row). eqb (cell w live_cell) 0) first ∙ e in
      place_is t' _ _ frames lives (ap (λ (w : Row). cell w number_cell) first) (ap (λ (w : Row). cell w user_cell) first) rows ∙ sym (simp e))
