-- What is answered of a thread or a segment has 16 bits: it is in a cell, or is a count of a list that the arrays
-- bound.
use Rattle.std.specs.Prelude.{Option, None, Some}
use mathlib.Core.Path.{◌≡◌, refl, sym, ap, subst}
use mathlib.Core.Bool.{Bool, true, not}
use mathlib.Core.List.{List, [], ◌∷◌, map}
use Prim.Native.Nat.{ℕ, zero, suc, ◌≤◌, ◌<◌}
use native.Mathlib.Omega.{arith}
use lib.Dec.{eqb, ltb}
use lib.ListN.{length, length-set, length-map, get_or-map, get_or-eq_default}
use borrow.Author.Tests.{ltb-false}
use Rattle.base.specs.Lists.{keep, first, greatest, map_option, or_default}
use Rattle.model.specs.Limits.{most_listed, most_standing, most_frames}
use Rattle.model.specs.Threads.{Thread, key_set}
use Rattle.model.specs.State.{LockProduct, Segment, blank_segment, segment_at, Place, free, thread_in, blank_thread, place_of, find_thread, thread_at, user_of}
use Rattle.model.specs.Operations.{grants}
use Rattle.model.specs.Refusals.{opens_for, literal_count, opening_product, tightest_product, lock_of}
use Rattle.model.specs.Effects.{newest}
use Rattle.model.specs.Cells.{Table, Cells, Sized, cell, row_at, table_at, user_cell, live_cell, key_in, has_key, used_rows, frames_of, depth_of, place_in, product_in, list_row, segment_of, state_of}
use Rattle.model.specs.Theorems.Widths.{word, double_word, Fitting}
use Rattle.base.proofs.Lists.{All, case_bool, length_keep, All-keep}
use Rattle.base.proofs.Greatest.{greatest_has}
use Rattle.model.proofs.Refinement.ProductRows.{length_used}
use Rattle.model.proofs.Refinement.ThreadTables.{length_frames, live_place}
use Rattle.model.proofs.Refinement.ServedCalls.{segments_in, segment_at_lem}
use Rattle.model.proofs.Refinement.SegmentStores.{handed}
use Rattle.model.proofs.Limits.FittingCells.{Low, LowRows}
use Rattle.model.proofs.Limits.LockWidths.{used_low}

-- ---- of a thread

pub record ThreadFits (r : Thread) : Type 0 where
  pub user : r.user < word
  pub depth : length r.frames ≤ most_frames
  pub last : newest r.frames < word

user_at : (o : Option Thread) → or_default 0 (λ (u : ℕ). u) (map_option (λ t. t.user) o) ≡ (or_default blank_thread (λ t. t) o).user
user_at None = refl
user_at (Some t) = refl

newest_low : (t : Table) → LowRows word t → (n : ℕ) → newest (frames_of t n) < word
newest_low t h zero = omega arith
newest_low t h (suc n) = h (suc n) 0

abbrev PlaceFits : Place → Type 0
PlaceFits p = ThreadFits (or_default blank_thread (λ r. r) (thread_in p))

place_fits : (t : Table) → LowRows word t → PlaceFits (place_in t)
place_fits t h =
    case_bool (eqb (cell (row_at t 0) live_cell) 0)
    (λ e. let dead : place_in t ≡ free = simp e in subst PlaceFits (sym dead) (record { user = omega arith; depth = omega arith; last = omega arith }))
    (λ e. let l : length (frames_of t (depth_of t)) ≡ depth_of t = length_frames t (depth_of t) in
    subst PlaceFits (sym (live_place t e)) (record { user = h 0 user_cell; depth = omega arith; last = newest_low t h (depth_of t) }))

-- ---- what is answered of a segment

pub record SegmentFits (g : Segment) : Type 0 where
  pub listed : length g.keys ≤ most_listed
  pub products : length g.products ≤ most_standing
  pub locks : All (λ r. r.lock < word) g.products

locks_low : (ws : Table) → All (Low double_word) ws → All (λ r. r.lock < word) (map product_in ws)
locks_low [] h = tt
locks_low (w ∷ ws) h = let l : cell w 0 < double_word = h.0 0 in (omega arith, locks_low ws h.1)

lock_low : (p : LockProduct → Bool) (rs : List LockProduct) → All (λ r. r.lock < word) rs → lock_of (first p rs) < word
lock_low p [] h = omega arith
lock_low p (r ∷ rs) h = case_bool (p r) (λ e. simp e h.0) (λ e. simp e (lock_low p rs h.1))

longest_low : (p : LockProduct → Bool) (rs : List LockProduct) → All (λ r. r.lock < word) rs → lock_of (greatest literal_count (keep p rs)) < word
longest_low p rs h = of (greatest literal_count (keep p rs)) (greatest_has literal_count (λ r. r.lock < word) (keep p rs) (All-keep (λ r. r.lock < word) p rs h))
  where
    of : (o : Option LockProduct) → ((r : LockProduct) → o ≡ Some r → r.lock < word) → lock_of o < word
    of None f = omega arith
    of (Some r) f = f r refl

table_fits : (s : ℕ) (g t : Table) → length (row_at g 1) ≡ 8 → length t ≡ most_standing → LowRows double_word t → SegmentFits (segment_of s g t)
table_fits s g t eight rows h =
    let keys : length (map key_in (keep has_key (list_row s g))) ≡ length (keep has_key (list_row s g)) = length-map (keep has_key (list_row s g)) key_in in
    let fewer : length (keep has_key (list_row s g)) ≤ length (list_row s g) = length_keep has_key (list_row s g) in
    let row : length (list_row s g) ≡ length (row_at g 1) = length-set (row_at g 1) 0 s in
    let many : length (map product_in (used_rows t)) ≡ length (used_rows t) = length-map (used_rows t) product_in in
    let used : length (used_rows t) ≤ length t = length_used t in
    record { listed = omega arith; products = omega arith; locks = locks_low (used_rows t) (used_low t h) }

-- ---- in the arrays

module _ (d : Cells) (c : Sized d) (k : Fitting d) where
  pub thread_fits : (a : ℕ) → ThreadFits (thread_at (state_of d) a)
  unfolding state_of
  thread_fits a =
      let i = place_of a (map place_in d.threads) in
      subst PlaceFits (sym (get_or-map place_in d.threads i [])) (place_fits (table_at d.threads i) (k.threads i))

  pub user_fits : (a : ℕ) → user_of (state_of d) a < word
  user_fits a =
      subst (λ (u : ℕ). u < word) (sym (user_at (find_thread a (state_of d).places))) (thread_fits a).user

  handed_out_lem : (s : ℕ) → ltb s (length (state_of d).segments) ≡ true → s < segments_in d
  unfolding state_of
  handed_out_lem s e = handed d s (ap not e)

  pub segment_fits : (s : ℕ) → s < segments_in d → SegmentFits (segment_at (state_of d) s)
  unfolding state_of
  segment_fits s lt =
      subst SegmentFits (sym (segment_at_lem d s lt))
      (table_fits s (table_at d.segments s) (table_at d.locks s) (c.segments.cells s 1 (omega arith) (omega arith)) (c.locks.rows s (omega arith)) (k.locks s))

  locks_fit : (b : ℕ) → All (λ r. r.lock < word) (segment_at (state_of d) b).products
  locks_fit b =
      case_bool (ltb b (length (state_of d).segments))
      (λ e. (segment_fits b (handed_out_lem b e)).locks)
      (λ e. let none-there : segment_at (state_of d) b ≡ blank_segment = get_or-eq_default (state_of d).segments blank_segment (ltb-false b (length (state_of d).segments) e) in
      subst (λ (g : Segment). All (λ r. r.lock < word) g.products) (sym none-there) tt)

  pub opening_low : (stands : ℕ → ℕ → Bool) (a b n : ℕ) → lock_of (opening_product (state_of d) stands a b n) < word
  unfolding opening_product
  opening_low stands a b n = lock_low (opens_for stands n (key_set a (thread_at (state_of d) a))) (segment_at (state_of d) b).products (locks_fit b)

  pub tightest_low : (a b n : ℕ) → lock_of (tightest_product (state_of d) a b n) < word
  unfolding tightest_product
  tightest_low a b n = longest_low (opens_for grants n (key_set a (thread_at (state_of d) a))) (segment_at (state_of d) b).products (locks_fit b)
