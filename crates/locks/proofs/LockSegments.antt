-- The segment that a lock is on: the first table that has a row of it, of those that are handed out.
use Rattle.std.specs.Prelude.{None, Some}
use Rattle.std.proofs.lemmas.List.{take-append-drop}
use mathlib.Core.Path.{◌≡◌, refl, sym, ap, ap₂, ◌∙◌}
use mathlib.Core.Bool.{Bool, true, false, cond}
use mathlib.Core.List.{List, [], ◌∷◌, map-id}
use Prim.Native.Nat.{ℕ, zero, suc, ◌≤◌, ◌<◌}
use native.Mathlib.Omega.{arith}
use lib.ListN.{length, get_or, take, drop, length-map, length-take}
use Rattle.base.specs.Lists.{any, keep, index_of, each}
use Rattle.model.specs.Limits.{most_segments}
use Rattle.model.specs.State.{is_of_lock, has_lock, is_lock, lock_segment, segment_at}
use Rattle.model.specs.Cells.{Table, Cells, table_at, product_in, used_rows, segment_in, state_of}
use Rattle.base.proofs.Lists.{case_bool, index_of_lt, any_map, keep_map, length_each, each_get_d}
use Rattle.model.proofs.Refinement.ServedCalls.{segments_in, segment_at_lem}
use Rattle.locks.proofs.FirstFound.{first_some, first_none}
use Rattle.locks.specs.Internal.{is_of, has_row, segment_of_lock}

index_none : {A : Type 0} (p : A → Bool) (xs : List A) → length xs ≤ index_of p xs → any p xs ≡ false
index_none p xs h = case_bool (any p xs) (λ e. let l = index_of_lt p xs e in absurd (omega arith)) (λ e. e)

index_some : {A : Type 0} (p : A → Bool) (xs : List A) → index_of p xs < length xs → any p xs ≡ true
index_some p [] h = absurd (omega arith)
index_some p (x ∷ xs) h =
    case_bool (p x)
    (λ e. simp e)
    (λ e. let k : index_of p (x ∷ xs) ≡ suc (index_of p xs) = simp e in simp e (index_some p xs (omega arith)))

same_index : {A B : Type 0} (p : A → Bool) (f : ℕ → A) (q : B → Bool) (g : ℕ → B) → ((i : ℕ) → p (f i) ≡ q (g i))
    → (i n : ℕ) → index_of p (each f i n) ≡ index_of q (each g i n)
same_index p f q g h i zero = refl
same_index p f q g h i (suc n) = ap₂ (λ (b : Bool) (k : ℕ). cond b 0 (suc k)) (h i) (same_index p f q g h (suc i) n)

-- the first n elements, each read at its index
first_read : {A : Type 0} (d : A) (xs : List A) (n : ℕ) → n ≤ length xs → each (λ i. get_or xs i d) 0 n ≡ take n xs
first_read {A} d xs n h =
    let many : length (take n xs) ≡ n = length-take n xs ∙ omega arith in
    ap₂ (λ (ys : List A) (m : ℕ). each (λ i. get_or ys i d) 0 m) (sym (take-append-drop n xs)) (sym many)
    ∙ each_get_d (λ x. x) d (take n xs) (drop n xs) ∙ map-id (take n xs)

module _ (d : Cells) (lock : ℕ) (size : length d.locks ≡ most_segments) where
  row_of : (s : ℕ) → has_lock lock (segment_in d s) ≡ has_row lock (table_at d.locks s)
  row_of s = any_map (is_of_lock lock) product_in (used_rows (table_at d.locks s))

  abbrev locks : List Table
  locks = take (segments_in d) d.locks

  many : length locks ≡ segments_in d
  many = length-take (segments_in d) d.locks ∙ omega arith

  place : lock_segment (state_of d) lock ≡ index_of (has_row lock) locks
  unfolding state_of
  place =
      same_index (has_lock lock) (segment_in d) (has_row lock) (table_at d.locks) row_of 0 (segments_in d)
      ∙ ap (index_of (has_row lock)) (first_read [] d.locks (segments_in d) (omega arith))

  pub no_lock_segment : None ≡ segment_of_lock lock locks → is_lock (state_of d) lock ≡ false
  unfolding state_of
  no_lock_segment e =
      let n = length_each (segment_in d) 0 (segments_in d) in
      let h = first_none (has_row lock) locks e in
      index_none (has_lock lock) (each (segment_in d) 0 (segments_in d)) (omega (arith, place, many))

  module _ {s : ℕ} (e : Some s ≡ segment_of_lock lock locks) where
    pub lock_segment_is : (lock_segment (state_of d) lock ≡ s) × (s < segments_in d)
    lock_segment_is = let (i, h) = first_some (has_row lock) locks e in (place ∙ sym i, omega (arith, many))

    pub has_lock_segment : is_lock (state_of d) lock ≡ true
    unfolding state_of
    has_lock_segment =
        let n = length_each (segment_in d) 0 (segments_in d) in
        let (i, h) = lock_segment_is in
        index_some (has_lock lock) (each (segment_in d) 0 (segments_in d)) (omega arith)

module _ (d : Cells) (lock : ℕ) where
  -- how many products of the lock are on segment s
  pub count_at_lem : (s : ℕ) → s < segments_in d
      → length (keep (is_of_lock lock) (segment_at (state_of d) s).products) ≡ length (keep (is_of lock) (used_rows (table_at d.locks s)))
  count_at_lem s h =
      ap (λ g. length (keep (is_of_lock lock) g.products)) (segment_at_lem d s h)
      ∙ ap length (keep_map (is_of_lock lock) product_in (used_rows (table_at d.locks s)))
      ∙ length-map (keep (is_of lock) (used_rows (table_at d.locks s))) product_in
