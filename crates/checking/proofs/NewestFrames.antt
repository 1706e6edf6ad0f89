-- The newest frame that hands a key over, by the key's code: the newest row that has it. A key without a code stands in
-- no list, since a list's cells are numbers of 16 bits.
use Rattle.std.specs.Prelude.{Option, None, Some}
use Rattle.std.specs.Option.{IfSome}
use mathlib.Core.Path.{◌≡◌, refl, sym, ap, ◌∙◌}
use mathlib.Core.Bool.{Bool, false, ◌&&◌}
use mathlib.Core.List.{List, [], ◌∷◌}
use Prim.Native.Nat.{ℕ, zero, suc, ◌-◌, ◌≤◌, ◌<◌}
use native.Mathlib.Omega.{arith}
use lib.Dec.{eqb, ltb}
use lib.ListN.{length}
use borrow.Author.Tests.{lt-ltb, ltb-true, ltb-false, eqb-false}
use Rattle.product.specs.declared.literal.Key.{Key}
use Rattle.product.specs.declared.literal.Key.TheVariants.{User, Thread as ThreadKey, Segment as SegmentKey, Defined}
use Rattle.product.specs.Code.{number_limit}
use Rattle.base.specs.Lists.{any, keep, map_option, is_some}
use Rattle.base.proofs.Lists.{case_bool, some_inj, some≢none, any_map, any_keep}
use Rattle.model.specs.Limits.{most_segments}
use Rattle.model.specs.Threads.{Frame, same_key, hands}
use Rattle.model.specs.Cells.{Row, Table, cell, row_at, frame_of, no_key, key_in, has_key, defined_cell, frames_of, depth_of}
use Rattle.model.proofs.Refinement.Literals.{key_in_segment, key_in_defined}
use Rattle.checking.specs.Newest.{newest_from, NewestPlace}
use Rattle.checking.specs.Internal.{has_code, newest_row, list_code, RowFits, FramesFit}
use Rattle.model.proofs.Keys.{same_key_lem}
use Rattle.checking.proofs.KeyCells.{in_row}

-- ---- the code of a key

-- a code tells its key
key_of_code : (k : Key) (code : ℕ) → list_code k ≡ Some code → (code < no_key) × (key_in code ≡ k)
key_of_code (User n) code e = absurd (some≢none (sym e))
key_of_code (ThreadKey n) code e = absurd (some≢none (sym e))
key_of_code (SegmentKey n) code e =
    case_bool (ltb n most_segments)
    (λ b. let low = ltb-true n most_segments b in
    let is : n ≡ code = some_inj (rw b at e) in
    (omega (arith, is), sym (ap key_in is) ∙ key_in_segment n low))
    (λ b. absurd (some≢none (sym (rw b at e))))
key_of_code (Defined n) code e =
    case_bool (ltb (defined_cell n) no_key)
    (λ b. let low = ltb-true (defined_cell n) no_key b in
    let is : defined_cell n ≡ code = some_inj (rw b at e) in
    (omega (arith, is), sym (ap key_in is) ∙ key_in_defined n))
    (λ b. absurd (some≢none (sym (rw b at e))))

-- and is what a list has of it
code_of_cell : (x : ℕ) → x < no_key → list_code (key_in x) ≡ Some x
code_of_cell x low =
    case_bool (ltb x most_segments)
    (λ e. simp (e, e))
    (λ e. let high = ltb-false x most_segments e in
    let back : defined_cell (x - most_segments) ≡ x = omega arith in
    let inside = lt-ltb (defined_cell (x - most_segments)) no_key (omega arith) in simp (e, inside) (ap Some back))

-- ---- frames

pub some_hands : (k : Key) (fs : List Frame) → is_some (newest_from k fs) ≡ any (λ f. hands f k) fs
some_hands k [] = refl
some_hands k (f ∷ fs) = case_bool (hands f k) (λ e. rw e refl) (λ e. rw e (mapped (newest_from k fs) ∙ some_hands k fs))
  where
    mapped : (o : Option ℕ) → is_some (map_option suc o) ≡ is_some o
    mapped None = refl
    mapped (Some p) = refl

-- the place of a row, counted from the newest of n
abbrev row_place : ℕ → Option ℕ → Option ℕ
row_place n o = map_option (λ row. n - row) o

module _ (t : Table) (code : ℕ) where
  pub row_low : (n : ℕ) → IfSome (newest_row t n code) (λ row. (0 < row) × (row ≤ n))
  unfolding newest_row
  row_low zero = tt
  row_low (suc n) =
      case_bool (has_code (row_at t (suc n)) code)
      (λ e. rw e (omega arith, omega arith))
      (λ e. rw e (higher (newest_row t n code) (row_low n)))
    where
      higher : (o : Option ℕ) → IfSome o (λ row. (0 < row) × (row ≤ n)) → IfSome o (λ row. (0 < row) × (row ≤ suc n))
      higher None h = tt
      higher (Some row) h = (h.0, let low = h.1 in omega arith)

  module _ (low : code < no_key) where
    older : (n : ℕ) (o : Option ℕ) → IfSome o (λ row. (0 < row) × (row ≤ n)) → map_option suc (row_place n o) ≡ row_place (suc n) o
    older n None h = refl
    older n (Some row) h = let inside = h.1 in let one : suc (n - row) ≡ suc n - row = omega arith in ap Some one

    newest_coded : (n : ℕ) → newest_from (key_in code) (frames_of t n) ≡ row_place n (newest_row t n code)
    unfolding newest_row
    newest_coded zero = refl
    newest_coded (suc n) =
        case_bool (has_code (row_at t (suc n)) code)
        (λ e.
        let here = in_row code low (row_at t (suc n)) ∙ e in
        let first : suc n - suc n ≡ 0 = omega arith in rw (here, e, first) refl)
        (λ e.
        let here = in_row code low (row_at t (suc n)) ∙ e in
        rw (here, e) (ap (map_option suc) (newest_coded n) ∙ older n (newest_row t n code) (row_low n)))

-- ---- a key without a code

any_cells : (p : ℕ → Bool) (w : Row) → ((j : ℕ) → j < length w → p (cell w j) ≡ false) → any p w ≡ false
any_cells p [] h = refl
any_cells p (x ∷ w) h = simp (h 0 (omega arith)) (any_cells p w (λ j l. h (suc j) (omega arith)))

module _ (k : Key) (uncoded : list_code k ≡ None) where
  not_cell : (x : ℕ) → x < number_limit → has_key x && same_key k (key_in x) ≡ false
  not_cell x fits =
      case_bool (eqb x no_key)
      (λ e. rw e refl)
      (λ e. case_bool (same_key k (key_in x))
      (λ s.
      let other = eqb-false x no_key e in
      let low : x < no_key = omega (arith, other) in
      absurd (some≢none (sym (code_of_cell x low) ∙ ap list_code (sym (same_key_lem k (key_in x) s)) ∙ uncoded)))
      (λ s. rw (e, s) refl))

  not_in_row : (w : Row) → RowFits w → hands (frame_of w) k ≡ false
  not_in_row w fits =
      any_map (same_key k) key_in (keep has_key w)
      ∙ any_keep (λ x. same_key k (key_in x)) has_key w
      ∙ any_cells (λ x. has_key x && same_key k (key_in x)) w (λ j l. not_cell (cell w j) (fits j))

  newest_uncoded : (t : Table) (n : ℕ) → FramesFit t n → newest_from k (frames_of t n) ≡ None
  newest_uncoded t zero fits = refl
  newest_uncoded t (suc n) fits =
      rw (not_in_row (row_at t (suc n)) (fits (suc n) (omega arith) (omega arith)))
      (ap (map_option suc) (newest_uncoded t n (λ i h l. fits i h (omega arith))))

-- ---- what the code finds, where s are the rows that are asked

module _ {s t : Table} (same : s ≡ t) (k : Key) {o : Option ℕ} (is : o ≡ list_code k) where
  pub no_code : FramesFit s (depth_of s) → o ≡ None → NewestPlace t k None
  no_code fits e = record { place = sym (rw (← same) (newest_uncoded k (sym is ∙ e) s (depth_of s) fits)); low = tt }

  module _ {code : ℕ} (coded : o ≡ Some code) {r : Option ℕ} (found : r ≡ newest_row s (depth_of s) code) where
    places : newest_from k (frames_of t (depth_of t)) ≡ row_place (depth_of s) r
    places =
        let (low, back) = key_of_code k code (sym is ∙ coded) in
        rw (← same, ← back, found) (newest_coded s code low (depth_of s))

    pub found_nowhere : r ≡ None → NewestPlace t k None
    found_nowhere e = record { place = sym (places ∙ ap (row_place (depth_of s)) e); low = tt }

    pub row_inside : {row : ℕ} → r ≡ Some row → (0 < row) × (row ≤ depth_of s)
    row_inside e = rw (← found, e) at (row_low s code (depth_of s))

    pub found_at : {n row : ℕ} → r ≡ Some row → n ≡ depth_of s → NewestPlace t k (Some (n - row))
    found_at {n} {row} e h =
        record {
          place = sym (places ∙ ap (row_place (depth_of s)) e ∙ ap (λ (m : ℕ). Some (m - row)) (sym h));
          low = let inside = row_inside e in omega (arith, h);
        }
