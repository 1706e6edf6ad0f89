-- What the code's tests on the arrays say of the state that they hold, and a key's code of the key.
use Rattle.std.specs.Prelude.{nat_eq}
use Rattle.std.specs.List.{list_any}
use mathlib.Core.Path.{◌≡◌, refl, sym, ap, ap₂, ◌∙◌}
use mathlib.Core.Bool.{Bool, true, false, not, ◌||◌}
use mathlib.Core.List.{List, [], ◌∷◌, map}
use Prim.Native.Nat.{ℕ, ◌≤◌, ◌<◌, min}
use native.Mathlib.Omega.{arith}
use lib.Dec.{eqb}
use lib.ListN.{length, get_or, take, length-take, length-map}
use lib.Seq.{get_or-take}
use borrow.Author.Tests.{lt-ltb, le-ltb, eqb-true, eqb-false, eq-eqb, ne_eqb}
use Rattle.product.specs.declared.literal.Key.TheVariants.{Defined}
use Rattle.base.proofs.Truth.{neither}
use Rattle.base.specs.Lists.{any, keep}
use Rattle.model.specs.Limits.{most_segments, most_defined}
use Rattle.model.specs.Threads.{same_key, is_in}
use Rattle.model.specs.State.{is_segment, is_key, owns, segment_at, Segment}
use Rattle.model.specs.Effects.{take_key}
use Rattle.model.specs.Cells.{Cells, cell, row_at, table_at, segment_count, defined_count, owner_cell, defined_cell, key_in, no_key, has_key, list_row, segment_in, state_of}
use Rattle.base.proofs.Lists.{case_bool, any_map, keep_map, keep_same, length_each}
use Rattle.model.proofs.Refinement.SegmentTables.{same_code}
use Rattle.model.proofs.Refinement.ServedCalls.{is_segment_lem, segment_at_lem}
use Rattle.base.specs.Counts.{Counted}
use Rattle.registry.specs.Counts.{Handed}
use Rattle.segments.specs.Internal.{without}

-- ---- keys in a list, by their codes

any_same : (p q : ℕ → Bool) → ((x : ℕ) → p x ≡ q x) → (xs : List ℕ) → any p xs ≡ any q xs
any_same p q h [] = refl
any_same p q h (x ∷ xs) = rw (h x, any_same p q h xs)

-- the key is in the list exactly if its code is
listed : (k : ℕ) (xs : List ℕ) → is_in (Defined k) (map key_in xs) ≡ any (eqb (defined_cell k)) xs
listed k xs = any_map (same_key (Defined k)) key_in xs ∙ any_same (λ y. same_key (Defined k) (key_in y)) (eqb (defined_cell k)) (same_code k) xs

-- as many keys are left as codes
left : (k : ℕ) (xs : List ℕ)
    → length (keep (λ j. not (same_key (Defined k) j)) (map key_in xs)) ≡ length (keep (λ y. not (eqb (defined_cell k) y)) xs)
left k xs =
    ap length (keep_map (λ j. not (same_key (Defined k) j)) key_in xs)
    ∙ length-map (keep (λ y. not (same_key (Defined k) (key_in y))) xs) key_in
    ∙ ap length (keep_same (λ y. not (same_key (Defined k) (key_in y))) (λ y. not (eqb (defined_cell k) y)) (λ y. ap not (same_code k y)) xs)

-- without a code that is not there, all stay
pub all_stay : (x : ℕ) (xs : List ℕ) → any (eqb x) xs ≡ false → keep (λ y. not (eqb x y)) xs ≡ xs
all_stay x [] h = refl
all_stay x (y ∷ ys) h =
    let (here, there) = neither (eqb x y) (any (eqb x) ys) h in
    simp here (ap (λ (r : List ℕ). y ∷ r) (all_stay x ys there))

eqb_turned : (x y : ℕ) → eqb y x ≡ eqb x y
eqb_turned x y =
    case_bool (eqb x y)
    (λ e. eq-eqb y x (sym (eqb-true x y e)) ∙ sym e)
    (λ e. ne_eqb y x (λ q. eqb-false x y e (sym q)) ∙ sym e)

-- the code of a key is in a row of cells exactly where it is among the keys
among : (x : ℕ) → eqb no_key x ≡ false → (xs : List ℕ) → list_any (λ y. nat_eq y x) xs ≡ any (eqb x) (keep has_key xs)
among x h [] = refl
among x h (y ∷ ys) =
    case_bool (eqb y no_key)
    (λ e. let n = eqb-true y no_key e in simp e (rw n (simp h (among x h ys))))
    (λ e. simp e (ap₂ (λ (a b : Bool). a || b) (eqb_turned x y) (among x h ys)))

pub among_keys : (k : ℕ) → k < most_defined → {found : Bool} (xs : List ℕ) → {list : List ℕ} → list ≡ xs → found ≡ list_any (λ y. nat_eq y (defined_cell k)) list
    → found ≡ any (eqb (defined_cell k)) (keep has_key xs)
among_keys k low xs {list} same e =
    e ∙ among (defined_cell k) (ne_eqb no_key (defined_cell k) (λ q. omega arith)) list
    ∙ ap (λ (ys : List ℕ). any (eqb (defined_cell k)) (keep has_key ys)) same

-- ---- segments and keys handed out

module _ (d : Cells) where
  pub segments_there : length (state_of d).segments ≡ min (cell d.registry segment_count) most_segments
  unfolding state_of
  segments_there = length_each (segment_in d) 0 (min (cell d.registry segment_count) most_segments)

  module _ (s : ℕ) {n : ℕ} (c : Counted (cell d.registry segment_count) most_segments n) where
    pub segment_missing : n ≤ s → not (is_segment (state_of d) s) ≡ true
    segment_missing h = ap not (is_segment_lem d s ∙ le-ltb s (min (cell d.registry segment_count) most_segments) (let e = c.count in omega arith))

    pub a_segment : s < n → not (is_segment (state_of d) s) ≡ false
    a_segment h = ap not (is_segment_lem d s ∙ lt-ltb s (min (cell d.registry segment_count) most_segments) (let e = c.count in omega arith))

    -- its part of the state
    pub segment_here : s < n → segment_at (state_of d) s ≡ segment_in d s
    segment_here h = segment_at_lem d s (let e = c.count in omega arith)

  module _ (k : ℕ) {n : ℕ} (c : Handed (cell d.registry defined_count) d.makers n) where
    pub key_missing : n ≤ k → not (is_key (state_of d) k) ≡ true
    unfolding state_of
    key_missing h = ap not (le-ltb k (length (take (min (cell d.registry defined_count) most_defined) d.makers)) (let e = c.keys in omega arith))

    pub a_key : k < n → not (is_key (state_of d) k) ≡ false
    unfolding state_of
    a_key h = ap not (lt-ltb k (length (take (min (cell d.registry defined_count) most_defined) d.makers)) (let e = c.keys in omega arith))

    pub maker_here : k < n → get_or (state_of d).makers k 0 ≡ cell d.makers k
    unfolding state_of
    maker_here h =
        let l = length-take (min (cell d.registry defined_count) most_defined) d.makers in
        let e = c.keys in
        get_or-take (min (cell d.registry defined_count) most_defined) d.makers k 0 (omega arith)

-- ---- a segment that is there

module _ (d : Cells) (s : ℕ) (there : segment_at (state_of d) s ≡ segment_in d s) where
  pub owned_by : (u : ℕ) → owns (state_of d) u s ≡ eqb (cell (row_at (table_at d.segments s) 0) owner_cell) u
  owned_by u = ap (λ (g : Segment). eqb g.owner u) there

  abbrev codes : List ℕ
  codes = keep has_key (list_row s (table_at d.segments s))

  pub in_list : (k : ℕ) → is_in (Defined k) (segment_at (state_of d) s).keys ≡ any (eqb (defined_cell k)) codes
  in_list k = ap (λ (g : Segment). is_in (Defined k) g.keys) there ∙ listed k codes

  pub list_length : length (segment_at (state_of d) s).keys ≡ length codes
  list_length = ap (λ (g : Segment). length g.keys) there ∙ length-map codes key_in

  pub left_length : (k : ℕ) → length (take_key k (segment_at (state_of d) s)).keys ≡ length (without (defined_cell k) (list_row s (table_at d.segments s)))
  left_length k = ap (λ (g : Segment). length (take_key k g).keys) there ∙ left k codes
