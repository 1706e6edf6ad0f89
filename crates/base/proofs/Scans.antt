-- Loops over a list, from its first element on. `Missed`: none before i passes, so that the first that passes is at i
-- or after it. `Rest`: what is left to ask, from i on, answers what the whole does; `Asks` is the question whether one
-- passes. `Changed`: the elements before i are changed, and those from i on are as they were.
use mathlib.Core.Path.{◌≡◌, refl, sym, ap, ◌∙◌}
use mathlib.Core.Bool.{Bool, true, false, ◌||◌}
use mathlib.Core.List.{List, [], ◌∷◌, map, append-nil}
use Prim.Native.Nat.{ℕ, zero, suc, ◌+◌, ◌≤◌, ◌<◌}
use native.Mathlib.Numerals.{add-one}
use native.Mathlib.Omega.{arith}
use lib.Dec.{eqb}
use lib.ListN.{length, get_or, set, drop, length-set, length-map, drop_of_length-le}
use lib.Seq.{drop-cons, get_or-set_same, get_or-set_other, ext_get_or}
use borrow.Author.Tests.{eqb-true, eqb-false}
use Rattle.base.specs.Lists.{index_of, each}
use Rattle.base.proofs.Lists.{case_bool, each_suc, each_get_d}

-- ---- the first of f 0, f 1, .., f (n - 1) that passes

module _ {A : Type 0} (p : A → Bool) where
  index_is : (f : ℕ → A) (n i : ℕ) → i < n → ((j : ℕ) → j < i → p (f j) ≡ false) → p (f i) ≡ true → i ≡ index_of p (each f 0 n)
  index_is f zero i l misses hit = absurd (omega arith)
  index_is f (suc n) zero l misses hit = simp hit
  index_is f (suc n) (suc i) l misses hit =
      let here : p (f 0) ≡ false = misses 0 (omega arith) in
      simp here
      (ap suc
      (index_is (λ j. f (suc j)) n i (omega arith) (λ j h. misses (suc j) (omega arith)) hit ∙ ap (index_of p) (sym (each_suc f 0 n))))

  index_none : (f : ℕ → A) (n : ℕ) → ((j : ℕ) → j < n → p (f j) ≡ false) → n ≡ index_of p (each f 0 n)
  index_none f zero misses = refl
  index_none f (suc n) misses =
      let here : p (f 0) ≡ false = misses 0 (omega arith) in
      simp here (ap suc (index_none (λ j. f (suc j)) n (λ j h. misses (suc j) (omega arith)) ∙ ap (index_of p) (sym (each_suc f 0 n))))

  module _ (f : ℕ → A) where
    -- of n, none before i
    pub record Missed (n i : ℕ) : Type 0 where
      pub misses : (j : ℕ) → j < i → p (f j) ≡ false
      pub low : i ≤ n

    pub missed_start : (n : ℕ) → Missed n 0
    missed_start n = record { misses = λ j h. absurd (omega arith); low = omega arith }

    module _ {n i : ℕ} (before : Missed n i) where
      pub missed_more : i < n → p (f i) ≡ false → Missed n (i + 1)
      missed_more l miss =
          record {
            misses = λ j h.
                case_bool (eqb j i)
                (λ e. ap (λ (k : ℕ). p (f k)) (eqb-true j i e) ∙ miss)
                (λ e. let ne = eqb-false j i e in before.misses j (omega (arith, ne)));
            low = omega arith;
          }

      pub missed_hit : i < n → p (f i) ≡ true → i ≡ index_of p (each f 0 n)
      missed_hit l hit = index_is f n i l before.misses hit

      pub missed_end : n ≤ i → n ≡ index_of p (each f 0 n)
      missed_end h = index_none f n (λ j l. before.misses j (omega arith))

-- the elements of a list, each read at its index
pub each_read : {A B : Type 0} (f : A → B) (d : A) (xs : List A) → each (λ i. f (get_or xs i d)) 0 (length xs) ≡ map f xs
each_read {A} f d xs = ap (λ (ys : List A). each (λ i. f (get_or ys i d)) 0 (length xs)) (sym (append-nil xs)) ∙ each_get_d f d xs []

-- ---- what is left answers what the whole does

module _ {A B : Type 0} (g : List A → B) where
  pub record Rest (r : B) (xs : List A) (i : ℕ) : Type 0 where
    pub rest : r ≡ g (drop i xs)

  pub rest_start : (xs : List A) (i : ℕ) → Rest (g (drop i xs)) xs i
  rest_start xs i = record { rest = refl }

  module _ {r : B} {xs : List A} {i : ℕ} (a : Rest r xs i) where
    pub rest_end : length xs ≤ i → r ≡ g []
    rest_end h = a.rest ∙ ap g (drop_of_length-le xs h)

    pub rest_next : (d : A) → i < length xs → r ≡ g (get_or xs i d ∷ drop (i + 1) xs)
    rest_next d h = a.rest ∙ ap g (drop-cons xs i d h) ∙ ap (λ (j : ℕ). g (get_or xs i d ∷ drop j xs)) (sym (add-one i))

-- ---- whether one passes

-- g asks it of the elements before the first that ends the list
pub record Asks {A : Type 0} (g : List A → Bool) (ends p : A → Bool) : Type 0 where
  pub none : g [] ≡ false
  pub stop : (x : A) (xs : List A) → ends x ≡ true → g (x ∷ xs) ≡ false
  pub more : (x : A) (xs : List A) → ends x ≡ false → g (x ∷ xs) ≡ (p x || g xs)

module _ {A : Type 0} {g : List A → Bool} {ends p : A → Bool} (q : Asks g ends p) (d : A) {r : Bool} {xs : List A} {i : ℕ} (a : Rest g r xs i) where
  pub asks_end : length xs ≤ i → false ≡ r
  asks_end h = sym (rest_end g a h ∙ q.none)

  module _ (h : i < length xs) where
    pub asks_stop : ends (get_or xs i d) ≡ true → false ≡ r
    asks_stop e = sym (rest_next g a d h ∙ q.stop (get_or xs i d) (drop (i + 1) xs) e)

    module _ (e : ends (get_or xs i d) ≡ false) where
      next : r ≡ (p (get_or xs i d) || g (drop (i + 1) xs))
      next = rest_next g a d h ∙ q.more (get_or xs i d) (drop (i + 1) xs) e

      pub asks_hit : p (get_or xs i d) ≡ true → true ≡ r
      asks_hit t = sym (next ∙ rw t)

      pub asks_miss : p (get_or xs i d) ≡ false → Rest g r xs (i + 1)
      asks_miss f = record { rest = next ∙ rw f }

-- ---- each element changed in its place

module _ {A : Type 0} (f : A → A) (d : A) where
  pub record Changed (xs : List A) (i : ℕ) (ys : List A) : Type 0 where
    pub same : length ys ≡ length xs
    pub before : (j : ℕ) → j < i → get_or ys j d ≡ f (get_or xs j d)
    pub after : (j : ℕ) → i ≤ j → get_or ys j d ≡ get_or xs j d

  pub changed_start : (xs : List A) → Changed xs 0 xs
  changed_start xs = record { same = refl; before = λ j h. absurd (omega arith); after = λ j h. refl }

  module _ {xs ys : List A} {i : ℕ} (c : Changed xs i ys) (h : i < length xs) where
    pub changed_next : (y : A) → y ≡ f (get_or ys i d) → Changed xs (i + 1) (set ys i y)
    changed_next y e =
        record {
          same = length-set ys i y ∙ c.same;
          before = λ j l.
              case_bool (eqb j i)
              (λ t. let p = eqb-true j i t in
              ap (λ (k : ℕ). get_or (set ys i y) k d) p ∙ get_or-set_same ys i y d (let q = c.same in omega arith) ∙ e ∙ ap f (c.after i (omega arith)) ∙ ap (λ (k : ℕ). f (get_or xs k d)) (sym p))
              (λ t. let p = eqb-false j i t in get_or-set_other ys i j y d p ∙ c.before j (omega (arith, p)));
          after = λ j l. get_or-set_other ys i j y d (λ p. omega arith) ∙ c.after j (omega arith);
        }

    -- one that f leaves as it is
    pub changed_skip : f (get_or ys i d) ≡ get_or ys i d → Changed xs (i + 1) ys
    changed_skip e =
        record {
          same = c.same;
          before = λ j l.
              case_bool (eqb j i)
              (λ t. let p = eqb-true j i t in
              ap (λ (k : ℕ). get_or ys k d) p ∙ sym e ∙ ap f (c.after i (omega arith)) ∙ ap (λ (k : ℕ). f (get_or xs k d)) (sym p))
              (λ t. let p = eqb-false j i t in c.before j (omega (arith, p)));
          after = λ j l. c.after j (omega arith);
        }

  pub changed_end : {xs ys : List A} {i : ℕ} → Changed xs i ys → length xs ≤ i → ys ≡ map f xs
  changed_end {xs} {ys} c h =
      ext_get_or d ys (map f xs) (c.same ∙ sym (length-map xs f))
      (λ j l. let q = c.same in let low : j < length xs = omega arith in
      c.before j (omega arith) ∙ sym (map_read xs j low))
    where
      map_read : (zs : List A) (j : ℕ) → j < length zs → get_or (map f zs) j d ≡ f (get_or zs j d)
      map_read [] j l = absurd (omega arith)
      map_read (z ∷ zs) zero l = refl
      map_read (z ∷ zs) (suc j) l = map_read zs j (omega arith)
