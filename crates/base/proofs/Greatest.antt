-- Laws of the greatest element of a list: it is one of the list's, none is greater, and where numbers rise along the
-- list it has the lowest of those that are as great.
use Rattle.std.specs.Prelude.{Option, None, Some}
use mathlib.Core.Path.{◌≡◌, refl, sym, ap, subst, ◌∙◌}
use mathlib.Core.Bool.{Bool, true}
use mathlib.Core.List.{List, [], ◌∷◌, ◌++◌, map, Memᴰ}
use Prim.Native.Nat.{ℕ, ◌≤◌, zero-le, suc-le-suc}
use native.Mathlib.Omega.{arith}
use lib.Dec.{ltb}
use lib.ListN.{length}
use borrow.Author.Tests.{ltb-true, ltb-false}
use Rattle.base.specs.Lists.{any, keep, is_some, greater, greatest_from, greatest, maximum, map_option, rising}
use Rattle.base.proofs.Truth.{and_left, and_right}
use Rattle.base.proofs.Lists.{All, case_bool, some_inj, some≢none, rising_skip}

module _ {A : Type 0} (size : A → ℕ) where
  pub greatest_append : (o : Option A) (xs ys : List A) → greatest_from size o (xs ++ ys) ≡ greatest_from size (greatest_from size o xs) ys
  greatest_append o [] ys = refl
  greatest_append o (x ∷ xs) ys = greatest_append (greater size o x) xs ys

  some_greater : (o : Option A) (x : A) → is_some (greater size o x) ≡ true
  some_greater None x = refl
  some_greater (Some y) x = case_bool (ltb (size y) (size x)) (λ e. simp e) (λ e. simp e)

  some_greatest : (o : Option A) (xs : List A) → is_some o ≡ true → is_some (greatest_from size o xs) ≡ true
  some_greatest o [] h = h
  some_greatest o (x ∷ xs) h = some_greatest (greater size o x) xs (some_greater o x)

  -- there is a greatest of those that pass where one passes
  pub is_some_greatest : (p : A → Bool) (xs : List A) → is_some (greatest size (keep p xs)) ≡ any p xs
  is_some_greatest p [] = refl
  is_some_greatest p (x ∷ xs) = case_bool (p x) (λ e. simp e (some_greatest (Some x) (keep p xs) refl)) (λ e. simp e (is_some_greatest p xs))

  greater_has : (P : A → Type 0) (o : Option A) (x : A) → ((y : A) → o ≡ Some y → P y) → P x → (y : A) → greater size o x ≡ Some y → P y
  greater_has P None x h p y e = subst P (some_inj e) p
  greater_has P (Some z) x h p y e =
      case_bool (ltb (size z) (size x)) (λ q. subst P (some_inj (sym (simp q) ∙ e)) p) (λ q. h y (sym (simp q) ∙ e))

  greatest_from_has : (P : A → Type 0) (o : Option A) (xs : List A) → ((y : A) → o ≡ Some y → P y) → All P xs
      → (y : A) → greatest_from size o xs ≡ Some y → P y
  greatest_from_has P o [] h a y e = h y e
  greatest_from_has P o (x ∷ xs) h a y e = greatest_from_has P (greater size o x) xs (greater_has P o x h a.0) a.1 y e

  -- what holds of all holds of the greatest
  pub greatest_has : (P : A → Type 0) (xs : List A) → All P xs → (y : A) → greatest size xs ≡ Some y → P y
  greatest_has P xs a y e = greatest_from_has P None xs (λ z q. absurd (some≢none (sym q))) a y e

-- found among what f gives of each
module _ {A B : Type 0} (size : B → ℕ) (f : A → B) where
  greater_map : (o : Option A) (x : A) → map_option f (greater (λ y. size (f y)) o x) ≡ greater size (map_option f o) (f x)
  greater_map None x = refl
  greater_map (Some y) x = case_bool (ltb (size (f y)) (size (f x))) (λ e. simp e) (λ e. simp e)

  pub greatest_map : (o : Option A) (xs : List A) → map_option f (greatest_from (λ x. size (f x)) o xs) ≡ greatest_from size (map_option f o) (map f xs)
  greatest_map o [] = refl
  greatest_map o (x ∷ xs) =
      greatest_map (greater (λ y. size (f y)) o x) xs ∙ ap (λ (q : Option B). greatest_from size q (map f xs)) (greater_map o x)

-- ---- the greatest of elements whose numbers rise

module _ {A : Type 0} (size number : A → ℕ) where
  -- y is no smaller than x, and has no higher number where they are equal
  pub record Leads (y x : A) : Type 0 where
    pub least : size x ≤ size y
    pub lower : size x ≡ size y → number y ≤ number x

  leads_itself : (y : A) → Leads y y
  leads_itself y = record { least = omega arith; lower = λ e. omega arith }

  leads_from : (z : A) (xs : List A) → rising (number z ∷ map number xs) ≡ true → (y : A) → greatest_from size (Some z) xs ≡ Some y
      → Leads y z × All (Leads y) xs
  leads_from z [] r y e = (subst (λ (k : A). Leads k z) (some_inj e) (leads_itself z), tt)
  leads_from z (x ∷ xs) r y e =
      let later = ltb-true (number z) (number x) (and_left (ltb (number z) (number x)) _ r) in
      case_bool (ltb (size z) (size x))
      (λ q.
      let below = ltb-true (size z) (size x) q in
      let (this, rest) = leads_from x xs (and_right (ltb (number z) (number x)) _ r) y (rw q at e) in
      let least = this.least in
      (record { least = omega arith; lower = λ i. absurd (omega arith) }, (this, rest)))
      (λ q.
      let over = ltb-false (size z) (size x) q in
      let (this, rest) = leads_from z xs (rising_skip (number z) (number x) (map number xs) r) y (rw q at e) in
      let least = this.least in
      (this, (record { least = omega arith; lower = λ i. let same : size z ≡ size y = omega arith in let low = this.lower same in omega arith }, rest)))

  -- it leads them all
  pub greatest_leads : (xs : List A) → rising (map number xs) ≡ true → (y : A) → greatest size xs ≡ Some y → All (Leads y) xs
  greatest_leads [] r y e = tt
  greatest_leads (x ∷ xs) r y e = leads_from x xs r y e

-- ---- the greatest number that f gives is above each, and one gives it

module _ {A : Type 0} (f : A → ℕ) where
  pub maximum_above : (x : A) (xs : List A) → Memᴰ x xs → f x ≤ maximum (map f xs)
  maximum_above x [] m = elim m [ ]
  maximum_above x (y ∷ ys) (Memᴰ.head e) = let i = ap f e in omega arith
  maximum_above x (y ∷ ys) (Memᴰ.tail m) = let h = maximum_above x ys m in omega arith

  pub maximum_reached : (xs : List A) → 1 ≤ length xs → (x : A) × Memᴰ x xs × (f x ≡ maximum (map f xs))
  maximum_reached [] h = absurd (omega arith)
  maximum_reached (y ∷ []) h = (y, Memᴰ.head refl, omega arith)
  maximum_reached (y ∷ z ∷ zs) h =
      let (x, m, e) = maximum_reached (z ∷ zs) (suc-le-suc zero-le) in
      case_bool (ltb (f y) (maximum (map f (z ∷ zs))))
      (λ q. let l = ltb-true (f y) (maximum (map f (z ∷ zs))) q in (x, Memᴰ.tail m, omega arith))
      (λ q. let l = ltb-false (f y) (maximum (map f (z ∷ zs))) q in (y, Memᴰ.head refl, omega arith))
