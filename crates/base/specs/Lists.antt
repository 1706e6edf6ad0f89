-- Lists, optional values and maps from numbers, as the definitions use them.
use Rattle.std.specs.Prelude.{Bool, true, false, ◌&&◌, ◌||◌, cond, List, [], ◌∷◌, ◌++◌, ℕ, zero, suc, max, ◌+◌, eqb, ltb, Option, None, Some}

module _ {ℓ} {A : Type ℓ} where
  abbrev pub any : (A → Bool) → List A → Bool
  any p [] = false
  any p (x ∷ xs) = p x || any p xs

  abbrev pub keep_if : Bool → A → List A → List A
  keep_if true x xs = x ∷ xs
  keep_if false x xs = xs

  -- the elements that pass the test, in order
  abbrev pub keep : (A → Bool) → List A → List A
  keep p [] = []
  keep p (x ∷ xs) = keep_if (p x) x (keep p xs)

module _ {A : Type 0} where
  abbrev pub or_else : Bool → A → Option A → Option A
  or_else true x o = Some x
  or_else false x o = o

  -- the first element that passes the test
  abbrev pub first : (A → Bool) → List A → Option A
  first p [] = None
  first p (x ∷ xs) = or_else (p x) x (first p xs)

  -- the greater of what was found before, if anything was, and x; of equal ones what was found before
  abbrev pub greater : (A → ℕ) → Option A → A → Option A
  greater size None x = Some x
  greater size (Some y) x = cond (ltb (size y) (size x)) (Some x) (Some y)

  abbrev pub greatest_from : (A → ℕ) → Option A → List A → Option A
  greatest_from size o [] = o
  greatest_from size o (x ∷ xs) = greatest_from size (greater size o x) xs

  -- the greatest element by its size, the first of equal ones
  abbrev pub greatest : (A → ℕ) → List A → Option A
  greatest size xs = greatest_from size None xs

  abbrev pub is_some : Option A → Bool
  is_some None = false
  is_some (Some x) = true

module _ {ℓ} {A : Type ℓ} where
  -- the place of the first element that passes the test; the length if none does
  abbrev pub index_of : (A → Bool) → List A → ℕ
  index_of p [] = 0
  index_of p (x ∷ xs) = cond (p x) 0 (suc (index_of p xs))

  abbrev pub tail_of : List A → List A
  tail_of [] = []
  tail_of (x ∷ xs) = xs

  -- f i, f (i + 1) and so on, n of them
  abbrev pub each : (ℕ → A) → ℕ → ℕ → List A
  each f i zero = []
  each f i (suc n) = f i ∷ each f (suc i) n

module _ {A B : Type 0} where
  abbrev pub map_option : (A → B) → Option A → Option B
  map_option f None = None
  map_option f (Some x) = Some (f x)

  abbrev pub or_default : B → (A → B) → Option A → B
  or_default d f None = d
  or_default d f (Some x) = f x

-- what f gives of each element, one after the other
abbrev pub concat_map : {A B : Type 0} → (A → List B) → List A → List B
concat_map f [] = []
concat_map f (x ∷ xs) = f x ++ concat_map f xs

abbrev pub total : List ℕ → ℕ
total [] = 0
total (n ∷ ns) = n + total ns

-- the greatest number, 0 where there is none
abbrev pub maximum : List ℕ → ℕ
maximum [] = 0
maximum (n ∷ ns) = max n (maximum ns)

-- each number is above the one before it
abbrev pub rising : List ℕ → Bool
rising [] = true
rising (m ∷ []) = true
rising (m ∷ n ∷ ns) = ltb m n && rising (n ∷ ns)

-- maps from numbers

abbrev pub Map : Type 0 → Type 0
Map A = ℕ → Option A

module _ {A : Type 0} where
  abbrev pub put : Map A → ℕ → A → Map A
  put f n x = λ m. cond (eqb m n) (Some x) (f m)

  abbrev pub remove : Map A → ℕ → Map A
  remove f n = λ m. cond (eqb m n) None (f m)

  abbrev pub adjust : Map A → ℕ → (A → A) → Map A
  adjust f n g = λ m. cond (eqb m n) (map_option g (f m)) (f m)
