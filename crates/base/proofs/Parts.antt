-- Laws of lists that several proofs cite.
use mathlib.Core.Path.{◌≡◌, refl, sym, ap, ◌∙◌}
use mathlib.Core.List.{List, [], ◌∷◌, ◌++◌, map, map-append}
use Prim.Native.Nat.{ℕ, zero, suc, ◌+◌, ◌-◌, ◌≤◌, ◌<◌}
use native.Mathlib.Omega.{arith}
use native.Mathlib.Numerals.{add-one}
use lib.ListN.{length, get_or, set, take, drop, replicate, length-map, get_or-map, drop_of_length-le, take-append-drop}
use lib.Seq.{take_all, drop-drop, take-take, take-suc, take-suc-set, take-set-lt, drop-set-lt, length-take-le, get_or-take, drop-cons}

module _ {A B : Type 0} (f : A → B) where
  pub map_take : (n : ℕ) (s : List A) → map f (take n s) ≡ take n (map f s)
  map_take zero s = refl
  map_take (suc n) [] = refl
  map_take (suc n) (x ∷ s) = ap (λ (u : List B). f x ∷ u) (map_take n s)

  pub map_drop : (n : ℕ) (s : List A) → map f (drop n s) ≡ drop n (map f s)
  map_drop zero s = refl
  map_drop (suc n) [] = refl
  map_drop (suc n) (x ∷ s) = map_drop n s

-- an element that is there, whatever would stand for one that is not
pub get_d_mapped : {A B : Type 0} (f : A → B) (l : List A) (i : ℕ) (d : A) (e : B) → i < length l → get_or (map f l) i e ≡ f (get_or l i d)
get_d_mapped f [] i d e h = let z : ⊥ = omega arith in absurd z
get_d_mapped f (x ∷ l) zero d e h = refl
get_d_mapped f (x ∷ l) (suc i) d e h = get_d_mapped f l i d e (omega arith)

pub head_drop : {A : Type 0} (i : ℕ) (l : List A) (d : A) → get_or (drop i l) 0 d ≡ get_or l i d
head_drop zero l d = refl
head_drop (suc i) [] d = refl
head_drop (suc i) (x ∷ l) d = head_drop i l d

pub drop_replicate : {A : Type 0} (a : A) (k n : ℕ) → drop k (replicate n a) ≡ replicate (n - k) a
drop_replicate a zero n = let e : n - 0 ≡ n = omega arith in rw e
drop_replicate a (suc k) zero = let e : 0 - suc k ≡ 0 = omega arith in rw e
drop_replicate a (suc k) (suc n) = let e : suc n - suc k ≡ n - k = omega arith in rw e (drop_replicate a k n)

pub take_replicate : {A : Type 0} (a : A) (k n : ℕ) → k ≤ n → take k (replicate n a) ≡ replicate k a
take_replicate a zero n h = refl
take_replicate a (suc k) zero h = let z : ⊥ = omega arith in absurd z
take_replicate a (suc k) (suc n) h = ap (λ s. a ∷ s) (take_replicate a k n (omega arith))

-- cells that are blank from n on are so from n + 1 on
pub blank_next : {A : Type 0} (a : A) (cells : List A) (m n : ℕ) → drop n cells ≡ replicate (m - n) a → drop (n + 1) cells ≡ replicate (m - (n + 1)) a
blank_next a cells m n h =
    let e : m - n - 1 ≡ m - (n + 1) = omega arith in
    sym (drop-drop 1 n cells) ∙ rw (h, drop_replicate a 1 (m - n), e)

-- n elements from a place on, one by one
unfoldable pub read : {A : Type 0} → A → List A → ℕ → ℕ → List A
read d l i zero = []
read d l i (suc n) = get_or l i d ∷ read d l (suc i) n

pub read_take : {A : Type 0} (d : A) (l : List A) (i n : ℕ) → i + n ≤ length l → read d l i n ≡ take n (drop i l)
unfolding read
read_take d l i zero h = refl
read_take d l i (suc n) h = rw (drop-cons l i d (omega arith)) (ap (λ s. get_or l i d ∷ s) (read_take d l (suc i) n (omega arith)))

pub read_all : {A : Type 0} (d : A) (l : List A) (n : ℕ) → length l ≡ n → read d l 0 n ≡ l
read_all d l n h = read_take d l 0 n (omega arith) ∙ take_all n l (omega arith)

-- A loop over the first n elements of an array l, each seen by f: what is left at i, and at the end. Such a loop's
-- invariant says that the answer for the whole is the answer for what is left.
module _ {X Y : Type 0} (f : X → Y) where
  abbrev pub part : List X → ℕ → List Y
  part l n = map f (take n l)

  pub length_part : (l : List X) (n : ℕ) → n ≤ length l → length (part l n) ≡ n
  length_part l n h = length-map (take n l) f ∙ length-take-le n l h

  pub get_d_part : (l : List X) (i n : ℕ) (d : X) → i < n → get_or (part l n) i (f d) ≡ f (get_or l i d)
  get_d_part l i n d h = get_or-map f (take n l) i d ∙ ap f (get_or-take n l i d h)

  pub part_cons : (l : List X) (n : ℕ) → n ≤ length l → (i : ℕ) (d : X) → i < n → drop i (part l n) ≡ f (get_or l i d) ∷ drop (i + 1) (part l n)
  part_cons l n h i d k = drop-cons (part l n) i (f d) (rw (length_part l n h) k) ∙ rw (get_d_part l i n d k, add-one i)

  pub part_past : (l : List X) (n : ℕ) → n ≤ length l → (i : ℕ) → n ≤ i → drop i (part l n) ≡ []
  part_past l n h i k = let e : length (part l n) ≤ i = rw (length_part l n h) k in drop_of_length-le (part l n) e

  -- one element further, after it was stored
  pub part_snoc : (l : List X) (n : ℕ) (v : X) → n < length l → part (set l n v) (n + 1) ≡ part l n ++ f v ∷ []
  part_snoc l n v h = rw (add-one n, take-suc-set l n v h) (map-append f (take n l) (v ∷ []))

  pub part_step : (l : List X) (n : ℕ) (d : X) → n < length l → part l (n + 1) ≡ part l n ++ f (get_or l n d) ∷ []
  part_step l n d h = rw (add-one n, take-suc l n d h) (map-append f (take n l) (get_or l n d ∷ []))

  -- what stands past a store
  pub part_after : (l : List X) (n i : ℕ) (v : X) → i < n → drop (i + 1) (part (set l i v) n) ≡ drop (i + 1) (part l n)
  part_after l n i v h =
      sym (map_drop f (i + 1) (take n (set l i v)))
      ∙ rw (take-set-lt n l i v h, drop-set-lt (i + 1) (take n l) i v (omega arith)) (map_drop f (i + 1) (take n l))

  -- the part, cut at i
  pub part_cut : (l : List X) (n i : ℕ) → i ≤ n → part l n ≡ part l i ++ drop i (part l n)
  part_cut l n i h = sym (rw (← take-take i n l h, map_take f i (take n l)) (take-append-drop i (part l n)))
