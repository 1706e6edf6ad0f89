-- Laws of lists: tests over them, what a test keeps, the first that passes, and a list read index by index.
use Rattle.std.specs.Prelude.{slice_get, Option, None, Some}
use mathlib.Core.Path.{◌≡◌, refl, sym, ap, subst, ◌∙◌}
use mathlib.Core.Bool.{Bool, true, false, ◌&&◌, ◌||◌, cond, true≢false, false≢true, or_assoc}
use mathlib.Core.List.{List, [], ◌∷◌, ◌++◌, map, map-append, append-nil, append_assoc, Memᴰ}
use Prim.Native.Nat.{ℕ, zero, suc, ◌+◌, ◌≤◌, ◌<◌, zero-le, suc-le-suc}
use native.Mathlib.Omega.{arith}
use native.Mathlib.Nat.{add-zero, add-suc, suc-add, le_of_suc-le-suc, not-suc-le-zero}
use lib.Dec.{eqb, ltb, eqb-suc-suc, eqb-suc-zero, eqb-zero-suc}
use lib.ListN.{length, get_or, set, replicate, length-set, length-append}
use lib.Seq.{sets, get_or-set_same, get_or-set_other, ext_get_or}
use borrow.Author.Tests.{eqb-true, eqb-false, eq-eqb, ltb-true, lt-ltb}
use Rattle.base.proofs.Truth.{and_left, and_right, both_and}
use Rattle.base.specs.Lists.{any, keep_if, keep, first, is_some, index_of, each, concat_map, total, rising, map_option, put, adjust}

-- every element
module _ {A : Type 0} where
  abbrev pub All : (A → Type 0) → List A → Type 0
  All P [] = Unit {0}
  All P (x ∷ xs) = P x × All P xs

pub case_bool {ℓ} : {A : Type ℓ} (b : Bool) → (b ≡ true → A) → (b ≡ false → A) → A
case_bool true t f = t refl
case_bool false t f = f refl

-- a test that is true and false
pub clash {ℓ} : {A : Type ℓ} {b : Bool} → b ≡ true → b ≡ false → A
clash p q = absurd (true≢false (sym p ∙ q))

pub same_truth : (a b : Bool) → (a ≡ true → b ≡ true) → (b ≡ true → a ≡ true) → a ≡ b
same_truth true b to from = sym (to refl)
same_truth false true to from = from refl
same_truth false false to from = refl

pub eqb_self : (n : ℕ) → eqb n n ≡ true
eqb_self n = eq-eqb n n refl

module _ {A : Type 0} where
  pub is_some_first : (p : A → Bool) (xs : List A) → is_some (first p xs) ≡ any p xs
  is_some_first p [] = refl
  is_some_first p (x ∷ xs) = case_bool (p x) (λ e. simp e) (λ e. simp e (is_some_first p xs))

  -- one that passes is among them
  pub any_passes : (p : A → Bool) (x : A) (xs : List A) → Memᴰ x xs → p x ≡ true → any p xs ≡ true
  any_passes p x [] m t = elim m [ ]
  any_passes p x (y ∷ ys) (Memᴰ.head e) t = simp (sym (ap p e) ∙ t)
  any_passes p x (y ∷ ys) (Memᴰ.tail m) t = case_bool (p y) (λ q. simp q) (λ q. simp q (any_passes p x ys m t))

  pub any_found : (p : A → Bool) (xs : List A) → any p xs ≡ true → (x : A) × Memᴰ x xs × (p x ≡ true)
  any_found p [] t = absurd (false≢true t)
  any_found p (y ∷ ys) t =
      case_bool (p y)
      (λ q. (y, Memᴰ.head refl, q))
      (λ q. let (x, m, u) = any_found p ys (rw q at t) in (x, Memᴰ.tail m, u))

  pub all_members : (P : A → Type 0) (xs : List A) → ((x : A) → Memᴰ x xs → P x) → All P xs
  all_members P [] h = tt
  all_members P (x ∷ xs) h = (h x (Memᴰ.head refl), all_members P xs (λ y m. h y (Memᴰ.tail m)))

  pub all_at : (P : A → Type 0) (xs : List A) → All P xs → (x : A) → Memᴰ x xs → P x
  all_at P [] h x m = elim m [ ]
  all_at P (y ∷ ys) h x (Memᴰ.head e) = subst P (sym e) h.0
  all_at P (y ∷ ys) h x (Memᴰ.tail m) = all_at P ys h.1 x m

  pub any_at : (p : A → Bool) (d : A) (xs : List A) (i : ℕ) → p (get_or xs i d) ≡ true → p d ≡ false → any p xs ≡ true
  any_at p d [] i t f = clash t f
  any_at p d (x ∷ xs) zero t f = simp t
  any_at p d (x ∷ xs) (suc i) t f = case_bool (p x) (λ e. simp e) (λ e. simp e (any_at p d xs i t f))

  pub first_keep : (p q : A → Bool) (xs : List A) → first p (keep q xs) ≡ first (λ x. q x && p x) xs
  first_keep p q [] = refl
  first_keep p q (x ∷ xs) = case_bool (q x) (λ e. simp (e, first_keep p q xs)) (λ e. simp (e, first_keep p q xs))

  pub first_same : (p q : A → Bool) (xs : List A) → All (λ x. p x ≡ q x) xs → first p xs ≡ first q xs
  first_same p q [] h = refl
  first_same p q (x ∷ xs) h = simp (h.0, first_same p q xs h.1)

  pub any_append : (p : A → Bool) (xs ys : List A) → any p (xs ++ ys) ≡ (any p xs || any p ys)
  any_append p [] ys = refl
  any_append p (x ∷ xs) ys = rw (any_append p xs ys) (sym (or_assoc (p x) (any p xs) (any p ys)))

  pub any_and : (c : Bool) (p : A → Bool) (xs : List A) → any (λ x. c && p x) xs ≡ (c && any p xs)
  any_and true p xs = refl
  any_and false p [] = refl
  any_and false p (x ∷ xs) = any_and false p xs

  pub any_keep : (p q : A → Bool) (xs : List A) → any p (keep q xs) ≡ any (λ x. q x && p x) xs
  any_keep p q [] = refl
  any_keep p q (x ∷ xs) = case_bool (q x) (λ e. simp (e, any_keep p q xs)) (λ e. simp (e, any_keep p q xs))

  pub any_same : (p q : A → Bool) (xs : List A) → All (λ x. p x ≡ q x) xs → any p xs ≡ any q xs
  any_same p q [] h = refl
  any_same p q (x ∷ xs) h = simp (h.0, any_same p q xs h.1)

  -- what holds of every element, and of one that passes
  pub from_any : {R : Type 0} (p : A → Bool) (Q : A → Type 0) (xs : List A) → All Q xs → ((x : A) → Q x → p x ≡ true → R) → any p xs ≡ true → R
  from_any p Q [] h f t = absurd (false≢true t)
  from_any p Q (x ∷ xs) h f t = case_bool (p x) (λ e. f x h.0 e) (λ e. from_any p Q xs h.1 f (rw e at t))

  pub keep_append : (p : A → Bool) (xs ys : List A) → keep p (xs ++ ys) ≡ keep p xs ++ keep p ys
  keep_append p [] ys = refl
  keep_append p (x ∷ xs) ys = case_bool (p x) (λ e. simp (e, keep_append p xs ys)) (λ e. simp (e, keep_append p xs ys))

  pub keep_all : (p : A → Bool) (xs : List A) → All (λ x. p x ≡ true) xs → keep p xs ≡ xs
  keep_all p [] h = refl
  keep_all p (x ∷ xs) h = simp (h.0, keep_all p xs h.1)

  pub keep_none : (p : A → Bool) (xs : List A) → any p xs ≡ false → keep p xs ≡ []
  keep_none p [] h = refl
  keep_none p (x ∷ xs) h = case_bool (p x) (λ e. clash (any_passes p x (x ∷ xs) (Memᴰ.head refl) e) h) (λ e. simp e (keep_none p xs (rw e at h)))

  pub keep_keep : (p q : A → Bool) (xs : List A) → keep p (keep q xs) ≡ keep q (keep p xs)
  keep_keep p q [] = refl
  keep_keep p q (x ∷ xs) =
      case_bool (p x)
      (λ e. case_bool (q x) (λ e'. simp (e, e', keep_keep p q xs)) (λ e'. simp (e, e', keep_keep p q xs)))
      (λ e. case_bool (q x) (λ e'. simp (e, e', keep_keep p q xs)) (λ e'. simp (e, e', keep_keep p q xs)))

  -- what is kept by q was kept by p anyway
  pub keep_idle : (p q : A → Bool) (xs : List A) → All (λ x. q x ≡ true → p x ≡ true) xs → keep q (keep p xs) ≡ keep q xs
  keep_idle p q [] h = refl
  keep_idle p q (x ∷ xs) h =
      case_bool (q x)
      (λ e. simp (h.0 e, e, keep_idle p q xs h.1))
      (λ e. case_bool (p x) (λ e'. simp (e, e', keep_idle p q xs h.1)) (λ e'. simp (e, e', keep_idle p q xs h.1)))

  pub keep_same : (p q : A → Bool) → ((x : A) → p x ≡ q x) → (xs : List A) → keep p xs ≡ keep q xs
  keep_same p q h [] = refl
  keep_same p q h (x ∷ xs) = simp (h x, keep_same p q h xs)

  pub keep_passes : (p : A → Bool) (xs : List A) → All (λ x. p x ≡ true) (keep p xs)
  keep_passes p [] = tt
  keep_passes p (x ∷ xs) = case_bool (p x) (λ e. simp e (refl, keep_passes p xs)) (λ e. simp e (keep_passes p xs))

  pub length_append_one : (xs : List A) (x : A) → length (xs ++ x ∷ []) ≡ suc (length xs)
  length_append_one [] x = refl
  length_append_one (y ∷ ys) x = ap suc (length_append_one ys x)

  pub length_keep : (p : A → Bool) (xs : List A) → length (keep p xs) ≤ length xs
  length_keep p [] = zero-le
  length_keep p (x ∷ xs) =
      let h : length (keep p xs) ≤ length xs = length_keep p xs in
      case_bool (p x) (λ e. simp e (suc-le-suc h)) (λ e. simp e (omega arith))

  pub All-map : {P Q : A → Type 0} → ((x : A) → P x → Q x) → (xs : List A) → All P xs → All Q xs
  All-map f [] h = tt
  All-map f (x ∷ xs) h = (f x h.0, All-map f xs h.1)

  pub All-append : (P : A → Type 0) (xs ys : List A) → All P xs → All P ys → All P (xs ++ ys)
  All-append P [] ys h k = k
  All-append P (x ∷ xs) ys h k = (h.0, All-append P xs ys h.1 k)

  pub All-keep : (P : A → Type 0) (p : A → Bool) (xs : List A) → All P xs → All P (keep p xs)
  All-keep P p [] h = tt
  All-keep P p (x ∷ xs) h = case_bool (p x) (λ e. simp e (h.0, All-keep P p xs h.1)) (λ e. simp e (All-keep P p xs h.1))

  -- what is kept was there, and passes
  pub keep_members : (p : A → Bool) (xs : List A) → All (λ x. Memᴰ x xs × (p x ≡ true)) (keep p xs)
  keep_members p [] = tt
  keep_members p (x ∷ xs) =
      let rest = All-map {Q = λ y. Memᴰ y (x ∷ xs) × (p y ≡ true)} (λ y m. (Memᴰ.tail m.0, m.1)) (keep p xs) (keep_members p xs) in
      case_bool (p x) (λ e. simp e ((Memᴰ.head refl, refl), rest)) (λ e. simp e rest)

  pub keep_member : (p : A → Bool) (x : A) (xs : List A) → Memᴰ x xs → p x ≡ true → Memᴰ x (keep p xs)
  keep_member p x [] m t = elim m [ ]
  keep_member p x (y ∷ ys) (Memᴰ.head i) t = simp (sym (ap p i) ∙ t) (Memᴰ.head i)
  keep_member p x (y ∷ ys) (Memᴰ.tail m) t =
      case_bool (p y) (λ e. simp e (Memᴰ.tail (keep_member p x ys m t))) (λ e. simp e (keep_member p x ys m t))

  pub index_of_lt : (p : A → Bool) (xs : List A) → any p xs ≡ true → index_of p xs < length xs
  index_of_lt p [] t = absurd (false≢true t)
  index_of_lt p (x ∷ xs) t = case_bool (p x) (λ e. simp e (suc-le-suc zero-le)) (λ e. simp e (suc-le-suc (index_of_lt p xs (rw e at t))))

  pub index_of_passes : (p : A → Bool) (d : A) (xs : List A) → any p xs ≡ true → p (get_or xs (index_of p xs) d) ≡ true
  index_of_passes p d [] t = absurd (false≢true t)
  index_of_passes p d (x ∷ xs) t = case_bool (p x) (λ e. simp e) (λ e. simp e (index_of_passes p d xs (rw e at t)))

module _ {A B : Type 0} where
  pub any_map : (p : B → Bool) (f : A → B) (xs : List A) → any p (map f xs) ≡ any (λ x. p (f x)) xs
  any_map p f [] = refl
  any_map p f (x ∷ xs) = rw (any_map p f xs)

  pub first_map : (p : B → Bool) (f : A → B) (xs : List A) → first p (map f xs) ≡ map_option f (first (λ x. p (f x)) xs)
  first_map p f [] = refl
  first_map p f (x ∷ xs) = case_bool (p (f x)) (λ e. simp e) (λ e. simp e (first_map p f xs))

  pub any_concat_map : (p : B → Bool) (f : A → List B) (xs : List A) → any p (concat_map f xs) ≡ any (λ x. any p (f x)) xs
  any_concat_map p f [] = refl
  any_concat_map p f (x ∷ xs) = any_append p (f x) (concat_map f xs) ∙ rw (any_concat_map p f xs)

  pub map_keep_if : (f : A → B) (b : Bool) (x : A) (xs : List A) → map f (keep_if b x xs) ≡ keep_if b (f x) (map f xs)
  map_keep_if f true x xs = refl
  map_keep_if f false x xs = refl

  pub map_map : {C : Type 0} (g : B → C) (f : A → B) (xs : List A) → map g (map f xs) ≡ map (λ x. g (f x)) xs
  map_map g f [] = refl
  map_map g f (x ∷ xs) = rw (map_map g f xs)

  pub map_same : (f g : A → B) → ((x : A) → f x ≡ g x) → (xs : List A) → map f xs ≡ map g xs
  map_same f g h [] = refl
  map_same f g h (x ∷ xs) = rw (h x, map_same f g h xs)

  pub concat_map_append : (f : A → List B) (xs ys : List A) → concat_map f (xs ++ ys) ≡ concat_map f xs ++ concat_map f ys
  concat_map_append f [] ys = refl
  concat_map_append f (x ∷ xs) ys = rw (concat_map_append f xs ys) (sym (append_assoc (f x) (concat_map f xs) (concat_map f ys)))

  pub keep_map : (p : B → Bool) (f : A → B) (xs : List A) → keep p (map f xs) ≡ map f (keep (λ x. p (f x)) xs)
  keep_map p f [] = refl
  keep_map p f (x ∷ xs) = case_bool (p (f x)) (λ e. simp (e, keep_map p f xs)) (λ e. simp (e, keep_map p f xs))

  pub concat_map_map : {C : Type 0} (g : B → List C) (f : A → B) (xs : List A) → concat_map g (map f xs) ≡ concat_map (λ x. g (f x)) xs
  concat_map_map g f [] = refl
  concat_map_map g f (x ∷ xs) = rw (concat_map_map g f xs)

  pub map_concat_map : {C : Type 0} (g : B → C) (f : A → List B) (xs : List A) → map g (concat_map f xs) ≡ concat_map (λ x. map g (f x)) xs
  map_concat_map g f [] = refl
  map_concat_map {C} g f (x ∷ xs) = map-append g (f x) (concat_map f xs) ∙ ap (λ (l : List C). map g (f x) ++ l) (map_concat_map g f xs)

  pub concat_map_same : (f g : A → List B) (xs : List A) → All (λ x. f x ≡ g x) xs → concat_map f xs ≡ concat_map g xs
  concat_map_same f g [] h = refl
  concat_map_same f g (x ∷ xs) h = rw (h.0, concat_map_same f g xs h.1)

  pub length_concat_map : (f : A → List B) (xs : List A) → length (concat_map f xs) ≡ total (map (λ x. length (f x)) xs)
  length_concat_map f [] = refl
  length_concat_map f (x ∷ xs) = length-append (f x) (concat_map f xs) ∙ ap (λ (n : ℕ). length (f x) + n) (length_concat_map f xs)

  pub keep_each : (p : B → Bool) (f : A → List B) (xs : List A) → keep p (concat_map f xs) ≡ concat_map (λ x. keep p (f x)) xs
  keep_each p f [] = refl
  keep_each p f (x ∷ xs) = keep_append p (f x) (concat_map f xs) ∙ ap (λ (ys : List B). keep p (f x) ++ ys) (keep_each p f xs)

  -- only the element at index s yields something
  pub concat_map_at : (f : A → List B) (d : A) (ys : List B) → f d ≡ [] → (xs : List A) (s : ℕ)
      → ((i : ℕ) → f (get_or xs i d) ≡ cond (eqb s i) ys []) → concat_map f xs ≡ ys
  concat_map_at f d ys e [] s h = sym e ∙ h s ∙ rw (eqb_self s)
  concat_map_at f d ys e (x ∷ xs) zero h =
      let here : f x ≡ ys = h zero in
      rw here (ap (λ (zs : List B). ys ++ zs) (nothing xs (λ i. h (suc i) ∙ rw eqb-zero-suc)) ∙ append-nil ys)
    where
      nothing : (zs : List A) → ((i : ℕ) → f (get_or zs i d) ≡ []) → concat_map f zs ≡ []
      nothing [] k = refl
      nothing (z ∷ zs) k = let here : f z ≡ [] = k zero in rw here (nothing zs (λ i. k (suc i)))
  concat_map_at f d ys e (x ∷ xs) (suc s) h =
      let here : f x ≡ [] = h zero ∙ rw eqb-suc-zero in
      rw here (concat_map_at f d ys e xs s (λ i. h (suc i) ∙ rw eqb-suc-suc))

  -- a test that is the same for all that x yields
  pub keep_concat_map : (p : B → Bool) (q : A → Bool) (f : A → List B) → ((x : A) → keep p (f x) ≡ cond (q x) (f x) [])
      → (xs : List A) → keep p (concat_map f xs) ≡ concat_map f (keep q xs)
  keep_concat_map p q f h [] = refl
  keep_concat_map p q f h (x ∷ xs) =
      keep_append p (f x) (concat_map f xs) ∙ rw (h x, keep_concat_map p q f h xs) (case_bool (q x) (λ e. simp e) (λ e. simp e))

-- an element of a list by its index

module _ {A : Type 0} where
  pub at_append_one : (xs : List A) (x : A) (i : ℕ) → slice_get (xs ++ (x ∷ [])) i ≡ put (slice_get xs) (length xs) x i
  at_append_one [] x zero = refl
  at_append_one [] x (suc i) = simp eqb-suc-zero
  at_append_one (y ∷ ys) x zero = simp eqb-zero-suc
  at_append_one (y ∷ ys) x (suc i) = simp eqb-suc-suc (at_append_one ys x i)

  pub at_set : (xs : List A) (i : ℕ) (f : A → A) (d : A) (j : ℕ) → slice_get (set xs i (f (get_or xs i d))) j ≡ adjust (slice_get xs) i f j
  at_set [] i f d j = case_bool (eqb j i) (λ e. simp e) (λ e. simp e)
  at_set (y ∷ ys) zero f d zero = refl
  at_set (y ∷ ys) zero f d (suc j) = simp eqb-suc-zero
  at_set (y ∷ ys) (suc i) f d zero = simp eqb-zero-suc
  at_set (y ∷ ys) (suc i) f d (suc j) = simp eqb-suc-suc (at_set ys i f d j)

  pub at_lt : (xs : List A) (i : ℕ) (d : A) → i < length xs → slice_get xs i ≡ Some (get_or xs i d)
  at_lt [] i d h = absurd (not-suc-le-zero h)
  at_lt (y ∷ ys) zero d h = refl
  at_lt (y ∷ ys) (suc i) d h = at_lt ys i d (le_of_suc-le-suc h)

  pub at_some_lt : (xs : List A) (i : ℕ) (x : A) → slice_get xs i ≡ Some x → i < length xs
  at_some_lt [] i x e = let z : ◌≡◌ {A = ℕ} 0 1 = cc in absurd (omega arith)
  at_some_lt (y ∷ ys) zero x e = suc-le-suc zero-le
  at_some_lt (y ∷ ys) (suc i) x e = suc-le-suc (at_some_lt ys i x e)

module _ {A : Type 0} where
  -- what holds wherever a list is read, beyond its end as well
  abbrev pub Everywhere : (A → Type 0) → A → List A → Type 0
  Everywhere P d xs = (i : ℕ) → P (get_or xs i d)

  pub everywhere_set : (P : A → Type 0) (d : A) (xs : List A) → Everywhere P d xs → (i : ℕ) (x : A) → P x → Everywhere P d (set xs i x)
  everywhere_set P d [] h i x p j = h j
  everywhere_set P d (y ∷ ys) h zero x p zero = p
  everywhere_set P d (y ∷ ys) h zero x p (suc j) = h (suc j)
  everywhere_set P d (y ∷ ys) h (suc i) x p zero = h zero
  everywhere_set P d (y ∷ ys) h (suc i) x p (suc j) = everywhere_set P d ys (λ k. h (suc k)) i x p j

  pub everywhere_map : (P Q : A → Type 0) (d : A) (f : A → A) → ((x : A) → P x → Q (f x)) → Q d → (xs : List A) → Everywhere P d xs → Everywhere Q d (map f xs)
  everywhere_map P Q d f h q [] k i = q
  everywhere_map P Q d f h q (x ∷ xs) k zero = h x (k zero)
  everywhere_map P Q d f h q (x ∷ xs) k (suc i) = everywhere_map P Q d f h q xs (λ j. k (suc j)) i

  pub everywhere_append_one : (P : A → Type 0) (d : A) (xs : List A) → Everywhere P d xs → (x : A) → P x → Everywhere P d (xs ++ x ∷ [])
  everywhere_append_one P d [] h x p zero = p
  everywhere_append_one P d [] h x p (suc j) = h j
  everywhere_append_one P d (y ∷ ys) h x p zero = h zero
  everywhere_append_one P d (y ∷ ys) h x p (suc j) = everywhere_append_one P d ys (λ k. h (suc k)) x p j

  pub everywhere_replicate : (P : A → Type 0) (d : A) → P d → (n : ℕ) → Everywhere P d (replicate n d)
  everywhere_replicate P d p zero i = p
  everywhere_replicate P d p (suc n) zero = p
  everywhere_replicate P d p (suc n) (suc i) = everywhere_replicate P d p n i

  pub everywhere_sets : (P : A → Type 0) (d : A) (xs : List A) → Everywhere P d xs → (i : ℕ) (ys : List A) → All P ys → Everywhere P d (sets xs i ys)
  everywhere_sets P d xs h i [] a = h
  everywhere_sets P d xs h i (y ∷ ys) a = everywhere_sets P d (set xs i y) (everywhere_set P d xs h i y a.0) (suc i) ys a.1

  pub everywhere_all : (P : A → Type 0) (d : A) → P d → (xs : List A) → All P xs → Everywhere P d xs
  everywhere_all P d p [] h i = p
  everywhere_all P d p (x ∷ xs) h zero = h.0
  everywhere_all P d p (x ∷ xs) h (suc i) = everywhere_all P d p xs h.1 i

  pub all_everywhere : (P : A → Type 0) (d : A) (xs : List A) → Everywhere P d xs → All P xs
  all_everywhere P d [] h = tt
  all_everywhere P d (x ∷ xs) h = (h zero, all_everywhere P d xs (λ i. h (suc i)))

-- optional values

pub some_inj : {A : Type 0} {x y : A} → ◌≡◌ {A = Option A} (Some x) (Some y) → x ≡ y
some_inj e = cc

pub is_some_some : {A : Type 0} (o : Option A) → is_some o ≡ true → (x : A) × (o ≡ Some x)
is_some_some None h = absurd (false≢true h)
is_some_some (Some x) h = (x, refl)

pub some≢none : {A : Type 0} {x : A} → ◌≡◌ {A = Option A} (Some x) None → ⊥
some≢none e = let z : ◌≡◌ {A = ℕ} 0 1 = cc in omega arith

-- a list read index by index

module _ {A : Type 0} (f : ℕ → A) where
  pub length_each : (i n : ℕ) → length (each f i n) ≡ n
  length_each i zero = refl
  length_each i (suc n) = ap suc (length_each (suc i) n)

  pub get_d_each : (i n j : ℕ) (d : A) → j < n → get_or (each f i n) j d ≡ f (i + j)
  get_d_each i zero j d h = absurd (omega arith)
  get_d_each i (suc n) zero d h = rw add-zero
  get_d_each i (suc n) (suc j) d h = get_d_each (suc i) n j d (omega arith) ∙ rw (suc-add, add-suc)

  pub each_snoc : (i n : ℕ) → each f i (suc n) ≡ each f i n ++ f (i + n) ∷ []
  each_snoc i zero = rw add-zero
  each_snoc i (suc n) = ap (λ (r : List A). f i ∷ r) (each_snoc (suc i) n ∙ rw (suc-add, add-suc))

-- an index later
pub each_suc : {A : Type 0} (f : ℕ → A) (i n : ℕ) → each f (suc i) n ≡ each (λ j. f (suc j)) i n
each_suc f i zero = refl
each_suc {A} f i (suc n) = ap (λ (r : List A). f (suc i) ∷ r) (each_suc f (suc i) n)

-- every element of a list, with what follows it
pub each_get_d : {A B : Type 0} (f : A → B) (d : A) (xs ys : List A) → each (λ i. f (get_or (xs ++ ys) i d)) 0 (length xs) ≡ map f xs
each_get_d f d [] ys = refl
each_get_d {B = B} f d (x ∷ xs) ys =
    ap (λ (r : List B). f x ∷ r) (each_suc (λ i. f (get_or (x ∷ (xs ++ ys)) i d)) 0 (length xs) ∙ each_get_d f d xs ys)

pub each_same : {A : Type 0} (f g : ℕ → A) (i n : ℕ) → ((j : ℕ) → i ≤ j → j < i + n → f j ≡ g j) → each f i n ≡ each g i n
each_same f g i zero h = refl
each_same {A} f g i (suc n) h =
    rw (h i (omega arith) (omega arith)) (ap (λ (r : List A). g i ∷ r) (each_same f g (suc i) n (λ j l u. h j (omega arith) (omega arith))))

-- changed at one index
pub each_set : {A : Type 0} (f g : ℕ → A) (n s : ℕ) (d : A) → s < n → ((j : ℕ) → (j ≡ s → ⊥) → f j ≡ g j) → each f 0 n ≡ set (each g 0 n) s (f s)
each_set {A} f g n s d lt h =
    ext_get_or d (each f 0 n) (set (each g 0 n) s (f s)) (length_each f 0 n ∙ sym (length-set (each g 0 n) s (f s) ∙ length_each g 0 n)) same
  where
    zero_on : (j : ℕ) → 0 + j ≡ j
    zero_on j = omega arith

    same : (j : ℕ) → j < length (each f 0 n) → get_or (each f 0 n) j d ≡ get_or (set (each g 0 n) s (f s)) j d
    same j l =
        let low : j < n = omega (arith, length_each f 0 n) in
        get_d_each f 0 n j d low ∙ ap f (zero_on j)
        ∙ case_bool (eqb j s)
        (λ e. let p = eqb-true j s e in
        sym (ap (λ (i : ℕ). get_or (set (each g 0 n) s (f s)) i d) p ∙ get_or-set_same (each g 0 n) s (f s) d (omega (arith, length_each g 0 n)) ∙ ap f (sym p)))
        (λ e. h j (eqb-false j s e) ∙ sym (get_or-set_other (each g 0 n) s j (f s) d (eqb-false j s e) ∙ get_d_each g 0 n j d low ∙ ap g (zero_on j)))

pub map_set : {A B : Type 0} (g : A → B) (xs : List A) (i : ℕ) (x : A) → map g (set xs i x) ≡ set (map g xs) i (g x)
map_set g [] i x = refl
map_set g (y ∷ ys) zero x = refl
map_set {B = B} g (y ∷ ys) (suc i) x = ap (λ (r : List B). g y ∷ r) (map_set g ys i x)

-- numbers that rise

pub rising_tail : (m : ℕ) (ns : List ℕ) → rising (m ∷ ns) ≡ true → rising ns ≡ true
rising_tail m [] h = refl
rising_tail m (n ∷ ns) h = and_right (ltb m n) (rising (n ∷ ns)) h

pub rising_skip : (m n : ℕ) (ns : List ℕ) → rising (m ∷ n ∷ ns) ≡ true → rising (m ∷ ns) ≡ true
rising_skip m n [] r = refl
rising_skip m n (k ∷ ns) r =
    let rest = and_right (ltb m n) _ r in
    let first = ltb-true m n (and_left (ltb m n) _ r) in
    let second = ltb-true n k (and_left (ltb n k) _ rest) in
    both_and (lt-ltb m k (omega arith)) (and_right (ltb n k) _ rest)

-- those of the elements that a test keeps
module _ {A : Type 0} (f : A → ℕ) (p : A → Bool) where
  kept_after : (m : ℕ) (xs : List A) → rising (m ∷ map f xs) ≡ true → rising (m ∷ map f (keep p xs)) ≡ true
  kept_after m [] r = refl
  kept_after m (x ∷ xs) r =
      case_bool (p x)
      (λ e. simp e (both_and (and_left (ltb m (f x)) _ r) (kept_after (f x) xs (and_right (ltb m (f x)) _ r))))
      (λ e. simp e (kept_after m xs (rising_skip m (f x) (map f xs) r)))

  pub rising_keep : (xs : List A) → rising (map f xs) ≡ true → rising (map f (keep p xs)) ≡ true
  rising_keep [] r = refl
  rising_keep (x ∷ xs) r = case_bool (p x) (λ e. simp e (kept_after (f x) xs r)) (λ e. simp e (rising_keep xs (rising_tail (f x) (map f xs) r)))
