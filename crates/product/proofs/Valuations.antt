-- For which valuations a sum opens: a union where both products do, an AND where both sums do, an OR where one does.
-- Contradictory products open for none and repeats add nothing, so that leaving them out changes nothing; any other
-- product opens where its plain atoms alone hold.
use mathlib.Core.Path.{◌≡◌, refl, ap, sym, ◌∙◌}
use mathlib.Core.Bool.{Bool, true, false, not, cond, ◌&&◌, ◌||◌, and_self_left, and-true, and-false, or_assoc, or-false}
use mathlib.Core.List.{[], ◌∷◌, ◌++◌}
use mathlib.Core.Logic.{⊎_elim}
use Prim.Native.Nat.{ℕ}
use native.Mathlib.Omega.{arith}
use borrow.Author.Tests.{not-true}
use Rattle.product.specs.declared.literal.Literal.{Literal}
use Rattle.product.specs.declared.literal.Literal.TheVariants.{Plain, Barred}
use Rattle.std.specs.Ordering.{is_eq}
use Rattle.std.specs.Cmp.{Equal-is}
use Rattle.product.specs.Atom.{Atom, atom_of, agrees, compare_atoms, compare_literals}
use Rattle.product.specs.Product.{Product, opens, same, before, insert, union, opposed, clashes, contradictory, same_product}
use Rattle.product.specs.Sum.{Sum, opens_any, join_each, join_all, present, consistent, firsts, tidy, conjoin, disjoin}
use Rattle.base.proofs.Lists.{clash}
use Rattle.base.proofs.Truth.{and_left_comm, and_rotate, and_or_left, and_or_right, and_not_self, not_self_and, or_again, or_cases, neither, or_right, and_both, never_true}
use Rattle.product.proofs.Comparison.{compare_equal, compare_same, literal_equal, literal_same}

pub same_equal : (x y : Literal) → same x y ≡ true → x ≡ y
same_equal x y h = literal_equal x y ((Equal-is (compare_literals x y)).0 h)

pub same_product_lem : (p q : Product) → same_product p q ≡ true → p ≡ q
unfolding same_product
same_product_lem [] [] h = refl
same_product_lem [] (y ∷ q) h = cc
same_product_lem (x ∷ p) [] h = cc
same_product_lem (x ∷ p) (y ∷ q) h =
    let e = and_both (same x y) (same_product p q) h in
    let i = same_equal x y e.0 in
    let t = same_product_lem p q e.1 in
    cc

-- opposed literals are of one atom, and not the same
opposed_atom : (x y : Literal) → opposed x y ≡ true → atom_of x ≡ atom_of y
opposed_atom x y h =
    let e = and_both (is_eq (compare_atoms (atom_of x) (atom_of y))) (not (same x y)) h in
    compare_equal (atom_of x) (atom_of y) ((Equal-is (compare_atoms (atom_of x) (atom_of y))).0 e.0)

opposed_other : (x y : Literal) → opposed x y ≡ true → x ≡ y → ⊥
opposed_other x y h i =
    let e = and_both (is_eq (compare_atoms (atom_of x) (atom_of y))) (not (same x y)) h in
    let s : same x y ≡ true = rw (i, literal_same y) in
    clash s (not-true (same x y) e.1)

module _ (ρ : Atom → Bool) where
  -- products

  opens_insert : (x : Literal) (p : Product) → opens ρ (insert x p) ≡ (agrees ρ x && opens ρ p)
  unfolding insert opens
  opens_insert x [] = refl
  opens_insert x (y ∷ p) = go (λ z. opens_insert z p) (same x y) (before x y) refl
    where
      go : ((z : Literal) → opens ρ (insert z p) ≡ (agrees ρ z && opens ρ p)) → (b c : Bool) → same x y ≡ b
          → opens ρ (cond b (y ∷ p) (cond c x y ∷ insert (cond c y x) p)) ≡ (agrees ρ x && (agrees ρ y && opens ρ p))
      go ih true c e = rw (same_equal x y e) (sym (and_self_left (agrees ρ y) (opens ρ p)))
      go ih false true e = rw (ih y)
      go ih false false e = rw (ih x) (and_left_comm (agrees ρ y) (agrees ρ x) (opens ρ p))

  pub opens_union : (p q : Product) → opens ρ (union p q) ≡ (opens ρ p && opens ρ q)
  unfolding union opens
  opens_union p [] = sym (and-true (opens ρ p))
  opens_union p (x ∷ q) = opens_union (insert x p) q ∙ rw (opens_insert x p) (and_rotate (agrees ρ x) (opens ρ p) (opens ρ q))

  opposed_agree : (x y : Literal) → opposed x y ≡ true → (agrees ρ x && agrees ρ y) ≡ false
  opposed_agree (Plain a) (Plain b) h = absurd (opposed_other (Plain a) (Plain b) h (ap Plain (opposed_atom (Plain a) (Plain b) h)))
  opposed_agree (Plain a) (Barred b) h = rw (opposed_atom (Plain a) (Barred b) h) (and_not_self (ρ b))
  opposed_agree (Barred a) (Plain b) h = rw (opposed_atom (Barred a) (Plain b) h) (not_self_and (ρ b))
  opposed_agree (Barred a) (Barred b) h = absurd (opposed_other (Barred a) (Barred b) h (ap Barred (opposed_atom (Barred a) (Barred b) h)))

  clashes_open : (x : Literal) (p : Product) → clashes x p ≡ true → (agrees ρ x && opens ρ p) ≡ false
  unfolding clashes opens
  clashes_open x [] h = cc
  clashes_open x (y ∷ p) h =
      ⊎_elim
      (λ o. first (agrees ρ x) (agrees ρ y) (opens ρ p) (opposed_agree x y o))
      (λ r. rest (agrees ρ x) (agrees ρ y) (opens ρ p) (clashes_open x p r))
      (or_cases (opposed x y) (clashes x p) h)
    where
      first : (a b c : Bool) → (a && b) ≡ false → (a && (b && c)) ≡ false
      first true b c e = rw e
      first false b c e = refl

      rest : (a b c : Bool) → (a && c) ≡ false → (a && (b && c)) ≡ false
      rest a b c e = and_left_comm a b c ∙ rw e (and-false b)

  pub contradictory_open : (p : Product) → contradictory p ≡ true → opens ρ p ≡ false
  unfolding contradictory opens
  contradictory_open [] h = cc
  contradictory_open (x ∷ p) h =
      ⊎_elim
      (λ o. clashes_open x p o)
      (λ r. rw (contradictory_open p r) (and-false (agrees ρ x)))
      (or_cases (clashes x p) (contradictory p) h)

  -- sums

  any_append : (ps qs : Sum) → opens_any ρ (ps ++ qs) ≡ (opens_any ρ ps || opens_any ρ qs)
  unfolding opens_any
  any_append [] qs = refl
  any_append (p ∷ ps) qs = rw (any_append ps qs) (sym (or_assoc (opens ρ p) (opens_any ρ ps) (opens_any ρ qs)))

  any_each : (p : Product) (qs : Sum) → opens_any ρ (join_each p qs) ≡ (opens ρ p && opens_any ρ qs)
  unfolding opens_any join_each
  any_each p [] = sym (and-false (opens ρ p))
  any_each p (q ∷ qs) = rw (any_each p qs, opens_union p q) (and_or_left (opens ρ p) (opens ρ q) (opens_any ρ qs))

  any_join : (ps qs : Sum) → opens_any ρ (join_all ps qs) ≡ (opens_any ρ ps && opens_any ρ qs)
  unfolding opens_any join_all
  any_join [] qs = refl
  any_join (p ∷ ps) qs =
      any_append (join_each p qs) (join_all ps qs)
      ∙ rw (any_each p qs, any_join ps qs) (and_or_right (opens ρ p) (opens_any ρ ps) (opens_any ρ qs))

  any_present : (p : Product) (ps : Sum) → present p ps ≡ true → (opens_any ρ ps || opens ρ p) ≡ opens_any ρ ps
  unfolding present opens_any
  any_present p [] h = cc
  any_present p (q ∷ qs) h =
      ⊎_elim
      (λ s. rw (same_product_lem p q s) (or_again (opens ρ q) (opens_any ρ qs)))
      (λ r. or_assoc (opens ρ q) (opens_any ρ qs) (opens ρ p) ∙ rw (any_present p qs r))
      (or_cases (same_product p q) (present p qs) h)

  any_consistent : (ps : Sum) → opens_any ρ (consistent ps) ≡ opens_any ρ ps
  unfolding consistent opens_any
  any_consistent [] = refl
  any_consistent (p ∷ ps) = go (contradictory p) refl (any_consistent ps)
    where
      go : (b : Bool) → contradictory p ≡ b → opens_any ρ (consistent ps) ≡ opens_any ρ ps
          → opens_any ρ (cond b (consistent ps) (p ∷ consistent ps)) ≡ (opens ρ p || opens_any ρ ps)
      go true e ih = rw (contradictory_open p e) ih
      go false e ih = rw ih

  any_firsts : (found ps : Sum) → opens_any ρ (firsts found ps) ≡ (opens_any ρ found || opens_any ρ ps)
  unfolding firsts opens_any
  any_firsts found [] = sym (or-false (opens_any ρ found))
  any_firsts found (p ∷ ps) =
      any_firsts (cond (present p found) found (found ++ p ∷ [])) ps
      ∙ rw (go (present p found) refl) (or_assoc (opens_any ρ found) (opens ρ p) (opens_any ρ ps))
    where
      go : (b : Bool) → present p found ≡ b → opens_any ρ (cond b found (found ++ p ∷ [])) ≡ (opens_any ρ found || opens ρ p)
      go true e = sym (any_present p found e)
      go false e = any_append found (p ∷ []) ∙ rw (or-false (opens ρ p))

  pub any_tidy : (ps : Sum) → opens_any ρ (tidy ps) ≡ opens_any ρ ps
  unfolding opens_any
  any_tidy ps = any_firsts [] (consistent ps) ∙ any_consistent ps

  -- AND and OR
  pub any_conjoin : (ps qs : Sum) → opens_any ρ (conjoin ps qs) ≡ (opens_any ρ ps && opens_any ρ qs)
  any_conjoin ps qs = any_tidy (join_all ps qs) ∙ any_join ps qs

  pub any_disjoin : (ps qs : Sum) → opens_any ρ (disjoin ps qs) ≡ (opens_any ρ ps || opens_any ρ qs)
  any_disjoin ps qs = any_tidy (ps ++ qs) ∙ any_append ps qs

-- a literal of the product
has : Product → Literal → Bool
has [] x = false
has (y ∷ p) x = same x y || has p x

-- the valuation for which exactly the plain atoms of the product hold
pub plains : Product → Atom → Bool
plains p a = has p (Plain a)

-- the same atom with the other sign
abbrev turned : Literal → Literal
turned (Plain a) = Barred a
turned (Barred a) = Plain a

turned_opposed : (x : Literal) → opposed x (turned x) ≡ true
unfolding compare_literals
turned_opposed (Plain a) = rw (compare_same a)
turned_opposed (Barred a) = rw (compare_same a)

turned_clash : (x : Literal) (p : Product) → has p (turned x) ≡ true → clashes x p ≡ true
unfolding has clashes
turned_clash x [] h = cc
turned_clash x (y ∷ p) h =
    ⊎_elim
    (λ s. rw (← same_equal (turned x) y s, turned_opposed x))
    (λ r. or_right (opposed x y) (turned_clash x p r))
    (or_cases (same (turned x) y) (has p (turned x)) h)

turned_twice : (x : Literal) → turned (turned x) ≡ x
turned_twice (Plain a) = refl
turned_twice (Barred a) = refl

turned_other : (x : Literal) → x ≡ turned x → ⊥
turned_other (Plain a) e = let z : ◌≡◌ {A = ℕ} 0 1 = cc in omega arith
turned_other (Barred a) e = let z : ◌≡◌ {A = ℕ} 0 1 = cc in omega arith

not_both_lem : (x : Literal) (p : Product) → contradictory p ≡ false → has p x ≡ true → has p (turned x) ≡ true → ⊥
unfolding has contradictory
not_both_lem x [] e h k = clash k refl
not_both_lem x (y ∷ p) e h k =
    let n = neither (clashes y p) (contradictory p) e in
    ⊎_elim
    (λ s. ⊎_elim
    (λ t. turned_other x (same_equal x y s ∙ sym (same_equal (turned x) y t)))
    (λ r. clash (rw (same_equal x y s) at (turned_clash x p r)) n.0)
    (or_cases (same (turned x) y) (has p (turned x)) k))
    (λ r. ⊎_elim
    (λ t. clash (rw (same_equal (turned x) y t) at (turned_clash (turned x) p (rw (turned_twice x) r))) n.0)
    (λ q. not_both_lem x p n.1 r q)
    (or_cases (same (turned x) y) (has p (turned x)) k))
    (or_cases (same x y) (has p x) h)

-- a product that is not contradictory opens for its plain atoms
pub opens_own : (p : Product) → contradictory p ≡ false → opens (plains p) p ≡ true
unfolding opens has plains
opens_own p e = part p (λ x h. h)
  where
    every : (x : Literal) → has p x ≡ true → agrees (plains p) x ≡ true
    every (Plain a) h = h
    every (Barred a) h = rw (never_true (has p (Plain a)) (λ f. not_both_lem (Barred a) p e h f))

    part : (q : Product) → ((x : Literal) → has q x ≡ true → has p x ≡ true) → opens (plains p) q ≡ true
    part [] s = refl
    part (x ∷ q) s = rw (every x (s x (rw (literal_same x)))) (part q (λ z h. s z (or_right (same z x) h)))

pub any_own : (p : Product) (ps : Sum) → contradictory p ≡ false → opens_any (plains p) (p ∷ ps) ≡ true
unfolding opens_any
any_own p ps e = rw (opens_own p e)
