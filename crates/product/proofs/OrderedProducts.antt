-- Products are kept in order. Inserting keeps literals strictly rising; where none are opposed, rising literals have
-- rising keys; and rising keys are no key twice. So single literals, and what AND and OR make of sums in order, are in
-- order.
use mathlib.Core.Path.{◌≡◌, refl, ap, ◌∙◌}
use mathlib.Core.Bool.{Bool, true, false, not, cond, ◌&&◌}
use mathlib.Core.List.{[], ◌∷◌}
use Rattle.product.specs.declared.literal.Literal.{Literal}
use Rattle.std.specs.declared.cmp.Ordering.{Ordering}
use Rattle.std.specs.declared.cmp.Ordering.TheVariants.{Less, Equal, Greater}
use Rattle.std.specs.Ordering.{ordering_reverse, nat_cmp, ordering_then, is_lt, is_eq}
use Rattle.product.specs.Atom.{atom_of, sign_of, compare_atoms, compare_literals}
use Rattle.product.specs.Product.{Product, same, before, insert, union, opposed, clashes, contradictory, leads, ordered, names, once, All, no_more, and_more}
use Rattle.product.specs.Sum.{Sum, tidy, conjoin, disjoin}
use Rattle.base.proofs.Truth.{and_both, both_and, neither, false_not}
use Rattle.product.proofs.Comparison.{atoms, literals, is_lt_less}
use Rattle.product.proofs.EveryLiteral.{all_append, all_tidy, all_join, Consistent, tidy_consistent}

-- literals that strictly rise, from above a lower bound

data Above (w : Literal) : Product → Type 0 where
  nothing : Above w []
  first : {x : Literal} {p : Product} → compare_literals w x ≡ Less → Above w (x ∷ p)

data Rising : Product → Type 0 where
  end : Rising []
  more : {x : Literal} {p : Product} → Above x p → Rising p → Rising (x ∷ p)

above_lower : {w x : Literal} {p : Product} → compare_literals w x ≡ Less → Above x p → Above w p
above_lower h nothing = nothing
above_lower {w} {x} h (first {x = y} k) = first (literals.trans w x y h k)

above_insert : (w x : Literal) (p : Product) → compare_literals w x ≡ Less → Above w p → Above w (insert x p)
unfolding insert
above_insert w x [] h a = first h
above_insert w x (y ∷ p) h (first k) = go (same x y) (before x y)
  where
    go : (b c : Bool) → Above w (cond b (y ∷ p) (cond c x y ∷ insert (cond c y x) p))
    go true c = first k
    go false true = first h
    go false false = first k

rising_insert : (x : Literal) {p : Product} → Rising p → Rising (insert x p)
unfolding insert
rising_insert x end = more nothing end
rising_insert x (more {x = y} {p} a r) = go (λ z. rising_insert z r) (compare_literals x y) refl
  where
    go : ((z : Literal) → Rising (insert z p)) → (o : Ordering) → compare_literals x y ≡ o
        → Rising (cond (is_eq o) (y ∷ p) (cond (is_lt o) x y ∷ insert (cond (is_lt o) y x) p))
    go ih Less e = more (above_insert x y p e (above_lower e a)) (ih y)
    go ih Equal e = more a r
    go ih Greater e = more (above_insert y x p (literals.antisymm y x ∙ ap ordering_reverse e) a) (ih x)

rising_union : {p : Product} (q : Product) → Rising p → Rising (union p q)
unfolding union
rising_union [] r = r
rising_union {p} (x ∷ q) r = rising_union {p = insert x p} q (rising_insert x r)

-- rising keys are rising literals

leads_above : (x : Literal) (p : Product) → leads x p ≡ true → Above x p
unfolding compare_literals
leads_above x [] h = nothing
leads_above x (y ∷ p) h = first {x = y} (rw (is_lt_less (compare_atoms (atom_of x) (atom_of y)) h))

ordered_rising : (p : Product) → ordered p ≡ true → Rising p
unfolding ordered
ordered_rising [] h = end
ordered_rising (x ∷ p) h =
    let b = and_both (leads x p) (ordered p) h in
    more (leads_above x p b.0) (ordered_rising p b.1)

-- rising literals of which none are opposed have rising keys

above_leads : (x : Literal) {p : Product} → Above x p → clashes x p ≡ false → leads x p ≡ true
unfolding clashes compare_literals
above_leads x nothing c = refl
above_leads x (first {x = y} {p} h) c = go (compare_atoms (atom_of x) (atom_of y)) refl h (neither (opposed x y) (clashes x p) c).0
  where
    go : (o : Ordering) → compare_atoms (atom_of x) (atom_of y) ≡ o → ordering_then o (nat_cmp (sign_of x) (sign_of y)) ≡ Less
        → (is_eq o && not (is_eq (ordering_then o (nat_cmp (sign_of x) (sign_of y))))) ≡ false → is_lt o ≡ true
    go Less e k n = refl
    go Equal e k n = let z : true ≡ false = rw k at n in cc
    go Greater e k n = cc

rising_ordered : {p : Product} → Rising p → contradictory p ≡ false → ordered p ≡ true
unfolding contradictory ordered
rising_ordered end c = refl
rising_ordered (more {x} {p} a r) c =
    let n = neither (clashes x p) (contradictory p) c in
    both_and (above_leads x a n.0) (rising_ordered r n.1)

abbrev pub Ordered : Product → Type 0
Ordered p = ordered p ≡ true

ordered_tidy : {ps : Sum} → All Rising ps → All Ordered (tidy ps)
ordered_tidy {ps} h = go (all_tidy h) (tidy_consistent ps)
  where
    go : {qs : Sum} → All Rising qs → All Consistent qs → All Ordered qs
    go no_more c = no_more
    go (and_more r h) (and_more c k) = and_more (rising_ordered r c) (go h k)

pub ordered_single : (x : Literal) → Ordered (x ∷ [])
unfolding ordered
ordered_single x = refl

pub ordered_conjoin : {ps qs : Sum} → All Ordered ps → All Ordered qs → All Ordered (conjoin ps qs)
ordered_conjoin h k = ordered_tidy (all_join (λ p q a b. rising_union q (ordered_rising p a)) h k)

pub ordered_disjoin : {ps qs : Sum} → All Ordered ps → All Ordered qs → All Ordered (disjoin ps qs)
ordered_disjoin h k = all_tidy (all_append h k)

-- keys in order are no key twice

less_names : (x : Literal) (p : Product) → leads x p ≡ true → ordered p ≡ true → names (atom_of x) p ≡ false
unfolding names ordered
less_names x [] h o = refl
less_names x (y ∷ p) h o =
    let b = and_both (leads y p) (ordered p) o in
    let l = is_lt_less (compare_atoms (atom_of x) (atom_of y)) h in
    rw l (less_names x p (leads_lower p b.0) b.1)
  where
    leads_lower : (q : Product) → leads y q ≡ true → leads x q ≡ true
    leads_lower [] k = refl
    leads_lower (z ∷ q) k =
        let l = is_lt_less (compare_atoms (atom_of x) (atom_of y)) h in
        let m = is_lt_less (compare_atoms (atom_of y) (atom_of z)) k in
        rw (atoms.trans (atom_of x) (atom_of y) (atom_of z) l m)

pub ordered_once : (p : Product) → Ordered p → once p ≡ true
unfolding ordered once
ordered_once [] h = refl
ordered_once (x ∷ p) h =
    let b = and_both (leads x p) (ordered p) h in
    both_and (false_not (less_names x p b.0 b.1)) (ordered_once p b.1)
