-- What holds of every literal of two products holds of every literal of their union; what holds of every product of two
-- sums, or of every union of their products, holds of every product of the joined sums; and no product of a tidied sum
-- is contradictory.
use mathlib.Core.Path.{◌≡◌, refl}
use mathlib.Core.Bool.{Bool, true, false, cond}
use mathlib.Core.List.{List, [], ◌∷◌, ◌++◌}
use Rattle.product.specs.declared.literal.Literal.{Literal}
use Rattle.product.specs.Product.{Product, same, before, insert, union, contradictory, All, no_more, and_more}
use Rattle.product.specs.Sum.{Sum, join_each, join_all, present, consistent, firsts, tidy}

module _ {A : Type 0} {P : A → Type 0} where
  pub all_append : {s t : List A} → All P s → All P t → All P (s ++ t)
  all_append no_more k = k
  all_append (and_more h r) k = and_more h (all_append r k)

  pub all_mapped : {Q : A → Type 0} {s : List A} → ((x : A) → P x → Q x) → All P s → All Q s
  all_mapped f no_more = no_more
  all_mapped f (and_more {x} h r) = and_more (f x h) (all_mapped f r)

-- literals

module _ {P : Literal → Type 0} where
  all_insert : (x : Literal) {p : Product} → P x → All P p → All P (insert x p)
  unfolding insert
  all_insert x h no_more = and_more h no_more
  all_insert x h (and_more {x = y} {l = p} k r) = go (λ z m. all_insert z m r) (same x y) (before x y)
    where
      go : ((z : Literal) → P z → All P (insert z p)) → (b c : Bool)
          → All P (cond b (y ∷ p) (cond c x y ∷ insert (cond c y x) p))
      go f true c = and_more k r
      go f false true = and_more h (f y k)
      go f false false = and_more k (f x h)

  pub all_union : {p q : Product} → All P p → All P q → All P (union p q)
  unfolding union
  all_union h no_more = h
  all_union {p} h (and_more {x} k r) = all_union {p = insert x p} (all_insert x k h) r

-- products

module _ {P : Product → Type 0} where
  pub all_consistent : {ps : Sum} → All P ps → All P (consistent ps)
  unfolding consistent
  all_consistent no_more = no_more
  all_consistent (and_more {x = p} {l = ps} h r) = go (contradictory p) (all_consistent r)
    where
      go : (b : Bool) → All P (consistent ps) → All P (cond b (consistent ps) (p ∷ consistent ps))
      go true k = k
      go false k = and_more h k

  pub all_firsts : {found ps : Sum} → All P found → All P ps → All P (firsts found ps)
  unfolding firsts
  all_firsts h no_more = h
  all_firsts {found} h (and_more {x = p} k r) =
      all_firsts {found = cond (present p found) found (found ++ p ∷ [])} (go (present p found)) r
    where
      go : (b : Bool) → All P (cond b found (found ++ p ∷ []))
      go true = h
      go false = all_append h (and_more k no_more)

  pub all_tidy : {ps : Sum} → All P ps → All P (tidy ps)
  all_tidy h = all_firsts no_more (all_consistent h)

module _ {P Q : Product → Type 0} (f : (p q : Product) → P p → P q → Q (union p q)) where
  all_each : {p : Product} {qs : Sum} → P p → All P qs → All Q (join_each p qs)
  unfolding join_each
  all_each h no_more = no_more
  all_each {p} h (and_more {x = q} k r) = and_more (f p q h k) (all_each h r)

  pub all_join : {ps qs : Sum} → All P ps → All P qs → All Q (join_all ps qs)
  unfolding join_all
  all_join no_more k = no_more
  all_join (and_more h r) k = all_append (all_each h k) (all_join r k)

-- no product of a tidied sum has a key both plain and barred

abbrev pub Consistent : Product → Type 0
Consistent p = contradictory p ≡ false

pub consistent_all : (ps : Sum) → All Consistent (consistent ps)
unfolding consistent
consistent_all [] = no_more
consistent_all (p ∷ ps) = go (contradictory p) refl (consistent_all ps)
  where
    go : (b : Bool) → contradictory p ≡ b → All Consistent (consistent ps) → All Consistent (cond b (consistent ps) (p ∷ consistent ps))
    go true e h = h
    go false e h = and_more e h

pub tidy_consistent : (ps : Sum) → All Consistent (tidy ps)
tidy_consistent ps = all_firsts no_more (consistent_all ps)
