-- The products of a node: for which valuations they open, that none is contradictory, that each is in order, and that
-- their atoms are the tree's. Each is an induction on the tree over the law for AND and OR. And a node's list, or none,
-- is made of its parts' lists.
use Rattle.std.specs.Prelude.{None, Some}
use mathlib.Core.Path.{◌≡◌, refl, sym, ◌∙◌}
use mathlib.Core.Bool.{Bool, true, false, not, cond, ◌&&◌, ◌||◌, and-true, or-false, not-not}
use mathlib.Core.List.{[], ◌∷◌, ◌++◌}
use mathlib.Core.Logic.{◌↔◌}
use Prim.Native.Nat.{◌≤◌}
use native.Mathlib.Omega.{arith}
use lib.ListN.{length}
use Rattle.product.specs.declared.literal.Literal.{Literal}
use Rattle.product.specs.declared.literal.Literal.TheVariants.{Plain, Barred}
use Rattle.product.specs.Atom.{Atom, atom_of}
use Rattle.product.specs.Product.{Product, opens, clashes, contradictory, All, no_more, and_more}
use Rattle.product.specs.Sum.{Sum, opens_any, join_all, conjoin, disjoin, narrow, fits_node, joined}
use Rattle.base.proofs.Lists.{clash}
use Rattle.base.proofs.Truth.{and_both, and_last, both_and}
use Rattle.product.proofs.EveryLiteral.{all_append, all_union, all_tidy, all_join, Consistent, tidy_consistent}
use Rattle.product.proofs.Valuations.{any_conjoin, any_disjoin, plains, any_own}
use Rattle.product.proofs.OrderedProducts.{Ordered, ordered_single, ordered_conjoin, ordered_disjoin}
use Rattle.formula.specs.Tree.{Level, nots, ands, ors, Tree, atom, negate, bracket, factor, and, term, or, holds}
use Rattle.formula.specs.Text.{every_atom}
use Rattle.formula.specs.Nodes.{literal, join_and, join_or, products, fits, list_of}

-- a formula's value where it stands: negated under an odd number of NOTs
abbrev pub under : Bool → Bool → Bool
under true b = not b
under false b = b

under_not : (odd b : Bool) → under (not odd) b ≡ under odd (not b)
under_not true b = sym (not-not b)
under_not false b = refl

not_or : (a b : Bool) → (not a || not b) ≡ not (a && b)
not_or true b = refl
not_or false b = refl

not_and : (a b : Bool) → (not a && not b) ≡ not (a || b)
not_and true b = refl
not_and false b = refl

-- the opening law
pub opening : (ρ : Atom → Bool) (odd : Bool) {l : Level} (t : Tree l) → opens_any ρ (products odd t) ≡ under odd (holds ρ t)
unfolding products holds opens_any opens
opening ρ true (atom a) = or-false _ ∙ and-true _
opening ρ false (atom a) = or-false _ ∙ and-true _
opening ρ odd (negate t) = opening ρ (not odd) t ∙ under_not odd (holds ρ t)
opening ρ odd (bracket t) = opening ρ odd t
opening ρ odd (factor t) = opening ρ odd t
opening ρ true (and t u) =
    any_disjoin ρ (products true t) (products true u) ∙ rw (opening ρ true t, opening ρ true u) (not_or (holds ρ t) (holds ρ u))
opening ρ false (and t u) = any_conjoin ρ (products false t) (products false u) ∙ rw (opening ρ false t, opening ρ false u)
opening ρ odd (term t) = opening ρ odd t
opening ρ true (or t u) =
    any_conjoin ρ (products true t) (products true u) ∙ rw (opening ρ true t, opening ρ true u) (not_and (holds ρ t) (holds ρ u))
opening ρ false (or t u) = any_disjoin ρ (products false t) (products false u) ∙ rw (opening ρ false t, opening ρ false u)

-- every atom is one of all
pub every_atom_lem : {l : Level} (t : Tree l) → every_atom (λ a. true) t ≡ true
unfolding every_atom
every_atom_lem (atom a) = refl
every_atom_lem (negate t) = every_atom_lem t
every_atom_lem (bracket t) = every_atom_lem t
every_atom_lem (factor t) = every_atom_lem t
every_atom_lem (and t u) = both_and (every_atom_lem t) (every_atom_lem u)
every_atom_lem (term t) = every_atom_lem t
every_atom_lem (or t u) = both_and (every_atom_lem t) (every_atom_lem u)

-- what every atom is one of, it is one of more
pub every_more : (f g : Atom → Bool) → ((a : Atom) → f a ≡ true → g a ≡ true) → {l : Level} (t : Tree l) → every_atom f t ≡ true → every_atom g t ≡ true
unfolding every_atom
every_more f g m (atom a) h = m a h
every_more f g m (negate t) h = every_more f g m t h
every_more f g m (bracket t) h = every_more f g m t h
every_more f g m (factor t) h = every_more f g m t h
every_more f g m (and t u) h = let b = and_both (every_atom f t) (every_atom f u) h in both_and (every_more f g m t b.0) (every_more f g m u b.1)
every_more f g m (term t) h = every_more f g m t h
every_more f g m (or t u) h = let b = and_both (every_atom f t) (every_atom f u) h in both_and (every_more f g m t b.0) (every_more f g m u b.1)

-- what the tree's literals have as products, and AND and OR keep, every product has
module _
    {P : Product → Type 0}
    (f : Atom → Bool)
    (alone : (x : Literal) → f (atom_of x) ≡ true → P (x ∷ []))
    (conjoined : (ps qs : Sum) → All P ps → All P qs → All P (conjoin ps qs))
    (disjoined : (ps qs : Sum) → All P ps → All P qs → All P (disjoin ps qs))
  where
    every_product : (odd : Bool) {l : Level} (t : Tree l) → every_atom f t ≡ true → All P (products odd t)
    unfolding products every_atom
    every_product true (atom a) h = and_more (alone (Barred a) h) no_more
    every_product false (atom a) h = and_more (alone (Plain a) h) no_more
    every_product odd (negate t) h = every_product (not odd) t h
    every_product odd (bracket t) h = every_product odd t h
    every_product odd (factor t) h = every_product odd t h
    every_product true (and t u) h =
        let b = and_both (every_atom f t) (every_atom f u) h in
        disjoined _ _ (every_product true t b.0) (every_product true u b.1)
    every_product false (and t u) h =
        let b = and_both (every_atom f t) (every_atom f u) h in
        conjoined _ _ (every_product false t b.0) (every_product false u b.1)
    every_product odd (term t) h = every_product odd t h
    every_product true (or t u) h =
        let b = and_both (every_atom f t) (every_atom f u) h in
        conjoined _ _ (every_product true t b.0) (every_product true u b.1)
    every_product false (or t u) h =
        let b = and_both (every_atom f t) (every_atom f u) h in
        disjoined _ _ (every_product false t b.0) (every_product false u b.1)

pub products_consistent : (odd : Bool) {l : Level} (t : Tree l) → All Consistent (products odd t)
unfolding contradictory clashes
products_consistent odd t =
    every_product (λ a. true) (λ x h. refl)
    (λ ps qs h k. tidy_consistent (join_all ps qs))
    (λ ps qs h k. tidy_consistent (ps ++ qs))
    odd t (every_atom_lem t)

pub products_ordered : (odd : Bool) {l : Level} (t : Tree l) → All Ordered (products odd t)
products_ordered odd t =
    every_product (λ a. true) (λ x h. ordered_single x)
    (λ ps qs h k. ordered_conjoin h k)
    (λ ps qs h k. ordered_disjoin h k)
    odd t (every_atom_lem t)

-- the atoms of a node's products are the tree's
pub products_atoms : (f : Atom → Bool) (odd : Bool) {l : Level} (t : Tree l) → every_atom f t ≡ true
    → All (λ p. All (λ x. f (atom_of x) ≡ true) p) (products odd t)
products_atoms f odd t h =
    every_product f (λ x k. and_more k no_more)
    (λ ps qs a b. all_tidy (all_join (λ p q c d. all_union c d) a b))
    (λ ps qs a b. all_tidy (all_append a b))
    odd t h

-- a formula's list is empty exactly where no valuation makes it true: a product opens for its plain atoms
pub products_empty : {l : Level} (t : Tree l) → (products false t ≡ []) ↔ ((ρ : Atom → Bool) → holds ρ t ≡ false)
unfolding opens_any
products_empty t =
    (λ e ρ. sym (opening ρ false t) ∙ rw e, λ f. go (products false t) (products_consistent false t) (λ ρ. opening ρ false t ∙ f ρ))
  where
    go : (ps : Sum) → All Consistent ps → ((ρ : Atom → Bool) → opens_any ρ ps ≡ false) → ps ≡ []
    go [] c n = refl
    go (p ∷ ps) (and_more c k) n = clash (any_own p ps c) (n (plains p))

pub products_witness : {l : Level} (t : Tree l) → 1 ≤ length (products false t) → (ρ : Atom → Bool) × (holds ρ t ≡ true)
products_witness t h =
    let w = go (products false t) (products_consistent false t) h in
    (w.0, sym (opening w.0 false t) ∙ w.1)
  where
    go : (ps : Sum) → All Consistent ps → 1 ≤ length ps → (ρ : Atom → Bool) × (opens_any ρ ps ≡ true)
    go [] c n = absurd (omega arith)
    go (p ∷ ps) (and_more c k) n = (plains p, any_own p ps c)

-- where every node fits, the first one does
pub fits_node_lem : (odd : Bool) {l : Level} (t : Tree l) → fits odd t ≡ true → fits_node (products odd t) ≡ true
unfolding fits products fits_node narrow
fits_node_lem odd (atom a) h = refl
fits_node_lem odd (negate t) h = fits_node_lem (not odd) t h
fits_node_lem odd (bracket t) h = fits_node_lem odd t h
fits_node_lem odd (factor t) h = fits_node_lem odd t h
fits_node_lem odd (and t u) h = and_last (fits odd t) (fits odd u) (fits_node (products odd (and t u))) h
fits_node_lem odd (term t) h = fits_node_lem odd t h
fits_node_lem odd (or t u) h = and_last (fits odd t) (fits odd u) (fits_node (products odd (or t u))) h

-- the list of each node, or none, of the lists of its parts

joined_fit : (g : Sum → Sum → Sum) (ps qs : Sum) (a b : Bool)
    → cond (a && (b && fits_node (g ps qs))) (Some (g ps qs)) None ≡ joined g (cond a (Some ps) None) (cond b (Some qs) None)
joined_fit g ps qs true true = refl
joined_fit g ps qs true false = refl
joined_fit g ps qs false b = refl

module _ (odd : Bool) where
  pub list_atom : (a : Atom) → list_of odd (atom a) ≡ Some ((literal odd a ∷ []) ∷ [])
  unfolding list_of fits products
  list_atom a = refl

  pub list_negate : (t : Tree nots) → list_of odd (negate t) ≡ list_of (not odd) t
  unfolding list_of fits products
  list_negate t = refl

  pub list_bracket : (t : Tree ors) → list_of odd (bracket t) ≡ list_of odd t
  unfolding list_of fits products
  list_bracket t = refl

  pub list_factor : (t : Tree nots) → list_of odd (factor t) ≡ list_of odd t
  unfolding list_of fits products
  list_factor t = refl

  pub list_and : (t : Tree ands) (u : Tree nots) → list_of odd (and t u) ≡ joined (join_and odd) (list_of odd t) (list_of odd u)
  unfolding list_of fits products
  list_and t u = joined_fit (join_and odd) (products odd t) (products odd u) (fits odd t) (fits odd u)

  pub list_term : (t : Tree ands) → list_of odd (term t) ≡ list_of odd t
  unfolding list_of fits products
  list_term t = refl

  pub list_or : (t : Tree ors) (u : Tree ands) → list_of odd (or t u) ≡ joined (join_or odd) (list_of odd t) (list_of odd u)
  unfolding list_of fits products
  list_or t u = joined_fit (join_or odd) (products odd t) (products odd u) (fits odd t) (fits odd u)
