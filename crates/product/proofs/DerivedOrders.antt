-- What the derives of `Key` and `Literal` compute is what the definitions say: equality and order of keys, and equality
-- of literals.
use mathlib.Core.Path.{◌≡◌, refl, sym, ap, ap₂, ◌∙◌}
use mathlib.Core.Bool.{Bool, true, false, not, not-not}
use Prim.Native.Nat.{ℕ}
use Rattle.std.specs.Prelude.{Some}
use Rattle.std.specs.declared.cmp.Ordering.{Ordering}
use Rattle.std.specs.declared.cmp.Ordering.TheVariants.{Less, Equal, Greater}
use Rattle.std.specs.Ordering.{nat_cmp, is_eq, is_lt, ordering_then, partial_ordering_then, is_some_and}
use Rattle.std.specs.Cmp.{unsigned_ties, Some-then}
use Rattle.product.specs.declared.literal.Key.{Key}
use Rattle.product.specs.declared.literal.Key.TheVariants.{User, Thread, Segment, Defined}
use Rattle.product.specs.declared.literal.Literal.{Literal}
use Rattle.product.specs.declared.literal.Literal.TheVariants.{Plain, Barred}
use Rattle.product.specs.Atom.{atom_of, sign_of, compare_atoms, compare_literals}
use Rattle.product.specs.Product.{same, before, opposed}
use Rattle.product.specs.contracts.literal.KeyPartialEq.TheImpl as key_eq
use Rattle.product.specs.contracts.literal.KeyPartialOrd.TheImpl as key_order
use Rattle.product.specs.contracts.literal.LiteralPartialEq.TheImpl as literal_eq

pub keys_equal : (a b : Key) → key_eq.eq-value.it a b ≡ is_eq (compare_atoms a b)
unfolding compare_atoms
keys_equal (User m) (User n) = unsigned_ties m n
keys_equal (User m) (Thread n) = refl
keys_equal (User m) (Segment n) = refl
keys_equal (User m) (Defined n) = refl
keys_equal (Thread m) (User n) = refl
keys_equal (Thread m) (Thread n) = unsigned_ties m n
keys_equal (Thread m) (Segment n) = refl
keys_equal (Thread m) (Defined n) = refl
keys_equal (Segment m) (User n) = refl
keys_equal (Segment m) (Thread n) = refl
keys_equal (Segment m) (Segment n) = unsigned_ties m n
keys_equal (Segment m) (Defined n) = refl
keys_equal (Defined m) (User n) = refl
keys_equal (Defined m) (Thread n) = refl
keys_equal (Defined m) (Segment n) = refl
keys_equal (Defined m) (Defined n) = unsigned_ties m n

pub keys_ordered : (a b : Key) → key_order.partial_cmp-value.it a b ≡ Some (compare_atoms a b)
unfolding compare_atoms
keys_ordered (User m) (User n) = refl
keys_ordered (User m) (Thread n) = refl
keys_ordered (User m) (Segment n) = refl
keys_ordered (User m) (Defined n) = refl
keys_ordered (Thread m) (User n) = refl
keys_ordered (Thread m) (Thread n) = refl
keys_ordered (Thread m) (Segment n) = refl
keys_ordered (Thread m) (Defined n) = refl
keys_ordered (Segment m) (User n) = refl
keys_ordered (Segment m) (Thread n) = refl
keys_ordered (Segment m) (Segment n) = refl
keys_ordered (Segment m) (Defined n) = refl
keys_ordered (Defined m) (User n) = refl
keys_ordered (Defined m) (Thread n) = refl
keys_ordered (Defined m) (Segment n) = refl
keys_ordered (Defined m) (Defined n) = refl

equal_then : (o : Ordering) → is_eq o ≡ is_eq (ordering_then o Equal)
equal_then Less = refl
equal_then Equal = refl
equal_then Greater = refl

never_equal : (o p : Ordering) → is_eq p ≡ false → false ≡ is_eq (ordering_then o p)
never_equal Less p e = refl
never_equal Equal p e = sym e
never_equal Greater p e = refl

pub literals_equal : (x y : Literal) → literal_eq.eq-value.it x y ≡ is_eq (compare_literals x y)
unfolding compare_literals
literals_equal (Plain a) (Plain b) = keys_equal a b ∙ equal_then (compare_atoms a b)
literals_equal (Plain a) (Barred b) = never_equal (compare_atoms a b) Less refl
literals_equal (Barred a) (Plain b) = never_equal (compare_atoms a b) Greater refl
literals_equal (Barred a) (Barred b) = keys_equal a b ∙ equal_then (compare_atoms a b)

-- the tests of two literals

module _ (x y : Literal) {r : Bool} where
  pub equal_same : r ≡ literal_eq.eq-value.it x y → r ≡ same x y
  equal_same e = e ∙ literals_equal x y

  pub unequal_same : r ≡ not (literal_eq.eq-value.it x y) → same x y ≡ not r
  unequal_same e = sym (literals_equal x y) ∙ sym (not-not (literal_eq.eq-value.it x y)) ∙ ap not (sym e)

module _ (x y : Literal) {a b : Key} (e : a ≡ atom_of x) (f : b ≡ atom_of y) where
  key_test : {r : Bool} → r ≡ key_eq.eq-value.it a b → is_eq (compare_atoms (atom_of x) (atom_of y)) ≡ r
  key_test g = sym (g ∙ keys_equal a b ∙ ap₂ (λ (k l : Key). is_eq (compare_atoms k l)) e f)

  pub opposed_same : {r s : Bool} → r ≡ key_eq.eq-value.it a b → r ≡ true → s ≡ not (literal_eq.eq-value.it x y) → s ≡ opposed x y
  opposed_same g h k = rw (key_test g, h) (k ∙ ap not (literals_equal x y))

  pub opposed_other : {r : Bool} → r ≡ key_eq.eq-value.it a b → r ≡ false → r ≡ opposed x y
  opposed_other g h = rw (key_test g, h)

  pub before_pairs : {m n : ℕ} {r : Bool} → m ≡ sign_of x → n ≡ sign_of y
      → r ≡ is_some_and is_lt (partial_ordering_then (key_order.partial_cmp-value.it a b) (Some (nat_cmp m n))) → r ≡ before x y
  unfolding compare_literals
  before_pairs {m} {n} g h k =
      k ∙ ap (is_some_and is_lt) (ap (λ o. partial_ordering_then o (Some (nat_cmp m n))) (keys_ordered a b) ∙ Some-then (compare_atoms a b) (nat_cmp m n))
      ∙ rw (e, f, g, h) refl
