-- How atoms and literals compare: two total orders, made of those of numbers, and Equal is said of equal ones alone.
use mathlib.Core.Path.{◌≡◌, refl, sym, ap}
use mathlib.Core.Bool.{true}
use Prim.Native.Nat.{ℕ}
use Rattle.std.specs.declared.cmp.Ordering.{Ordering}
use Rattle.std.specs.declared.cmp.Ordering.TheVariants.{Less, Equal, Greater}
use Rattle.std.specs.Ordering.{nat_cmp, ordering_then, is_lt}
use Rattle.std.specs.Cmp.{IsTotalOrder, nat_cmp_total, on_total, then_total, tied_itself, ranked}
use Rattle.product.specs.declared.literal.Key.{Key}
use Rattle.product.specs.declared.literal.Key.TheVariants.{User, Thread, Segment, Defined}
use Rattle.product.specs.declared.literal.Literal.{Literal}
use Rattle.product.specs.declared.literal.Literal.TheVariants.{Plain, Barred}
use Rattle.product.specs.Atom.{Atom, kind_of, number_of, compare_atoms, atom_of, sign_of, compare_literals}

pub atoms : IsTotalOrder compare_atoms
unfolding compare_atoms
atoms = then_total (on_total kind_of nat_cmp_total) (on_total number_of nat_cmp_total)

pub literals : IsTotalOrder compare_literals
unfolding compare_literals
literals = then_total (on_total atom_of atoms) (on_total sign_of nat_cmp_total)

then_equal : (o p : Ordering) → ordering_then o p ≡ Equal → (o ≡ Equal) × (p ≡ Equal)
then_equal Less p h = (cc, cc)
then_equal Equal p h = (refl, h)
then_equal Greater p h = (cc, cc)

number_equal : (m n : ℕ) → nat_cmp m n ≡ Equal → m ≡ n
number_equal m n e = ranked m n Equal (sym e)

key_same : (a b : Key) → kind_of a ≡ kind_of b → number_of a ≡ number_of b → a ≡ b
key_same (User m) (User n) k e = ap User e
key_same (User m) (Thread n) k e = cc
key_same (User m) (Segment n) k e = cc
key_same (User m) (Defined n) k e = cc
key_same (Thread m) (User n) k e = cc
key_same (Thread m) (Thread n) k e = ap Thread e
key_same (Thread m) (Segment n) k e = cc
key_same (Thread m) (Defined n) k e = cc
key_same (Segment m) (User n) k e = cc
key_same (Segment m) (Thread n) k e = cc
key_same (Segment m) (Segment n) k e = ap Segment e
key_same (Segment m) (Defined n) k e = cc
key_same (Defined m) (User n) k e = cc
key_same (Defined m) (Thread n) k e = cc
key_same (Defined m) (Segment n) k e = cc
key_same (Defined m) (Defined n) k e = ap Defined e

-- Equal is said of equal atoms alone
pub compare_equal : (a b : Atom) → compare_atoms a b ≡ Equal → a ≡ b
unfolding compare_atoms
compare_equal a b h =
    let e = then_equal (nat_cmp (kind_of a) (kind_of b)) (nat_cmp (number_of a) (number_of b)) h in
    key_same a b (number_equal (kind_of a) (kind_of b) e.0) (number_equal (number_of a) (number_of b) e.1)

pub compare_same : (a : Atom) → compare_atoms a a ≡ Equal
compare_same a = tied_itself atoms a

literal_of_lem : (x y : Literal) → atom_of x ≡ atom_of y → sign_of x ≡ sign_of y → x ≡ y
literal_of_lem (Plain a) (Plain b) e s = ap Plain e
literal_of_lem (Plain a) (Barred b) e s = cc
literal_of_lem (Barred a) (Plain b) e s = cc
literal_of_lem (Barred a) (Barred b) e s = ap Barred e

pub literal_equal : (x y : Literal) → compare_literals x y ≡ Equal → x ≡ y
unfolding compare_literals
literal_equal x y h =
    let e = then_equal (compare_atoms (atom_of x) (atom_of y)) (nat_cmp (sign_of x) (sign_of y)) h in
    literal_of_lem x y (compare_equal (atom_of x) (atom_of y) e.0) (number_equal (sign_of x) (sign_of y) e.1)

pub literal_same : (x : Literal) → compare_literals x x ≡ Equal
literal_same x = tied_itself literals x

pub is_lt_less : (o : Ordering) → is_lt o ≡ true → o ≡ Less
is_lt_less Less e = refl
is_lt_less Equal e = cc
is_lt_less Greater e = cc
