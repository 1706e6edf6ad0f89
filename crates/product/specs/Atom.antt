-- Atoms, which are the keys, their order, and literals. Document 01, 'Keys' and 'Lock text'. Products,
-- sums, trees and nodes use only how two atoms compare, and that only equal ones compare as Equal, so that an atom can
-- become something else than a key; how it is spelt, numbered and handed out is said elsewhere.
use Rattle.std.specs.Prelude.{Bool, not, ℕ}
use Rattle.std.specs.declared.cmp.Ordering.{Ordering}
use Rattle.std.specs.Ordering.{nat_cmp, ordering_then}
use Rattle.product.specs.declared.literal.Key.{Key}
use Rattle.product.specs.declared.literal.Key.TheVariants.{User, Thread, Segment, Defined}
use Rattle.product.specs.declared.literal.Literal.{Literal}
use Rattle.product.specs.declared.literal.Literal.TheVariants.{Plain, Barred}

-- document 01: key
abbrev pub Atom : Type 0
Atom = Key

-- the place of a key's kind in U, R, S, D
abbrev pub kind_of : Key → ℕ
kind_of (User n) = 0
kind_of (Thread n) = 1
kind_of (Segment n) = 2
kind_of (Defined n) = 3

abbrev pub number_of : Key → ℕ
number_of (User n) = n
number_of (Thread n) = n
number_of (Segment n) = n
number_of (Defined n) = n

-- U, R, S, D, then by number: the first difference decides
unfoldable pub compare_atoms : Atom → Atom → Ordering
compare_atoms a b = ordering_then (nat_cmp (kind_of a) (kind_of b)) (nat_cmp (number_of a) (number_of b))

-- document 01: a signed key holds a key and its kind, plain or barred
abbrev pub atom_of : Literal → Atom
atom_of (Plain a) = a
atom_of (Barred a) = a

abbrev pub sign_of : Literal → ℕ
sign_of (Plain a) = 0
sign_of (Barred a) = 1

-- by the atom; plain before barred
unfoldable pub compare_literals : Literal → Literal → Ordering
compare_literals x y = ordering_then (compare_atoms (atom_of x) (atom_of y)) (nat_cmp (sign_of x) (sign_of y))

-- under a valuation of the atoms a plain key agrees where it is held, a barred one where it is not
abbrev pub agrees : (Atom → Bool) → Literal → Bool
agrees ρ (Plain a) = ρ a
agrees ρ (Barred a) = not (ρ a)
