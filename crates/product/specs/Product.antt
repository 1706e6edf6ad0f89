-- Products: sets of literals, kept in order. Document 01, 'Lock text'.
use Rattle.std.specs.Prelude.{Bool, true, false, not, cond, ◌&&◌, ◌||◌, List, [], ◌∷◌}
use Rattle.product.specs.declared.literal.Literal.{Literal}
use Rattle.std.specs.Ordering.{is_eq, is_lt}
use Rattle.product.specs.Atom.{Atom, atom_of, agrees, compare_atoms, compare_literals}

-- document 01: product, a set of signed keys
abbrev pub Product : Type 0
Product = List Literal

-- document 01: a key set opens a product when every plain key is in it and every barred one is not
unfoldable pub opens : (Atom → Bool) → Product → Bool
opens ρ [] = true
opens ρ (x ∷ p) = agrees ρ x && opens ρ p

abbrev pub same : Literal → Literal → Bool
same x y = is_eq (compare_literals x y)

abbrev pub before : Literal → Literal → Bool
before x y = is_lt (compare_literals x y)

-- the product with x in its place, which it may have already: the lesser of two stays, the greater goes on
unfoldable pub insert : Literal → Product → Product
insert x [] = x ∷ []
insert x (y ∷ p) =
    let rest = insert (cond (before x y) y x) p in
    cond (same x y) (y ∷ p) (cond (before x y) x y ∷ rest)

-- the literals of both
unfoldable pub union : Product → Product → Product
union p [] = p
union p (x ∷ q) = union (insert x p) q

-- the same key, once plain and once barred
abbrev pub opposed : Literal → Literal → Bool
opposed x y = is_eq (compare_atoms (atom_of x) (atom_of y)) && not (same x y)

-- some literal of the product is opposed to x
unfoldable pub clashes : Literal → Product → Bool
clashes x [] = false
clashes x (y ∷ p) = opposed x y || clashes x p

-- some key is both plain and barred
unfoldable pub contradictory : Product → Bool
contradictory [] = false
contradictory (x ∷ p) = clashes x p || contradictory p

unfoldable pub same_product : Product → Product → Bool
same_product [] [] = true
same_product [] (y ∷ q) = false
same_product (x ∷ p) [] = false
same_product (x ∷ p) (y ∷ q) = same x y && same_product p q

-- document 01: a product is kept in the order U, R, S, D, then by number. Each key is less than the next.
abbrev pub leads : Literal → Product → Bool
leads x [] = true
leads x (y ∷ p) = is_lt (compare_atoms (atom_of x) (atom_of y))

unfoldable pub ordered : Product → Bool
ordered [] = true
ordered (x ∷ p) = leads x p && ordered p

-- some literal of the product is the key a, plain or barred
unfoldable pub names : Atom → Product → Bool
names a [] = false
names a (y ∷ p) = is_eq (compare_atoms a (atom_of y)) || names a p

-- no key stands in the product twice
unfoldable pub once : Product → Bool
once [] = true
once (x ∷ p) = not (names (atom_of x) p) && once p

-- every element of a list, of a product's literals as of a sum's products
pub data All {A : Type 0} (P : A → Type 0) : List A → Type 0 where
  no_more : All P []
  and_more : {x : A} {l : List A} → P x → All P l → All P (x ∷ l)
