-- A key set asked element by element: over its keys, over a row's literals and over rows.
use mathlib.Core.Path.{◌≡◌, refl, ap, ap₂, ◌∙◌}
use mathlib.Core.Bool.{Bool, ◌&&◌, ◌||◌}
use mathlib.Core.List.{List, [], ◌∷◌, map}
use Rattle.std.specs.List.{list_any, list_all}
use Rattle.std.specs.Cmp.{nat_eq_equiv}
use Prim.Native.Nat.{ℕ}
use lib.Dec.{eqb}
use Rattle.product.specs.declared.literal.Key.{Key}
use Rattle.product.specs.Atom.{Atom, agrees}
use Rattle.product.specs.Product.{opens}
use Rattle.product.specs.Sum.{opens_any}
use Rattle.product.specs.Code.{literal_of, EncodedKey}
use Rattle.product.specs.Cells.{product_of}
use Rattle.product.specs.Held.{member, held_by}

-- a list of keys

member_any : (k : ℕ) (keys : List ℕ) → list_any (λ y. eqb y k) keys ≡ member k keys
unfolding member
member_any k [] = refl
member_any k (y ∷ keys) = ap₂ (λ (a b : Bool). a || b) (nat_eq_equiv.symm y k) (member_any k keys)

pub any_held : (keys : List ℕ) (k : Key) {c : ℕ} → EncodedKey k c → {r : Bool} → r ≡ list_any (λ y. eqb y c) keys → r ≡ held_by keys k
any_held keys k {c} e h = h ∙ member_any c keys ∙ ap (λ (n : ℕ). member n keys) e.code

-- a row's product, and the products of rows

module _ (ρ : Atom → Bool) where
  pub opens_all : (xs : List ℕ) → list_all (λ x. agrees ρ (literal_of x)) xs ≡ opens ρ (map literal_of xs)
  unfolding opens
  opens_all [] = refl
  opens_all (x ∷ xs) = ap (λ (b : Bool). agrees ρ (literal_of x) && b) (opens_all xs)

  pub opens_some : (rows : List (List ℕ)) → list_any (λ row. opens ρ (product_of row)) rows ≡ opens_any ρ (map product_of rows)
  unfolding opens_any
  opens_some [] = refl
  opens_some (row ∷ rows) = ap (λ (b : Bool). opens ρ (product_of row) || b) (opens_some rows)
