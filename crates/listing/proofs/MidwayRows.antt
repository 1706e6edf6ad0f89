-- A list whose first elements are being replaced by another's: one turn.
use mathlib.Core.Path.{◌≡◌, refl, ap}
use mathlib.Core.List.{List, [], ◌∷◌, map}
use Prim.Native.Nat.{ℕ, zero, suc, ◌+◌, ◌<◌}
use native.Mathlib.Numerals.{add-one}
use native.Mathlib.Omega.{arith}
use lib.ListN.{length, get_or, set}
use Rattle.listing.specs.Internal.{midway}

module _ {A X : Type 0} (f : A → X) where
  turned : (xs : List A) (ys : List X) (i : ℕ) (d : A) → i < length xs → i < length ys → set (midway (map f xs) ys i) i (f (get_or xs i d)) ≡ midway (map f xs) ys (suc i)
  turned [] ys i d hx hy = absurd (omega arith)
  turned (x ∷ xs) [] i d hx hy = absurd (omega arith)
  turned (x ∷ xs) (y ∷ ys) zero d hx hy = refl
  turned (x ∷ xs) (y ∷ ys) (suc i) d hx hy = ap (λ (l : List X). f x ∷ l) (turned xs ys i d (omega arith) (omega arith))

  -- element i is told
  pub midway_more : (xs : List A) (ys : List X) (i : ℕ) (d : A) {now : List X} {y : X} → now ≡ midway (map f xs) ys i → y ≡ f (get_or xs i d) → i < length xs → i < length ys
      → set now i y ≡ midway (map f xs) ys (i + 1)
  midway_more xs ys i d e ey hx hy = rw (e, ey, add-one i) (turned xs ys i d hx hy)
