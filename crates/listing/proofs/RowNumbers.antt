-- An array whose elements a function maps, and a row's numbers from those of its keys.
use mathlib.Core.Path.{◌≡◌, refl, sym, ◌∙◌}
use mathlib.Core.List.{List, ◌∷◌, [], map}
use mathlib.Core.Bool.{Bool, true, false, cond}
use Prim.Native.Nat.{ℕ, ◌<◌}
use native.Mathlib.Omega.{arith}
use lib.ListN.{length, get_or, length-map}
use Rattle.std.specs.Fn.{Called, Mut}
use Rattle.std.specs.Int.{from_bool}
use Rattle.std.specs.Array.{IsMapOf}
use Rattle.std.proofs.lemmas.List.{same_lists}
use Rattle.std.proofs.lemmas.Simd.{pick_l_whole}
use Rattle.base.proofs.Parts.{get_d_mapped}
use Rattle.rows.specs.declared.row.Row.{Row}
use Rattle.listing.specs.Numbers.{slot_numbers, row_numbers}

module _ {F A B : Type 0} (g : Mut F (A × Unit {0}) B) (h : A → B) (same : (p : F) (x : A) (y : B) (q : F) → Called g p (x, tt) y q → y ≡ h x) where
  pub map_made : (d : A) (xs : List A) (ys : List B) (n : ℕ) {f : F} → length xs ≡ n → IsMapOf g f xs ys n → ys ≡ map h xs
  map_made d xs ys n lx m =
      same_lists ys (map h xs) (m.long ∙ sym (length-map xs h ∙ lx))
      (λ k e l.
      let low : k < length xs = omega (arith, m.long, lx) in
      let c = m.at k d e (omega (arith, m.long)) in
      same c.0 (get_or xs k d) (get_or ys k e) c.1 c.2 ∙ sym (get_d_mapped h xs k d e low))

bit : (b : Bool) → from_bool b ≡ cond b 1 0
bit true = refl
bit false = refl

pub row_told : (r : Row) {b : ℕ} {ys : List (List ℕ)} → b ≡ from_bool r.deny → ys ≡ map slot_numbers r.keys → length ys ≡ 6
    → (r.lock ∷ r.operations ∷ b ∷ []) ∷ get_or ys 0 [] ∷ get_or ys 1 [] ∷ get_or ys 2 [] ∷ get_or ys 3 [] ∷ get_or ys 4 [] ∷ get_or ys 5 [] ∷ [] ≡ row_numbers r
row_told r {b} {ys} eb ey l = let whole = pick_l_whole [] ys 6 l in λ i. (r.lock ∷ r.operations ∷ (eb ∙ bit r.deny) i ∷ []) ∷ (whole ∙ ey) i
