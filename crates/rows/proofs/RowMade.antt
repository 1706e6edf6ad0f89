-- A row, of the cells of a product row: key by key, by the number of literals, which is below 8.
use Rattle.std.specs.Prelude.{Option}
use mathlib.Core.Path.{◌≡◌, refl, ap, ◌∙◌, subst}
use mathlib.Core.Bool.{Bool, true, false, cond}
use mathlib.Core.List.{[], List, map}
use Prim.Native.Nat.{ℕ, zero, suc, ◌+◌, ◌/◌, ◌%◌, ◌<◌}
use native.Mathlib.Omega.{arith}
use lib.ListN.{get_or}
use Rattle.std.specs.Fn.{Called, Mut}
use Rattle.std.specs.List.{range_with_len}
use Rattle.std.specs.Array.{IsFromFnResult, IsFromFnResultFrom}
use Rattle.std.proofs.lemmas.List.FromFn.{fill_by_all}
use Rattle.product.specs.declared.literal.Literal.{Literal}
use Rattle.base.specs.Lists.{each}
use Rattle.model.specs.Operations.{deny, shares}
use Rattle.model.specs.Cells.{Row as CellsRow, cell, literal_in, lock_unit, literal_unit, literal_counts, product_in}
use Rattle.model.proofs.Refinement.OperationSets.{denying, shares_one}
use Rattle.rows.specs.Rows.{slots_of}
use Rattle.rows.specs.Internal.{key_in, row_in}

-- six slots of n keys
abbrev pub six_slots : ℕ → CellsRow → List (Option Literal)
six_slots n w = each (key_in n w) 0 6

pub slots_made : (w : CellsRow) (n : ℕ) → n < 8 → six_slots n w ≡ slots_of (each (λ i. literal_in (cell w i)) 1 n)
unfolding key_in
slots_made w zero h = refl
slots_made w (suc zero) h = refl
slots_made w (suc (suc zero)) h = refl
slots_made w (suc (suc (suc zero))) h = refl
slots_made w (suc (suc (suc (suc zero)))) h = refl
slots_made w (suc (suc (suc (suc (suc zero))))) h = refl
slots_made w (suc (suc (suc (suc (suc (suc zero)))))) h = refl
slots_made w (suc (suc (suc (suc (suc (suc (suc zero))))))) h = refl
slots_made w (suc (suc (suc (suc (suc (suc (suc (suc n)))))))) h = absurd (omega arith)

-- the number of literals that the head of a product row has
abbrev literals_of : CellsRow → ℕ
literals_of w = cell w 0 / literal_unit % literal_counts

keys_made : (shown : Bool) (w : CellsRow) → six_slots (cond shown (literals_of w) 0) w ≡ slots_of (cond shown (product_in w).product [])
keys_made true w = slots_made w (literals_of w) (omega arith)
keys_made false w = slots_made w 0 (omega arith)

module _ (shown : Bool) (w : CellsRow) {n : ℕ} {b : Bool} {keys : List (Option Literal)} where
  pub row_made : n ≡ cond shown (literals_of w) 0 → keys ≡ six_slots n w → b ≡ shares (cell w 0 % literal_unit) deny
      → record { lock = cell w 0 / lock_unit; operations = cell w 0 % literal_unit % deny; deny = b; keys = keys } ≡ row_in shown (product_in w)
  unfolding row_in
  row_made e ek eb =
      let denies = eb ∙ shares_one (cell w 0 % literal_unit) denying in
      let made = ek ∙ ap (λ (k : ℕ). six_slots k w) e ∙ keys_made shown w in
      λ i. record { lock = cell w 0 / lock_unit; operations = cell w 0 % literal_unit % deny; deny = denies i; keys = made i }

-- ---- an array that a closure makes, which has no state

module _ {F B : Type 0} (g : Mut F (ℕ × Unit {0}) B) (h : ℕ → B) (f : F) (same : (i : ℕ) (y : B) (q : F) → Called g f (i, tt) y q → (y ≡ h i) × (q ≡ f)) where
  elements : (ys : List B) (d : B) (n i j : ℕ) → j < n → IsFromFnResultFrom g f ys i n → get_or ys (i + j) d ≡ h (i + j)
  elements ys d zero i j l e = absurd (omega arith)
  elements ys d (suc n) i zero l (q, y, at, call, rest) =
      let e : i ≡ i + 0 = omega arith in
      subst (λ k. get_or ys k d ≡ h k) e (at.1 d ∙ (same i y q call).0)
  elements ys d (suc n) i (suc j) l (q, y, at, call, rest) =
      let e : i + 1 + j ≡ i + suc j = omega arith in
      subst (λ k. get_or ys k d ≡ h k) e (elements ys d n (i + 1) j (omega arith) (subst (λ p. IsFromFnResultFrom g p ys (i + 1) n) (same i y q call).1 rest))

  pub array_made : (d : B) (ys : List B) (n : ℕ) → IsFromFnResult g f ys n → ys ≡ map h (range_with_len 0 n)
  array_made d ys n e = fill_by_all h ys n d e.long (λ k l. let z : 0 + k ≡ k = omega arith in subst (λ j. get_or ys j d ≡ h j) z (elements ys d n 0 k l e.each))
