-- Laws of operations and their sets.
use mathlib.Core.Path.{◌≡◌, refl, ap, ◌∙◌}
use mathlib.Core.Bool.{Bool, true, false, ◌&&◌, ◌||◌, not}
use Prim.Native.Nat.{ℕ, ◌*◌, ◌/◌, ◌%◌, ◌<◌}
use native.Mathlib.Omega.{arith}
use lib.Bits.{and_high}
use lib.Dec.{eqb, ltb}
use borrow.Author.Tests.{eq-eqb, ne_eqb, eqb-true, eqb-false}
use Rattle.model.specs.Operations.{execute, read, write, deny, includes, shares, takes_set}
use Rattle.base.proofs.Lists.{case_bool}

-- the number of one operation, or of deny
pub data Bit : ℕ → Type 0 where
  executes : Bit execute
  reads : Bit read
  writes : Bit write
  denying : Bit deny

digit : (x k : ℕ) → x < 2 → 0 < k → not (eqb (x * k) 0) ≡ eqb x 1
digit x k h p =
    case_bool (eqb x 1)
    (λ e. simp e (let one = eqb-true x 1 e in ap not (ne_eqb (x * k) 0 (λ z. let w : 1 * k ≡ 0 = rw one at z in omega arith))))
    (λ e. simp e (let other = eqb-false x 1 e in let zero : x ≡ 0 = omega (arith, other) in ap not (eq-eqb (x * k) 0 (ap (λ (j : ℕ). j * k) zero ∙ (let w : 0 * k ≡ 0 = omega arith in w)))))

pub shares_one : {n : ℕ} (x : ℕ) → Bit n → shares x n ≡ includes x n
shares_one x executes = ap (λ (k : ℕ). not (eqb k 0)) (and_high x 1 0) ∙ digit (x / 1 % 2) 1 (omega arith) (omega arith)
shares_one x reads = ap (λ (k : ℕ). not (eqb k 0)) (and_high x 1 1) ∙ digit (x / 2 % 2) 2 (omega arith) (omega arith)
shares_one x writes = ap (λ (k : ℕ). not (eqb k 0)) (and_high x 1 2) ∙ digit (x / 4 % 2) 4 (omega arith) (omega arith)
shares_one x denying = ap (λ (k : ℕ). not (eqb k 0)) (and_high x 1 3) ∙ digit (x / 8 % 2) 8 (omega arith) (omega arith)

-- a lock's set on code and on a sheet, by the four tests
on_code : (l e r w : Bool) → (((l && e) && not r) && not w) ≡ (l && ((e || r || w) && ((not e || true) && (not r || false) && (not w || false))))
on_code false e r w = refl
on_code true false false false = refl
on_code true false false true = refl
on_code true false true false = refl
on_code true false true true = refl
on_code true true false false = refl
on_code true true false true = refl
on_code true true true false = refl
on_code true true true true = refl

on_sheet : (l e r w : Bool) → ((l && not e) && (r || w)) ≡ (l && ((e || r || w) && ((not e || false) && (not r || true) && (not w || true))))
on_sheet false e r w = refl
on_sheet true false false false = refl
on_sheet true false false true = refl
on_sheet true false true false = refl
on_sheet true false true true = refl
on_sheet true true false false = refl
on_sheet true true false true = refl
on_sheet true true true false = refl
on_sheet true true true true = refl

module _ (kind x : ℕ) where
  pub fits_code : kind ≡ 0 → (((ltb x 16 && shares x execute) && not (shares x read)) && not (shares x write)) ≡ takes_set kind x
  fits_code z =
      simp (shares_one x executes, shares_one x reads, shares_one x writes, eq-eqb kind 0 z)
      (on_code (ltb x 16) (includes x execute) (includes x read) (includes x write))

  pub fits_sheet : (kind ≡ 0 → ⊥) → ((ltb x 16 && not (shares x execute)) && (shares x read || shares x write)) ≡ takes_set kind x
  fits_sheet z =
      simp (shares_one x executes, shares_one x reads, shares_one x writes, ne_eqb kind 0 z)
      (on_sheet (ltb x 16) (includes x execute) (includes x read) (includes x write))
