-- The library's look for the first element that passes a test finds what the definitions say.
use Rattle.std.specs.Prelude.{Option, None, Some}
use Rattle.std.specs.List.{position}
use Rattle.std.proofs.lemmas.List.Recursion.{is_position_or_len}
use mathlib.Core.Path.{◌≡◌, refl, sym, ap, ◌∙◌}
use mathlib.Core.Bool.{Bool, cond}
use mathlib.Core.List.{List}
use Prim.Native.Nat.{ℕ, suc, ◌≤◌, ◌<◌, ◌+◌}
use native.Mathlib.Omega.{arith}
use lib.Dec.{ltb}
use lib.ListN.{length}
use borrow.Author.Tests.{ltb-true, ltb-false}
use Rattle.base.specs.Lists.{index_of}
use Rattle.base.proofs.Lists.{case_bool, some_inj, some≢none}

module _ {A : Type 0} (p : A → Bool) (xs : List A) where
  one_on : (n : ℕ) → suc n ≡ 1 + n
  one_on n = omega arith

  scan : {r : Option ℕ} → r ≡ position p xs → r ≡ cond (ltb (index_of p xs) (length xs)) (Some (index_of p xs)) None
  scan e =
      e ∙ ap (λ (i : ℕ). cond (ltb i (length xs)) (Some i) None) (sym (is_position_or_len (index_of p) p refl (λ x ys. ap (λ (n : ℕ). cond (p x) 0 n) (one_on (index_of p ys))) xs))

  pub first_some : {i : ℕ} → Some i ≡ position p xs → (i ≡ index_of p xs) × (i < length xs)
  first_some e =
      let s = scan e in
      case_bool (ltb (index_of p xs) (length xs))
      (λ l. let k = ltb-true (index_of p xs) (length xs) l in let same = some_inj (rw l at s) in (same, omega arith))
      (λ l. absurd (some≢none (rw l at s)))

  pub first_none : None ≡ position p xs → length xs ≤ index_of p xs
  first_none e =
      let s = scan e in
      case_bool (ltb (index_of p xs) (length xs))
      (λ l. absurd (some≢none (sym (rw l at s))))
      (λ l. ltb-false (index_of p xs) (length xs) l)
