-- How many digits a decimal number has; one of 16 bits has at most five.
use mathlib.Core.Path.{◌≡◌, refl, ap, ◌∙◌}
use mathlib.Core.Bool.{Bool, true, false}
use mathlib.Core.List.{[], ◌∷◌}
use Prim.Native.Nat.{ℕ, ◌+◌, ◌*◌, ◌/◌, ◌%◌, ◌≤◌, ◌<◌}
use native.Mathlib.Omega.{arith}
use lib.Dec.{ltb}
use lib.ListN.{length, length-append}
use borrow.Author.Tests.{ltb-true, ltb-false}
use Rattle.formula.specs.Spelling.{decimal}
use Rattle.formula.proofs.Decimals.{decimal_one, decimal_more}

pub decimal_grows : (n : ℕ) → 10 ≤ n → length (decimal n) ≡ length (decimal (n / 10)) + 1
decimal_grows n h = ap length (decimal_more n h) ∙ length-append (decimal (n / 10)) ((48 + n % 10) ∷ [])

pub one_digit : (n : ℕ) → n < 10 → length (decimal n) ≡ 1
one_digit n h = ap length (decimal_one n h)

-- one digit more than numbers below b have
width : (n b k : ℕ) → ((m : ℕ) → m < b → length (decimal m) ≤ k) → n < 10 * b → 1 ≤ k → length (decimal n) ≤ k + 1
width n b k shorter h p = go (ltb n 10) refl
  where
    go : (x : Bool) → ltb n 10 ≡ x → length (decimal n) ≤ k + 1
    go true e = let l = one_digit n (ltb-true n 10 e) in omega arith
    go false e = let l = decimal_grows n (ltb-false n 10 e) in let s = shorter (n / 10) (omega arith) in omega arith

width_one : (n : ℕ) → n < 10 → length (decimal n) ≤ 1
width_one n h = let l = one_digit n h in omega arith

pub two_digits : (n : ℕ) → n < 100 → length (decimal n) ≤ 2
two_digits n h = width n 10 1 width_one h (omega arith)

width_three : (n : ℕ) → n < 1000 → length (decimal n) ≤ 3
width_three n h = width n 100 2 two_digits h (omega arith)

width_four : (n : ℕ) → n < 10000 → length (decimal n) ≤ 4
width_four n h = width n 1000 3 width_three h (omega arith)

pub five_digits : (n : ℕ) → n < 65536 → length (decimal n) ≤ 5
five_digits n h = width n 10000 4 width_four (omega arith) (omega arith)
