-- The reader of a number and the spelling of one undo each other. Read digit by digit, a number is ten times what was
-- read and the next digit; spelt, it is what is spelt of its tenth part and the last digit.
use Rattle.std.specs.Prelude.{None, Some}
use mathlib.Core.Path.{◌≡◌, refl, ap, sym, ◌∙◌}
use mathlib.Core.Bool.{Bool, true, false, not, cond, ◌&&◌}
use mathlib.Core.List.{List, [], ◌∷◌, ◌++◌, append_assoc}
use Prim.Native.Nat.{ℕ, zero, suc, ◌+◌, ◌*◌, ◌-◌, ◌/◌, ◌%◌, ◌≤◌, ◌<◌}
use native.Mathlib.Omega.{arith}
use lib.Dec.{ltb, leb, eqb}
use lib.ListN.{get_or}
use borrow.Author.Tests.{ltb-true, ltb-false, leb-true, eqb-true, eqb-false, lt-ltb, le-ltb, le-leb, ne_eqb}
use Rattle.base.proofs.Truth.{and_both}
use Rattle.formula.specs.Spelling.{digits, decimal}
use Rattle.formula.specs.Internal.Reader.{digit, read_digits, read_number}

pub digit_range : (b : ℕ) → digit b ≡ true → (48 ≤ b) × (b ≤ 57)
digit_range b h = let e = and_both (leb 48 b) (leb b 57) h in (leb-true 48 b e.0, leb-true b 57 e.1)

range_digit : (d : ℕ) → d < 10 → digit (48 + d) ≡ true
range_digit d h = rw (le-leb 48 (48 + d) (omega arith), le-leb (48 + d) 57 (omega arith))

-- what is spelt is read

read_spelt : (f n : ℕ) (r : List ℕ) → n < f → read_digits 0 (digits f n ++ r) ≡ read_digits n r
unfolding digits read_digits
read_spelt zero n r h = absurd (omega arith)
read_spelt (suc f) n r h = go (read_spelt f) (ltb n 10) refl
  where
    one : 10 * 0 + (48 + n - 48) ≡ n
    one = omega arith

    last : 10 * (n / 10) + (48 + n % 10 - 48) ≡ n
    last = omega arith

    go : ((m : ℕ) (t : List ℕ) → m < f → read_digits 0 (digits f m ++ t) ≡ read_digits m t) → (b : Bool) → ltb n 10 ≡ b
        → read_digits 0 (cond b ((48 + n) ∷ []) (digits f (n / 10) ++ (48 + n % 10) ∷ []) ++ r) ≡ read_digits n r
    go ih true e = let l : n < 10 = ltb-true n 10 e in rw (range_digit n l, one)
    go ih false e =
        let l : 10 ≤ n = ltb-false n 10 e in
        rw (
          append_assoc (digits f (n / 10)) ((48 + n % 10) ∷ []) r,
          ih (n / 10) ((48 + n % 10) ∷ r) (omega arith),
          range_digit (n % 10) (omega arith),
          last,
        )

-- the first digit, which is 0 of 0 alone
abbrev First : ℕ → ℕ → Type 0
First b n = (d : ℕ) × (b ≡ 48 + d) × (d < 10) × (1 ≤ n → 1 ≤ d)

first_digit : (f n : ℕ) (r : List ℕ) → n < f → First (get_or (digits f n ++ r) 0 0) n
unfolding digits
first_digit zero n r h = absurd (omega arith)
first_digit (suc f) n r h = go (first_digit f (n / 10) ((48 + n % 10) ∷ r)) (ltb n 10) refl
  where
    go : (n / 10 < f → First (get_or (digits f (n / 10) ++ (48 + n % 10) ∷ r) 0 0) (n / 10)) → (b : Bool) → ltb n 10 ≡ b
        → First (get_or (cond b ((48 + n) ∷ []) (digits f (n / 10) ++ (48 + n % 10) ∷ []) ++ r) 0 0) n
    go ih true e = (n, refl, ltb-true n 10 e, λ p. p)
    go ih false e =
        let l : 10 ≤ n = ltb-false n 10 e in
        let i = ih (omega arith) in
        (i.0, rw (append_assoc (digits f (n / 10)) ((48 + n % 10) ∷ []) r) i.1, i.2, λ p. i.3 (omega arith))

pub digits_end : (n : ℕ) (r : List ℕ) → digit (get_or r 0 0) ≡ false → read_digits n r ≡ (n, r)
unfolding read_digits
digits_end n [] h = refl
digits_end n (b ∷ r) h = rw h

pub number_read : (n : ℕ) (r : List ℕ) → digit (get_or r 0 0) ≡ false → read_number (decimal n ++ r) ≡ Some (n, r)
unfolding read_number decimal digits
number_read zero r h = rw (read_spelt 1 0 r (omega arith), digits_end 0 r h, h)
number_read (suc m) r h =
    let n : ℕ = suc m in
    let i = first_digit (suc n) n r (omega arith) in
    let d = i.0 in
    rw (
      i.1,
      range_digit d i.2,
      ne_eqb (48 + d) 48 (λ e. let p : 1 ≤ d = i.3 (omega arith) in omega arith),
      read_spelt (suc n) n r (omega arith),
      digits_end n r h,
    )

-- what is read is spelt

digits_fuel : (f g n : ℕ) → n < f → n < g → digits f n ≡ digits g n
unfolding digits
digits_fuel zero g n h k = absurd (omega arith)
digits_fuel (suc f) zero n h k = absurd (omega arith)
digits_fuel (suc f) (suc g) n h k = go (digits_fuel f g (n / 10)) (ltb n 10) refl
  where
    go : (n / 10 < f → n / 10 < g → digits f (n / 10) ≡ digits g (n / 10)) → (b : Bool) → ltb n 10 ≡ b
        → cond b ((48 + n) ∷ []) (digits f (n / 10) ++ (48 + n % 10) ∷ []) ≡ cond b ((48 + n) ∷ []) (digits g (n / 10) ++ (48 + n % 10) ∷ [])
    go ih true e = refl
    go ih false e = let l : 10 ≤ n = ltb-false n 10 e in rw (ih (omega arith) (omega arith))

pub decimal_one : (n : ℕ) → n < 10 → decimal n ≡ (48 + n) ∷ []
unfolding decimal digits
decimal_one n h = rw (lt-ltb n 10 h)

pub decimal_more : (n : ℕ) → 10 ≤ n → decimal n ≡ decimal (n / 10) ++ (48 + n % 10) ∷ []
unfolding decimal digits
decimal_more n h = rw (le-ltb n 10 h, digits_fuel n (suc (n / 10)) (n / 10) (omega arith) (omega arith))

-- a number that is read one digit further
decimal_further : (a b : ℕ) → 1 ≤ a → 48 ≤ b → b ≤ 57 → decimal (10 * a + (b - 48)) ≡ decimal a ++ b ∷ []
decimal_further a b p h k =
    let q : (10 * a + (b - 48)) / 10 ≡ a = omega arith in
    let m : 48 + (10 * a + (b - 48)) % 10 ≡ b = omega arith in
    decimal_more (10 * a + (b - 48)) (omega arith) ∙ rw (q, m)

digits_spelt : (a : ℕ) (s : List ℕ) → 1 ≤ a → decimal a ++ s ≡ decimal (read_digits a s).0 ++ (read_digits a s).1
unfolding read_digits
digits_spelt a [] p = refl
digits_spelt a (b ∷ s) p = go (digits_spelt (10 * a + (b - 48)) s (omega arith)) (digit b) refl
  where
    Spelt : ℕ × List ℕ → Type 0
    Spelt x = decimal a ++ b ∷ s ≡ decimal x.0 ++ x.1

    go : decimal (10 * a + (b - 48)) ++ s ≡ decimal (read_digits (10 * a + (b - 48)) s).0 ++ (read_digits (10 * a + (b - 48)) s).1
        → (x : Bool) → digit b ≡ x → Spelt (cond x (read_digits (10 * a + (b - 48)) s) (a, b ∷ s))
    go ih true e =
        let l = digit_range b e in
        sym (append_assoc (decimal a) (b ∷ []) s) ∙ rw (← decimal_further a b p l.0 l.1) ih
    go ih false e = refl

decimal_digit : (b : ℕ) → digit b ≡ true → decimal (b - 48) ≡ b ∷ []
decimal_digit b e =
    let l = digit_range b e in
    let q : 48 + (b - 48) ≡ b = omega arith in
    decimal_one (b - 48) (omega arith) ∙ rw q

digits_start : (b : ℕ) (s : List ℕ) → digit b ≡ true → read_digits 0 (b ∷ s) ≡ read_digits (b - 48) s
unfolding read_digits
digits_start b s e = let q : 10 * 0 + (b - 48) ≡ b - 48 = omega arith in rw (e, q)

number_empty : read_number [] ≡ None
unfolding read_number
number_empty = refl

pub number_spelt : (s : List ℕ) (n : ℕ) (r : List ℕ) → read_number s ≡ Some (n, r) → s ≡ decimal n ++ r
unfolding read_number
number_spelt [] n r h = cc number_empty
number_spelt (b ∷ s) n r h = go (digit b) (eqb b 48) (digit (get_or s 0 0)) refl refl refl h
  where
    go : (x y z : Bool) → digit b ≡ x → eqb b 48 ≡ y → digit (get_or s 0 0) ≡ z
        → cond (x && not (y && z)) (Some (read_digits 0 (b ∷ s))) None ≡ Some (n, r) → b ∷ s ≡ decimal n ++ r
    go true true true d e f h = cc
    go true true false d e f h =
        let i : b ≡ 48 = eqb-true b 48 e in
        let z : b - 48 ≡ 0 = omega arith in
        let p : ◌≡◌ {A = ℕ × List ℕ} (0, s) (n, r) = sym (digits_start b s d ∙ rw z (digits_end 0 s f)) ∙ cc in
        rw (← ap (λ (t : ℕ × List ℕ). t.0) p, ← ap (λ (t : ℕ × List ℕ). t.1) p, ← z, decimal_digit b d)
    go true false z d e f h =
        let l = digit_range b d in
        let u = eqb-false b 48 e in
        let p : read_digits (b - 48) s ≡ (n, r) = sym (digits_start b s d) ∙ cc in
        let q : decimal (b - 48) ++ s ≡ decimal n ++ r = rw p at (digits_spelt (b - 48) s (omega (arith, u))) in
        rw (decimal_digit b d) at q
    go false y z d e f h = cc
