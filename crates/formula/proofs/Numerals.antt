-- Reading a number at a place of a text: the digits one by one, and the ways that a number begins.
use Rattle.std.specs.Prelude.{None, Some}
use mathlib.Core.Path.{◌≡◌, refl}
use mathlib.Core.Bool.{Bool, true, false, not, cond, ◌&&◌}
use mathlib.Core.List.{List, [], ◌∷◌}
use Prim.Native.Nat.{ℕ, ◌+◌, ◌*◌, ◌-◌, ◌≤◌, ◌<◌}
use native.Mathlib.Omega.{arith}
use lib.Dec.{eqb}
use lib.ListN.{length, get_or, drop}
use lib.Seq.{get_or-drop}
use Rattle.std.proofs.lemmas.List.{drop_more}
use Rattle.base.proofs.Parts.{head_drop}
use Rattle.formula.specs.Internal.Reader.{digit, read_digits, read_number}
use Rattle.formula.specs.Internal.Readers.{most_number}
use Rattle.formula.proofs.Decimals.{digits_end as digits-over}

-- a number does not fall with its digits
pub digits_grow : (sofar : ℕ) (s : List ℕ) → sofar ≤ (read_digits sofar s).0
unfolding read_digits
digits_grow sofar [] = omega arith
digits_grow sofar (b ∷ s) = go (digits_grow (10 * sofar + (b - 48)) s) (digit b)
  where
    go : 10 * sofar + (b - 48) ≤ (read_digits (10 * sofar + (b - 48)) s).0 → (x : Bool) → sofar ≤ (cond x (read_digits (10 * sofar + (b - 48)) s) (sofar, b ∷ s)).0
    go h true = omega arith
    go h false = omega arith

digits_more : (sofar b : ℕ) (s : List ℕ) → digit b ≡ true → read_digits sofar (b ∷ s) ≡ read_digits (10 * sofar + (b - 48)) s
unfolding read_digits
digits_more sofar b s h = rw h

module _ (s : List ℕ) (i : ℕ) where
  -- one digit further, and the end of the digits
  pub digits_step : (sofar : ℕ) {more : ℕ} → i < length s → digit (get_or s i 0) ≡ true → more ≡ 10 * sofar + (get_or s i 0 - 48)
      → read_digits sofar (drop i s) ≡ read_digits more (drop (i + 1) s)
  digits_step sofar h e m = rw (drop_more s i 0 h, m) (digits_more sofar (get_or s i 0) (drop (i + 1) s) e)

  pub digits_large : (sofar : ℕ) → i < length s → digit (get_or s i 0) ≡ true → most_number < 10 * sofar + (get_or s i 0 - 48)
      → most_number < (read_digits sofar (drop i s)).0
  digits_large sofar h e m =
      let more = 10 * sofar + (get_or s i 0 - 48) in
      rw (digits_step sofar {more = more} h e refl) (omega (arith, digits_grow more (drop (i + 1) s)))

  pub digits_end : (sofar : ℕ) → digit (get_or s i 0) ≡ false → read_digits sofar (drop i s) ≡ (sofar, drop i s)
  digits_end sofar e = digits-over sofar (drop i s) (rw (head_drop i s 0) e)

  -- whether a number begins here
  abbrev begins : Bool
  begins = digit (get_or s i 0) && not (eqb (get_or s i 0) 48 && digit (get_or s (i + 1) 0))

  pub number_none : begins ≡ false → read_number (drop i s) ≡ None
  unfolding read_number
  number_none h = rw (head_drop i s 0, get_or-drop i s 1 0, h)

  pub number_some : begins ≡ true → read_number (drop i s) ≡ Some (read_digits 0 (drop i s))
  unfolding read_number
  number_some h = rw (head_drop i s 0, get_or-drop i s 1 0, h)
