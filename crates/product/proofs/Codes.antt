-- A number is that of the literal which it stands for, and the code reads and writes such numbers. The idea: a key's
-- number is a pair of kind and number, read as two digits of base 65,536, and a literal's a pair of key and sign, of
-- base 2.
use mathlib.Core.Path.{◌≡◌, refl, sym, ap, ◌∙◌}
use mathlib.Core.Bool.{Bool, true, false, cond}
use Prim.Native.Nat.{ℕ, ◌+◌, ◌*◌, ◌-◌, ◌/◌, ◌%◌, ◌≤◌, ◌<◌}
use native.Mathlib.Omega.{arith}
use lib.Dec.{ltb, eqb}
use borrow.Author.Tests.{ltb-true, ltb-false, lt-ltb, le-ltb, eqb-true, eqb-false}
use Rattle.product.specs.declared.literal.Key.{Key}
use Rattle.product.specs.declared.literal.Key.TheVariants.{User, Thread, Segment, Defined}
use Rattle.product.specs.declared.literal.Literal.{Literal}
use Rattle.product.specs.declared.literal.Literal.TheVariants.{Plain, Barred}
use Rattle.product.specs.Atom.{kind_of, number_of, atom_of, sign_of}
use Rattle.product.specs.Code.{key_code, code_of, key_at, literal_at, literal_of, Encoded, EncodedKey}

-- keys

-- the number of the key that a number stands for
pub record Digits (c : ℕ) (k : Key) : Type 0 where
  pub whole : c ≡ 65536 * kind_of k + number_of k
  pub most : kind_of k ≤ 3
  pub digit : kind_of k < 3 → number_of k < 65536

digits : (c : ℕ) → Digits c (key_at c)
unfolding key_at
digits c = go (ltb c 65536) (ltb c 131072) (ltb c 196608) refl refl refl
  where
    go : (p q r : Bool) → ltb c 65536 ≡ p → ltb c 131072 ≡ q → ltb c 196608 ≡ r
        → Digits c (cond p (User c) (cond q (Thread (c - 65536)) (cond r (Segment (c - 131072)) (Defined (c - 196608)))))
    go true q r e f g = let h = ltb-true c 65536 e in record { whole = omega arith; most = omega arith; digit = λ _. h }
    go false true r e f g = let l = ltb-false c 65536 e in let h = ltb-true c 131072 f in record { whole = omega arith; most = omega arith; digit = λ _. omega arith }
    go false false true e f g = let l = ltb-false c 131072 f in let h = ltb-true c 196608 g in record { whole = omega arith; most = omega arith; digit = λ _. omega arith }
    go false false false e f g = let l = ltb-false c 196608 g in record { whole = omega arith; most = omega arith; digit = λ k. omega arith }

pub key_code_lem : (c : ℕ) → key_code (key_at c) ≡ c
unfolding key_code
key_code_lem c = sym (digits c).whole

pub key_back : (k : Key) → (kind_of k < 3 → number_of k < 65536) → key_at (key_code k) ≡ k
unfolding key_at key_code
key_back (User n) h = let l = h (omega arith) in let e : 65536 * 0 + n ≡ n = omega arith in rw (e, lt-ltb n 65536 l)
key_back (Thread n) h =
    let l = h (omega arith) in
    let e : 65536 * 1 + n - 65536 ≡ n = omega arith in
    rw (le-ltb (65536 * 1 + n) 65536 (omega arith), lt-ltb (65536 * 1 + n) 131072 (omega arith), e)
key_back (Segment n) h =
    let l = h (omega arith) in
    let e : 65536 * 2 + n - 131072 ≡ n = omega arith in
    rw (le-ltb (65536 * 2 + n) 65536 (omega arith), le-ltb (65536 * 2 + n) 131072 (omega arith), lt-ltb (65536 * 2 + n) 196608 (omega arith), e)
key_back (Defined n) h =
    let e : 65536 * 3 + n - 196608 ≡ n = omega arith in
    rw (le-ltb (65536 * 3 + n) 65536 (omega arith), le-ltb (65536 * 3 + n) 131072 (omega arith), le-ltb (65536 * 3 + n) 196608 (omega arith), e)

-- literals

pub record Parts (x : ℕ) (l : Literal) : Type 0 where
  pub key : atom_of l ≡ key_at (x / 2)
  pub sign : sign_of l ≡ x % 2

parts : (x : ℕ) → Parts x (literal_at x)
unfolding literal_at
parts x = go (eqb (x % 2) 0) refl
  where
    go : (b : Bool) → eqb (x % 2) 0 ≡ b → Parts x (cond b (Plain (key_at (x / 2))) (Barred (key_at (x / 2))))
    go true e = record { key = refl; sign = sym (eqb-true (x % 2) 0 e) }
    go false e = let n = eqb-false (x % 2) 0 e in record { key = refl; sign = omega arith }

pub literal_code : (x : ℕ) → code_of (literal_at x) ≡ x
unfolding code_of
literal_code x = let p = parts x in rw (p.key, p.sign, key_code_lem (x / 2)) (omega arith)

pub plain_at : (c : ℕ) → literal_at (2 * c) ≡ Plain (key_at c)
unfolding literal_at
plain_at c = let e : 2 * c % 2 ≡ 0 = omega arith in let d : 2 * c / 2 ≡ c = omega arith in rw (e, d)

pub barred_at : (c : ℕ) → literal_at (2 * c + 1) ≡ Barred (key_at c)
unfolding literal_at
barred_at c = let e : (2 * c + 1) % 2 ≡ 1 = omega arith in let d : (2 * c + 1) / 2 ≡ c = omega arith in rw (e, d)

-- the code reads a number as one below 524,288, and writes such numbers

pub read_code : (x : ℕ) → code_of (literal_of x) ≡ x % 524288
read_code x = literal_code (x % 524288)

pub low_code : (x : ℕ) → x < 524288 → code_of (literal_of x) ≡ x
low_code x h = let e : x % 524288 ≡ x = omega arith in read_code x ∙ e

pub read_again : (x : ℕ) → literal_of (code_of (literal_of x)) ≡ literal_of x
read_again x = let e : x % 524288 % 524288 ≡ x % 524288 = omega arith in ap literal_of (read_code x) ∙ ap literal_at e

pub encoded_read : {l : Literal} {v : ℕ} → Encoded l v → literal_of v ≡ l
encoded_read {l} {v} e = let m : v % 524288 ≡ v = omega (arith, e.low) in ap literal_at m ∙ e.back

-- a key of 16 bits and a literal of it have the numbers that the code makes of them

pub key_encoded : {k : Key} {c : ℕ} (j : Key) → k ≡ j → c ≡ 65536 * kind_of j + number_of j → number_of j < 65536 → EncodedKey k c
unfolding key_code
key_encoded {k} {c} j e p h =
    let q : c ≡ key_code k = p ∙ rw e in
    record { code = q; back = rw (q, e) (key_back j (λ _. h)); small = omega (arith, kind_most j) }
  where
    kind_most : (i : Key) → kind_of i ≤ 3
    kind_most (User n) = omega arith
    kind_most (Thread n) = omega arith
    kind_most (Segment n) = omega arith
    kind_most (Defined n) = omega arith

pub plain_encoded : {l : Literal} {k : Key} {c : ℕ} → l ≡ Plain k → EncodedKey k c → Encoded l (2 * c)
unfolding code_of
plain_encoded {l} {k} {c} e h = record { code = rw (e, h.code) (omega arith); back = plain_at c ∙ rw (h.back, e); low = omega (arith, h.small) }

pub barred_encoded : {l : Literal} {k : Key} {c : ℕ} → l ≡ Barred k → EncodedKey k c → Encoded l (2 * c + 1)
unfolding code_of
barred_encoded {l} {k} {c} e h = record { code = rw (e, h.code); back = barred_at c ∙ rw (h.back, e); low = omega (arith, h.small) }

-- the key of a number, by its first digit

module _ (c : ℕ) where
  pub user_at : c / 65536 ≡ 0 → User (c % 65536) ≡ key_at c
  unfolding key_at
  user_at e =
      let l : c < 65536 = omega (arith, e) in
      let m : c % 65536 ≡ c = omega (arith, e) in
      rw (m, lt-ltb c 65536 l)

  pub thread_at_lem : c / 65536 ≡ 1 → Thread (c % 65536) ≡ key_at c
  unfolding key_at
  thread_at_lem e =
      let m : c % 65536 ≡ c - 65536 = omega (arith, e) in
      rw (m, le-ltb c 65536 (omega (arith, e)), lt-ltb c 131072 (omega (arith, e)))

  pub segment_at_lem : c / 65536 ≡ 2 → Segment (c % 65536) ≡ key_at c
  unfolding key_at
  segment_at_lem e =
      let m : c % 65536 ≡ c - 131072 = omega (arith, e) in
      rw (m, le-ltb c 65536 (omega (arith, e)), le-ltb c 131072 (omega (arith, e)), lt-ltb c 196608 (omega (arith, e)))

  pub defined_at : c < 262144 → (c / 65536 ≡ 0 → ⊥) → (c / 65536 ≡ 1 → ⊥) → (c / 65536 ≡ 2 → ⊥) → Defined (c % 65536) ≡ key_at c
  unfolding key_at
  defined_at h u t s =
      let e : c / 65536 ≡ 3 = omega (arith, h, u, t, s) in
      let m : c % 65536 ≡ c - 196608 = omega (arith, e) in
      rw (m, le-ltb c 65536 (omega (arith, e)), le-ltb c 131072 (omega (arith, e)), le-ltb c 196608 (omega (arith, e)))
