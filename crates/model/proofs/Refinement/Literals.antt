-- A literal is read back from its code: the range of the code says its kind and its sign, the rest of it is its number,
-- which is in range since its key was handed out.
use mathlib.Core.Path.{◌≡◌, ap, ◌∙◌}
use mathlib.Core.Bool.{Bool, true, false, cond}
use Prim.Native.Nat.{ℕ, ◌+◌, ◌-◌, ◌/◌, ◌%◌, ◌≤◌, ◌<◌}
use native.Mathlib.Omega.{arith}
use lib.Dec.{eqb, ltb}
use borrow.Author.Tests.{lt-ltb, le-ltb, ltb-true, eq-eqb, ne_eqb}
use Rattle.product.specs.declared.literal.Key.TheVariants.{User, Thread as ThreadKey, Segment as SegmentKey, Defined}
use Rattle.product.specs.declared.literal.Literal.{Literal}
use Rattle.product.specs.declared.literal.Literal.TheVariants.{Plain, Barred}
use Rattle.product.specs.Atom.{Atom, atom_of, number_of}
use Rattle.product.specs.Code.{number_limit}
use Rattle.formula.specs.declared.text.Issued.{Issued}
use Rattle.formula.specs.Text.{issued_of, issued_to}
use Rattle.base.proofs.Truth.{and_left, and_right}
use Rattle.model.specs.Limits.{most_segments, most_defined}
use Rattle.model.specs.Cells.{defined_cell, key_in, signed, literal_cell, literal_in}

-- a key of a list, from its code
pub key_in_segment : (s : ℕ) → s < most_segments → key_in s ≡ SegmentKey s
key_in_segment s h = simp (lt-ltb s most_segments h)

pub key_in_defined : (k : ℕ) → key_in (defined_cell k) ≡ Defined k
key_in_defined k =
    let e : ltb (defined_cell k) most_segments ≡ false = le-ltb (defined_cell k) most_segments (omega arith) in
    let m : defined_cell k - most_segments ≡ k = omega arith in
    simp (e, m)

-- a code below 65,536 is a key of a list, and one from there on a user's or a thread's
listed_code : (x k : ℕ) (plain : Bool) → x < 65536 → ltb x 32768 ≡ plain → x % 32768 ≡ k → literal_in x ≡ signed plain (key_in k)
listed_code x k plain h sign rest = simp (lt-ltb x 65536 h, sign, rest)

other_code : (x n : ℕ) (plain is_user : Bool) → 65536 ≤ x → eqb (x / 65536 % 2) 0 ≡ plain → ltb x 262144 ≡ is_user → x % 65536 ≡ n
    → literal_in x ≡ signed plain (cond is_user (User n) (ThreadKey n))
other_code x n plain is_user h sign kind rest = simp (le-ltb x 65536 h, sign, kind, rest)

read_segment : (n : ℕ) → n < most_segments → literal_in n ≡ Plain (SegmentKey n)
read_segment n h =
    listed_code n n true (omega arith) (lt-ltb n 32768 (omega arith)) (omega arith) ∙ ap Plain (key_in_segment n h)

read_barred_segment : (n : ℕ) → n < most_segments → literal_in (n + 32768) ≡ Barred (SegmentKey n)
read_barred_segment n h =
    listed_code (n + 32768) n false (omega arith) (le-ltb (n + 32768) 32768 (omega arith)) (omega arith) ∙ ap Barred (key_in_segment n h)

read_defined : (n : ℕ) → n < most_defined → literal_in (defined_cell n) ≡ Plain (Defined n)
read_defined n h =
    listed_code (defined_cell n) (defined_cell n) true (omega arith) (lt-ltb (defined_cell n) 32768 (omega arith)) (omega arith) ∙ ap Plain (key_in_defined n)

read_barred_defined : (n : ℕ) → n < most_defined → literal_in (defined_cell n + 32768) ≡ Barred (Defined n)
read_barred_defined n h =
    listed_code (defined_cell n + 32768) (defined_cell n) false (omega arith) (le-ltb (defined_cell n + 32768) 32768 (omega arith)) (omega arith) ∙ ap Barred (key_in_defined n)

read_user : (n : ℕ) → n < number_limit → literal_in (131072 + n) ≡ Plain (User n)
read_user n h =
    let x : ℕ = 131072 + n in
    other_code x n true true (omega arith) (eq-eqb (x / 65536 % 2) 0 (omega arith)) (lt-ltb x 262144 (omega arith)) (omega arith)

read_barred_user : (n : ℕ) → n < number_limit → literal_in (131072 + n + 65536) ≡ Barred (User n)
read_barred_user n h =
    let x : ℕ = 131072 + n + 65536 in
    other_code x n false true (omega arith) (ne_eqb (x / 65536 % 2) 0 (λ q. omega arith)) (lt-ltb x 262144 (omega arith)) (omega arith)

read_thread : (n : ℕ) → n < number_limit → literal_in (262144 + n) ≡ Plain (ThreadKey n)
read_thread n h =
    let x : ℕ = 262144 + n in
    other_code x n true false (omega arith) (eq-eqb (x / 65536 % 2) 0 (omega arith)) (le-ltb x 262144 (omega arith)) (omega arith)

read_barred_thread : (n : ℕ) → n < number_limit → literal_in (262144 + n + 65536) ≡ Barred (ThreadKey n)
read_barred_thread n h =
    let x : ℕ = 262144 + n + 65536 in
    other_code x n false false (omega arith) (ne_eqb (x / 65536 % 2) 0 (λ q. omega arith)) (le-ltb x 262144 (omega arith)) (omega arith)

-- a key that was handed out has a number of 16 bits, below the number of its kind handed out
issued_short : (i : Issued) (a : Atom) → issued_to i a ≡ true → number_of a < number_limit
unfolding issued_to
issued_short i a e = ltb-true (number_of a) number_limit (and_left (ltb (number_of a) number_limit) (ltb (number_of a) (issued_of i a)) e)

issued_lt : (i : Issued) (a : Atom) → issued_to i a ≡ true → number_of a < issued_of i a
unfolding issued_to
issued_lt i a e = ltb-true (number_of a) (issued_of i a) (and_right (ltb (number_of a) number_limit) (ltb (number_of a) (issued_of i a)) e)

pub literal_read : (i : Issued) → i.segments ≤ most_segments → i.defined ≤ most_defined → (x : Literal) → issued_to i (atom_of x) ≡ true
    → literal_in (literal_cell x) ≡ x
literal_read i s d (Plain (User n)) e = read_user n (issued_short i (User n) e)
literal_read i s d (Plain (ThreadKey n)) e = read_thread n (issued_short i (ThreadKey n) e)
literal_read i s d (Plain (SegmentKey n)) e = let l : n < i.segments = issued_lt i (SegmentKey n) e in read_segment n (omega arith)
literal_read i s d (Plain (Defined n)) e = let l : n < i.defined = issued_lt i (Defined n) e in read_defined n (omega arith)
literal_read i s d (Barred (User n)) e = read_barred_user n (issued_short i (User n) e)
literal_read i s d (Barred (ThreadKey n)) e = read_barred_thread n (issued_short i (ThreadKey n) e)
literal_read i s d (Barred (SegmentKey n)) e = let l : n < i.segments = issued_lt i (SegmentKey n) e in read_barred_segment n (omega arith)
literal_read i s d (Barred (Defined n)) e = let l : n < i.defined = issued_lt i (Defined n) e in read_barred_defined n (omega arith)
