-- What a whole record, a readable file and an accepted append are, taken apart into facts with names.
use Rattle.std.specs.Prelude.{Option, None, Some, Ok}
use Prim.Native.Nat.{ℕ, zero, suc, ◌+◌, ◌*◌, ◌<◌, ◌≤◌}
use mathlib.Core.Path.{◌≡◌, refl, ap}
use mathlib.Core.Bool.{true, not, ◌&&◌}
use mathlib.Core.List.{List}
use native.Mathlib.Omega.{arith}
use lib.ListN.{length, get_or, take}
use lib.Dec.{leb, ltb, eqb}
use lib.Seq.{get_or-take, length-take-le}
use borrow.Author.Tests.{eqb-true, leb-true, ltb-false, eq-eqb, le-ltb, not-false}
use Rattle.call.specs.Calls.{Call, record_fits}
use Rattle.base.specs.Conditions.{first_refusal}
use Rattle.journal.specs.declared.file.Refusal.{Refusal}
use Rattle.journal.specs.Format.{file_version, most_bytes, is_fit}
use Rattle.journal.specs.Reading.{word, next_of, whole_at, whole_from, marked, current, file_conditions, verdict, verdict_of}
use Rattle.journal.specs.Appending.{length_with, own_conditions, append_conditions, answer, append_answer}
use Rattle.base.proofs.Truth.{and_left, and_right, neither}
use Rattle.base.proofs.Conditions.{AllFail, all_fail, fail_parts, none_first}
use Rattle.journal.proofs.FileVerdicts.{readable_none}

-- ---- a whole record, and several

pub record Whole (s : List ℕ) (at : ℕ) : Type 0 where
  pub head : at + 9 ≤ length s
  pub fit : record_fits (get_or s at 0) (word s (at + 1)) (word s (at + 3)) (word s (at + 5)) (word s (at + 7)) ≡ true
  pub end : next_of s at ≤ length s

pub whole : (s : List ℕ) (at : ℕ) → whole_at s at ≡ true → Whole s at
unfolding whole_at
whole s at h =
    let fits = record_fits (get_or s at 0) (word s (at + 1)) (word s (at + 3)) (word s (at + 5)) (word s (at + 7)) in
    let ends = leb (next_of s at) (length s) in
    let rest : fits && ends ≡ true = and_right (leb (at + 9) (length s)) (fits && ends) h in
    record {
      head = leb-true (at + 9) (length s) (and_left (leb (at + 9) (length s)) (fits && ends) h);
      fit = and_left fits ends rest;
      end = leb-true (next_of s at) (length s) (and_right fits ends rest);
    }

-- each record has nine bytes or more
count_bound : (n : ℕ) (s : List ℕ) (at : ℕ) → whole_from n s at ≡ true → at + 9 * n ≤ length s
unfolding whole_from
count_bound zero s at h = omega (arith, eqb-true at (length s) h)
count_bound (suc n) s at h = omega (arith, count_bound n s (next_of s at) (and_right (whole_at s at) (whole_from n s (next_of s at)) h))

-- ---- a readable file

pub record Mark (s : List ℕ) : Type 0 where
  pub least : 3 ≤ length s
  pub k : get_or s 0 0 ≡ 75
  pub l : get_or s 1 0 ≡ 76
  pub d : get_or s 2 0 ≡ 68

pub mark_of : (s : List ℕ) → marked s ≡ true → Mark s
mark_of s h =
    let k = eqb (get_or s 0 0) 75 in let l = eqb (get_or s 1 0) 76 in let d = eqb (get_or s 2 0) 68 in
    let all : k && l && d ≡ true = and_right (leb 3 (length s)) (k && l && d) h in
    record {
      least = leb-true 3 (length s) (and_left (leb 3 (length s)) (k && l && d) h);
      k = eqb-true (get_or s 0 0) 75 (and_left k l (and_left (k && l) d all));
      l = eqb-true (get_or s 1 0) 76 (and_right k l (and_left (k && l) d all));
      d = eqb-true (get_or s 2 0) 68 (and_right (k && l) d all);
    }

pub record File (s : List ℕ) : Type 0 where
  pub mark : marked s ≡ true
  pub least : 7 ≤ length s
  pub version : word s 3 ≡ file_version
  pub most : length s ≤ 65535
  pub records : whole_from (word s 5) s 7 ≡ true

passed : (s : List ℕ) → AllFail (file_conditions s) → File s
passed s a =
    record {
      mark = not-false (marked s) a.0;
      least = ltb-false (length s) 7 a.1.0;
      version = eqb-true (word s 3) file_version (not-false (current s) a.1.1.0);
      most = ltb-false most_bytes (length s) a.1.1.1.0;
      records = not-false (whole_from (word s 5) s 7) a.1.1.1.1.0;
    }

pub open_file : (s : List ℕ) → verdict_of s ≡ Ok tt → File s
unfolding verdict_of
open_file s h = passed s (all_fail (file_conditions s) (readable_none (first_refusal (file_conditions s)) h))

pub shut_file : (s : List ℕ) → File s → verdict_of s ≡ Ok tt
unfolding verdict_of
shut_file s f =
    ap verdict (none_first (file_conditions s)
    (ap not f.mark, (le-ltb (length s) 7 f.least, (ap not (eq-eqb (word s 3) file_version f.version), (le-ltb most_bytes (length s) f.most, (ap not f.records, tt))))))

pub count_small : (s : List ℕ) → File s → word s 5 ≤ 7280
count_small s f = omega (arith, count_bound (word s 5) s 7 f.records, f.most)

-- ---- an accepted append

pub word_take : (n : ℕ) (s : List ℕ) (i : ℕ) → i + 1 < n → word (take n s) i ≡ word s i
word_take n s i h = rw (get_or-take n s i 0 (omega arith), get_or-take n s (i + 1) 0 h)

length_none : (n e : ℕ) (o : Option Refusal) → answer n o ≡ Ok e → o ≡ None
length_none n e None h = refl
length_none n e (Some f) h = cc

length_is : (n e : ℕ) (o : Option Refusal) → answer n o ≡ Ok e → e ≡ n
length_is n e None h = cc
length_is n e (Some f) h = cc

pub new_length : (d : List ℕ) (len : ℕ) (r : Call) (e : ℕ) → append_answer d len r ≡ Ok e → e ≡ length_with len r
unfolding append_answer
new_length d len r e h = length_is (length_with len r) e (first_refusal (append_conditions d len r)) h

pub record Accepted (d : List ℕ) (len : ℕ) (r : Call) : Type 0 where
  pub inside : len ≤ length d
  pub file : File (take len d)
  pub least : 7 ≤ len
  pub fit : is_fit r ≡ true
  pub room : length_with len r ≤ length d
  pub most : length_with len r ≤ 65535
  pub count : word (take len d) 5 ≡ word d 5

pub accepted : (d : List ℕ) (len : ℕ) (r : Call) (e : ℕ) → append_answer d len r ≡ Ok e → Accepted d len r
unfolding append_answer
accepted d len r e h =
    let a = all_fail (append_conditions d len r) (length_none (length_with len r) e (first_refusal (append_conditions d len r)) h) in
    let inside : len ≤ length d = ltb-false (length d) len a.0 in
    let parts = fail_parts (file_conditions (take len d)) (own_conditions d len r) a.1 in
    let f : File (take len d) = passed (take len d) parts.0 in
    let least : 7 ≤ len = omega (arith, f.least, length-take-le len d inside) in
    let full = neither (ltb (length d) (length_with len r)) (ltb most_bytes (length_with len r)) parts.1.1.0 in
    record {
      inside = inside;
      file = f;
      least = least;
      fit = not-false (is_fit r) parts.1.0;
      room = ltb-false (length d) (length_with len r) full.0;
      most = ltb-false most_bytes (length_with len r) full.1;
      count = word_take len d 5 (omega arith);
    }
