-- The bytes of a word, of a record and of all records that were read are those that stood there; the head's seven bytes
-- too.
use Prim.Native.Nat.{ℕ, zero, suc, ◌+◌, ◌<◌, ◌≤◌}
use mathlib.Core.Path.{◌≡◌, refl, sym, ap, subst, ◌∙◌}
use mathlib.Core.Bool.{true}
use mathlib.Core.List.{List, ◌∷◌, ◌++◌}
use native.Mathlib.Omega.{arith}
use lib.ListN.{length, get_or, take, drop, length-drop, take-append-drop}
use lib.Seq.{drop-cons, drop-length, drop-drop, length-take-le}
use borrow.Author.Tests.{eqb-true}
use Rattle.std.specs.Prelude.{Ok}
use Rattle.journal.specs.Format.{Bytes, low, high, record_bytes, all_bytes, file_bytes, most_bytes, AllRecordable}
use Rattle.journal.specs.Reading.{word, record_of, next_of, whole_at, whole_from, records_from, records_of, verdict_of}
use Rattle.journal.specs.Theorems.WritesBack.{WritesBack, ReadableExactly}
use Rattle.journal.proofs.ByteLists.{bytes_take, bytes_drop}
use Rattle.base.proofs.Truth.{and_left, and_right}
use Rattle.journal.proofs.Files.{Whole, whole, Mark, mark_of, File, open_file}
use Rattle.journal.proofs.ReadsBack.{written_readable}

records_length : (n : ℕ) (s : List ℕ) (at : ℕ) → length (records_from n s at) ≡ n
unfolding records_from
records_length zero s at = refl
records_length (suc n) s at = ap suc (records_length n s (next_of s at))

module _ (s : List ℕ) (bytes : Bytes s) where
  -- the two bytes of the word at i
  word_again : (i j : ℕ) → j ≡ i + 2 → i + 1 < length s → low (word s i) ∷ high (word s i) ∷ drop j s ≡ drop i s
  word_again i j e h =
      let l : low (word s i) ≡ get_or s i 0 = omega (arith, bytes i) in
      let u : high (word s i) ≡ get_or s (i + 1) 0 = omega (arith, bytes i) in
      let e₁ : i + 1 ≡ suc i = omega arith in
      let e₂ : j ≡ suc (suc i) = omega arith in
      rw (l, u, e₁, e₂) (sym (drop-cons s i 0 (omega arith) ∙ ap (λ (t : List ℕ). get_or s i 0 ∷ t) (drop-cons s (suc i) 0 (omega arith))))

  record_again : (at : ℕ) → Whole s at → record_bytes (record_of s at) ++ drop (next_of s at) s ≡ drop at s
  record_again at w =
      let n : ℕ = word s (at + 7) in
      let t : length (take n (drop (at + 9) s)) ≡ n = length-take-le n (drop (at + 9) s) (omega (arith, w.end, length-drop (at + 9) s)) in
      let e : at + 1 ≡ suc at = omega arith in
      rw (
        t,
        ← drop-drop n (at + 9) s,
        take-append-drop n (drop (at + 9) s),
        word_again (at + 7) (at + 9) (omega arith) (omega (arith, w.head)),
        word_again (at + 5) (at + 7) (omega arith) (omega (arith, w.head)),
        word_again (at + 3) (at + 5) (omega arith) (omega (arith, w.head)),
        word_again (at + 1) (at + 3) (omega arith) (omega (arith, w.head)),
        e,
      ) (sym (drop-cons s at 0 (omega (arith, w.head))))

  all_again : (n at : ℕ) → whole_from n s at ≡ true → all_bytes (records_from n s at) ≡ drop at s
  unfolding whole_from records_from
  all_again zero at h = rw (eqb-true at (length s) h) (sym (drop-length s))
  all_again (suc n) at h =
      rw (all_again n (next_of s at) (and_right (whole_at s at) (whole_from n s (next_of s at)) h))
      (record_again at (whole s at (and_left (whole_at s at) (whole_from n s (next_of s at)) h)))

  all_recordable : (n at : ℕ) → whole_from n s at ≡ true → AllRecordable (records_from n s at)
  unfolding whole_from records_from
  all_recordable zero at h = tt
  all_recordable (suc n) at h =
      let w = whole s at (and_left (whole_at s at) (whole_from n s (next_of s at)) h) in
      let t : length (take (word s (at + 7)) (drop (at + 9) s)) ≡ word s (at + 7) = length-take-le (word s (at + 7)) (drop (at + 9) s) (omega (arith, w.end, length-drop (at + 9) s)) in (
        record {
          fit = rw t w.fit;
          letter_byte = bytes at;
          a_word = omega (arith, bytes (at + 1), bytes (at + 1 + 1));
          b_word = omega (arith, bytes (at + 3), bytes (at + 3 + 1));
          c_word = omega (arith, bytes (at + 5), bytes (at + 5 + 1));
          text_bytes = bytes_take (word s (at + 7)) (drop (at + 9) s) (bytes_drop (at + 9) s bytes);
        },
        all_recordable n (next_of s at) (and_right (whole_at s at) (whole_from n s (next_of s at)) h),
      )

pub head_three : (s : List ℕ) → Mark s → 75 ∷ 76 ∷ 68 ∷ drop 3 s ≡ s
head_three s m =
    let least = m.least in
    let all : get_or s 0 0 ∷ get_or s 1 0 ∷ get_or s 2 0 ∷ drop 3 s ≡ s = rw (← drop-cons s 2 0 least, ← drop-cons s 1 0 (omega arith)) (sym (drop-cons s 0 0 (omega arith))) in
    rw (m.k, m.l, m.d) at all

head_five : (s : List ℕ) → Bytes s → File s → 75 ∷ 76 ∷ 68 ∷ 2 ∷ 0 ∷ drop 5 s ≡ s
head_five s bytes f =
    let least = f.least in
    let v₀ : get_or s 3 0 ≡ 2 = omega (arith, f.version, bytes 3) in
    let v₁ : get_or s 4 0 ≡ 0 = omega (arith, f.version, bytes 3) in
    let two : get_or s 3 0 ∷ get_or s 4 0 ∷ drop 5 s ≡ drop 3 s = rw (← drop-cons s 4 0 (omega arith)) (sym (drop-cons s 3 0 (omega arith))) in
    let version : 2 ∷ 0 ∷ drop 5 s ≡ drop 3 s = rw (v₀, v₁) at two in
    rw version (head_three s (mark_of s f.mark))

pub writes_back : WritesBack
unfolding file_bytes records_of
writes_back s bytes h =
    let f = open_file s h in
    rw (records_length (word s 5) s 7, all_again s bytes (word s 5) 7 f.records, word_again s bytes 5 7 (omega arith) (omega (arith, f.least))) (head_five s bytes f)

pub records_recordable : (s : List ℕ) → Bytes s → verdict_of s ≡ Ok tt → AllRecordable (records_of s)
unfolding records_of
records_recordable s bytes h = all_recordable s bytes (word s 5) 7 (open_file s h).records

pub readable_exactly : ReadableExactly
readable_exactly s bytes = (
  λ h. record { records = records_of s; recordable = records_recordable s bytes h; bytes = sym (writes_back s bytes h); most = (open_file s h).most },
  λ w. let e = w.bytes in subst (λ (t : List ℕ). verdict_of t ≡ Ok tt) (sym e) (written_readable w.records w.recordable (subst (λ (t : List ℕ). length t ≤ most_bytes) e w.most)),
)
