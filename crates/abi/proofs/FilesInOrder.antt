-- The cursor steps from whole record to whole record, and stays at the end: by induction on the number of calls.
use Prim.Native.Nat.{ℕ, zero, suc, ◌+◌}
use mathlib.Core.Path.{◌≡◌, refl}
use mathlib.Core.Bool.{true}
use mathlib.Core.List.{List, []}
use native.Mathlib.Omega.{arith}
use lib.ListN.{length, take, drop, length-drop}
use lib.Seq.{length-take-le}
use borrow.Author.Tests.{eqb-true}
use Rattle.base.proofs.Truth.{and_left, and_right}
use Rattle.journal.specs.declared.file.Refusal.{Refusal}
use Rattle.journal.specs.declared.file.Refusal.TheVariants.{Full, NotJournal, OtherVersion, Corrupt}
use Rattle.std.specs.Prelude.{Ok, Err}
use Rattle.journal.specs.Format.{file_head_size, count_at}
use Rattle.journal.specs.Verdicts.{refusal_number, verdict_number}
use Rattle.journal.specs.Reading.{Verdict, word, next_of, whole_at, whole_from, records_from, records_of, verdict_of}
use Rattle.journal.proofs.RecordSizes.{found_record, found_end}
use Rattle.journal.proofs.Files.{whole, open_file}
use Rattle.abi.specs.Theorems.FilesInOrder.{next_calls, left_for, FilesInOrder}

-- only a readable file is numbered 0
number_readable : (v : Verdict) → verdict_number v ≡ 0 → v ≡ Ok tt
number_readable (Ok tt) h = refl
number_readable (Err f) h = absurd (no_zero f h)
  where
    no_zero : (f : Refusal) → refusal_number f ≡ 0 → ⊥
    no_zero Full h = omega arith
    no_zero NotJournal h = omega arith
    no_zero OtherVersion h = omega arith
    no_zero Corrupt h = omega arith

at_end : (n : ℕ) (s : List ℕ) (at : ℕ) (old : List ℕ) → at ≡ length s → next_calls n s at old ≡ left_for n [] at old
unfolding next_calls left_for
at_end zero s at old e = refl
at_end (suc n) s at old e = rw (← found_end s at (omega arith), at_end n s at old e)

from_record : (n k : ℕ) (s : List ℕ) (at : ℕ) (old : List ℕ) → whole_from k s at ≡ true → next_calls n s at old ≡ left_for n (records_from k s at) at old
unfolding next_calls left_for records_from whole_from
from_record n zero s at old h = at_end n s at old (eqb-true at (length s) h)
from_record zero (suc k) s at old h = refl
from_record (suc n) (suc k) s at old h =
    let w = and_left (whole_at s at) (whole_from k s (next_of s at)) h in
    let t : length (take (word s (at + 7)) (drop (at + 9) s)) ≡ word s (at + 7) =
    length-take-le (word s (at + 7)) (drop (at + 9) s) (omega (arith, (whole s at w).end, length-drop (at + 9) s)) in
    rw (found_record s at w, t) (rw (from_record n k s (next_of s at) _ (and_right (whole_at s at) (whole_from k s (next_of s at)) h)))

pub files_in_order : FilesInOrder
unfolding records_of
files_in_order s at n old h =
    let r = number_readable (verdict_of s) h in
    rw r (from_record n (word s count_at) s file_head_size old (open_file s r).records)
