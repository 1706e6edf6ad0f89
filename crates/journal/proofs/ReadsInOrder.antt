-- A cursor steps from whole record to whole record, and stays at the end: by induction on the number of calls.
use Prim.Native.Nat.{ℕ, zero, suc, ◌+◌, ◌-◌}
use mathlib.Core.Path.{◌≡◌, refl}
use mathlib.Core.Bool.{true}
use mathlib.Core.List.{List, [], map}
use native.Mathlib.Omega.{arith}
use lib.ListN.{length}
use borrow.Author.Tests.{eqb-true}
use Rattle.base.proofs.Truth.{and_left, and_right}
use Rattle.journal.specs.Format.{file_head_size, count_at}
use Rattle.journal.specs.Reading.{word, next_of, whole_at, whole_from, records_from, records_of}
use Rattle.journal.specs.Theorems.ReadsInOrder.{next_answers, answer_in, records_then_end, ReadsInOrder}
use Rattle.journal.proofs.RecordSizes.{found_record, found_end}
use Rattle.journal.proofs.Files.{open_file}

at_end : (n : ℕ) (s : List ℕ) → map (answer_in s) (next_answers n s (length s)) ≡ records_then_end n []
unfolding next_answers records_then_end
at_end zero s = refl
at_end (suc n) s = rw (← found_end s (length s) (omega arith), at_end n s)

from_record : (n k : ℕ) (s : List ℕ) (at : ℕ) → whole_from k s at ≡ true → map (answer_in s) (next_answers n s at) ≡ records_then_end n (records_from k s at)
unfolding next_answers records_then_end records_from whole_from
from_record n zero s at h = rw (eqb-true at (length s) h) (at_end n s)
from_record zero (suc k) s at h = refl
from_record (suc n) (suc k) s at h =
    let t : at + 9 + word s (at + 7) - (at + 9) ≡ word s (at + 7) = omega arith in
    rw (
      found_record s at (and_left (whole_at s at) (whole_from k s (next_of s at)) h),
      from_record n k s (next_of s at) (and_right (whole_at s at) (whole_from k s (next_of s at)) h),
      t,
    )

pub reads_in_order : ReadsInOrder
unfolding records_of
reads_in_order =
    record {
      readable = λ s at n h. rw h (from_record n (word s count_at) s file_head_size (open_file s h).records);
      refused = λ s n f h. rw h (at_end n s);
      unopened = λ s n. at_end n s;
    }
