-- The refusals of a file that is too long come before its records, and rest on its first five bytes.
use Rattle.std.specs.Prelude.{Err}
use mathlib.Core.Path.{◌≡◌, ap, sym, ◌∙◌}
use mathlib.Core.Bool.{true, false, cond, ◌&&◌}
use mathlib.Core.List.{List}
use Prim.Native.Nat.{ℕ, suc, ◌<◌, ◌≤◌}
use native.Mathlib.Nat.{le_of_lt}
use native.Mathlib.Omega.{arith}
use lib.Dec.{leb, ltb, eqb}
use lib.ListN.{length, get_or, take}
use lib.Seq.{get_or-take, length-take-le, take_all}
use borrow.Author.Tests.{leb-true, leb-false, le-leb, lt-ltb, le-ltb}
use Rattle.journal.specs.declared.file.Refusal.{Refusal}
use Rattle.journal.specs.declared.file.Refusal.TheVariants.{NotJournal, OtherVersion, Corrupt}
use Rattle.journal.specs.Format.{most_bytes}
use Rattle.journal.specs.Reading.{word, current, verdict_of}
use Rattle.journal.proofs.Files.{word_take}
use Rattle.base.proofs.Lists.{case_bool}
use Rattle.transcript.specs.Lines.{file_line, printed}
use Rattle.transcript.specs.Theorems.Enough.{Enough}

-- of the first three bytes, and of the version
refusal : ℕ → ℕ → ℕ → ℕ → Refusal
refusal k l d v = cond (eqb k 75 && eqb l 76 && eqb d 68) (cond (eqb v 2) Corrupt OtherVersion) NotJournal

verdict_long : (s : List ℕ) → most_bytes < length s → verdict_of s ≡ Err (refusal (get_or s 0 0) (get_or s 1 0) (get_or s 2 0) (word s 3))
unfolding verdict_of refusal
verdict_long s h =
    let three : leb 3 (length s) ≡ true = le-leb 3 (length s) (omega arith) in
    let seven : ltb (length s) 7 ≡ false = le-ltb (length s) 7 (omega arith) in
    let long : ltb most_bytes (length s) ≡ true = lt-ltb most_bytes (length s) h in
    case_bool (eqb (get_or s 0 0) 75 && eqb (get_or s 1 0) 76 && eqb (get_or s 2 0) 68)
    (λ m. case_bool (current s) (λ v. simp (three, seven, long, m, v)) (λ v. simp (three, seven, long, m, v)))
    (λ m. simp (three, seven, long, m))

printed_long : (s : List ℕ) → most_bytes < length s → printed s ≡ file_line (refusal (get_or s 0 0) (get_or s 1 0) (get_or s 2 0) (word s 3))
unfolding printed
printed_long s h = rw (verdict_long s h)

refusal_same : (n : ℕ) (s : List ℕ) → 4 < n
    → refusal (get_or (take n s) 0 0) (get_or (take n s) 1 0) (get_or (take n s) 2 0) (word (take n s) 3) ≡ refusal (get_or s 0 0) (get_or s 1 0) (get_or s 2 0) (word s 3)
refusal_same n s h = rw (get_or-take n s 0 0 (omega arith), get_or-take n s 1 0 (omega arith), get_or-take n s 2 0 (omega arith), word_take n s 3 (omega arith))

cut : (n : ℕ) (s : List ℕ) → most_bytes < n → n ≤ length s → printed (take n s) ≡ printed s
cut n s h k =
    let l : length (take n s) ≡ n = length-take-le n s k in
    printed_long (take n s) (omega arith) ∙ ap file_line (refusal_same n s (omega arith)) ∙ sym (printed_long s (omega arith))

-- a shorter file is read whole
either : (n : ℕ) (s : List ℕ) → most_bytes < n → printed (take n s) ≡ printed s
either n s h = case_bool (leb n (length s)) (λ e. cut n s h (leb-true n (length s) e)) (λ e. ap printed (take_all n s (le_of_lt (leb-false n (length s) e))))

pub enough : Enough
enough s = either (suc most_bytes) s (omega arith)
