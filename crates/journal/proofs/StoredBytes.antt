-- Runs of bytes that are stored: one more of a run, two runs, and the stores of an append.
use Prim.Native.Nat.{ℕ, suc, ◌+◌, ◌<◌, ◌≤◌}
use mathlib.Core.Path.{◌≡◌, refl, sym, ◌∙◌}
use mathlib.Core.List.{List, [], ◌∷◌, ◌++◌}
use native.Mathlib.Nat.{add-zero, le_of_lt}
use native.Mathlib.Numerals.{add-one}
use native.Mathlib.Omega.{arith}
use lib.ListN.{length, get_or, take, drop, set, take-append-drop}
use lib.Seq.{sets, sets-eq, take-suc, length-take-le}
use borrow.Rule.Slice.PartMut.{put_mid}
use Rattle.std.proofs.lemmas.Slice.{take-put_mid, drop-put_mid}
use Rattle.call.specs.declared.request.Fields.{Fields}
use Rattle.call.specs.Calls.{call_from}
use Rattle.journal.specs.Format.{word_bytes}
use Rattle.journal.specs.Reading.{word}
use Rattle.journal.specs.Appending.{with_record}

pub sets_append : (xs ys l : List ℕ) (i : ℕ) → sets l i (xs ++ ys) ≡ sets (sets l i xs) (i + length xs) ys
sets_append [] ys l i = rw (add-zero i)
sets_append (x ∷ xs) ys l i = let e : i + suc (length xs) ≡ suc i + length xs = omega arith in rw e (sets_append xs ys _ (suc i))

-- one more byte is stored
pub store_more : (d at : List ℕ) (i : ℕ) (s : List ℕ) (j : ℕ) → j < length s → at ≡ sets d i (take j s)
    → set at (i + j) (get_or s j 0) ≡ sets d i (take (j + 1) s)
store_more d at i s j h e =
    rw (e, add-one j, take-suc s j 0 h, sets_append (take j s) (get_or s j 0 ∷ []) d i, length-take-le j s (le_of_lt h))

-- a run is copied to its place
pub run_copied : (d e s : List ℕ) (at k : ℕ) → at + length s ≤ length d → k ≡ length s → e ≡ s → put_mid at k d e ≡ sets d at s
run_copied d e s at k room ek es =
    let n = at + length s in
    let whole : List ℕ = put_mid at (length s) d s in
    let front : take n whole ≡ take at d ++ s = take-put_mid at (length s) d s n refl (omega arith) in
    let back : drop n whole ≡ drop n d = drop-put_mid at (length s) d s n (omega arith) (omega arith) refl in
    let parts : whole ≡ take at d ++ s ++ drop n d = rw (front, back) at (sym (take-append-drop n whole)) in
    rw (ek, es) (parts ∙ sym (sets-eq s d at room))

-- the stores of an append are `with_record`
pub stored : (d d₁ d₂ d₃ d₄ d₅ d₆ t : List ℕ) (len w : ℕ) (f : Fields) → w ≡ word d 5
    → d₁ ≡ sets d 5 (word_bytes (w + 1)) → d₂ ≡ sets (set d₁ len f.letter) (len + 1) (word_bytes f.a)
    → d₃ ≡ sets d₂ (len + 3) (word_bytes f.b) → d₄ ≡ sets d₃ (len + 5) (word_bytes f.c)
    → d₅ ≡ sets d₄ (len + 7) (word_bytes (length t)) → d₆ ≡ sets d₅ (len + 9) t → d₆ ≡ with_record d len (call_from f t)
unfolding with_record
stored d d₁ d₂ d₃ d₄ d₅ d₆ t len w f ew e₁ e₂ e₃ e₄ e₅ e₆ =
    let n₁ : len + 1 ≡ suc len = omega arith in
    let n₃ : len + 3 ≡ suc (suc (suc len)) = omega arith in
    let n₅ : len + 5 ≡ suc (suc (suc (suc (suc len)))) = omega arith in
    let n₇ : len + 7 ≡ suc (suc (suc (suc (suc (suc (suc len)))))) = omega arith in
    let n₉ : len + 9 ≡ suc (suc (suc (suc (suc (suc (suc (suc (suc len)))))))) = omega arith in
    rw (e₆, e₅, e₄, e₃, e₂, e₁, ew, n₉, n₇, n₅, n₃, n₁)
