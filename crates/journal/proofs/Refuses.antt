-- Every file is readable or one of the five cases, and each case has its verdict; so the verdict tells the case.
use Prim.Native.Nat.{ℕ, ◌≤◌}
use mathlib.Core.Path.{◌≡◌, refl, sym, subst}
use mathlib.Core.Bool.{Bool, true, false}
use mathlib.Core.List.{List, ◌∷◌}
use mathlib.Core.Logic.{◌⊎◌, inl, inr}
use native.Mathlib.Omega.{arith}
use lib.ListN.{length, drop}
use lib.Dec.{ltb, eqb}
use borrow.Author.Tests.{lt-ltb, le-ltb, ltb-true, ltb-false, le-leb, eq-eqb, ne_eqb, eqb-true, eqb-false}
use Rattle.std.specs.Prelude.{Ok, Err}
use Rattle.journal.specs.declared.file.Refusal.{Refusal}
use Rattle.journal.specs.declared.file.Refusal.TheVariants.{NotJournal, OtherVersion, Corrupt}
use Rattle.journal.specs.Format.{Bytes, file_version, most_bytes, Written}
use Rattle.journal.specs.Reading.{Verdict, word, whole_from, marked, verdict_of}
use Rattle.journal.specs.Theorems.Refuses.{Marked, RefusedBy, unmarked, short, version, long, broken, RefusedExactly}
use Rattle.journal.proofs.Files.{mark_of, shut_file}
use Rattle.journal.proofs.WritesBack.{head_three, readable_exactly}

module _ (s : List ℕ) (bytes : Bytes s) where
  -- ---- the tests, as they are stated

  is_marked : marked s ≡ true → Marked s
  is_marked h = record { rest = drop 3 s; mark = sym (head_three s (mark_of s h)) }

  marked_is : Marked s → marked s ≡ true
  marked_is m = subst (λ (t : List ℕ). marked t ≡ true) (sym m.mark) (rw (le-leb 3 (length (75 ∷ 76 ∷ 68 ∷ m.rest)) (omega arith)))

  unmarked_is : (Marked s → ⊥) → marked s ≡ false
  unmarked_is no-mark = go (marked s) refl
    where
      go : (b : Bool) → marked s ≡ b → b ≡ false
      go true e = absurd (no-mark (is_marked e))
      go false e = refl

  broken_is : Marked s → 7 ≤ length s → word s 3 ≡ file_version → length s ≤ most_bytes → (Written s → ⊥) → whole_from (word s 5) s 7 ≡ false
  broken_is m l v k no-file = go (whole_from (word s 5) s 7) refl
    where
      go : (b : Bool) → whole_from (word s 5) s 7 ≡ b → b ≡ false
      go true e = absurd (no-file ((readable_exactly s bytes).0 (shut_file s (record { mark = marked_is m; least = l; version = v; most = k; records = e }))))
      go false e = refl

  -- ---- each case has its verdict

  refused : {f : Refusal} → RefusedBy s f → verdict_of s ≡ Err f
  unfolding verdict_of
  refused (unmarked n) = rw (unmarked_is n)
  refused (short m l) = rw (marked_is m, lt-ltb (length s) 7 l)
  refused (version m l v) = rw (marked_is m, le-ltb (length s) 7 l, ne_eqb (word s 3) file_version v)
  refused (long m l v k) = rw (marked_is m, le-ltb (length s) 7 l, eq-eqb (word s 3) file_version v, lt-ltb most_bytes (length s) k)
  refused (broken m l v k n) =
      rw (marked_is m, le-ltb (length s) 7 l, eq-eqb (word s 3) file_version v, le-ltb most_bytes (length s) k, broken_is m l v k n)

  -- ---- every file is one of them, or readable

  abbrev Case : Type 0
  Case = ((f : Refusal) × RefusedBy s f) ⊎ (verdict_of s ≡ Ok tt)

  by_records : Marked s → 7 ≤ length s → word s 3 ≡ file_version → length s ≤ most_bytes → (v : Verdict) → verdict_of s ≡ v → Case
  by_records m l v k (Ok tt) e = inr e
  by_records m l v k (Err f) e = inl (Corrupt, broken m l v k (λ w. cc ((readable_exactly s bytes).1 w)))

  by_length : Marked s → 7 ≤ length s → word s 3 ≡ file_version → (b : Bool) → ltb most_bytes (length s) ≡ b → Case
  by_length m l v true e = inl (Corrupt, long m l v (ltb-true most_bytes (length s) e))
  by_length m l v false e = by_records m l v (ltb-false most_bytes (length s) e) (verdict_of s) refl

  by_version : Marked s → 7 ≤ length s → (b : Bool) → eqb (word s 3) file_version ≡ b → Case
  by_version m l true e = by_length m l (eqb-true (word s 3) file_version e) (ltb most_bytes (length s)) refl
  by_version m l false e = inl (OtherVersion, version m l (eqb-false (word s 3) file_version e))

  by_head : Marked s → (b : Bool) → ltb (length s) 7 ≡ b → Case
  by_head m true e = inl (Corrupt, short m (ltb-true (length s) 7 e))
  by_head m false e = by_version m (ltb-false (length s) 7 e) (eqb (word s 3) file_version) refl

  by_mark : (b : Bool) → marked s ≡ b → Case
  by_mark true e = by_head (is_marked e) (ltb (length s) 7) refl
  by_mark false e = inl (NotJournal, unmarked (λ m. cc (marked_is m)))

pub refused_exactly : RefusedExactly
refused_exactly s bytes f = (λ h. by_verdict (by_mark s bytes (marked s) refl) h, refused s bytes)
  where
    by_verdict : Case s bytes → verdict_of s ≡ Err f → RefusedBy s f
    by_verdict (inl (g, by)) h = let e : g ≡ f = cc (refused s bytes by) in subst (λ (x : Refusal). RefusedBy s x) e by
    by_verdict (inr e) h = cc
