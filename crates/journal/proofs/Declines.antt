-- Every append is one of the five cases, and each case has its answer; so the answer tells the case.
use Prim.Native.Nat.{ℕ, ◌<◌, ◌≤◌}
use mathlib.Core.Path.{◌≡◌, refl, sym, ap, subst, ◌∙◌}
use mathlib.Core.Bool.{Bool, true, false, ◌||◌, or-true}
use mathlib.Core.List.{List}
use mathlib.Core.Logic.{◌⊎◌, inl, inr}
use lib.ListN.{length, take}
use lib.Dec.{ltb}
use borrow.Author.Tests.{lt-ltb, le-ltb, ltb-true, ltb-false}
use Rattle.std.specs.Prelude.{Ok, Err}
use Rattle.call.specs.Calls.{Call}
use Rattle.journal.specs.declared.file.Refusal.{Refusal}
use Rattle.journal.specs.declared.file.Refusal.TheVariants.{Full, Corrupt}
use Rattle.journal.specs.Format.{most_bytes, is_fit}
use Rattle.journal.specs.Reading.{Verdict, verdict_of}
use Rattle.journal.specs.Appending.{length_with, append_answer}
use Rattle.journal.specs.Theorems.Declines.{DeclinedBy, beyond, file, unfit, full, DeclinedExactly, AcceptedExactly}
use Rattle.journal.proofs.AppendAnswers as cases
use Rattle.journal.proofs.Files.{new_length, accepted, shut_file}

module _ (d : List ℕ) (len : ℕ) (r : Call) where
  -- ---- each case has its answer

  too_long_lem : (length d < length_with len r) ⊎ (most_bytes < length_with len r) → ltb (length d) (length_with len r) || ltb most_bytes (length_with len r) ≡ true
  too_long_lem (inl h) = rw (lt-ltb (length d) (length_with len r) h)
  too_long_lem (inr h) = rw (lt-ltb most_bytes (length_with len r) h) (or-true (ltb (length d) (length_with len r)))

  declined : {f : Refusal} → DeclinedBy d len r f → append_answer d len r ≡ Err f
  declined (beyond h) = sym (cases.beyond d len r h)
  declined (file f i h) = sym (cases.file_refused d len r i f (sym h))
  declined (unfit i h n) = sym (cases.unfit d len r i (sym h) (is_fit r) refl n)
  declined (full i h y n) = sym (cases.no_room_lem d len r i (sym h) (is_fit r) refl y (too_long_lem n))

  -- ---- every append is one of them, or accepted

  abbrev Case : Type 0
  Case = ((f : Refusal) × DeclinedBy d len r f) ⊎ (append_answer d len r ≡ Ok (length_with len r))

  by_room : len ≤ length d → verdict_of (take len d) ≡ Ok tt → is_fit r ≡ true → (x y : Bool) → ltb (length d) (length_with len r) ≡ x → ltb most_bytes (length_with len r) ≡ y → Case
  by_room i h fit true y e g = inl (Full, full i h fit (inl (ltb-true (length d) (length_with len r) e)))
  by_room i h fit false true e g = inl (Full, full i h fit (inr (ltb-true most_bytes (length_with len r) g)))
  by_room i h fit false false e g = inr (sym (cases.accepts d len r i (sym h) (is_fit r) refl fit (rw (e, g))))

  by_fit : len ≤ length d → verdict_of (take len d) ≡ Ok tt → (x : Bool) → is_fit r ≡ x → Case
  by_fit i h true e = by_room i h e (ltb (length d) (length_with len r)) (ltb most_bytes (length_with len r)) refl refl
  by_fit i h false e = inl (Corrupt, unfit i h e)

  by_file : len ≤ length d → (v : Verdict) → verdict_of (take len d) ≡ v → Case
  by_file i (Ok tt) e = by_fit i e (is_fit r) refl
  by_file i (Err f) e = inl (f, file f i e)

  by_length : (x : Bool) → ltb (length d) len ≡ x → Case
  by_length true e = inl (Corrupt, beyond (ltb-true (length d) len e))
  by_length false e = by_file (ltb-false (length d) len e) (verdict_of (take len d)) refl

pub declined_exactly : DeclinedExactly
declined_exactly d len r f = (λ h. by_answer (by_length d len r (ltb (length d) len) refl) h, declined d len r)
  where
    by_answer : Case d len r → append_answer d len r ≡ Err f → DeclinedBy d len r f
    by_answer (inl (g, by)) h = let e : g ≡ f = cc (declined d len r by) in subst (λ (x : Refusal). DeclinedBy d len r x) e by
    by_answer (inr e) h = cc

pub accepted_exactly : AcceptedExactly
accepted_exactly d len r n = (
  λ h. let ok = accepted d len r n h in
      record { inside = ok.inside; readable = shut_file (take len d) ok.file; fit = ok.fit; room = ok.room; most = ok.most; size = new_length d len r n h },
  λ t. sym (cases.accepts d len r t.inside (sym t.readable) (is_fit r) refl t.fit
      (rw (le-ltb (length d) (length_with len r) t.room, le-ltb most_bytes (length_with len r) t.most))) ∙ ap Ok (sym t.size),
)
