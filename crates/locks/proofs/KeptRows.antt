-- Closing up in place: rows that stay are stored from row 0 on, never beyond the row that is read, so that every row
-- still to come is as it was.
use mathlib.Core.Path.{◌≡◌, refl, sym, ap, ap₂, ◌∙◌}
use mathlib.Core.Bool.{Bool, true, false, not}
use mathlib.Core.List.{List, [], ◌∷◌, ◌++◌, append-nil}
use Prim.Native.Nat.{ℕ, suc, ◌+◌, ◌-◌, ◌≤◌, ◌<◌}
use native.Mathlib.Numerals.{add-one}
use native.Mathlib.Omega.{arith}
use lib.ListN.{length, get_or, set, take, length-append}
use lib.Seq.{sets, take-suc, get_or-set_other}
use Rattle.base.specs.Lists.{keep}
use Rattle.model.specs.Cells.{Table, row_at, used_rows}
use Rattle.model.specs.Stores.{end_rows}
use Rattle.base.proofs.Lists.{keep_append, case_bool}
use Rattle.locks.specs.Internal.{UsedCount, is_of, is_other, kept, ClosedUp, Dropped}
use Rattle.model.proofs.Refinement.ProductRows.{take_used}

module _ {A : Type 0} where
  -- one more at the end of a run
  pub sets_append : (l : List A) (i : ℕ) (vs : List A) (v : A) → sets l i (vs ++ v ∷ []) ≡ set (sets l i vs) (i + length vs) v
  sets_append l i [] v = let e : i + 0 ≡ i = omega arith in rw e
  sets_append l i (a ∷ vs) v =
      let e : suc i + length vs ≡ i + suc (length vs) = omega arith in
      sets_append (set l i a) (suc i) vs v ∙ ap (λ (k : ℕ). set (sets (set l i a) (suc i) vs) k v) e

  -- what is after a run is as it was
  pub sets_after : (l : List A) (i : ℕ) (vs : List A) (j : ℕ) (d : A) → i + length vs ≤ j → get_or (sets l i vs) j d ≡ get_or l j d
  sets_after l i [] j d h = refl
  sets_after l i (a ∷ vs) j d h = sets_after (set l i a) (suc i) vs j d (omega arith) ∙ get_or-set_other l i j a d (λ e. omega arith)

  pub keep_both : (p : A → Bool) (xs : List A) → length (keep p xs) + length (keep (λ x. not (p x)) xs) ≡ length xs
  keep_both p [] = refl
  keep_both p (x ∷ xs) =
      let e = keep_both p xs in
      case_bool (p x)
      (λ q. simp q (omega arith))
      (λ q. simp q (omega arith))

pub packing_start : {lock : ℕ} {t : Table} → ClosedUp lock 0 t t 0
packing_start = record { rows = refl; count = refl; low = omega arith }

kept_next : (lock : ℕ) (t : Table) (i : ℕ) → i < length t → kept lock (suc i) t ≡ kept lock i t ++ keep (is_other lock) (row_at t i ∷ [])
kept_next lock t i h = ap (keep (is_other lock)) (take-suc t i [] h) ∙ keep_append (is_other lock) (take i t) (row_at t i ∷ [])

module _ {lock : ℕ} {t t' : Table} {i to : ℕ} (inv : ClosedUp lock i t t' to) where
  pub still : row_at t' i ≡ row_at t i
  still =
      ap (λ (r : Table). row_at r i) inv.rows
      ∙ sets_after t 0 (kept lock i t) i [] (omega (arith, inv.count, inv.low))

  pub packing_skip : i < length t → is_of lock (row_at t' i) ≡ true → ClosedUp lock (i + 1) t t' to
  packing_skip h e =
      let q : is_other lock (row_at t i) ≡ false = rw (← still) (simp e) in
      let k : kept lock (i + 1) t ≡ kept lock i t = rw (add-one i) (kept_next lock t i h ∙ simp q (append-nil (kept lock i t))) in
      record {
        rows = inv.rows ∙ ap (sets t 0) (sym k);
        count = inv.count ∙ ap length (sym k);
        low = omega (arith, inv.low);
      }

  pub packing_keep : i < length t → is_of lock (row_at t' i) ≡ false → ClosedUp lock (i + 1) t (set t' to (row_at t' i)) (to + 1)
  packing_keep h e =
      let q : is_other lock (row_at t i) ≡ true = rw (← still) (simp e) in
      let k : kept lock (i + 1) t ≡ kept lock i t ++ row_at t i ∷ [] = rw (add-one i) (kept_next lock t i h ∙ simp q) in
      record {
        rows = rw (still, k, inv.rows, inv.count) (sym (sets_append t 0 (kept lock i t) (row_at t i) ∙ ap (λ (k : ℕ). set (sets t 0 (kept lock i t)) k (row_at t i)) (omega arith)));
        count = rw (k, length-append, inv.count);
        low = omega (arith, inv.low);
      }

pub packing_whole : {lock n m k : ℕ} {t t' : Table} → m ≡ n → ClosedUp lock m t t' k → ClosedUp lock n t t' k
packing_whole e inv = rw (← e) inv

pub dropped : {lock n k : ℕ} {t t₁ t₂ : Table} → UsedCount t n → ClosedUp lock n t t₁ k → t₂ ≡ end_rows t₁ k → Dropped lock t t₂ (n - k)
dropped {lock} {n} {k} {t} {t₁} {t₂} used closed end =
    let others : kept lock n t ≡ keep (is_other lock) (used_rows t) =
    ap (λ (m : ℕ). kept lock m t) used.count ∙ ap (keep (is_other lock)) (take_used t) in
    let many : k ≡ length (keep (is_other lock) (used_rows t)) = closed.count ∙ ap length others in
    let both = keep_both (is_of lock) (used_rows t) in
    record {
      rows = end ∙ ap₂ end_rows (closed.rows ∙ ap (sets t 0) others) (many ∙ omega arith);
      count = omega (arith, used.count, many, both);
      low = omega (arith, used.low);
    }
