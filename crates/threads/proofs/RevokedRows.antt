-- A key goes from a row, from the rows of a thread's frames and from every thread: cell by cell, row by row from the
-- newest frame down, and four places at a time.
use Rattle.std.specs.List.{list_all}
use mathlib.Core.Path.{◌≡◌, refl, sym, ap, ap₂, ◌∙◌}
use mathlib.Core.Bool.{true}
use mathlib.Core.List.{List, [], ◌∷◌, ◌++◌, map}
use Prim.Native.Nat.{ℕ, zero, suc, ◌+◌, ◌≤◌}
use native.Mathlib.Numerals.{add-one}
use native.Mathlib.Omega.{arith}
use borrow.Author.Tests.{eqb-true}
use lib.ListN.{length, set, take, drop}
use Rattle.base.proofs.Truth.{and_both}
use Rattle.model.specs.Cells.{Row, Table, cell, row_at, frame_count}
use Rattle.model.specs.Stores.{revoke_row, revoke_rows, revoke_code}
use Rattle.threads.specs.Internal.{is_idle}

module _ (s x : ℕ) where
  -- the newest of the frames that are left
  pub rows_next : (t r : Table) (n m k : ℕ) {w : Row} → n ≡ m + 1 → k ≡ m + 1 → revoke_rows s x t n ≡ r → w ≡ revoke_row s x (row_at t k)
      → revoke_rows s x (set t k w) m ≡ r
  rows_next t r n m k {w} en ek e h =
      let an : n ≡ suc m = en ∙ add-one m in
      let ak : k ≡ suc m = ek ∙ add-one m in
      let new : w ≡ revoke_row s x (row_at t (suc m)) = h ∙ ap (λ (j : ℕ). revoke_row s x (row_at t j)) ak in
      ap (λ (j : ℕ). revoke_rows s x (set t j w) m) ak ∙ ap (λ (v : Row). revoke_rows s x (set t (suc m) v) m) new
      ∙ sym (ap (revoke_rows s x t) an) ∙ e

  -- a thread without frames stays as it is
  pub none_changed : (ts : List Table) → list_all is_idle ts ≡ true → ts ≡ map (revoke_code s x) ts
  none_changed [] e = refl
  none_changed (t ∷ ts) e =
      let (here, rest) = and_both (is_idle t) (list_all is_idle ts) e in
      ap₂ (λ (u : Table) (us : List Table). u ∷ us) (no_frames here) (none_changed ts rest)
    where
      no_frames : {t : Table} → is_idle t ≡ true → t ≡ revoke_code s x t
      no_frames {t} e = rw (eqb-true (cell (row_at t 0) frame_count) 0 e) refl

-- of the threads before place i each is changed
abbrev pub changed_before : {A : Type 0} → (A → A) → ℕ → List A → List A
changed_before f i xs = map f (take i xs) ++ drop i xs

-- and those at the next k places too
group_of : {A : Type 0} (f : A → A) (xs : List A) (i k m : ℕ) → m ≡ i + k → m ≤ length xs
    → let ys = changed_before f i xs in
    take i ys ++ (map f (take k (drop i ys)) ++ drop k (drop i ys)) ≡ changed_before f m xs
group_of f xs zero k m e l = let same : k ≡ m = omega arith in ap (λ (n : ℕ). changed_before f n xs) same
group_of f [] (suc i) k m e l = absurd (omega arith)
group_of f (x ∷ xs) (suc i) k zero e l = absurd (omega arith)
group_of {A} f (x ∷ xs) (suc i) k (suc m) e l = ap (λ (ys : List A). f x ∷ ys) (group_of f xs i k m (omega arith) (omega arith))

pub changed_next_group : {A : Type 0} (f : A → A) (xs : List A) (i k m : ℕ) {ys zs : List A} → m ≡ i + k → m ≤ length xs
    → ys ≡ changed_before f i xs → zs ≡ map f (take k (drop i ys)) → take i ys ++ (zs ++ drop k (drop i ys)) ≡ changed_before f m xs
changed_next_group f xs i k m e l before these = rw (these, before) (group_of f xs i k m e l)
