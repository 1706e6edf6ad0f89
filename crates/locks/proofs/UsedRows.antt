-- The used rows: those before the first that begins with 0, which the count of them takes, and which are asked whether
-- one is of a lock.
use Rattle.std.specs.Prelude.{Option, None, Some}
use Rattle.std.specs.Option.{unwrap_or}
use Rattle.std.specs.List.{list_any, position, prefix_len}
use mathlib.Core.Path.{◌≡◌, refl, ap, ◌∙◌}
use mathlib.Core.Bool.{Bool, ◌||◌, not}
use mathlib.Core.List.{[], ◌∷◌}
use Prim.Native.Nat.{ℕ, suc, ◌+◌}
use native.Mathlib.Omega.{arith}
use lib.ListN.{length, take}
use Rattle.base.specs.Lists.{index_of}
use Rattle.model.specs.Limits.{most_standing}
use Rattle.model.specs.Cells.{Row, Table, used_rows}
use Rattle.base.proofs.Lists.{case_bool}
use Rattle.model.proofs.Refinement.ProductRows.{length_used}
use Rattle.locks.proofs.FirstFound.{first_some, first_none}
use Rattle.locks.specs.Internal.{ends, UsedCount, is_of, has_row}

used_index : (t : Table) → index_of ends t ≡ length (used_rows t)
used_index [] = refl
used_index (w ∷ t) = case_bool (ends w) (λ e. simp e) (λ e. simp e (ap suc (used_index t)))

-- the place of the first that begins with 0, or as many as there are
pub used_count : {t : Table} → length t ≡ most_standing → (o : Option ℕ) → o ≡ position ends t → {r : ℕ} → r ≡ unwrap_or o most_standing → UsedCount t r
used_count {t} most None e f =
    let i = used_index t in
    let h = first_none ends t e in
    let l = length_used t in
    record { count = f ∙ omega arith; low = omega arith }
used_count {t} most (Some n) e f =
    let i = used_index t in
    let (s, h) = first_some ends t e in
    record { count = f ∙ s ∙ i; low = omega arith }

-- a used row begins with another number
abbrev pub begins : Row → Bool
begins w = not (ends w)

pub row_asked : (lock : ℕ) (t : Table) → list_any (is_of lock) (take (prefix_len begins t) t) ≡ has_row lock t
row_asked lock [] = refl
row_asked lock (w ∷ t) =
    let one : 1 + prefix_len begins t ≡ suc (prefix_len begins t) = omega arith in
    case_bool (ends w) (λ e. simp e) (λ e. simp (e, one) (ap (λ (b : Bool). is_of lock w || b) (row_asked lock t)))
