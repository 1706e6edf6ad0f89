-- A lock's rows: one after the other they are stored where the used rows end, and they are the rows of its products.
use mathlib.Core.Path.{◌≡◌, refl, sym, ap, ap₂, ◌∙◌}
use mathlib.Core.List.{[], ◌∷◌, ◌++◌, map, map-append}
use Prim.Native.Nat.{ℕ, ◌+◌, ◌≤◌, ◌<◌}
use native.Mathlib.Numerals.{add-one}
use native.Mathlib.Omega.{arith}
use lib.ListN.{length, set, take, length-map, length-take}
use lib.Seq.{sets, take-suc}
use Rattle.model.specs.Cells.{Row, Table, row_at}
use Rattle.model.specs.Stores.{end_rows, store_rows}
use Rattle.locks.proofs.KeptRows.{sets_append}

-- those made of the first k of a compiled sum's
pub record Adding (t : Table) (from : ℕ) (f : Row → Row) (rows : Table) (k : ℕ) (t' : Table) : Type 0 where
  pub stored : t' ≡ sets t from (map f (take k rows))

pub adding_start : {t : Table} {from : ℕ} {f : Row → Row} {rows : Table} → Adding t from f rows 0 t
adding_start = record { stored = refl }

many : (f : Row → Row) (rows : Table) (k : ℕ) → k ≤ length rows → length (map f (take k rows)) ≡ k
many f rows k h = length-map (take k rows) f ∙ length-take k rows ∙ omega arith

pub adding_next : {t : Table} {from : ℕ} {f : Row → Row} {rows : Table} {k : ℕ} {t' : Table} {r : Row} → Adding t from f rows k t' → k < length rows
    → r ≡ f (row_at rows k) → Adding t from f rows (k + 1) (set t' (from + k) r)
adding_next {t} {from} {f} {rows} {k} {t'} {r} inv h e =
    let n = many f rows k (omega arith) in
    let more : map f (take (k + 1) rows) ≡ map f (take k rows) ++ f (row_at rows k) ∷ [] =
    ap (λ (n : ℕ). map f (take n rows)) (add-one k) ∙ ap (map f) (take-suc rows k [] h) ∙ map-append f (take k rows) (row_at rows k ∷ []) in
    record { stored = rw (e, inv.stored, more) (sym (sets_append t from (map f (take k rows)) (f (row_at rows k)) ∙ rw n)) }

pub adding_end : {t : Table} {from : ℕ} {f : Row → Row} {rows : Table} {k n : ℕ} {t' t'' : Table} → Adding t from f rows k t' → k ≡ n → n ≤ length rows
    → t'' ≡ end_rows t' (from + n) → t'' ≡ store_rows from (map f (take n rows)) t
adding_end {t} {from} {f} {rows} {k} {n} inv e h end =
    end ∙ ap₂ end_rows (inv.stored ∙ ap (λ (m : ℕ). sets t from (map f (take m rows))) e) (ap (λ (m : ℕ). from + m) (sym (many f rows n h)))
