-- What S, C, R and T store in a thread's table fits its cells.
use mathlib.Core.Bool.{cond}
use Prim.Native.Nat.{ℕ, zero, suc, ◌-◌, ◌<◌}
use native.Mathlib.Omega.{arith}
use lib.Dec.{eqb}
use lib.ListN.{set}
use Rattle.base.proofs.Lists.{case_bool, everywhere_map}
use Rattle.model.specs.Cells.{Row, Table, cell, row_at, no_key, frame_count, depth_of}
use Rattle.model.specs.Stores.{start_thread, push_row, pop_row, revoke_row, revoke_rows}
use Rattle.model.specs.Theorems.Widths.{word}
use Rattle.model.proofs.Limits.FittingCells.{Low, LowRows, low_row, low_cell, first_low}

pub start_low : (n u : ℕ) (t : Table) → n < word → u < word → LowRows word t → LowRows word (start_thread n u t)
start_low n u t ln lu h = low_row word t h 0 _ (first_low n u 1 ln lu (omega arith))

pub push_low : (w : Row) (t : Table) → Low word w → LowRows word t → LowRows word (push_row w t)
push_low w t hw h =
    let t₁ : Table = set t (suc (depth_of t)) w in
    low_cell word t₁ (low_row word t h (suc (depth_of t)) w hw) 0 frame_count (suc (depth_of t)) (omega arith)

pub pop_low : (t : Table) → LowRows word t → LowRows word (pop_row t)
pop_low t h = low_cell word t h 0 frame_count (depth_of t - 1) (omega arith)

pub revoke_low : (s x n : ℕ) (t : Table) → LowRows word t → LowRows word (revoke_rows s x t n)
revoke_low s x zero t h = h
revoke_low s x (suc n) t h = revoke_low s x n _ (low_row word t h (suc n) (revoke_row s x (row_at t (suc n))) row)
  where
    stays : (y : ℕ) → y < word → cond (eqb x y) no_key y < word
    stays y l = case_bool (eqb x y) (λ e. simp e (omega arith)) (λ e. simp e l)

    row : Low word (revoke_row s x (row_at t (suc n)))
    row = case_bool (eqb (cell (row_at t (suc n)) 0) s)
        (λ e. simp e (everywhere_map (λ y. y < word) (λ y. y < word) 0 _ stays (omega arith) (row_at t (suc n)) (h (suc n))))
        (λ e. simp e (h (suc n)))
