-- Cells below a bound, in rows, tables and arrays; and that the arrays fit, a law for each array in the place of what
-- was there. The empty state fits.
use mathlib.Core.List.{List, [], ◌∷◌}
use Prim.Native.Nat.{ℕ, zero, suc, ◌≤◌, ◌<◌}
use native.Mathlib.Omega.{arith}
use lib.ListN.{set, replicate, get_or}
use Rattle.model.specs.Limits.{most_numbers}
use Rattle.model.specs.Cells.{Row, Table, Cells, cell, row_at, table_at, registry_is, makers_are, segments_are, locks_are, threads_are, zeros, empty_cells}
use Rattle.model.specs.Stores.{set_cell, hand_out}
use Rattle.model.specs.Theorems.Widths.{word, double_word, Fitting}
use Rattle.base.proofs.Lists.{All, Everywhere, everywhere_set, everywhere_all}

-- ---- cells below m, wherever they are read

module _ (m : ℕ) where
  abbrev pub Low : Row → Type 0
  Low w = Everywhere (λ x. x < m) 0 w

  abbrev pub LowRows : Table → Type 0
  LowRows t = Everywhere Low [] t

  abbrev pub LowTables : List Table → Type 0
  LowTables ts = Everywhere LowRows [] ts

  pub low_set : (w : Row) → Low w → (j x : ℕ) → x < m → Low (set w j x)
  low_set w = everywhere_set (λ x. x < m) 0 w

  pub low_row : (t : Table) → LowRows t → (i : ℕ) (w : Row) → Low w → LowRows (set t i w)
  low_row t = everywhere_set Low [] t

  pub low_table : (ts : List Table) → LowTables ts → (i : ℕ) (t : Table) → LowRows t → LowTables (set ts i t)
  low_table ts = everywhere_set LowRows [] ts

  pub low_cell : (t : Table) → LowRows t → (i j x : ℕ) → x < m → LowRows (set_cell t i j x)
  low_cell t h i j x l = low_row t h i _ (low_set (row_at t i) (h i) j x l)

  pub all_replicate : (n x : ℕ) → x < m → All (λ y. y < m) (replicate n x)
  all_replicate zero x l = tt
  all_replicate (suc n) x l = (l, all_replicate n x l)

-- a row of cells that are written out
pub low_cells : (m : ℕ) → 0 < m → (w : Row) → All (λ x. x < m) w → Low m w
low_cells m = everywhere_all (λ x. x < m) 0

-- an array that fits in the place of what was there
module _ {d : Cells} (k : Fitting d) where
  pub fitting_registry : (x : Row) → Low double_word x → Fitting (registry_is x d)
  fitting_registry x h = record { registry = h; makers = k.makers; segments = k.segments; locks = k.locks; threads = k.threads }

  pub fitting_makers : (x : Row) → Low word x → Fitting (makers_are x d)
  fitting_makers x h = record { registry = k.registry; makers = h; segments = k.segments; locks = k.locks; threads = k.threads }

  pub fitting_segments : (x : List Table) → LowTables word x → Fitting (segments_are x d)
  fitting_segments x h = record { registry = k.registry; makers = k.makers; segments = h; locks = k.locks; threads = k.threads }

  pub fitting_locks : (x : List Table) → LowTables double_word x → Fitting (locks_are x d)
  fitting_locks x h = record { registry = k.registry; makers = k.makers; segments = k.segments; locks = h; threads = k.threads }

  pub fitting_threads : (x : List Table) → LowTables word x → Fitting (threads_are x d)
  fitting_threads x h = record { registry = k.registry; makers = k.makers; segments = k.segments; locks = k.locks; threads = h }

  pub fitting_count : (j : ℕ) → suc (cell d.registry j) ≤ most_numbers → Fitting (hand_out j d)
  fitting_count j l = fitting_registry _ (low_set double_word d.registry k.registry j (suc (cell d.registry j)) (omega arith))

-- row 0 of a table that is begun
pub first_low : (x y o : ℕ) → x < word → y < word → o < word → Low word (x ∷ y ∷ 0 ∷ o ∷ 0 ∷ 0 ∷ 0 ∷ 0 ∷ [])
first_low x y o lx ly lo =
    let z : 0 < word = omega arith in
    low_cells word z (x ∷ y ∷ 0 ∷ o ∷ 0 ∷ 0 ∷ 0 ∷ 0 ∷ []) (lx, (ly, (z, (lo, all_replicate word 4 0 z))))

-- ---- the empty state

zeros_low : (m n j : ℕ) → 0 < m → get_or (replicate n 0) j 0 < m
zeros_low m zero j h = h
zeros_low m (suc n) zero h = h
zeros_low m (suc n) (suc j) h = zeros_low m n j h

zero_rows : (m k i j : ℕ) → 0 < m → cell (row_at (replicate k (replicate 8 0)) i) j < m
zero_rows m zero i j h = h
zero_rows m (suc k) zero j h = zeros_low m 8 j h
zero_rows m (suc k) (suc i) j h = zero_rows m k i j h

zero_tables : (m n k s i j : ℕ) → 0 < m → cell (row_at (table_at (zeros n k) s) i) j < m
zero_tables m zero k s i j h = h
zero_tables m (suc n) k zero i j h = zero_rows m k i j h
zero_tables m (suc n) k (suc s) i j h = zero_tables m n k s i j h

pub empty_fits : Fitting empty_cells
empty_fits =
    record {
      registry = λ j. zeros_low double_word 8 j (omega arith);
      makers = λ j. zeros_low word 1024 j (omega arith);
      segments = λ s i j. zero_tables word 64 2 s i j (omega arith);
      locks = λ s i j. zero_tables double_word 64 8 s i j (omega arith);
      threads = λ p i j. zero_tables word 64 17 p i j (omega arith);
    }
