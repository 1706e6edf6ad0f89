-- The arrays keep their sizes: a law for each array in the place of what was there, and one for a row and a cell of a
-- table. The empty state has them.
use mathlib.Core.Path.{◌≡◌, refl, sym, ap, subst, ◌∙◌}
use mathlib.Core.List.{List, [], map}
use Prim.Native.Nat.{ℕ, suc, ◌<◌}
use native.Mathlib.Omega.{arith}
use lib.Dec.{eqb}
use lib.ListN.{length, get_or, set, replicate, length-set, length-map, length-replicate, get_or-replicate, get_or-map}
use lib.Seq.{get_or-set_same, get_or-set_other}
use borrow.Author.Tests.{eqb-true, eqb-false}
use Rattle.model.specs.Limits.{most_threads, most_segments, most_defined, most_standing, most_frames}
use Rattle.model.specs.Cells.{Row, Table, Cells, Tables, Sized, row_at, table_at, registry_is, makers_are, segments_are, locks_are, threads_are, zeros, empty_cells}
use Rattle.model.specs.Stores.{set_cell, hand_out}
use Rattle.base.proofs.Lists.{case_bool}

-- k rows of 8 cells
pub record Shaped (k : ℕ) (t : Table) : Type 0 where
  pub rows : length t ≡ k
  pub cells : (j : ℕ) → j < k → length (row_at t j) ≡ 8

module _ (n k : ℕ) (ts : List Table) (c : Tables n k ts) where
  pub shaped : (i : ℕ) → i < n → Shaped k (table_at ts i)
  shaped i lt = record { rows = c.rows i lt; cells = λ j l. c.cells i j lt l }

  pub tables_set : (i : ℕ) (t : Table) → (i < n → Shaped k t) → Tables n k (set ts i t)
  tables_set i t s = record { count = length-set ts i t ∙ c.count; rows = λ j lt. (now j lt).rows; cells = λ j m lt l. (now j lt).cells m l }
    where
      now : (j : ℕ) → j < n → Shaped k (table_at (set ts i t) j)
      now j lt =
          case_bool (eqb j i)
          (λ e. let p = eqb-true j i e in
          rw (p, get_or-set_same ts i t [] (let q = c.count in omega arith)) (s (omega arith)))
          (λ e. rw (get_or-set_other ts i j t [] (eqb-false j i e)) (shaped j lt))

  pub tables_each : (f : Table → Table) → f [] ≡ [] → ((t : Table) → Shaped k t → Shaped k (f t)) → Tables n k (map f ts)
  tables_each f e h = record { count = length-map ts f ∙ c.count; rows = λ i lt. (now i lt).rows; cells = λ i j lt l. (now i lt).cells j l }
    where
      now : (i : ℕ) → i < n → Shaped k (table_at (map f ts) i)
      now i lt = subst (Shaped k) (sym (ap (get_or (map f ts) i) (sym e) ∙ get_or-map f ts i [])) (h (table_at ts i) (shaped i lt))

module _ (k : ℕ) (t : Table) (s : Shaped k t) where
  pub shaped_row : (i : ℕ) (w : Row) → length w ≡ 8 → Shaped k (set t i w)
  shaped_row i w l = record { rows = length-set t i w ∙ s.rows; cells = now }
    where
      now : (j : ℕ) → j < k → length (row_at (set t i w) j) ≡ 8
      now j lt =
          case_bool (eqb j i)
          (λ e. let p = eqb-true j i e in rw (p, get_or-set_same t i w [] (let q = s.rows in omega arith)) l)
          (λ e. rw (get_or-set_other t i j w [] (eqb-false j i e)) (s.cells j lt))

  pub shaped_cell : (i j x : ℕ) → i < k → Shaped k (set_cell t i j x)
  shaped_cell i j x lt = shaped_row i _ (length-set (row_at t i) j x ∙ s.cells i lt)

-- an array of its size in the place of what was there
module _ {d : Cells} (c : Sized d) where
  pub sized_registry : (x : Row) → length x ≡ 8 → Sized (registry_is x d)
  sized_registry x h = record { registry = h; makers = c.makers; segments = c.segments; locks = c.locks; threads = c.threads }

  pub sized_makers : (x : Row) → length x ≡ most_defined → Sized (makers_are x d)
  sized_makers x h = record { registry = c.registry; makers = h; segments = c.segments; locks = c.locks; threads = c.threads }

  pub sized_segments : (x : List Table) → Tables most_segments 2 x → Sized (segments_are x d)
  sized_segments x h = record { registry = c.registry; makers = c.makers; segments = h; locks = c.locks; threads = c.threads }

  pub sized_locks : (x : List Table) → Tables most_segments most_standing x → Sized (locks_are x d)
  sized_locks x h = record { registry = c.registry; makers = c.makers; segments = c.segments; locks = h; threads = c.threads }

  pub sized_threads : (x : List Table) → Tables most_threads (suc most_frames) x → Sized (threads_are x d)
  sized_threads x h = record { registry = c.registry; makers = c.makers; segments = c.segments; locks = c.locks; threads = h }

  pub sized_count : (j : ℕ) → Sized (hand_out j d)
  sized_count j = sized_registry _ (length-set d.registry j _ ∙ c.registry)

-- ---- the empty state

zeros_tables : (n k : ℕ) → Tables n k (zeros n k)
zeros_tables n k =
    record {
      count = length-replicate n _;
      rows = λ i lt. ap length (get_or-replicate n i (replicate k (replicate 8 0)) [] lt) ∙ length-replicate k _;
      cells = λ i j lt l. ap (λ (t : Table). length (row_at t j)) (get_or-replicate n i (replicate k (replicate 8 0)) [] lt) ∙ ap length (get_or-replicate k j (replicate 8 0) [] l);
    }

pub empty_sized : Sized empty_cells
empty_sized =
    record { registry = refl; makers = refl; segments = zeros_tables most_segments 2; locks = zeros_tables most_segments most_standing; threads = zeros_tables most_threads (suc most_frames) }
