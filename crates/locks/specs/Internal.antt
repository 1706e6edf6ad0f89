-- What the crate's private functions promise each other. Nothing here is part of what a reader must believe.
use Rattle.std.specs.Prelude.{◌≡◌, Bool, true, false, not, cond, ◌||◌, List, [], ◌∷◌, ◌++◌, ℕ, suc, ◌+◌, ◌≤◌, ◌<◌, min, eqb, ltb, length, map, take, position, Option, Ok, Err}
use Rattle.std.proofs.lemmas.List.Edits.{sets}
use Rattle.product.specs.Code.{literal_of}
use Rattle.product.specs.Cells.{size_of}
use Rattle.formula.specs.declared.text.Issued.{Issued}
use Rattle.formula.specs.declared.text.Compiled.{Compiled}
use Rattle.model.specs.declared.answer.Refusal.TheVariants.{Full}
use Rattle.model.specs.Answers.{Answer}
use Rattle.base.specs.Lists.{any, keep, each}
use Rattle.model.specs.Limits.{most_segments, most_defined, most_standing, most_numbers, passes}
use Rattle.model.specs.State.{is_of_lock}
use Rattle.model.specs.Cells.{Row, Table, cell, user_count, thread_count, segment_count, defined_count, lock_count}
use Rattle.model.specs.Cells.{literal_cell, head, used_rows, product_in}
use Rattle.model.specs.Stores.{count_up, store_rows, drop_rows}

-- ---- used rows

-- they end before the first row that begins with 0
abbrev pub ends : Row → Bool
ends w = eqb (cell w 0) 0

pub record UsedCount (t : Table) (r : ℕ) : Type 0 where
  pub count : r ≡ length (used_rows t)
  -- follows from it, and is said so that callers find the bound
  pub low : r ≤ most_standing

-- ---- rows of a lock, by its lock number

abbrev pub is_of : ℕ → Row → Bool
is_of lock w = is_of_lock lock (product_in w)

abbrev pub is_other : ℕ → Row → Bool
is_other lock w = not (is_of lock w)

abbrev pub has_row : ℕ → Table → Bool
has_row lock t = any (is_of lock) (used_rows t)

-- the first of the tables that has one
abbrev pub segment_of_lock : ℕ → List Table → Option ℕ
segment_of_lock lock ts = position (has_row lock) ts

-- ---- rows that stay

abbrev pub kept : ℕ → ℕ → Table → Table
kept lock n t = keep (is_other lock) (take n t)

-- those of the first n rows, from row 0 on
pub record ClosedUp (lock n : ℕ) (t t' : Table) (r : ℕ) : Type 0 where
  pub rows : t' ≡ sets t 0 (kept lock n t)
  pub count : r ≡ length (kept lock n t)
  pub low : r ≤ n

pub record Dropped (lock : ℕ) (t t' : Table) (r : ℕ) : Type 0 where
  pub rows : t' ≡ drop_rows lock t
  pub count : r ≡ length (keep (is_of lock) (used_rows t))
  pub low : r ≤ most_standing

-- ---- a compiled product as a row

-- cells of keys, and what a barred one adds, are below these
abbrev pub key_cell_limit : ℕ
key_cell_limit = 327680

abbrev pub barred_limit : ℕ
barred_limit = 65537

-- sets of operations are below this: 1, 2, 4 and 8 are the numbers in one
abbrev pub set_limit : ℕ
set_limit = 16

pub record Below (limit x r : ℕ) : Type 0 where
  pub is : r ≡ x
  pub low : r < limit

-- cell i of n literals, of the compiler's cells
unfoldable pub cell_in : ℕ → Row → ℕ → ℕ
cell_in n w i = cond (ltb i n) (literal_cell (literal_of (cell w i))) 0

unfoldable pub row_from : ℕ → ℕ → Row → Row
row_from lock operations w = let n = size_of w in head lock n operations ∷ each (cell_in n w) 0 6 ++ 0 ∷ []

-- ---- the rows of a lock

abbrev pub rows_from : ℕ → ℕ → Compiled → Table
rows_from lock operations x = map (row_from lock operations) (take x.count x.rows)

abbrev pub issued_in : Row → Row → Issued
issued_in w makers =
    record {
      users = cell w user_count;
      threads = cell w thread_count;
      segments = min (cell w segment_count) most_segments;
      defined = length (take (min (cell w defined_count) most_defined) makers);
    }

unfoldable pub is_full : Row → Table → ℕ → Bool
is_full registry t count =
    passes most_standing (length (used_rows t) + count) || passes most_numbers (suc (cell registry lock_count))

-- a compiled lock is stored, or would pass a limit
pub data LockStored (registry : Row) (t : Table) (operations : ℕ) (x : Compiled) : Answer → Row → Table → Type 0 where
  full : is_full registry t x.count ≡ true → LockStored registry t operations x (Err Full) registry t
  stored : is_full registry t x.count ≡ false
      → LockStored registry t operations x (Ok (cell registry lock_count)) (count_up registry lock_count)
      (store_rows (length (used_rows t)) (rows_from (cell registry lock_count) operations x) t)
