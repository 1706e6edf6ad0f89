-- What L and D store in a segment's product rows fits its cells: codes of keys and literals with numbers of 16 bits,
-- and rows that were there.
use mathlib.Core.Bool.{Bool, not}
use mathlib.Core.List.{[], ◌∷◌, map}
use Prim.Native.Nat.{ℕ, suc, ◌+◌, ◌-◌, ◌≤◌, ◌<◌}
use native.Mathlib.Omega.{arith}
use lib.Dec.{eqb}
use lib.ListN.{length, replicate}
use lib.Seq.{sets}
use Rattle.product.specs.declared.literal.Key.TheVariants.{User, Thread as ThreadKey, Segment as SegmentKey, Defined}
use Rattle.product.specs.declared.literal.Literal.{Literal}
use Rattle.product.specs.declared.literal.Literal.TheVariants.{Plain, Barred}
use Rattle.product.specs.Code.{Numbered}
use Rattle.product.specs.Product.{Product, All as Each, no_more, and_more}
use Rattle.product.specs.Sum.{Sum, most_literals}
use Rattle.formula.specs.Compiler.{Kept}
use Rattle.base.specs.Lists.{keep}
use Rattle.model.specs.Cells.{Row, Table, literal_cell, is_used, used_rows, product_in}
use Rattle.model.specs.Stores.{end_rows, store_rows, product_row, add_rows, drop_rows}
use Rattle.model.specs.Theorems.Widths.{word, double_word}
use Rattle.base.proofs.Lists.{All, case_bool, All-append, All-keep, everywhere_sets}
use Rattle.model.proofs.Limits.FittingCells.{Low, LowRows, low_cell, all_replicate, low_cells}

literal_low : (x : Literal) → Numbered x → literal_cell x < double_word
literal_low (Plain (User n)) h = omega arith
literal_low (Plain (ThreadKey n)) h = omega arith
literal_low (Plain (SegmentKey n)) h = omega arith
literal_low (Plain (Defined n)) h = omega arith
literal_low (Barred (User n)) h = omega arith
literal_low (Barred (ThreadKey n)) h = omega arith
literal_low (Barred (SegmentKey n)) h = omega arith
literal_low (Barred (Defined n)) h = omega arith

literals_low : (p : Product) → Each Numbered p → All (λ x. x < double_word) (map literal_cell p)
literals_low [] no_more = tt
literals_low (x ∷ p) (and_more h r) = (literal_low x h, literals_low p r)

product_low : (lock operations : ℕ) (p : Product) → lock < word → operations < 16 → Kept p → Low double_word (product_row lock operations p)
product_low lock operations p ll lo k =
    let short : length p ≤ most_literals = k.short in
    low_cells double_word (omega arith) (product_row lock operations p) (
      omega arith,
      All-append (λ x. x < double_word) (map literal_cell p) (replicate (7 - length p) 0) (literals_low p k.numbers)
          (all_replicate double_word (7 - length p) 0 (omega arith)),
    )

products_low : (lock operations : ℕ) (ps : Sum) → lock < word → operations < 16 → Each Kept ps
    → All (Low double_word) (map (product_row lock operations) ps)
products_low lock operations [] ll lo no_more = tt
products_low lock operations (p ∷ ps) ll lo (and_more k r) = (product_low lock operations p ll lo k, products_low lock operations ps ll lo r)

pub end_low : (n : ℕ) (t : Table) → LowRows double_word t → LowRows double_word (end_rows t n)
end_low n t h = low_cell double_word t h n 0 0 (omega arith)

store_low : (n : ℕ) (ws t : Table) → All (Low double_word) ws → LowRows double_word t → LowRows double_word (store_rows n ws t)
store_low n ws t a h = end_low (n + length ws) (sets t n ws) (everywhere_sets (Low double_word) [] t h n ws a)

pub used_low : (t : Table) → LowRows double_word t → All (Low double_word) (used_rows t)
used_low [] h = tt
used_low (w ∷ t) h = case_bool (is_used w) (λ e. simp e (h 0, used_low t (λ i. h (suc i)))) (λ e. simp e tt)

pub add_low : (lock operations : ℕ) (ps : Sum) (t : Table) → lock < word → operations < 16 → Each Kept ps → LowRows double_word t
    → LowRows double_word (add_rows lock operations ps t)
add_low lock operations ps t ll lo k h =
    store_low (length (used_rows t)) (map (product_row lock operations) ps) t (products_low lock operations ps ll lo k) h

pub drop_low : (n : ℕ) (t : Table) → LowRows double_word t → LowRows double_word (drop_rows n t)
drop_low n t h =
    let stays : Row → Bool = λ w. not (eqb (product_in w).lock n) in
    store_low 0 (keep stays (used_rows t)) t (All-keep (Low double_word) stays (used_rows t) (used_low t h)) h
