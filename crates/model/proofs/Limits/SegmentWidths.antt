-- What N, G and T store in a segment's table fits its cells.
use mathlib.Core.Bool.{Bool, not}
use mathlib.Core.List.{List, [], ◌∷◌, ◌++◌}
use Prim.Native.Nat.{ℕ, ◌-◌, ◌<◌}
use native.Mathlib.Omega.{arith}
use lib.Dec.{eqb}
use lib.ListN.{length, replicate}
use Rattle.base.specs.Lists.{keep}
use Rattle.model.specs.Limits.{most_listed}
use Rattle.model.specs.Cells.{Table, row_at, no_key, has_key, key_row, list_row}
use Rattle.model.specs.Stores.{new_segment, give_code, take_code}
use Rattle.model.specs.Theorems.Widths.{word}
use Rattle.base.proofs.Lists.{All, All-append, All-keep, everywhere_all, all_everywhere}
use Rattle.model.proofs.Limits.FittingCells.{Low, LowRows, low_set, low_row, all_replicate, low_cells, first_low}

pub list_low : (s : ℕ) (g : Table) → s < word → LowRows word g → Low word (list_row s g)
list_low s g l h = low_set word (row_at g 1) (h 1) 0 s l

low_key_row : (xs : List ℕ) → All (λ x. x < word) xs → Low word (key_row xs)
low_key_row xs h =
    low_cells word (omega arith) (key_row xs)
    (All-append (λ x. x < word) xs (replicate (most_listed - length xs) no_key) h (all_replicate word (most_listed - length xs) no_key (omega arith)))

-- the codes of a key list
codes_low : (s : ℕ) (g : Table) → s < word → LowRows word g → All (λ x. x < word) (keep has_key (list_row s g))
codes_low s g l h = All-keep (λ x. x < word) has_key (list_row s g) (all_everywhere (λ x. x < word) 0 (list_row s g) (list_low s g l h))

pub new_low : (s u kind : ℕ) → s < word → u < word → kind < word → LowRows word (new_segment s u kind)
new_low s u kind ls lu lk =
    everywhere_all (Low word) [] (λ j. omega arith) (new_segment s u kind) (first_low u kind 0 lu lk (omega arith), (low_key_row (s ∷ []) (ls, tt), tt))

pub give_low : (s x : ℕ) (g : Table) → s < word → x < word → LowRows word g → LowRows word (give_code s x g)
give_low s x g ls lx h =
    let xs : List ℕ = keep has_key (list_row s g) in
    low_row word g h 1 _ (low_key_row (xs ++ x ∷ []) (All-append (λ y. y < word) xs (x ∷ []) (codes_low s g ls h) (lx, tt)))

pub take_low : (s x : ℕ) (g : Table) → s < word → LowRows word g → LowRows word (take_code s x g)
take_low s x g ls h =
    let xs : List ℕ = keep has_key (list_row s g) in
    let stays : ℕ → Bool = λ y. not (eqb x y) in
    low_row word g h 1 _ (low_key_row (keep stays xs) (All-keep (λ y. y < word) stays xs (codes_low s g ls h)))
