-- The row of a compiled product: the literal of each of the compiler's numbers has its cell, and a product is stored as
-- its row.
use Rattle.std.proofs.lemmas.List.{set-append_left}
use mathlib.Core.Path.{◌≡◌, refl, sym, ap, ap₂, ◌∙◌}
use mathlib.Core.List.{[], ◌∷◌, ◌++◌, map, append_assoc}
use Prim.Native.Nat.{ℕ, zero, suc, ◌+◌, ◌-◌, ◌*◌, ◌≤◌, ◌<◌}
use native.Mathlib.Numerals.{add-one}
use native.Mathlib.Omega.{arith}
use lib.Dec.{ltb}
use lib.ListN.{length, get_or, set, replicate, length-append, length-map, length-replicate, replicate-append-replicate}
use lib.Seq.{get_or_at}
use borrow.Author.Tests.{lt-ltb, le-ltb, ltb-true, ltb-false}
use Rattle.product.specs.Product.{Product, All, no_more, and_more}
use Rattle.product.specs.Code.{code_of, literal_of, Numbered}
use Rattle.product.specs.Cells.{size_of, row_of}
use Rattle.product.proofs.StoredSums.{literal_back}
use Rattle.formula.specs.Compiler.{Kept}
use Rattle.base.specs.Lists.{each}
use Rattle.model.specs.Cells.{Row, cell, literal_cell, head}
use Rattle.model.specs.Stores.{product_row}
use Rattle.base.proofs.Lists.{case_bool, each_suc, each_same, each_set, length_each}
use Rattle.locks.specs.Internal.{cell_in, row_from}

-- ---- what the code makes

-- a row with the cells of the first n literals
abbrev pub with_literals : ℕ → Row → ℕ → Row
with_literals first w n = first ∷ each (cell_in n w) 0 6 ++ 0 ∷ []

pub no_literals : (first : ℕ) (w : Row) → first ∷ 0 ∷ 0 ∷ 0 ∷ 0 ∷ 0 ∷ 0 ∷ 0 ∷ [] ≡ with_literals first w 0
unfolding cell_in
no_literals first w = refl

one_more : (w : Row) (i j : ℕ) → (j ≡ i → ⊥) → cell_in (suc i) w j ≡ cell_in i w j
unfolding cell_in
one_more w i j h =
    case_bool (ltb j i)
    (λ e. let l = ltb-true j i e in simp (e, lt-ltb j (suc i) (omega arith)))
    (λ e. let l = ltb-false j i e in simp (e, le-ltb j (suc i) (omega arith)))

pub next_literal : (first : ℕ) (w : Row) (i : ℕ) {row : Row} {x : ℕ} → row ≡ with_literals first w i → i < 6 → x ≡ literal_cell (literal_of (cell w i))
    → set row (i + 1) x ≡ with_literals first w (i + 1)
unfolding cell_in
next_literal first w i {row} {x} e h c =
    let own : x ≡ cell_in (suc i) w i = c ∙ simp (lt-ltb i (suc i) (omega arith)) in
    let more : each (cell_in (suc i) w) 0 6 ≡ set (each (cell_in i w) 0 6) i (cell_in (suc i) w i) =
    each_set (cell_in (suc i) w) (cell_in i w) 6 i 0 h (λ j l. one_more w i j l) in
    rw (e, add-one i, own)
    (ap (λ (r : Row). first ∷ r)
    (set-append_left (each (cell_in i w) 0 6) (0 ∷ []) i (cell_in (suc i) w i) (omega (arith, length_each (cell_in i w) 0 6))
    ∙ ap (λ (r : Row). r ++ 0 ∷ []) (sym more)))

pub row_made : (lock operations : ℕ) (w : Row) {row : Row} {n i : ℕ} → n ≡ size_of w → row ≡ with_literals (lock * 65536 + n * 16 + operations) w i → i ≡ n
    → row ≡ row_from lock operations w
unfolding row_from
row_made lock operations w size e h = rw (e, h, size)

-- ---- which is a product's row

size_row : (p : Product) → length p ≤ 6 → size_of (row_of p) ≡ length p
size_row p h =
    let k : length (map code_of p ++ replicate (7 - length p) 0) ≡ 7 =
    length-append (map code_of p) (replicate (7 - length p) 0) ∙ omega (arith, length-map p code_of, length-replicate {A = ℕ} (7 - length p) 0) in
    let g : get_or (row_of p) 7 0 ≡ length p = get_or_at (map code_of p ++ replicate (7 - length p) 0) (length p) [] 0 7 k in
    omega arith

blanks : (f : ℕ → ℕ) → ((i : ℕ) → f i ≡ 0) → (i k : ℕ) → each f i k ≡ replicate k 0
blanks f h i zero = refl
blanks f h i (suc k) = ap₂ (λ (x : ℕ) (xs : Row). x ∷ xs) (h i) (blanks f h (suc i) k)

ltb_suc : (i n : ℕ) → ltb (suc i) (suc n) ≡ ltb i n
ltb_suc i n =
    case_bool (ltb i n)
    (λ e. let l = ltb-true i n e in lt-ltb (suc i) (suc n) (omega arith) ∙ sym e)
    (λ e. let l = ltb-false i n e in le-ltb (suc i) (suc n) (omega arith) ∙ sym e)

literals_stored : (p : Product) (rest : Row) (k : ℕ) → All Numbered p → length p ≤ k
    → each (cell_in (length p) (map code_of p ++ rest)) 0 k ≡ map literal_cell p ++ replicate (k - length p) 0
unfolding cell_in
literals_stored [] rest k no_more h = let e : k - 0 ≡ k = omega arith in blanks (cell_in 0 rest) (λ i. simp (le-ltb i 0 (omega arith))) 0 k ∙ rw e
literals_stored (x ∷ p) rest zero (and_more y all) h = absurd (omega arith)
literals_stored (x ∷ p) rest (suc k) (and_more y all) h =
    let n : ℕ = length p in
    let w : Row = map code_of p ++ rest in
    let here : cell_in (suc n) (code_of x ∷ w) 0 ≡ literal_cell x = simp (lt-ltb 0 (suc n) (omega arith)) (ap literal_cell (literal_back x y)) in
    let shift : each (cell_in (suc n) (code_of x ∷ w)) 1 k ≡ each (cell_in n w) 0 k =
    each_suc (cell_in (suc n) (code_of x ∷ w)) 0 k
    ∙ each_same (λ j. cell_in (suc n) (code_of x ∷ w) (suc j)) (cell_in n w) 0 k (λ j low high. rw (ltb_suc j n)) in
    let left : suc k - suc n ≡ k - n = omega arith in
    ap₂ (λ (c : ℕ) (cs : Row). c ∷ cs) here (shift ∙ literals_stored p rest k all (omega arith) ∙ rw left)

-- six cells of literals, and one that is always 0
cells_stored : (p : Product) (rest : Row) → All Numbered p → length p ≤ 6
    → each (cell_in (length p) (map code_of p ++ rest)) 0 6 ++ 0 ∷ [] ≡ map literal_cell p ++ replicate (7 - length p) 0
cells_stored p rest all short =
    let one : 6 - length p + 1 ≡ 7 - length p = omega arith in
    let zeros : ◌≡◌ {A = Row} (replicate (6 - length p) 0 ++ 0 ∷ []) (replicate (7 - length p) 0) =
    replicate-append-replicate (6 - length p) 1 0 ∙ ap (λ (k : ℕ). replicate k 0) one in
    ap (λ (cs : Row). cs ++ 0 ∷ []) (literals_stored p rest 6 all short)
    ∙ append_assoc (map literal_cell p) (replicate (6 - length p) 0) (0 ∷ [])
    ∙ ap (λ (cs : Row). map literal_cell p ++ cs) zeros

pub product_row_lem : (lock operations : ℕ) (p : Product) → Kept p → row_from lock operations (row_of p) ≡ product_row lock operations p
unfolding row_from
product_row_lem lock operations p kept =
    let rest : Row = replicate (7 - length p) 0 ++ length p ∷ [] in
    let whole : row_of p ≡ map code_of p ++ rest = append_assoc (map code_of p) (replicate (7 - length p) 0) (length p ∷ []) in
    let size = size_row p kept.short in
    rw (size, whole) (ap (λ (cs : Row). head lock (length p) operations ∷ cs) (cells_stored p rest kept.numbers kept.short))
