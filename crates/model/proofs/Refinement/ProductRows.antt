-- Product rows: rows that are stored after the used ones, and an end after them, are the used rows then; and a product
-- is read back from its row, which is used because no lock is without operations.
use mathlib.Core.Path.{◌≡◌, refl, sym, ap, ap₂, subst, ◌∙◌}
use mathlib.Core.Bool.{Bool, true, false, not}
use mathlib.Core.List.{List, [], ◌∷◌, ◌++◌, map}
use Prim.Native.Nat.{ℕ, suc, ◌+◌, ◌-◌, ◌*◌, ◌/◌, ◌%◌, ◌≤◌, ◌<◌, zero-le, suc-le-suc}
use native.Mathlib.Omega.{arith}
use lib.Dec.{eqb}
use lib.ListN.{length, set, take, drop, replicate, length-set, length-append, length-map, length-replicate}
use lib.Seq.{sets, sets-eq, length-sets, length-take-le, get_or-set_same, get_or-set_other}
use borrow.Author.Tests.{eqb-true, eqb-false, ne_eqb}
use Rattle.product.specs.declared.literal.Literal.{Literal}
use Rattle.product.specs.Product.{Product, All as Each, no_more, and_more}
use Rattle.product.specs.Sum.{Sum, most_literals}
use Rattle.formula.specs.Compiler.{Kept}
use Rattle.base.specs.Lists.{keep, each}
use Rattle.model.specs.State.{LockProduct, is_of_lock}
use Rattle.model.specs.Effects.{lock_product}
use Rattle.model.specs.Cells.{Row, Table, cell, row_at, head, is_used, used_rows, literal_cell, literal_in, product_in}
use Rattle.model.specs.Stores.{end_rows, store_rows, product_row, add_rows, drop_rows}
use Rattle.base.proofs.Lists.{All, case_bool, All-append, All-keep, length_keep, each_suc, each_get_d}

abbrev pub Used : Row → Type 0
Used w = is_used w ≡ true

-- ---- the used rows

first_zero : (w : Row) → cell (set w 0 0) 0 ≡ 0
first_zero [] = refl
first_zero (x ∷ w) = refl

unused : (w : Row) → cell w 0 ≡ 0 → is_used w ≡ false
unused w e = simp e

all_used : (t : Table) → All Used (used_rows t)
all_used [] = tt
all_used (w ∷ t) = case_bool (is_used w) (λ e. simp e (refl, all_used t)) (λ e. simp e tt)

pub length_used : (t : Table) → length (used_rows t) ≤ length t
length_used [] = zero-le
length_used (w ∷ t) = case_bool (is_used w) (λ e. simp e (suc-le-suc (length_used t))) (λ e. simp e zero-le)

pub take_used : (t : Table) → take (length (used_rows t)) t ≡ used_rows t
take_used [] = refl
take_used (w ∷ t) = case_bool (is_used w) (λ e. simp e (ap (λ (r : Table). w ∷ r) (take_used t))) (λ e. simp e)

-- rows that are used, and an end after them
used_to_end : (ws t : Table) (z : Row) → All Used ws → cell z 0 ≡ 0 → used_rows (set (ws ++ t) (length ws) z) ≡ ws
used_to_end [] [] z h e = refl
used_to_end [] (w ∷ t) z h e = simp (unused z e)
used_to_end (w ∷ ws) t z h e = simp h.0 (ap (λ (r : Table). w ∷ r) (used_to_end ws t z h.1 e))

pub used_end_rows : (t : Table) → used_rows (end_rows t 0) ≡ []
used_end_rows t = used_to_end [] t (set (row_at t 0) 0 0) tt (first_zero (row_at t 0))

used_store_rows : (n : ℕ) (ws t : Table) → All Used (take n t ++ ws) → n + length ws ≤ length t → used_rows (store_rows n ws t) ≡ take n t ++ ws
used_store_rows n ws t h fits =
    let t₁ : Table = sets t n ws in
    let z : Row = set (row_at t₁ (n + length ws)) 0 0 in
    let front : length (take n t ++ ws) ≡ n + length ws =
    length-append (take n t) ws ∙ ap (λ (k : ℕ). k + length ws) (length-take-le n t (omega arith)) in
    ap (λ (r : Table). used_rows (set r (n + length ws) z)) (sets-eq ws t n fits)
    ∙ ap (λ (k : ℕ). used_rows (set (take n t ++ ws ++ drop (n + length ws) t) k z)) (sym front)
    ∙ used_to_end (take n t ++ ws) (drop (n + length ws) t) z h (first_zero (row_at t₁ (n + length ws)))

-- ---- a product's row

length_product_row : (lock operations : ℕ) (p : Product) → length p ≤ most_literals → length (product_row lock operations p) ≡ 8
length_product_row lock operations p h = simp (length-append, length-map, length-replicate) (omega arith)

used_product_row : (lock operations : ℕ) (p : Product) → 0 < operations → Used (product_row lock operations p)
used_product_row lock operations p h =
    let e : eqb (head lock (length p) operations) 0 ≡ false = ne_eqb (head lock (length p) operations) 0 (λ q. omega arith) in simp e

-- every literal is read back from its code
abbrev pub Readable : Product → Type 0
Readable p = Each (λ x. literal_in (literal_cell x) ≡ x) p

codes_read : (p : Product) → Readable p → map literal_in (map literal_cell p) ≡ p
codes_read [] no_more = refl
codes_read (x ∷ p) (and_more e r) = ap₂ (λ (y : Literal) (q : Product). y ∷ q) e (codes_read p r)

literals_read : (first : ℕ) (p : Product) (rest : Row) → Readable p
    → each (λ i. literal_in (cell (first ∷ map literal_cell p ++ rest) i)) 1 (length p) ≡ p
literals_read first p rest h =
    each_suc (λ i. literal_in (cell (first ∷ map literal_cell p ++ rest) i)) 0 (length p)
    ∙ ap (each (λ i. literal_in (cell (map literal_cell p ++ rest) i)) 0) (sym (length-map p literal_cell))
    ∙ each_get_d literal_in 0 (map literal_cell p) rest
    ∙ codes_read p h

product_read : (lock operations : ℕ) (p : Product) → length p ≤ most_literals → operations < 16 → Readable p
    → product_in (product_row lock operations p) ≡ lock_product lock operations p
product_read lock operations p short low h =
    let first : ℕ = head lock (length p) operations in
    let l : first / 65536 ≡ lock = omega arith in
    let o : first % 16 ≡ operations = omega arith in
    let m : first / 16 ≡ lock * 4096 + length p = omega arith in
    let n : first / 16 % 8 ≡ length p = ap (λ (k : ℕ). k % 8) m ∙ omega arith in
    let f : ℕ → Literal = λ i. literal_in (cell (product_row lock operations p) i) in
    let q : each f 1 (first / 16 % 8) ≡ p = ap (each f 1) n ∙ literals_read first p (replicate (7 - length p) 0) h in
    λ i. record { lock = l i; operations = o i; product = q i }

-- ---- L and D

pub products_read : (lock operations : ℕ) (ps : Sum) → Each Kept ps → operations < 16 → Each Readable ps
    → map product_in (map (product_row lock operations) ps) ≡ map (lock_product lock operations) ps
products_read lock operations [] no_more low no_more = refl
products_read lock operations (p ∷ ps) (and_more k ks) low (and_more r rs) =
    ap₂ (λ (x : LockProduct) (xs : List LockProduct). x ∷ xs) (product_read lock operations p k.short low r) (products_read lock operations ps ks low rs)

products_used : (lock operations : ℕ) (ps : Sum) → 0 < operations → All Used (map (product_row lock operations) ps)
products_used lock operations [] h = tt
products_used lock operations (p ∷ ps) h = (used_product_row lock operations p h, products_used lock operations ps h)

pub used_add_rows : (lock operations : ℕ) (ps : Sum) (t : Table) → 0 < operations → length (used_rows t) + length ps ≤ length t
    → used_rows (add_rows lock operations ps t) ≡ used_rows t ++ map (product_row lock operations) ps
used_add_rows lock operations ps t h fits =
    let n : ℕ = length (used_rows t) in
    let ws : Table = map (product_row lock operations) ps in
    let many : length ws ≡ length ps = length-map ps (product_row lock operations) in
    let old : take n t ++ ws ≡ used_rows t ++ ws = ap (λ (r : Table). r ++ ws) (take_used t) in
    used_store_rows n ws t (subst (λ (r : Table). All Used r) (sym old) (All-append Used (used_rows t) ws (all_used t) (products_used lock operations ps h)))
    (omega arith)
    ∙ old

pub used_drop_rows : (n : ℕ) (t : Table) → used_rows (drop_rows n t) ≡ keep (λ w. not (is_of_lock n (product_in w))) (used_rows t)
used_drop_rows n t =
    let stays : Row → Bool = λ w. not (is_of_lock n (product_in w)) in
    let fewer : length (keep stays (used_rows t)) ≤ length (used_rows t) = length_keep stays (used_rows t) in
    let few : length (used_rows t) ≤ length t = length_used t in
    used_store_rows 0 (keep stays (used_rows t)) t (All-keep Used stays (used_rows t) (all_used t)) (omega arith)

-- ---- sizes

-- every row has 8 cells
abbrev pub Eights : Table → Type 0
Eights t = (j : ℕ) → j < length t → length (row_at t j) ≡ 8

eights_set : (t : Table) (i : ℕ) (w : Row) → Eights t → (i < length t → length w ≡ 8) → Eights (set t i w)
eights_set t i w h e j lt =
    let inside : j < length t = subst (λ (k : ℕ). j < k) (length-set t i w) lt in
    case_bool (eqb j i)
    (λ q. let same : j ≡ i = eqb-true j i q in
    let here : i < length t = omega arith in
    ap (λ (k : ℕ). length (row_at (set t i w) k)) same ∙ ap length (get_or-set_same t i w [] here) ∙ e here)
    (λ q. ap length (get_or-set_other t i j w [] (eqb-false j i q)) ∙ h j inside)

eights_sets : (t : Table) (i : ℕ) (ws : Table) → Eights t → All (λ w. length w ≡ 8) ws → Eights (sets t i ws)
eights_sets t i [] h e = h
eights_sets t i (w ∷ ws) h e = eights_sets (set t i w) (suc i) ws (eights_set t i w h (λ l. e.0)) e.1

pub eights_end_rows : (t : Table) (n : ℕ) → Eights t → Eights (end_rows t n)
eights_end_rows t n h = eights_set t n (set (row_at t n) 0 0) h (λ l. length-set (row_at t n) 0 0 ∙ h n l)

pub eights_store_rows : (n : ℕ) (ws t : Table) → Eights t → All (λ w. length w ≡ 8) ws → Eights (store_rows n ws t)
eights_store_rows n ws t h e = eights_end_rows (sets t n ws) (n + length ws) (eights_sets t n ws h e)

pub eights_used : (t : Table) → Eights t → All (λ w. length w ≡ 8) (used_rows t)
eights_used [] h = tt
eights_used (w ∷ t) h =
    case_bool (is_used w)
    (λ e. simp e (h 0 (suc-le-suc zero-le), eights_used t (λ j l. h (suc j) (suc-le-suc l))))
    (λ e. simp e tt)

pub eights_products : (lock operations : ℕ) (ps : Sum) → Each Kept ps → All (λ w. length w ≡ 8) (map (product_row lock operations) ps)
eights_products lock operations [] no_more = tt
eights_products lock operations (p ∷ ps) (and_more k ks) = (length_product_row lock operations p k.short, eights_products lock operations ps ks)

pub length_store_rows : (n : ℕ) (ws t : Table) → length (store_rows n ws t) ≡ length t
length_store_rows n ws t = length-set (sets t n ws) (n + length ws) (set (row_at (sets t n ws) (n + length ws)) 0 0) ∙ length-sets t n ws
