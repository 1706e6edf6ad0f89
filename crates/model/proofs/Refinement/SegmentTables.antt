-- A segment's tables after N, G, T, L and D hold the segment that the model leaves: its own S key stands first, so a
-- list that is closed up keeps it, and products are stored after those that stand.
use mathlib.Core.Path.{◌≡◌, refl, sym, ap, ap₂, ◌∙◌}
use mathlib.Core.Bool.{Bool, true, false, not}
use mathlib.Core.List.{List, [], ◌∷◌, ◌++◌, map, map-append, append-nil}
use Prim.Native.Nat.{ℕ, zero, suc, ◌+◌, ◌-◌, ◌≤◌, ◌<◌}
use native.Mathlib.Omega.{arith}
use lib.Dec.{eqb, ltb}
use lib.ListN.{length, set, replicate, length-set, length-append, length-map, length-replicate}
use lib.Seq.{get_or-set_same, get_or-set_other}
use borrow.Author.Tests.{eqb-true, eqb-false, ne_eqb, eq-eqb, ltb-true, ltb-false}
use Rattle.product.specs.declared.literal.Key.{Key}
use Rattle.product.specs.declared.literal.Key.TheVariants.{Defined}
use Rattle.product.specs.Atom.{atom_of, compare_atoms}
use Rattle.product.specs.Product.{All as Each}
use Rattle.product.specs.Sum.{Sum}
use Rattle.std.specs.Cmp.{unsigned_tied}
use Rattle.product.proofs.EveryLiteral.{all_mapped}
use Rattle.formula.specs.declared.text.Issued.{Issued}
use Rattle.formula.specs.Text.{issued_to}
use Rattle.formula.specs.Compiler.{Kept}
use Rattle.base.specs.Lists.{keep, tail_of}
use Rattle.model.specs.Limits.{most_segments, most_defined, most_listed, most_standing}
use Rattle.model.specs.Threads.{same_key}
use Rattle.model.specs.State.{fresh_segment, Segment, LockProduct, is_of_lock}
use Rattle.model.specs.Effects.{with_keys, give_key, take_key, add_products, drop_products}
use Rattle.model.specs.Cells.{Row, Table, cell, row_at, owner_cell, kind_cell, no_key, defined_cell, key_in, has_key, keys_in, key_row, used_rows, product_in, list_row, segment_of}
use Rattle.model.specs.Stores.{new_segment, give_code, take_code, end_rows, product_row, add_rows, drop_rows}
use Rattle.base.proofs.Lists.{All, case_bool, keep_append, keep_all, keep_map, keep_same, keep_passes, length_keep, All-append, All-keep}
use Rattle.model.proofs.Refinement.Literals.{key_in_segment, key_in_defined, literal_read}
use Rattle.model.proofs.Refinement.ProductRows.{Readable, Eights, used_end_rows, used_add_rows, used_drop_rows, products_read, length_store_rows, eights_store_rows, eights_used, eights_products}

segment_path : {o o' k k' : ℕ} {ks ks' : List Key} {ps ps' : List LockProduct} → o ≡ o' → k ≡ k' → ks ≡ ks' → ps ≡ ps'
    → ◌≡◌ {A = Segment} (record { owner = o; kind = k; keys = ks; products = ps }) (record { owner = o'; kind = k'; keys = ks'; products = ps' })
segment_path o k ks ps = λ i. record { owner = o i; kind = k i; keys = ks i; products = ps i }

-- ---- key lists

keep_no_key : (n : ℕ) → keep has_key (replicate n no_key) ≡ []
keep_no_key zero = refl
keep_no_key (suc n) = keep_no_key n

keep_key_row : (xs : List ℕ) → All (λ x. has_key x ≡ true) xs → keep has_key (key_row xs) ≡ xs
keep_key_row xs h =
    keep_append has_key xs (replicate (most_listed - length xs) no_key)
    ∙ ap₂ (λ (a b : List ℕ). a ++ b) (keep_all has_key xs h) (keep_no_key (most_listed - length xs)) ∙ append-nil xs

has_key_below : (x : ℕ) → x < no_key → has_key x ≡ true
has_key_below x lt = let e : eqb x no_key ≡ false = ne_eqb x no_key (λ q. omega arith) in simp e

-- the code of a defined key tells it from every other key
pub same_code : (k y : ℕ) → same_key (Defined k) (key_in y) ≡ eqb (defined_cell k) y
unfolding compare_atoms
same_code k y =
    case_bool (ltb y most_segments)
    (λ e. let l = ltb-true y most_segments e in
    let n : eqb (defined_cell k) y ≡ false = ne_eqb (defined_cell k) y (λ q. omega arith) in simp (e, n))
    (λ e. let l = ltb-false y most_segments e in
    simp e (unsigned_tied k (y - most_segments) ∙ case_bool (eqb k (y - most_segments))
    (λ f. let q = eqb-true k (y - most_segments) f in let n : eqb (defined_cell k) y ≡ true = eq-eqb (defined_cell k) y (omega arith) in f ∙ sym n)
    (λ f. let q = eqb-false k (y - most_segments) f in let n : eqb (defined_cell k) y ≡ false = ne_eqb (defined_cell k) y (λ z. q (omega arith)) in f ∙ sym n)))

-- the list of a row that has cells
set_first : (w : Row) (s : ℕ) → length w ≡ 8 → set w 0 s ≡ s ∷ tail_of w
set_first [] s e = absurd (omega arith)
set_first (x ∷ w) s e = refl

pub kept_list : (s : ℕ) (g : Table) → s < most_segments → length (row_at g 1) ≡ 8 → keep has_key (list_row s g) ≡ s ∷ keep has_key (tail_of (row_at g 1))
kept_list s g low eight = ap (keep has_key) (set_first (row_at g 1) s eight) ∙ simp (has_key_below s (omega arith))

-- a key list that begins with s and is stored closed up is read back
store_list : (s : ℕ) (xs : List ℕ) (g t : Table) → length g ≡ 2 → All (λ x. has_key x ≡ true) (s ∷ xs)
    → segment_of s (set g 1 (key_row (s ∷ xs))) t ≡ with_keys (segment_of s g t) (map key_in (s ∷ xs))
store_list s xs g t two h =
    let row0 : row_at (set g 1 (key_row (s ∷ xs))) 0 ≡ row_at g 0 = get_or-set_other g 1 0 (key_row (s ∷ xs)) [] (λ q. omega arith) in
    segment_path (ap (λ (r : Row). cell r owner_cell) row0) (ap (λ (r : Row). cell r kind_cell) row0)
    (ap (λ (r : Row). keys_in (set r 0 s)) (get_or-set_same g 1 (key_row (s ∷ xs)) [] (omega arith)) ∙ ap (map key_in) (keep_key_row (s ∷ xs) h)) refl

-- ---- N, G and T

pub new_table : (s u kind : ℕ) (g t : Table) → s < most_segments
    → segment_of s (new_segment s u kind) (end_rows t 0) ≡ fresh_segment s u kind
new_table s u kind g t low =
    segment_path refl refl
    (ap (map key_in) (keep_key_row (s ∷ []) (has_key_below s (omega arith), tt)) ∙ ap (λ (k : Key). k ∷ []) (key_in_segment s low))
    (ap (map product_in) (used_end_rows t))

pub give_table : (s c : ℕ) (g t : Table) → s < most_segments → c < most_defined → length g ≡ 2 → length (row_at g 1) ≡ 8
    → segment_of s (give_code s (defined_cell c) g) t ≡ give_key c (segment_of s g t)
give_table s c g t low lt two eight =
    let rest : List ℕ = keep has_key (tail_of (row_at g 1)) in
    let own : keep has_key (list_row s g) ≡ s ∷ rest = kept_list s g low eight in
    let every : All (λ x. has_key x ≡ true) (s ∷ (rest ++ defined_cell c ∷ [])) =
    (has_key_below s (omega arith), All-append (λ x. has_key x ≡ true) rest (defined_cell c ∷ []) (keep_passes has_key (tail_of (row_at g 1))) (has_key_below (defined_cell c) (omega arith), tt)) in
    ap (λ (r : List ℕ). segment_of s (set g 1 (key_row (r ++ defined_cell c ∷ []))) t) own
    ∙ store_list s (rest ++ defined_cell c ∷ []) g t two every
    ∙ ap (with_keys (segment_of s g t))
    (map-append key_in (s ∷ rest) (defined_cell c ∷ []) ∙ ap₂ (λ (r : List ℕ) (k : Key). map key_in r ++ k ∷ []) (sym own) (key_in_defined c))

pub take_table : (s c : ℕ) (g t : Table) → s < most_segments → length g ≡ 2 → length (row_at g 1) ≡ 8
    → segment_of s (take_code s (defined_cell c) g) t ≡ take_key c (segment_of s g t)
take_table s c g t low two eight =
    let stays : ℕ → Bool = λ y. not (eqb (defined_cell c) y) in
    let rest : List ℕ = keep has_key (tail_of (row_at g 1)) in
    let own : keep has_key (list_row s g) ≡ s ∷ rest = kept_list s g low eight in
    let other : eqb (defined_cell c) s ≡ false = ne_eqb (defined_cell c) s (λ q. omega arith) in
    let left : keep stays (keep has_key (list_row s g)) ≡ s ∷ keep stays rest = ap (keep stays) own ∙ simp other in
    let every : All (λ x. has_key x ≡ true) (s ∷ keep stays rest) =
    (has_key_below s (omega arith), All-keep (λ x. has_key x ≡ true) stays rest (keep_passes has_key (tail_of (row_at g 1)))) in
    let test : keep stays (keep has_key (list_row s g)) ≡ keep (λ y. not (same_key (Defined c) (key_in y))) (keep has_key (list_row s g)) =
    keep_same stays (λ y. not (same_key (Defined c) (key_in y))) (λ y. ap not (sym (same_code c y))) (keep has_key (list_row s g)) in
    ap (λ (r : List ℕ). segment_of s (set g 1 (key_row r)) t) left
    ∙ store_list s (keep stays rest) g t two every
    ∙ ap (with_keys (segment_of s g t))
    (ap (map key_in) (sym left ∙ test) ∙ sym (keep_map (λ j. not (same_key (Defined c) j)) key_in (keep has_key (list_row s g))))

-- ---- L and D

pub add_table : (i : Issued) (ps : Sum) (s lock operations : ℕ) (g t : Table) → Each Kept ps
    → Each (λ p. Each (λ x. issued_to i (atom_of x) ≡ true) p) ps → i.segments ≤ most_segments → i.defined ≤ most_defined
    → 0 < operations → operations < 16 → length t ≡ most_standing → length (segment_of s g t).products + length ps ≤ most_standing
    → segment_of s g (add_rows lock operations ps t) ≡ add_products lock operations ps (segment_of s g t)
add_table i ps s lock operations g t kept handed segments defined some few eight fits =
    let readable : Each Readable ps = all_mapped (λ p h. all_mapped (literal_read i segments defined) h) handed in
    let many : length (map product_in (used_rows t)) ≡ length (used_rows t) = length-map (used_rows t) product_in in
    let room : length (used_rows t) + length ps ≤ length t = omega arith in
    segment_path refl refl refl
    (ap (map product_in) (used_add_rows lock operations ps t some room)
    ∙ map-append product_in (used_rows t) (map (product_row lock operations) ps)
    ∙ ap (λ (r : List LockProduct). map product_in (used_rows t) ++ r) (products_read lock operations ps kept few readable))

pub drop_table : (n s : ℕ) (g t : Table) → segment_of s g (drop_rows n t) ≡ drop_products n (segment_of s g t)
drop_table n s g t =
    segment_path refl refl refl (ap (map product_in) (used_drop_rows n t) ∙ sym (keep_map (λ r. not (is_of_lock n r)) product_in (used_rows t)))

-- ---- sizes

length_key_row : (xs : List ℕ) → length xs ≤ most_listed → length (key_row xs) ≡ most_listed
length_key_row xs h = simp (length-append, length-replicate) (omega arith)

-- a row with cells is inside its table
row_inside : (g : Table) → length (row_at g 1) ≡ 8 → 1 < length g
row_inside [] e = absurd (omega arith)
row_inside (w ∷ []) e = absurd (omega arith)
row_inside (w ∷ v ∷ g) e = omega arith

pub give_sizes : (s c : ℕ) (g : Table) → length (row_at g 1) ≡ 8 → length (keep has_key (list_row s g)) < 8
    → length (row_at (give_code s (defined_cell c) g) 1) ≡ 8
give_sizes s c g eight room =
    let xs : List ℕ = keep has_key (list_row s g) in
    let more : length (xs ++ defined_cell c ∷ []) ≡ length xs + 1 = length-append xs (defined_cell c ∷ []) in
    ap length (get_or-set_same g 1 (key_row (xs ++ defined_cell c ∷ [])) [] (row_inside g eight)) ∙ length_key_row (xs ++ defined_cell c ∷ []) (omega arith)

pub take_sizes : (s c : ℕ) (g : Table) → length (row_at g 1) ≡ 8 → length (row_at (take_code s (defined_cell c) g) 1) ≡ 8
take_sizes s c g eight =
    let stays : ℕ → Bool = λ y. not (eqb (defined_cell c) y) in
    let xs : List ℕ = keep stays (keep has_key (list_row s g)) in
    let fewer : length xs ≤ length (keep has_key (list_row s g)) = length_keep stays (keep has_key (list_row s g)) in
    let few : length (keep has_key (list_row s g)) ≤ length (list_row s g) = length_keep has_key (list_row s g) in
    let same : length (list_row s g) ≡ length (row_at g 1) = length-set (row_at g 1) 0 s in
    ap length (get_or-set_same g 1 (key_row xs) [] (row_inside g eight)) ∙ length_key_row xs (omega arith)

pub length_add_rows : (lock operations : ℕ) (ps : Sum) (t : Table) → length (add_rows lock operations ps t) ≡ length t
length_add_rows lock operations ps t = length_store_rows (length (used_rows t)) (map (product_row lock operations) ps) t

pub length_drop_rows : (n : ℕ) (t : Table) → length (drop_rows n t) ≡ length t
length_drop_rows n t = length_store_rows 0 (keep (λ w. not (is_of_lock n (product_in w))) (used_rows t)) t

pub add_sizes : (j lock operations : ℕ) (ps : Sum) (t : Table) → Each Kept ps → length t ≡ most_standing
    → ((k : ℕ) → k < most_standing → length (row_at t k) ≡ 8) → j < most_standing → length (row_at (add_rows lock operations ps t) j) ≡ 8
add_sizes j lock operations ps t kept eight h lt =
    let same : length (add_rows lock operations ps t) ≡ length t = length_add_rows lock operations ps t in
    eights_store_rows (length (used_rows t)) (map (product_row lock operations) ps) t (λ k l. h k (omega arith)) (eights_products lock operations ps kept) j
    (omega arith)

pub drop_sizes : (j n : ℕ) (t : Table) → length t ≡ most_standing → ((k : ℕ) → k < most_standing → length (row_at t k) ≡ 8) → j < most_standing
    → length (row_at (drop_rows n t) j) ≡ 8
drop_sizes j n t eight h lt =
    let stays : Row → Bool = λ w. not (is_of_lock n (product_in w)) in
    let same : length (drop_rows n t) ≡ length t = length_drop_rows n t in
    let every : Eights t = λ k l. h k (omega arith) in
    eights_store_rows 0 (keep stays (used_rows t)) t every (All-keep (λ w. length w ≡ 8) stays (used_rows t) (eights_used t every)) j (omega arith)
