-- Rows being filled with products. The idea: up to 8 products the rows are at every moment the cells of the sum that
-- they read as, and capping a list at each step is capping it at the end.
use Rattle.std.specs.Prelude.{None, Some}
use Rattle.std.specs.List.{list_any}
use mathlib.Core.Path.{◌≡◌, refl, sym, ap, ◌∙◌}
use mathlib.Core.Bool.{Bool, true, false, cond, ◌&&◌, ◌||◌, and-false, and-true}
use mathlib.Core.List.{List, [], ◌∷◌, ◌++◌, map, map-append}
use Prim.Native.Nat.{ℕ, zero, suc, ◌+◌, ◌-◌, ◌≤◌, ◌<◌}
use native.Mathlib.Omega.{arith}
use lib.Dec.{leb}
use lib.ListN.{length, set, take, replicate, length-append, length-map, length-take, length-replicate}
use lib.Seq.{append_snoc, set_at}
use borrow.Author.Tests.{le-leb, lt-leb, leb-true}
use Rattle.product.specs.Product.{Product, same, contradictory, same_product}
use Rattle.product.specs.Sum.{Sum, Sum?, join_all, conjoin, disjoin, present, consistent, firsts, tidy, narrow, fits_node, cap, joined}
use Rattle.product.specs.Code.{literal_of}
use Rattle.product.specs.Cells.{size_of, product_of, products_of, sum_of, row_of, blank_row, rows_of, HoldsSum}
use Rattle.product.specs.Internal.{add, add_to, add_each, Clean, Row}
use Rattle.base.proofs.Truth.{and_both}
use Rattle.base.proofs.Parts.{part_snoc, length_part}

-- lists of products: how wide they are

narrow_snoc : (ps : Sum) (p : Product) → narrow ps ≡ true → narrow (ps ++ p ∷ []) ≡ leb (length p) 6
unfolding narrow
narrow_snoc [] p h = and-true (leb (length p) 6)
narrow_snoc (q ∷ ps) p h = let b = and_both (leb (length q) 6) (narrow ps) h in rw b.0 (narrow_snoc ps p b.1)

fits_snoc : (ps : Sum) (p : Product) → narrow ps ≡ true → fits_node (ps ++ p ∷ []) ≡ (leb (length ps + 1) 8 && leb (length p) 6)
unfolding fits_node
fits_snoc ps p h = rw (length-append ps (p ∷ []), narrow_snoc ps p h)

narrow_part : (ps : Sum) (p : Product) → narrow (ps ++ p ∷ []) ≡ true → narrow ps ≡ true
unfolding narrow
narrow_part [] p h = refl
narrow_part (q ∷ ps) p h = let b = and_both (leb (length q) 6) (narrow (ps ++ p ∷ [])) h in rw b.0 (narrow_part ps p b.1)

fits_part : (ps : Sum) (p : Product) → fits_node (ps ++ p ∷ []) ≡ true → fits_node ps ≡ true
unfolding fits_node
fits_part ps p h =
    let b = and_both (leb (length (ps ++ p ∷ [])) 8) (narrow (ps ++ p ∷ [])) h in
    rw (le-leb (length ps) 8 (omega (arith, leb-true (length (ps ++ p ∷ [])) 8 b.0, length-append ps (p ∷ []))), narrow_part ps p b.1)

-- capping at each step is capping at the end

fits_add : (ps : Sum) (p : Product) → fits_node (add ps p) ≡ true → fits_node ps ≡ true
unfolding add
fits_add ps p = go (contradictory p || present p ps)
  where
    go : (b : Bool) → fits_node (cond b ps (ps ++ p ∷ [])) ≡ true → fits_node ps ≡ true
    go true h = h
    go false h = fits_part ps p h

cap_add : (ps : Sum) (p : Product) → add_to (cap ps) p ≡ cap (add ps p)
cap_add ps p = go (fits_node ps) (fits_node (add ps p)) refl refl
  where
    go : (a b : Bool) → fits_node ps ≡ a → fits_node (add ps p) ≡ b → add_to (cond a (Some ps) None) p ≡ cond b (Some (add ps p)) None
    go true b e f = rw f
    go false true e f = let h = fits_add ps p f in cc
    go false false e f = refl

firsts_add : (found : Sum) (p : Product) (ps : Sum) → firsts (add found p) (consistent ps) ≡ firsts found (consistent (p ∷ ps))
unfolding add firsts consistent
firsts_add found p ps = go (contradictory p)
  where
    go : (a : Bool) → firsts (cond (a || present p found) found (found ++ p ∷ [])) (consistent ps) ≡ firsts found (cond a (consistent ps) (p ∷ consistent ps))
    go true = refl
    go false = refl

cap_each : (found ps : Sum) → add_each (cap found) ps ≡ cap (firsts found (consistent ps))
unfolding add_each firsts consistent
cap_each found [] = refl
cap_each found (p ∷ ps) = ap (λ (x : Sum?). add_each x ps) (cap_add found p) ∙ cap_each (add found p) ps ∙ ap cap (firsts_add found p ps)

pub each_tidy : (ps : Sum) → add_each (Some []) ps ≡ cap (tidy ps)
unfolding fits_node narrow
each_tidy ps = cap_each [] ps

pub each_append : (x : Sum?) (ps qs : Sum) → add_each x (ps ++ qs) ≡ add_each (add_each x ps) qs
unfolding add_each
each_append x [] qs = refl
each_append x (p ∷ ps) qs = each_append (add_to x p) ps qs

-- the sums that rows read as

short_product : (row : List ℕ) → length (product_of row) ≤ 6
short_product row = omega (arith, length-map (take (size_of row) row) literal_of, length-take (size_of row) row)

narrow_rows : (n : ℕ) (rows : List (List ℕ)) → narrow (products_of n rows) ≡ true
unfolding narrow
narrow_rows zero rows = refl
narrow_rows (suc n) [] = refl
narrow_rows (suc n) (row ∷ rows) = rw (le-leb (length (product_of row)) 6 (short_product row)) (narrow_rows n rows)

length_rows : (n : ℕ) (rows : List (List ℕ)) → length (products_of n rows) ≤ n
length_rows n rows = omega (arith, length-map (take n rows) product_of, length-take n rows)

rows_fit : (n : ℕ) (rows : List (List ℕ)) → n ≤ 8 → fits_node (products_of n rows) ≡ true
unfolding fits_node
rows_fit n rows h = rw (le-leb (length (products_of n rows)) 8 (omega (arith, length_rows n rows)), narrow_rows n rows)

pub sum_few : {n : ℕ} (rows : List (List ℕ)) → n ≤ 8 → sum_of n rows ≡ Some (products_of n rows)
sum_few {n} rows h = rw (le-leb n 8 h)

pub sum_wide : {n : ℕ} (rows : List (List ℕ)) → 8 < n → sum_of n rows ≡ None
sum_wide {n} rows h = rw (lt-leb n 8 h)

-- rows that are the cells of their sum

pub rows_length : (ps : Sum) → length ps ≤ 8 → length (rows_of ps) ≡ 8
rows_length ps h =
    length-append (map row_of ps) (replicate (8 - length ps) blank_row)
    ∙ omega (arith, length-map ps row_of, length-replicate (8 - length ps) blank_row)

module _ {rows : List (List ℕ)} {n : ℕ} (h : n ≤ 8) (c : Clean rows n) where
  pub clean_length : length rows ≡ 8
  clean_length = ap length (c.cells h) ∙ rows_length (products_of n rows) (omega (arith, length_rows n rows))

  pub clean_count : length (products_of n rows) ≡ n
  clean_count = length_part product_of rows n (omega (arith, clean_length))

-- a product looked for among rows
pub present_some : (p : Product) (rows : List (List ℕ)) → list_any (λ row. same_product p (product_of row)) rows ≡ present p (map product_of rows)
unfolding present
present_some p [] = refl
present_some p (row ∷ rows) = ap (λ (b : Bool). same_product p (product_of row) || b) (present_some p rows)

-- rows after a step that should make them the sum x
pub record Filled (x : Sum?) (rows : List (List ℕ)) (n : ℕ) : Type 0 where
  pub clean : Clean rows n
  pub reads : sum_of n rows ≡ x

-- adding one product: the ways that `add` returns

other_length : (p q : Product) → (length p ≡ length q → ⊥) → same_product p q ≡ false
unfolding same_product
other_length [] [] h = absurd (h refl)
other_length [] (y ∷ q) h = refl
other_length (x ∷ p) [] h = refl
other_length (x ∷ p) (y ∷ q) h = rw (other_length p q (λ e. h (ap suc e))) (and-false (same x y))

-- a product that is too long is no repeat
long_absent : (p : Product) (ps : Sum) → 6 < length p → narrow ps ≡ true → present p ps ≡ false
unfolding present narrow
long_absent p [] h n = refl
long_absent p (q ∷ ps) h n =
    let b = and_both (leb (length q) 6) (narrow ps) n in
    rw (other_length p q (λ e. omega (arith, leb-true (length q) 6 b.0)), long_absent p ps h b.1)

too_wide_lem : (rows : List (List ℕ)) → Clean rows 9
too_wide_lem rows = record { bound = omega arith; cells = λ h. let z : ⊥ = omega arith in absurd z }

module _ {rows : List (List ℕ)} {n : ℕ} (h : n ≤ 8) (c : Clean rows n) (p : Product) where
  pub filled_skip : (contradictory p || present p (products_of n rows)) ≡ true → Filled (add_to (sum_of n rows) p) rows n
  unfolding add
  filled_skip e = record { clean = c; reads = rw (sum_few rows h, e, rows_fit n rows h) }

  grown : contradictory p ≡ false → present p (products_of n rows) ≡ false
      → add_to (sum_of n rows) p ≡ cond (leb (n + 1) 8 && leb (length p) 6) (Some (products_of n rows ++ p ∷ [])) None
  unfolding add
  grown a b = rw (sum_few rows h, a, b, fits_snoc (products_of n rows) p (narrow_rows n rows), clean_count h c)

  pub filled_long : contradictory p ≡ false → 6 < length p → Filled (add_to (sum_of n rows) p) rows 9
  filled_long a l =
      record {
        clean = too_wide_lem rows;
        reads = sym (grown a (long_absent p (products_of n rows) l (narrow_rows n rows)) ∙ rw (lt-leb (length p) 6 l, and-false (leb (n + 1) 8)));
      }

  pub filled_full : contradictory p ≡ false → present p (products_of n rows) ≡ false → n ≡ 8 → Filled (add_to (sum_of n rows) p) rows 9
  filled_full a b e = record { clean = too_wide_lem rows; reads = sym (grown a b ∙ rw e) }

  blank_rows : n < 8 → replicate (8 - n) blank_row ≡ blank_row ∷ replicate (8 - (n + 1)) blank_row
  blank_rows l = let e : 8 - n ≡ suc (8 - (n + 1)) = omega arith in ap (λ (k : ℕ). replicate k blank_row) e

  pub filled_last : {row : List ℕ} → contradictory p ≡ false → present p (products_of n rows) ≡ false → n < 8 → length p ≤ 6 → Row p row
      → Filled (add_to (sum_of n rows) p) (set rows n row) (n + 1)
  filled_last {row} a b l s r =
      let ps = products_of n rows in
      let k : length (map row_of ps) ≡ n = length-map ps row_of ∙ clean_count h c in
      let t : products_of (n + 1) (set rows n row) ≡ ps ++ p ∷ [] = part_snoc product_of rows n row (omega (arith, clean_length h c)) ∙ rw r.product in
      let e : rows ≡ map row_of ps ++ blank_row ∷ replicate (8 - (n + 1)) blank_row = c.cells h ∙ rw (clean_count h c, blank_rows l) in
      let m : length (ps ++ p ∷ []) ≡ n + 1 = length-append ps (p ∷ []) ∙ omega (arith, clean_count h c) in
      record {
        clean = record {
          bound = omega arith;
          cells = λ _. ap (λ (x : List (List ℕ)). set x n row) e
              ∙ set_at (map row_of ps) blank_row (replicate (8 - (n + 1)) blank_row) row n k
              ∙ sym (rw (t, m, map-append row_of ps (p ∷ []), ← r.cells) (append_snoc (map row_of ps) row (replicate (8 - (n + 1)) blank_row)));
        };
        reads = sum_few {n = n + 1} (set rows n row) (omega arith) ∙ rw t (sym (grown a b ∙ rw (le-leb (n + 1) 8 (omega arith), le-leb (length p) 6 s)));
      }

-- what is read once a product was added, where x was read before
pub filled_view : (rows : List (List ℕ)) (n : ℕ) (p : Product) {new : List (List ℕ)} {r : ℕ} {x : Sum?} → sum_of n rows ≡ x → Filled (add_to (sum_of n rows) p) new r → sum_of r new ≡ add_to x p
filled_view rows n p v f = f.reads ∙ ap (λ (y : Sum?). add_to y p) v

-- two sums joined, neither of them too wide
module _ (g : Sum → Sum → Sum) (left right : List (List ℕ)) (n m : ℕ) where
  neither_wide : {x : Sum?} {out : List (List ℕ)} {c : ℕ} → n ≤ 8 → m ≤ 8 → x ≡ cap (g (products_of n left) (products_of m right))
      → HoldsSum x out c → HoldsSum (joined g (sum_of n left) (sum_of m right)) out c
  neither_wide h k e w = rw (sum_few left h, sum_few right k, ← e) w

module _ (left right : List (List ℕ)) (n m : ℕ) (h : n ≤ 8) (k : m ≤ 8) {x : Sum?} {out : List (List ℕ)} {c : ℕ} where
  pub conjoined : x ≡ add_each (Some []) (join_all (products_of n left) (products_of m right)) → HoldsSum x out c
      → HoldsSum (joined conjoin (sum_of n left) (sum_of m right)) out c
  conjoined e w = neither_wide conjoin left right n m h k (e ∙ each_tidy (join_all (products_of n left) (products_of m right))) w

  pub disjoined : x ≡ add_each (Some []) (map product_of (take n left ++ take m right)) → HoldsSum x out c
      → HoldsSum (joined disjoin (sum_of n left) (sum_of m right)) out c
  disjoined e w =
      neither_wide disjoin left right n m h k
      (e ∙ ap (add_each (Some [])) (map-append product_of (take n left) (take m right)) ∙ each_tidy (products_of n left ++ products_of m right)) w
