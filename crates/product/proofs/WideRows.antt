-- A row's literals copied into sixteen blank cells, and sixteen cells of at most 6 literals made a row.
use mathlib.Core.Path.{◌≡◌, refl, sym, ap, ap₂, ◌∙◌}
use mathlib.Core.Bool.{false, and-false}
use mathlib.Core.List.{List, [], ◌∷◌, ◌++◌, map, map-append, append_assoc}
use Prim.Native.Nat.{ℕ, suc, ◌+◌, ◌-◌, ◌%◌, ◌≤◌, ◌<◌}
use native.Mathlib.Omega.{arith}
use native.Mathlib.Numerals.{add-one}
use lib.ListN.{length, get_or, set, take, drop, replicate, length-map, length-append, length-replicate, get_or-replicate, take-append-drop, get_or-append}
use lib.Seq.{take-suc, append_snoc, set_at, get_or_at, get_or-drop, get_or-take, take_at, take-append-add, drop_at, length-take-le}
use Rattle.product.specs.declared.literal.Literal.{Literal}
use Rattle.product.specs.Product.{Product, same, insert, union, same_product}
use Rattle.product.specs.Code.{code_of, literal_of, Encoded}
use Rattle.product.specs.Cells.{size_of, product_of}
use Rattle.product.specs.Internal.{Size, wide_of, Blank, Row}
use Rattle.product.proofs.Codes.{read_code, low_code, read_again}
use Rattle.base.proofs.Parts.{get_d_mapped, take_replicate, read, read_take, length_part, part_cons, part_past}
use Rattle.product.proofs.Insertion.{blank_length}

-- the numbers of the literals that the numbers are read as
abbrev pub again : List ℕ → List ℕ
again xs = map code_of (map literal_of xs)

again_length : (xs : List ℕ) → length (again xs) ≡ length xs
again_length xs = length-map (map literal_of xs) code_of ∙ length-map xs literal_of

again_read : (xs : List ℕ) → map literal_of (again xs) ≡ map literal_of xs
again_read [] = refl
again_read (x ∷ xs) = ap₂ (λ (l : Literal) (p : Product). l ∷ p) (read_again x) (again_read xs)

again_low : (xs : List ℕ) (j : ℕ) → j < length xs → get_or (again xs) j 0 < 524288
again_low xs j h =
    let e : get_or (again xs) j 0 ≡ get_or xs j 0 % 524288 =
    get_d_mapped code_of (map literal_of xs) j (literal_of 0) 0 (omega (arith, h, length-map xs literal_of))
    ∙ ap code_of (get_d_mapped literal_of xs j 0 (literal_of 0) h) ∙ read_code (get_or xs j 0) in
    omega (arith, e)

-- the first i literals of the row are copied
abbrev pub Copied : List ℕ → List ℕ → ℕ → Type 0
Copied row cells i = cells ≡ again (take i row) ++ replicate (16 - i) 0

more_blank : (i : ℕ) → i < 16 → replicate {A = ℕ} (16 - i) 0 ≡ 0 ∷ replicate (16 - (i + 1)) 0
more_blank i h = let e : 16 - i ≡ suc (16 - (i + 1)) = omega arith in ap (λ (n : ℕ). replicate {A = ℕ} n 0) e

-- sixteen cells hold the product p, of at most `most` literals
pub record Joined (most : ℕ) (p : Product) (cells : List ℕ) (n : ℕ) : Type 0 where
  pub product : wide_of n cells ≡ p
  pub blank : Blank cells n
  pub few : n ≤ most

module _ {row : List ℕ} {n : ℕ} (z : Size row n) where
  again_taken : (i : ℕ) → i ≤ n → length (again (take i row)) ≡ i
  again_taken i h = again_length (take i row) ∙ length-take-le i row (omega (arith, h, z.small, z.cells))

  again_next : (i : ℕ) → i < n → again (take (suc i) row) ≡ again (take i row) ++ code_of (literal_of (get_or row i 0)) ∷ []
  again_next i h =
      ap again (take-suc row i 0 (omega (arith, h, z.small, z.cells)))
      ∙ ap (map code_of) (map-append literal_of (take i row) (get_or row i 0 ∷ []))
      ∙ map-append code_of (map literal_of (take i row)) (literal_of (get_or row i 0) ∷ [])

  pub copied_next : {cells : List ℕ} {i : ℕ} → i < n → {x : Literal} → x ≡ literal_of (get_or row i 0) → {v : ℕ} → Encoded x v → Copied row cells i → Copied row (set cells i v) (i + 1)
  copied_next {cells} {i} h {x} r {v} k e =
      let s = z.small in
      let c : v ≡ code_of (literal_of (get_or row i 0)) = k.code ∙ ap code_of r in
      rw (e, more_blank i (omega arith), add-one i, again_next i h, c)
      (set_at (again (take i row)) 0 (replicate (16 - suc i) 0) (code_of (literal_of (get_or row i 0))) i (again_taken i (omega arith))
      ∙ sym (append_snoc (again (take i row)) (code_of (literal_of (get_or row i 0))) (replicate (16 - suc i) 0)))

  pub copied_all : {cells : List ℕ} {i : ℕ} → i ≤ n → n ≤ i → Copied row cells i → Joined 6 (product_of row) cells n
  copied_all {cells} {i} l h e =
      let k : i ≡ n = omega arith in
      let m : length (again (take n row)) ≡ n = again_taken n (omega arith) in
      let d : cells ≡ again (take n row) ++ replicate (16 - n) 0 = rw (← k) e in
      let t : length (take n row) ≡ n = length-take-le n row (omega (arith, z.small, z.cells)) in
      record {
        product =
            ap (map literal_of) (ap (take n) d ∙ take_at (again (take n row)) (replicate (16 - n) 0) n m)
            ∙ again_read (take n row) ∙ ap (λ (j : ℕ). map literal_of (take j row)) z.size;
        blank =
            record {
              most = omega (arith, z.small);
              rest = ap (drop n) d ∙ drop_at (again (take n row)) (replicate (16 - n) 0) n m;
              coded =
                  λ j a.
                  let g : get_or cells j 0 ≡ get_or (again (take n row)) j 0 =
                  ap (λ (s : List ℕ). get_or s j 0) d ∙ get_or-append (again (take n row)) (replicate (16 - n) 0) 0 j (omega (arith, a, m)) in
                  omega (arith, g, again_low (take n row) j (omega (arith, a, t)));
            };
        few = z.small;
      }

-- the literals of a second row put among those of a first, up to place i
pub record Uniting (p : Product) (q : List ℕ) (r : Product) (i : ℕ) : Type 0 where
  pub below : i ≤ size_of q
  pub few : length r ≤ 6 + i
  pub whole : union p (product_of q) ≡ union r (drop i (product_of q))

module _ {p : Product} {q : List ℕ} {m : ℕ} (z : Size q m) {r : Product} {i : ℕ} (u : Uniting p q r i) where
  inside : size_of q ≤ length q
  inside = omega (arith, z.size, z.small, z.cells)

  pub uniting_next : {s : Product} → i < m → {x : Literal} → x ≡ literal_of (get_or q i 0) → s ≡ insert x r → length s ≤ length r + 1 → Uniting p q s (i + 1)
  unfolding union
  uniting_next h {x} e t l =
      record {
        below = omega (arith, z.size);
        few = omega (arith, l, u.few);
        whole = u.whole ∙ rw (part_cons literal_of q (size_of q) inside i 0 (omega (arith, z.size)), ← e, t);
      }

  pub uniting_end : m ≤ i → r ≡ union p (product_of q)
  unfolding union
  uniting_end h = sym (u.whole ∙ rw (part_past literal_of q (size_of q) inside i (omega (arith, z.size))))

-- the cells of a product that is given by its literals' numbers
abbrev row_for : List ℕ → ℕ → List ℕ
row_for xs n = xs ++ replicate (7 - n) 0 ++ n ∷ []

codes_back : (xs : List ℕ) → ((j : ℕ) → j < length xs → get_or xs j 0 < 524288) → again xs ≡ xs
codes_back [] h = refl
codes_back (x ∷ xs) h =
    ap₂ (λ (y : ℕ) (ys : List ℕ). y ∷ ys) (low_code x (h 0 (omega arith))) (codes_back xs (λ j l. h (suc j) (omega (arith, l))))

pub row_for_lem : (xs : List ℕ) (n : ℕ) → length xs ≡ n → n ≤ 6 → again xs ≡ xs → Row (map literal_of xs) (row_for xs n)
row_for_lem xs n l h c =
    let m : length (map literal_of xs) ≡ n = length-map xs literal_of ∙ l in
    let k : length (xs ++ replicate (7 - n) 0) ≡ 7 = length-append xs (replicate (7 - n) 0) ∙ omega (arith, length-replicate {A = ℕ} (7 - n) 0) in
    let g : get_or (row_for xs n) 7 0 ≡ n = get_or_at (xs ++ replicate (7 - n) 0) n [] 0 7 k in
    let z : size_of (row_for xs n) ≡ n = omega arith in
    let a : row_for xs n ≡ xs ++ (replicate (7 - n) 0 ++ n ∷ []) = append_assoc xs (replicate (7 - n) 0) (n ∷ []) in
    let t : take n (row_for xs n) ≡ xs = ap (take n) a ∙ take_at xs (replicate (7 - n) 0 ++ n ∷ []) n l in
    record { cells = sym (rw (c, m)); product = ap (map literal_of) (ap (λ (j : ℕ). take j (row_for xs n)) z ∙ t) }

module _ {cells : List ℕ} {n : ℕ} (h : n ≤ 6) (b : Blank cells n) where
  front : take 7 cells ≡ take n cells ++ replicate (7 - n) 0
  front =
      let l : length (take n cells) ≡ n = length-take-le n cells (omega (arith, blank_length b)) in
      let e : 7 ≡ n + (7 - n) = omega arith in
      let k : take (7 - n) (replicate {A = ℕ} (16 - n) 0) ≡ replicate (7 - n) 0 = take_replicate 0 (7 - n) (16 - n) (omega arith) in
      ap (take 7) (sym (take-append-drop n cells) ∙ ap (λ (s : List ℕ). take n cells ++ s) b.rest)
      ∙ ap (λ (j : ℕ). take j (take n cells ++ replicate (16 - n) 0)) (e ∙ ap (λ (j : ℕ). j + (7 - n)) (sym l))
      ∙ take-append-add (take n cells) (replicate (16 - n) 0) (7 - n)
      ∙ ap (λ (s : List ℕ). take n cells ++ s) k

  sixth : get_or cells 6 0 ≡ 0
  sixth =
      let e : n + (6 - n) ≡ 6 = omega arith in
      ap (λ (j : ℕ). get_or cells j 0) (sym e) ∙ sym (get_or-drop n cells (6 - n) 0) ∙ ap (λ (s : List ℕ). get_or s (6 - n) 0) b.rest ∙ get_or-replicate (16 - n) (6 - n) 0 0 (omega arith)

  pub narrowed : Row (wide_of n cells) (get_or cells 0 0 ∷ get_or cells 1 0 ∷ get_or cells 2 0 ∷ get_or cells 3 0 ∷ get_or cells 4 0 ∷ get_or cells 5 0 ∷ 0 ∷ n ∷ [])
  unfolding read
  narrowed =
      let l : length (take n cells) ≡ n = length-take-le n cells (omega (arith, blank_length b)) in
      let r : read 0 cells 0 7 ≡ take n cells ++ replicate (7 - n) 0 = read_take 0 cells 0 7 (omega (arith, blank_length b)) ∙ front in
      let e : get_or cells 0 0 ∷ get_or cells 1 0 ∷ get_or cells 2 0 ∷ get_or cells 3 0 ∷ get_or cells 4 0 ∷ get_or cells 5 0 ∷ 0 ∷ [] ≡ take n cells ++ replicate (7 - n) 0 = rw sixth at r in
      let codes : again (take n cells) ≡ take n cells =
      codes_back (take n cells) (λ j a. let low : j < n = omega (arith, a, l) in omega (arith, get_or-take n cells j 0 low, b.coded j low)) in
      rw (ap (λ (s : List ℕ). s ++ n ∷ []) e) (row_for_lem (take n cells) n l h codes)

-- two rows compared literal by literal

module _ {row : List ℕ} {n : ℕ} (z : Size row n) (i : ℕ) where
  enough : size_of row ≤ length row
  enough = omega (arith, z.size, z.small, z.cells)

  pub row_cons : i < n → drop i (product_of row) ≡ literal_of (get_or row i 0) ∷ drop (i + 1) (product_of row)
  row_cons h = part_cons literal_of row (size_of row) enough i 0 (omega (arith, z.size))

  pub row_past : n ≤ i → drop i (product_of row) ≡ []
  row_past h = part_past literal_of row (size_of row) enough i (omega (arith, z.size))

differ : (p q : Product) → (length p ≡ length q → ⊥) → same_product p q ≡ false
unfolding same_product
differ [] [] h = absurd (h refl)
differ [] (y ∷ q) h = refl
differ (x ∷ p) [] h = refl
differ (x ∷ p) (y ∷ q) h = rw (differ p q (λ e. h (ap suc e))) (and-false (same x y))

pub rows_differ : {p q : List ℕ} {n m : ℕ} → Size p n → Size q m → (n ≡ m → ⊥) → same_product (product_of p) (product_of q) ≡ false
rows_differ {p} {q} {n} {m} y z h =
    differ (product_of p) (product_of q)
    (λ e. h (omega (arith, e, y.size, z.size, length_part literal_of p (size_of p) (enough y 0), length_part literal_of q (size_of q) (enough z 0))))
