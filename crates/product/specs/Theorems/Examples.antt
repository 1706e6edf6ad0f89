-- Worked examples of products and sums, by document 01's 'Lock text', each answer written out. Proved in
-- `proofs/Examples.antt`, by computing.
use Rattle.std.specs.Prelude.{◌≡◌, Bool, true, false, List, [], ◌∷◌, map, ℕ, replicate, None, Some}
use Rattle.product.specs.declared.literal.Key.TheVariants.{User, Thread, Segment}
use Rattle.product.specs.declared.literal.Literal.TheVariants.{Plain, Barred}
use Rattle.product.specs.Product.{Product, opens, union, contradictory, same_product}
use Rattle.product.specs.Sum.{conjoin, disjoin, cap, joined}
use Rattle.product.specs.Code.{code_of, literal_of}
use Rattle.product.specs.Cells.{product_of, sum_of, rows_of, blank_row}
use Rattle.product.specs.Held.{held_by, opens_sum}
use Rattle.product.specs.Notation.{plain, barred}

-- a product with keys of all four kinds: U1, R2, S3 and D4, and U0 and D5 barred; one with a key of each kind barred
abbrev pub mixed : Product
mixed = Barred (User 0) ∷ Plain (User 1) ∷ Plain (Thread 2) ∷ Plain (Segment 3) ∷ plain 4 ∷ barred 5 ∷ []

abbrev pub without : Product
without = Barred (User 0) ∷ Barred (Thread 0) ∷ Barred (Segment 0) ∷ barred 0 ∷ []

-- whether the key set with these keys' numbers opens the product
abbrev pub opens_for : List ℕ → Product → Bool
opens_for keys p = opens (held_by keys) p

pub record Examples : Type 0 where
  -- A product is kept in the order U, R, S, D, then by number: 10 comes after 9, and a later kind's 0 after an earlier
  -- one's 9.
  pub kinds : union (plain 1 ∷ []) (Barred (Segment 0) ∷ Plain (Thread 0) ∷ Barred (User 0) ∷ plain 0 ∷ [])
      ≡ Barred (User 0) ∷ Plain (Thread 0) ∷ Barred (Segment 0) ∷ plain 0 ∷ plain 1 ∷ []
  pub numbers :
      union (plain 10 ∷ [])
      (plain 9 ∷ Plain (Segment 10) ∷ Plain (Segment 9) ∷ Plain (Thread 65535) ∷ Plain (User 65535) ∷ [])
      ≡ Plain (User 65535) ∷ Plain (Thread 65535) ∷ Plain (Segment 9) ∷ Plain (Segment 10) ∷ plain 9 ∷ plain 10 ∷ []
  pub once : union (plain 0 ∷ plain 1 ∷ []) (plain 1 ∷ plain 2 ∷ plain 0 ∷ []) ≡ plain 0 ∷ plain 1 ∷ plain 2 ∷ []
  -- a key both plain and barred; not two keys with one number, nor a key twice with one sign
  pub clash : contradictory (plain 0 ∷ plain 1 ∷ barred 0 ∷ []) ≡ true
  pub other_kind : contradictory (Plain (User 0) ∷ Barred (Thread 0) ∷ Plain (Segment 0) ∷ barred 0 ∷ []) ≡ false
  pub other_number : contradictory (plain 0 ∷ barred 1 ∷ []) ≡ false
  pub sign_matters : same_product (plain 0 ∷ []) (barred 0 ∷ []) ≡ false
  pub kind_matters : same_product (Plain (Segment 0) ∷ []) (plain 0 ∷ []) ≡ false
  -- A key set opens a product when every plain key is in it and every barred one is not. U1 is 1, R2 65,538, S3
  -- 131,075, D4 196,612.
  pub held : opens_for (1 ∷ 65538 ∷ 131075 ∷ 196612 ∷ []) mixed ≡ true
  pub order_free : opens_for (196612 ∷ 131075 ∷ 1 ∷ 65538 ∷ 196617 ∷ []) mixed ≡ true
  pub no_user : opens_for (65538 ∷ 131075 ∷ 196612 ∷ []) mixed ≡ false
  pub no_thread_lem : opens_for (1 ∷ 131075 ∷ 196612 ∷ []) mixed ≡ false
  pub no_segment_lem : opens_for (1 ∷ 65538 ∷ 196612 ∷ []) mixed ≡ false
  pub no_defined : opens_for (1 ∷ 65538 ∷ 131075 ∷ []) mixed ≡ false
  -- U0 is 0, R0 65,536, S0 131,072, D0 196,608 and D5 196,613
  pub first_barred : opens_for (0 ∷ 1 ∷ 65538 ∷ 131075 ∷ 196612 ∷ []) mixed ≡ false
  pub last_barred : opens_for (1 ∷ 65538 ∷ 131075 ∷ 196612 ∷ 196613 ∷ []) mixed ≡ false
  pub others : opens_for (1 ∷ 65537 ∷ 131073 ∷ 196609 ∷ []) without ≡ true
  pub barred_user : opens_for (0 ∷ []) without ≡ false
  pub barred_thread : opens_for (65536 ∷ []) without ≡ false
  pub barred_segment : opens_for (131072 ∷ []) without ≡ false
  pub barred_defined : opens_for (196608 ∷ []) without ≡ false
  -- a barred key needs no other key, and a plain one is needed
  pub barred_alone : opens_for [] (barred 0 ∷ []) ≡ true
  pub plain_alone : opens_for [] (plain 0 ∷ []) ≡ false
  -- one product that opens is enough, and none of a sum that is too wide does
  pub second_opens : opens_sum (held_by (196609 ∷ [])) (Some ((plain 0 ∷ []) ∷ (plain 1 ∷ []) ∷ [])) ≡ true
  pub none_opens : opens_sum (held_by (196610 ∷ [])) (Some ((plain 0 ∷ []) ∷ (plain 1 ∷ []) ∷ [])) ≡ false
  pub wide_opens : opens_sum (held_by (196608 ∷ [])) None ≡ false
  -- OR joins the left list and the right, and of repeats the first stays
  pub either : disjoin ((plain 1 ∷ []) ∷ (plain 0 ∷ []) ∷ []) ((plain 2 ∷ []) ∷ (plain 1 ∷ []) ∷ [])
      ≡ (plain 1 ∷ []) ∷ (plain 0 ∷ []) ∷ (plain 2 ∷ []) ∷ []
  -- AND joins each left product, in order, with each right one; a product with a key both plain and barred goes
  pub both : conjoin ((plain 0 ∷ []) ∷ (plain 1 ∷ []) ∷ []) ((plain 2 ∷ []) ∷ (barred 0 ∷ []) ∷ [])
      ≡ (plain 0 ∷ plain 2 ∷ []) ∷ (plain 1 ∷ plain 2 ∷ []) ∷ (barred 0 ∷ plain 1 ∷ []) ∷ []
  -- a node fits with 8 products and not with 9, of 6 literals and not of 7
  pub eight : cap (map (λ n. plain n ∷ []) (0 ∷ 1 ∷ 2 ∷ 3 ∷ 4 ∷ 5 ∷ 6 ∷ 7 ∷ []))
      ≡ Some (map (λ n. plain n ∷ []) (0 ∷ 1 ∷ 2 ∷ 3 ∷ 4 ∷ 5 ∷ 6 ∷ 7 ∷ []))
  pub nine : cap (map (λ n. plain n ∷ []) (0 ∷ 1 ∷ 2 ∷ 3 ∷ 4 ∷ 5 ∷ 6 ∷ 7 ∷ 8 ∷ [])) ≡ None
  pub six : cap (map plain (0 ∷ 1 ∷ 2 ∷ 3 ∷ 4 ∷ 5 ∷ []) ∷ []) ≡ Some (map plain (0 ∷ 1 ∷ 2 ∷ 3 ∷ 4 ∷ 5 ∷ []) ∷ [])
  pub seven : cap ((plain 0 ∷ []) ∷ map plain (0 ∷ 1 ∷ 2 ∷ 3 ∷ 4 ∷ 5 ∷ 6 ∷ []) ∷ []) ≡ None
  pub wide_left : joined disjoin None (Some []) ≡ None
  pub wide_right : joined disjoin (Some []) None ≡ None
  -- the number of a cell: twice the key's, and 1 more where it is barred; 65,536 keys of a kind
  pub codes :
      map code_of
      (Plain (User 0) ∷ Barred (User 0) ∷ Plain (User 65535) ∷ Plain (Thread 0) ∷ Plain (Segment 0) ∷ barred 1 ∷ [])
      ≡ 0 ∷ 1 ∷ 131070 ∷ 131072 ∷ 262144 ∷ 393219 ∷ []
  pub read : map literal_of (0 ∷ 1 ∷ 131071 ∷ 131072 ∷ 262145 ∷ 393219 ∷ 524289 ∷ [])
      ≡ Plain (User 0) ∷ Barred (User 0) ∷ Barred (User 65535) ∷ Plain (Thread 0)
      ∷ Barred (Segment 0) ∷ barred 1 ∷ Barred (User 0) ∷ []
  -- a row's last cell says how many literals it has, as 6 where it says more; the rows of a sum, and what they read as
  pub row : product_of (393217 ∷ 393219 ∷ 5 ∷ 0 ∷ 0 ∷ 0 ∷ 0 ∷ 2 ∷ []) ≡ barred 0 ∷ barred 1 ∷ []
  pub long_row : product_of (0 ∷ 2 ∷ 4 ∷ 6 ∷ 8 ∷ 10 ∷ 12 ∷ 9 ∷ [])
      ≡ map (λ n. Plain (User n)) (0 ∷ 1 ∷ 2 ∷ 3 ∷ 4 ∷ 5 ∷ [])
  pub rows : rows_of ((barred 0 ∷ barred 1 ∷ []) ∷ [])
      ≡ (393217 ∷ 393219 ∷ 0 ∷ 0 ∷ 0 ∷ 0 ∷ 0 ∷ 2 ∷ []) ∷ replicate 7 blank_row
  pub first_rows : sum_of 1 ((1 ∷ 0 ∷ 0 ∷ 0 ∷ 0 ∷ 0 ∷ 0 ∷ 1 ∷ []) ∷ replicate 7 blank_row)
      ≡ Some ((Barred (User 0) ∷ []) ∷ [])
  pub too_many_rows : sum_of 9 (replicate 8 blank_row) ≡ None
