-- What anyone but the owner sees of a segment's products depends on the locks' numbers and operations alone: each lock
-- has at least one product, and of those that follow each other with one number the first counts.
use mathlib.Core.Path.{◌≡◌, refl, ap, ◌∙◌}
use mathlib.Core.Bool.{true, not}
use mathlib.Core.List.{List, [], ◌∷◌, ◌++◌, map}
use Prim.Native.Nat.{ℕ}
use native.Mathlib.Omega.{arith}
use lib.Dec.{eqb, ltb}
use borrow.Author.Tests.{ltb-true, ne_eqb}
use Rattle.product.specs.Product.{Product}
use Rattle.product.specs.Sum.{Sum}
use Rattle.base.specs.Lists.{keep_if, concat_map, rising}
use Rattle.base.proofs.Lists.{All, eqb_self, map_keep_if}
use Rattle.base.proofs.Truth.{and_left, and_right}
use Rattle.model.specs.State.{LockProduct}
use Rattle.model.specs.Effects.{lock_product}
use Rattle.rows.specs.declared.row.Row.{Row}
use Rattle.rows.specs.Rows.{list_row, row_without_keys, firsts_after, firsts_of}

-- the rows of numbers and operations, after a lock of number n
abbrev blanks_after : ℕ → List (ℕ × ℕ) → List Row
blanks_after n [] = []
blanks_after n (h ∷ hs) = keep_if (not (eqb h.0 n)) (list_row h.0 h.1 []) (blanks_after h.0 hs)

abbrev pub blanks_of : List (ℕ × ℕ) → List Row
blanks_of [] = []
blanks_of (h ∷ hs) = list_row h.0 h.1 [] ∷ blanks_after h.0 hs

-- further products of the lock
more_of_lock : (n operations : ℕ) (ps : Sum) (rest : List LockProduct) → firsts_after n (map (lock_product n operations) ps ++ rest) ≡ firsts_after n rest
more_of_lock n operations [] rest = refl
more_of_lock n operations (p ∷ ps) rest = rw (eqb_self n) (more_of_lock n operations ps rest)

-- locks of any kind, with their number, operations and products
module _ {L : Type 0} (number operations : L → ℕ) (sum : L → Sum) where
  abbrev pub stored : L → List LockProduct
  stored l = map (lock_product (number l) (operations l)) (sum l)

  abbrev pub head : L → ℕ × ℕ
  head l = (number l, operations l)

  abbrev pub Filled : L → Type 0
  Filled l = (p : Product) × (ps : Sum) × (sum l ≡ p ∷ ps)

  blanks_after_lem : (n : ℕ) (ls : List L) → All Filled ls → map row_without_keys (firsts_after n (concat_map stored ls)) ≡ blanks_after n (map head ls)
  blanks_after_lem n [] h = refl
  blanks_after_lem n (l ∷ ls) ((p, ps, e), h) =
      let rest = concat_map stored ls in
      ap (λ (qs : Sum). map row_without_keys (firsts_after n (map (lock_product (number l) (operations l)) qs ++ rest))) e
      ∙ map_keep_if row_without_keys (not (eqb (number l) n)) (lock_product (number l) (operations l) p) (firsts_after (number l) (map (lock_product (number l) (operations l)) ps ++ rest))
      ∙ ap (λ (rs : List Row). keep_if (not (eqb (number l) n)) (list_row (number l) (operations l) []) rs)
      (ap (map row_without_keys) (more_of_lock (number l) (operations l) ps rest) ∙ blanks_after_lem (number l) ls h)

  pub blanks_of_lem : (ls : List L) → All Filled ls → map row_without_keys (firsts_of (concat_map stored ls)) ≡ blanks_of (map head ls)
  blanks_of_lem [] h = refl
  blanks_of_lem (l ∷ ls) ((p, ps, e), h) =
      let rest = concat_map stored ls in
      ap (λ (qs : Sum). map row_without_keys (firsts_of (map (lock_product (number l) (operations l)) qs ++ rest))) e
      ∙ ap (λ (rs : List Row). list_row (number l) (operations l) [] ∷ rs)
      (ap (map row_without_keys) (more_of_lock (number l) (operations l) ps rest) ∙ blanks_after_lem (number l) ls h)

-- where the numbers rise, each has its row
abbrev blank_for : ℕ × ℕ → Row
blank_for h = list_row h.0 h.1 []

rising_after : (n : ℕ) (hs : List (ℕ × ℕ)) → rising (n ∷ map (λ h. h.0) hs) ≡ true → blanks_after n hs ≡ map blank_for hs
rising_after n [] r = refl
rising_after n (h ∷ hs) r =
    let less = ltb-true n h.0 (and_left (ltb n h.0) _ r) in
    rw (ne_eqb h.0 n (λ e. omega arith)) (ap (λ (rs : List Row). blank_for h ∷ rs) (rising_after h.0 hs (and_right (ltb n h.0) _ r)))

pub rising_blanks : (hs : List (ℕ × ℕ)) → rising (map (λ h. h.0) hs) ≡ true → blanks_of hs ≡ map blank_for hs
rising_blanks [] r = refl
rising_blanks (h ∷ hs) r = ap (λ (rs : List Row). blank_for h ∷ rs) (rising_after h.0 hs r)
