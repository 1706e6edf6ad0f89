-- One turn of each loop: what is left to ask answers what the whole does. Frames and literals are asked downwards, rows
-- upwards with the longest grant row found on the way.
use Rattle.std.specs.Prelude.{Option, None, Some}
use mathlib.Core.Path.{◌≡◌, refl, sym, ap, subst, ◌∙◌}
use mathlib.Core.Bool.{Bool, true, false, ◌&&◌, ◌||◌, cond}
use mathlib.Core.List.{[], ◌∷◌, ◌++◌}
use Prim.Native.Nat.{ℕ, suc, ◌+◌, ◌-◌, ◌≤◌, ◌<◌}
use native.Mathlib.Omega.{arith}
use lib.Dec.{eqb, ltb}
use lib.ListN.{length, drop}
use borrow.Author.Tests.{eq-eqb, ne_eqb}
use Rattle.product.specs.declared.literal.Literal.{Literal}
use Rattle.product.specs.Atom.{agrees, atom_of}
use Rattle.product.specs.Product.{Product, opens}
use Rattle.base.specs.Lists.{each}
use Rattle.model.specs.Threads.{KeySet}
use Rattle.model.specs.Operations.{shares, deny}
use Rattle.model.specs.Cells.{Row, Table, cell, row_at, literal_in, product_in}
use Rattle.base.proofs.Truth.{neither}
use Rattle.base.proofs.Lists.{case_bool, clash, each_snoc}
use Rattle.base.proofs.Scans.{Rest, rest_end, rest_next}
use Rattle.checking.specs.Deciding.{keys_of}
use Rattle.checking.proofs.KeyCells.{literal_listable}
use Rattle.checking.specs.Internal.{has_code, newest_row, is_deny, opens_row, literals_in, decided_from, opening_of, GrantHead, can_change, listable}

step_down : (i : ℕ) → 0 < i → i ≡ suc (i - 1)
step_down i h = omega arith

-- ---- frames

pub record Asked (r : Option ℕ) (t : Table) (code i : ℕ) : Type 0 where
  pub rest : r ≡ newest_row t i code

pub asked_start : (t : Table) (n code : ℕ) → Asked (newest_row t n code) t code n
asked_start t n code = record { rest = refl }

module _ {r : Option ℕ} {t : Table} {code i : ℕ} (a : Asked r t code i) where
  pub asked_end : i ≤ 0 → None ≡ r
  unfolding newest_row
  asked_end h = let z : i ≡ 0 = omega arith in sym (a.rest ∙ ap (λ (k : ℕ). newest_row t k code) z)

  module _ (h : 0 < i) where
    split : newest_row t i code ≡ cond (has_code (row_at t i) code) (Some i) (newest_row t (i - 1) code)
    unfolding newest_row
    split = ap (λ (k : ℕ). newest_row t k code) (step_down i h) ∙ ap (λ (k : ℕ). cond (has_code (row_at t k) code) (Some k) (newest_row t (i - 1) code)) (sym (step_down i h))

    pub asked_hit : (b : Bool) → b ≡ has_code (row_at t i) code → b ≡ true → Some i ≡ r
    asked_hit b e q = sym (a.rest ∙ split ∙ rw (sym e ∙ q))

    pub asked_miss : (b : Bool) → b ≡ has_code (row_at t i) code → b ≡ false → Asked r t code (i - 1)
    asked_miss b e q = record { rest = a.rest ∙ split ∙ rw (sym e ∙ q) }

-- ---- literals

-- the first k
abbrev literals : Row → ℕ → Product
literals v k = each (λ i. literal_in (cell v i)) 1 k

opens_last : (keys : KeySet) (p : Product) (x : Literal) → opens keys (p ++ x ∷ []) ≡ (opens keys p && agrees keys x)
unfolding opens
opens_last keys [] x = case_bool (agrees keys x) (λ e. simp e) (λ e. simp e)
opens_last keys (y ∷ p) x = case_bool (agrees keys y) (λ e. simp e (opens_last keys p x)) (λ e. simp e)

pub record Left (keys : KeySet) (v : Row) (k : ℕ) : Type 0 where
  pub rest : opens keys (product_in v).product ≡ opens keys (literals v k)

pub left_start : (keys : KeySet) (v : Row) (k : ℕ) → k ≡ literals_in (cell v 0) → Left keys v k
left_start keys v k e = record { rest = ap (λ (j : ℕ). opens keys (literals v j)) (sym e) }

and_true : (b : Bool) → b && true ≡ b
and_true true = refl
and_true false = refl

and_false : (b : Bool) → b && false ≡ false
and_false true = refl
and_false false = refl

module _ {keys : KeySet} {v : Row} {k : ℕ} (l : Left keys v k) where
  pub left_listable : (x : Literal) → x ≡ literal_in (cell v k) → listable (atom_of x) ≡ true
  left_listable x i = ap (λ (y : Literal). listable (atom_of y)) i ∙ literal_listable (cell v k)

  pub left_end : k ≡ 0 → opens keys (product_in v).product ≡ true
  unfolding opens
  left_end z = l.rest ∙ ap (λ (j : ℕ). opens keys (literals v j)) z

  module _ (z : k ≡ 0 → ⊥) (x : Literal) (i : x ≡ literal_in (cell v k)) (b : Bool) (e : b ≡ agrees keys x) where
    last : opens keys (literals v k) ≡ (opens keys (literals v (k - 1)) && b)
    last =
        let s : k ≡ suc (k - 1) = omega (arith, z) in
        let j : 1 + (k - 1) ≡ k = omega (arith, z) in
        ap (λ (j : ℕ). opens keys (literals v j)) s
        ∙ ap (opens keys) (each_snoc (λ i. literal_in (cell v i)) 1 (k - 1))
        ∙ opens_last keys (literals v (k - 1)) (literal_in (cell v (1 + (k - 1))))
        ∙ ap (λ (i : ℕ). opens keys (literals v (k - 1)) && agrees keys (literal_in (cell v i))) j
        ∙ ap (λ (a : Bool). opens keys (literals v (k - 1)) && a) (sym (e ∙ ap (agrees keys) i))

    pub left_hit : b ≡ true → Left keys v (k - 1)
    left_hit q = record { rest = l.rest ∙ last ∙ ap (λ (a : Bool). opens keys (literals v (k - 1)) && a) q ∙ and_true (opens keys (literals v (k - 1))) }

    pub left_miss : b ≡ false → opens keys (product_in v).product ≡ false
    left_miss q = l.rest ∙ last ∙ ap (λ (a : Bool). opens keys (literals v (k - 1)) && a) q ∙ and_false (opens keys (literals v (k - 1)))

-- ---- rows

module _ (keys : KeySet) (n found : ℕ) (v : Row) (w : Table) where
  stop : cell v 0 ≡ 0 → decided_from keys n found (v ∷ w) ≡ found
  unfolding decided_from
  stop z = simp (eq-eqb (cell v 0) 0 z)

  module _ (z : cell v 0 ≡ 0 → ⊥) where
    used : eqb (cell v 0) 0 ≡ false
    used = ne_eqb (cell v 0) 0 z

    shut : opens_row keys n v ≡ false → decided_from keys n found (v ∷ w) ≡ decided_from keys n found w
    unfolding decided_from
    shut e = simp (used, e)

    denied : opens_row keys n v ≡ true → is_deny v ≡ true → decided_from keys n found (v ∷ w) ≡ cell v 0
    unfolding decided_from
    denied e q = simp (used, e, q)

    abbrev longer : Bool
    longer = eqb found 0 || ltb (literals_in found) (literals_in (cell v 0))

    module _ (q : is_deny v ≡ false) where
      granted : opens_row keys n v ≡ true → longer ≡ true → decided_from keys n found (v ∷ w) ≡ decided_from keys n (cell v 0) w
      unfolding decided_from
      granted e m = simp (used, e, q, m)

      -- it can't change the answer, whether it opens or not
      looser : longer ≡ false → decided_from keys n found (v ∷ w) ≡ decided_from keys n found w
      unfolding decided_from
      looser m = case_bool (opens_row keys n v) (λ e. simp (used, e, q, m)) (λ e. simp (used, e))

-- what decides is what decides from row p on, where `found` is the head of the longest grant row that opened before it
pub record Deciding (r : ℕ) (keys : KeySet) (n : ℕ) (w : Table) (found p : ℕ) : Type 0 where
  pub rest : r ≡ decided_from keys n found (drop p w)

pub deciding_start : {s t : Table} (w : Table) (n : ℕ) → s ≡ t → Deciding (opening_of t w n) (keys_of s) n w 0 0
unfolding opening_of
deciding_start w n same = record { rest = rw same }

pub deciding_as : {r : ℕ} {keys : KeySet} {n : ℕ} {w : Table} {found found' p : ℕ} → found' ≡ found → Deciding r keys n w found p → Deciding r keys n w found' p
deciding_as {r} {keys} {n} {w} {found} {found'} {p} e a = subst (λ (f : ℕ). Deciding r keys n w f p) (sym e) a

module _ {r : ℕ} {keys : KeySet} {n : ℕ} {w : Table} {found p rows : ℕ} (l : rows ≡ length w) (a : Deciding r keys n w found p) where
  ahead : Rest (decided_from keys n found) r w p
  ahead = record { rest = a.rest }

  pub rest_past : rows ≤ p → found ≡ r
  unfolding decided_from
  rest_past h = let past : length w ≤ p = omega arith in sym (rest_end (decided_from keys n found) ahead past)

  module _ (h : p < rows) where
    next : r ≡ decided_from keys n found (row_at w p ∷ drop (p + 1) w)
    next = let inside : p < length w = omega arith in rest_next (decided_from keys n found) ahead [] inside

    pub rest_stop : cell (row_at w p) 0 ≡ 0 → found ≡ r
    rest_stop z = sym (next ∙ stop keys n found (row_at w p) (drop (p + 1) w) z)

    module _ (b : Bool) (s : b ≡ shares (cell (row_at w p) 0) n) where
      abbrev v : Row
      v = row_at w p

      shut_rest : (cell v 0 ≡ 0 → ⊥) → opens_row keys n v ≡ false → Deciding r keys n w found (p + 1)
      shut_rest z e = record { rest = next ∙ shut keys n found v (drop (p + 1) w) z e }

      pub rest_idle : b ≡ false → (cell v 0 ≡ 0 → ⊥) → Deciding r keys n w found (p + 1)
      rest_idle q z = shut_rest z (rw (sym s ∙ q))

      module _ (q : b ≡ true) where
        in_use : cell v 0 ≡ 0 → ⊥
        in_use e = clash (sym s ∙ q) (ap (λ (k : ℕ). shares k n) e)

        pub grant_head : (c : Bool) → c ≡ shares (cell v 0) deny → c ≡ false → GrantHead (cell v 0)
        grant_head c y f = record { used = in_use; grants = sym y ∙ f }

        pub rest_shut : opens keys (product_in v).product ≡ false → Deciding r keys n w found (p + 1)
        rest_shut e = shut_rest in_use (rw (sym s ∙ q, e))

        module _ (e : opens keys (product_in v).product ≡ true) (c : Bool) (y : c ≡ shares (cell v 0) deny) where
          open_row : opens_row keys n v ≡ true
          open_row = rw (sym s ∙ q, e)

          pub rest_denied : c ≡ true → cell v 0 ≡ r
          rest_denied f = sym (next ∙ denied keys n found v (drop (p + 1) w) in_use open_row (sym y ∙ f))

          found_row : c ≡ false → (eqb found 0 || ltb (literals_in found) (literals_in (cell v 0))) ≡ true → Deciding r keys n w (cell v 0) (p + 1)
          found_row f m = record { rest = next ∙ granted keys n found v (drop (p + 1) w) in_use (sym y ∙ f) open_row m }

          -- the first grant row that opens
          pub rest_first : found ≡ 0 → c ≡ false → Deciding r keys n w (cell v 0) (p + 1)
          rest_first g f = found_row f (rw (eq-eqb found 0 g))

          -- one that may change the answer, and is no deny row's, is longer
          pub rest_longer : GrantHead found → (x : Bool) → x ≡ can_change found (cell v 0) → x ≡ true → c ≡ false → Deciding r keys n w (cell v 0) (p + 1)
          rest_longer g x i t f =
              found_row f (rw (ne_eqb found 0 g.used) (ap (λ (k : Bool). k || ltb (literals_in found) (literals_in (cell v 0))) (sym (sym y ∙ f)) ∙ sym i ∙ t))

        -- one that can't change it
        pub rest_looser : GrantHead found → (x : Bool) → x ≡ can_change found (cell v 0) → x ≡ false → Deciding r keys n w found (p + 1)
        rest_looser g x i t =
            let none = neither (is_deny v) (ltb (literals_in found) (literals_in (cell v 0))) (sym i ∙ t) in
            record { rest = next ∙ looser keys n found v (drop (p + 1) w) in_use none.0 (rw (ne_eqb found 0 g.used) none.1) }
