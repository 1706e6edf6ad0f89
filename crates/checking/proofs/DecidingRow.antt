-- The row that decides is the model's: its lock is that of the first product that opens among the deny locks', else of
-- the longest among the grant locks'.
use Rattle.std.specs.Prelude.{Option, None, Some, Ok, Err}
use mathlib.Core.Path.{◌≡◌, refl, sym, ap, subst, ◌∙◌}
use mathlib.Core.Bool.{Bool, true, false, ◌&&◌, not, cond}
use mathlib.Core.List.{List, [], ◌∷◌, map}
use Prim.Native.Nat.{ℕ, ◌/◌, ◌%◌}
use native.Mathlib.Omega.{arith}
use lib.Dec.{eqb, ltb}
use borrow.Author.Tests.{eqb-true, eqb-false, ne_eqb, not-true}
use Rattle.product.specs.Product.{opens}
use Rattle.base.proofs.Truth.{and_right}
use Rattle.base.specs.Lists.{keep, first, greatest_from, greatest, is_some, map_option}
use Rattle.model.specs.Operations.{execute, read, write, deny, includes, shares, denies, grants, is_operation}
use Rattle.model.specs.Refusals.{opens_for, literal_count, lock_of}
use Rattle.model.specs.Cells.{Row, Table, cell, is_used, used_rows, literal_in, product_in}
use Rattle.base.proofs.Lists.{All, case_bool, clash, All-keep, keep_map, keep_same, keep_passes, first_map, length_each, some_inj, some≢none}
use Rattle.base.proofs.Greatest.{greatest_has, greatest_map}
use Rattle.model.proofs.Refinement.OperationSets.{Bit, executes, reads, writes, denying, shares_one}
use Rattle.checking.specs.declared.Ungranted.TheVariants.{Denied, NotGranted}
use Rattle.checking.specs.Deciding.{Checked, keys_of, first_opening, tightest_opening, decide, check_of}
use Rattle.checking.specs.Theorems.SameNumbers.{SameNumbers}
use Rattle.checking.specs.Internal.{is_deny, opens_row, head_of, literals_in, tightest_from, decided_from, opening_of, head_checked, code_checked}

-- ---- the operations of a row's head are its last four bits

low_bits : {n : ℕ} (x : ℕ) → Bit n → includes (x % 16) n ≡ shares x n
low_bits x executes = (let e : x % 16 / 1 % 2 ≡ x / 1 % 2 = omega arith in ap (λ (k : ℕ). eqb k 1) e) ∙ sym (shares_one x executes)
low_bits x reads = (let e : x % 16 / 2 % 2 ≡ x / 2 % 2 = omega arith in ap (λ (k : ℕ). eqb k 1) e) ∙ sym (shares_one x reads)
low_bits x writes = (let e : x % 16 / 4 % 2 ≡ x / 4 % 2 = omega arith in ap (λ (k : ℕ). eqb k 1) e) ∙ sym (shares_one x writes)
low_bits x denying = (let e : x % 16 / 8 % 2 ≡ x / 8 % 2 = omega arith in ap (λ (k : ℕ). eqb k 1) e) ∙ sym (shares_one x denying)

turn : (a b c : Bool) → ((a && b) && c) ≡ ((a && c) && b)
turn false b c = refl
turn true true true = refl
turn true true false = refl
turn true false true = refl
turn true false false = refl

-- ---- the first deny row and the longest grant row

module _ (t : Table) (n : ℕ) where
  abbrev deny_row : Row → Bool
  deny_row v = opens_row (keys_of t) n v && is_deny v

  abbrev grant_row : Row → Bool
  grant_row v = opens_row (keys_of t) n v && not (is_deny v)

abbrev first_deny : Table → Table → ℕ → Option Row
first_deny t w n = first (deny_row t n) (used_rows w)

abbrev grant_rows : Table → Table → ℕ → List Row
grant_rows t w n = keep (grant_row t n) (used_rows w)

abbrev row_size : Row → ℕ
row_size v = literals_in (cell v 0)

abbrev longest_grant : Table → Table → ℕ → Option Row
longest_grant t w n = greatest row_size (grant_rows t w n)

row_literals : (v : Row) → literal_count (product_in v) ≡ row_size v
row_literals v = length_each (λ i. literal_in (cell v i)) 1 (row_size v)

same_size : {A : Type 0} (p q : A → ℕ) → ((x : A) → p x ≡ q x) → (xs : List A) → greatest p xs ≡ greatest q xs
same_size p q h xs = λ i. greatest (λ x. h x i) xs

first_agree : {A : Type 0} (p q : A → Bool) → ((x : A) → p x ≡ q x) → (xs : List A) → first p xs ≡ first q xs
first_agree p q h xs = λ i. first (λ x. h x i) xs

module _ {n : ℕ} (t : Table) (b : Bit n) where
  is_deny_row : (v : Row) → opens_for denies n (keys_of t) (product_in v) ≡ deny_row t n v
  is_deny_row v =
      simp (low_bits (cell v 0) b, low_bits (cell v 0) denying) (turn (shares (cell v 0) n) (is_deny v) (opens (keys_of t) (product_in v).product))

  is_grant_row : (v : Row) → opens_for grants n (keys_of t) (product_in v) ≡ grant_row t n v
  is_grant_row v =
      simp (low_bits (cell v 0) b, low_bits (cell v 0) denying) (turn (shares (cell v 0) n) (not (is_deny v)) (opens (keys_of t) (product_in v).product))

  first_deny_lem : (w : Table) → first_opening denies t w n ≡ map_option product_in (first_deny t w n)
  first_deny_lem w =
      first_map (opens_for denies n (keys_of t)) product_in (used_rows w)
      ∙ ap (map_option product_in) (first_agree (λ v. opens_for denies n (keys_of t) (product_in v)) (deny_row t n) is_deny_row (used_rows w))

  longest_grant_lem : (w : Table) → tightest_opening t w n ≡ map_option product_in (longest_grant t w n)
  longest_grant_lem w =
      ap (greatest literal_count)
      (keep_map (opens_for grants n (keys_of t)) product_in (used_rows w)
      ∙ ap (map product_in) (keep_same (λ v. opens_for grants n (keys_of t) (product_in v)) (grant_row t n) is_grant_row (used_rows w)))
      ∙ sym (greatest_map literal_count product_in None (grant_rows t w n))
      ∙ ap (map_option product_in) (same_size (λ v. literal_count (product_in v)) row_size row_literals (grant_rows t w n))

-- a row that is found is used, and passes
first_used : (p : Row → Bool) (w : Table) (v : Row) → first p (used_rows w) ≡ Some v → (is_used v ≡ true) × (p v ≡ true)
first_used p [] v e = absurd (some≢none (sym e))
first_used p (u ∷ w) v e =
    case_bool (is_used u)
    (λ f. case_bool (p u)
    (λ g. let q : Some u ≡ Some v = sym (simp (f, g)) ∙ e in
    let r : u ≡ v = some_inj q in (ap is_used (sym r) ∙ f, ap p (sym r) ∙ g))
    (λ g. first_used p w v (sym (simp (f, g)) ∙ e)))
    (λ f. absurd (some≢none (sym (sym (simp f) ∙ e))))

used_head : (v : Row) → is_used v ≡ true → cell v 0 ≡ 0 → ⊥
used_head v u = eqb-false (cell v 0) 0 (not-true (eqb (cell v 0) 0) u)

abbrev InUse : Row → Type 0
InUse v = cell v 0 ≡ 0 → ⊥

all_used : (w : Table) → All InUse (used_rows w)
all_used [] = tt
all_used (v ∷ w) = case_bool (is_used v) (λ e. simp e (used_head v e, all_used w)) (λ e. simp e tt)

-- the heads' fold is the rows', since a used row's head is not 0
heads_after : (y : Row) (vs : List Row) → InUse y → All InUse vs → tightest_from (cell y 0) vs ≡ head_of (greatest_from row_size (Some y) vs)
heads_after y [] u us = refl
heads_after y (v ∷ vs) u us =
    case_bool (ltb (row_size y) (row_size v))
    (λ e. simp (ne_eqb (cell y 0) 0 u, e) (heads_after v vs us.0 us.1))
    (λ e. simp (ne_eqb (cell y 0) 0 u, e) (heads_after y vs u us.1))

heads : (vs : List Row) → All InUse vs → tightest_from 0 vs ≡ head_of (greatest row_size vs)
heads [] us = refl
heads (v ∷ vs) us = heads_after v vs us.0 us.1

-- ---- the three ways in which the check ends

data Decision (d g : Option Row) (r : ℕ) : Type 0 where
  denied : (v : Row) → d ≡ Some v → (cell v 0 ≡ 0 → ⊥) → is_deny v ≡ true → r ≡ cell v 0 → Decision d g r
  granted : (v : Row) → d ≡ None → g ≡ Some v → (cell v 0 ≡ 0 → ⊥) → is_deny v ≡ false → r ≡ cell v 0 → Decision d g r
  neither : d ≡ None → g ≡ None → r ≡ 0 → Decision d g r

module _ (t w : Table) (n : ℕ) where
  grants_used : All InUse (grant_rows t w n)
  grants_used = All-keep InUse (grant_row t n) (used_rows w) (all_used w)

  decision : Decision (first_deny t w n) (longest_grant t w n) (opening_of t w n)
  unfolding opening_of decided_from
  decision = go (first_deny t w n) (longest_grant t w n) refl refl (heads (grant_rows t w n) grants_used)
    where
      go : (d g : Option Row) → first_deny t w n ≡ d → longest_grant t w n ≡ g → tightest_from 0 (grant_rows t w n) ≡ head_of g
          → Decision d g (cond (is_some d) (head_of d) (tightest_from 0 (grant_rows t w n)))
      go (Some v) g p q e =
          let f = first_used (deny_row t n) w v p in denied v refl (used_head v f.0) (and_right (opens_row (keys_of t) n v) (is_deny v) f.1) refl
      go None (Some v) p q e =
          let passed = greatest_has row_size (λ u. grant_row t n u ≡ true) (grant_rows t w n) (keep_passes (grant_row t n) (used_rows w)) v q in
          granted v refl refl (greatest_has row_size InUse (grant_rows t w n) grants_used v q)
          (not-true (is_deny v) (and_right (opens_row (keys_of t) n v) (not (is_deny v)) passed)) e
      go None None p q e = neither refl refl e

module _ {n : ℕ} (t w : Table) (b : Bit n) where
  abbrev Denies : Type 0
  Denies = (is_some (first_opening denies t w n) ≡ true) × (lock_of (first_opening denies t w n) ≡ opening_of t w n / 65536)

  abbrev Neither : Type 0
  Neither = (is_some (first_opening denies t w n) ≡ false) × (is_some (tightest_opening t w n) ≡ false)

  abbrev Grants : Type 0
  Grants = (is_some (first_opening denies t w n) ≡ false) × (is_some (tightest_opening t w n) ≡ true) × (lock_of (tightest_opening t w n) ≡ opening_of t w n / 65536)

  -- the model's products, by the rows
  deny_is : (o : Option Row) → first_deny t w n ≡ o → first_opening denies t w n ≡ map_option product_in o
  deny_is o p = first_deny_lem t b w ∙ ap (map_option product_in) p

  grant_is : (o : Option Row) → longest_grant t w n ≡ o → tightest_opening t w n ≡ map_option product_in o
  grant_is o p = longest_grant_lem t b w ∙ ap (map_option product_in) p

  pub opening_denies : shares (opening_of t w n) deny ≡ true → Denies
  opening_denies e = go (decision t w n)
    where
      go : Decision (first_deny t w n) (longest_grant t w n) (opening_of t w n) → Denies
      go (denied v p z y q) = (ap is_some (deny_is (Some v) p), ap lock_of (deny_is (Some v) p) ∙ ap (λ (k : ℕ). k / 65536) (sym q))
      go (granted v p g z y q) = clash e (ap (λ (k : ℕ). shares k deny) q ∙ y)
      go (neither p g q) = clash e (ap (λ (k : ℕ). shares k deny) q)

  pub opening_none : opening_of t w n ≡ 0 → Neither
  opening_none e = go (decision t w n)
    where
      go : Decision (first_deny t w n) (longest_grant t w n) (opening_of t w n) → Neither
      go (denied v p z y q) = absurd (z (sym q ∙ e))
      go (granted v p g z y q) = absurd (z (sym q ∙ e))
      go (neither p g q) = (ap is_some (deny_is None p), ap is_some (grant_is None g))

  pub opening_grants : (opening_of t w n ≡ 0 → ⊥) → shares (opening_of t w n) deny ≡ false → Grants
  opening_grants z e = go (decision t w n)
    where
      go : Decision (first_deny t w n) (longest_grant t w n) (opening_of t w n) → Grants
      go (denied v p u y q) = clash (ap (λ (k : ℕ). shares k deny) q ∙ y) e
      go (granted v p g u y q) =
          (ap is_some (deny_is None p), ap is_some (grant_is (Some v) g), ap lock_of (grant_is (Some v) g) ∙ ap (λ (k : ℕ). k / 65536) (sym q))
      go (neither p g q) = absurd (z q)

  -- so the answer by the head is the check's
  pub decided : head_checked (opening_of t w n) ≡ decide (first_opening denies t w n) (tightest_opening t w n)
  unfolding head_checked
  decided =
      case_bool (eqb (opening_of t w n) 0)
      (λ z. let (d, g) = opening_none (eqb-true (opening_of t w n) 0 z) in rw (z, d, g))
      (λ z. case_bool (shares (opening_of t w n) deny)
      (λ s. let (d, l) = opening_denies s in rw (z, s, d, l))
      (λ s. let (d, g, l) = opening_grants (eqb-false (opening_of t w n) 0 z) s in rw (z, s, d, g, l)))

operation_bit : (n : ℕ) → is_operation n ≡ true → Bit n
operation_bit n e =
    case_bool (eqb n execute)
    (λ x. subst Bit (sym (eqb-true n execute x)) executes)
    (λ x. case_bool (eqb n read)
    (λ y. subst Bit (sym (eqb-true n read y)) reads)
    (λ y. case_bool (eqb n write)
    (λ v. subst Bit (sym (eqb-true n write v)) writes)
    (λ v. clash e (simp (x, y, v)))))

-- ---- the check of an operation is the answer by that row; of any other number there is none

module _ (t w : Table) (n : ℕ) where
  pub check_is : is_operation n ≡ true → head_checked (opening_of t w n) ≡ check_of t w n
  unfolding check_of
  check_is e = rw e (decided t w (operation_bit n e))

  pub no_check : is_operation n ≡ false → ◌≡◌ {A = Checked} (Err NotGranted) (check_of t w n)
  unfolding check_of
  no_check e = rw e

-- what the code answers, by the number of its answer
pub answered : (t w : Table) (n code : ℕ) (r : Checked) → is_operation n ≡ true → code_checked code ≡ head_checked (opening_of t w n) → r ≡ code_checked code
    → r ≡ check_of t w n
answered t w n code r o h v = v ∙ h ∙ check_is t w n o

pub same_numbers : SameNumbers
same_numbers (Ok lock) = (refl, refl)
same_numbers (Err (Denied lock)) = (refl, refl)
same_numbers (Err NotGranted) = (refl, refl)
