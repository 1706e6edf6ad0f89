-- What the compiler's answer says of the outcome, and the rows that are stored of it.
use Rattle.std.specs.Prelude.{Result, Ok, Err}
use mathlib.Core.Path.{◌≡◌, refl, sym, ap, ap₂, ◌∙◌}
use mathlib.Core.Bool.{true, false}
use mathlib.Core.List.{List, [], ◌∷◌, ◌++◌, map}
use Prim.Native.Nat.{ℕ, suc, ◌+◌, ◌-◌, ◌≤◌, ◌<◌, min}
use native.Mathlib.Numerals.{add-one}
use native.Mathlib.Omega.{arith}
use lib.Dec.{ltb}
use lib.ListN.{length, set, replicate, length-map, take}
use lib.Seq.{take-append_seam}
use borrow.Author.Tests.{lt-ltb, le-ltb, ltb-true}
use Rattle.product.specs.Product.{All, no_more, and_more}
use Rattle.product.specs.Sum.{Sum}
use Rattle.product.specs.Cells.{row_of, rows_of, blank_row}
use Rattle.formula.specs.declared.text.Issued.{Issued}
use Rattle.formula.specs.declared.text.Refusal.{Refusal as TextRefusal}
use Rattle.formula.specs.declared.text.Refusal.TheVariants.{Malformed, TooWide, Unsatisfiable}
use Rattle.formula.specs.declared.text.Compiled.{Compiled}
use Rattle.formula.specs.Outcome.{Outcome, accepted, malformed, too_wide, unsatisfiable, outcome_of, sum_in, answer_of}
use Rattle.formula.specs.Compiler.{Kept}
use Rattle.formula.proofs.Opening.{laws}
use Rattle.base.proofs.Truth.{and_left}
use Rattle.model.specs.Limits.{most_segments, most_defined, most_standing, most_numbers}
use Rattle.model.specs.Operations.{takes_set}
use Rattle.model.specs.State.{issued}
use Rattle.model.specs.Cells.{Row, Table, Cells, cell, user_count, thread_count, segment_count, defined_count, lock_count, used_rows, segment_in, state_of}
use Rattle.model.specs.Stores.{store_rows, product_row}
use Rattle.base.proofs.Lists.{length_each}
use Rattle.model.proofs.Refinement.ServedCalls.{segments_in}
use Rattle.locks.specs.Internal.{UsedCount, row_from, rows_from, issued_in, is_full, LockStored, stored}
use Rattle.locks.proofs.LiteralCells.{product_row_lem}

-- ---- a lock's operations

pub operations_low : (kind operations : ℕ) → takes_set kind operations ≡ true → operations < 16
operations_low kind operations h = ltb-true operations 16 (and_left (ltb operations 16) _ h)

-- ---- what was handed out

pub issued_made : (w makers : Row) {s d : ℕ} → s ≡ min (cell w segment_count) most_segments → d ≡ length (take (min (cell w defined_count) most_defined) makers)
    → ◌≡◌ {A = Issued} (record { users = cell w user_count; threads = cell w thread_count; segments = s; defined = d }) (issued_in w makers)
issued_made w makers p q = λ i. record { users = cell w user_count; threads = cell w thread_count; segments = p i; defined = q i }

pub issued_is : (d : Cells) → issued (state_of d) ≡ issued_in d.registry d.makers
unfolding state_of
issued_is d = issued_made d.registry d.makers (length_each (segment_in d) 0 (segments_in d)) refl

-- ---- the outcome

differs : {r : TextRefusal} {x : Compiled} → ◌≡◌ {A = Result Compiled TextRefusal} (Err r) (Ok x) → ⊥
differs e = let z : ◌≡◌ {A = ℕ} 0 1 = cc in omega arith

same_refusal : {r s : TextRefusal} → ◌≡◌ {A = Result Compiled TextRefusal} (Err r) (Err s) → r ≡ s
same_refusal e = cc

same_compiled : {x y : Compiled} → ◌≡◌ {A = Result Compiled TextRefusal} (Ok x) (Ok y) → x ≡ y
same_compiled e = cc

-- the outcome that is refused so
abbrev pub refusing : TextRefusal → Outcome
refusing Malformed = malformed
refusing TooWide = too_wide
refusing Unsatisfiable = unsatisfiable

pub refused_is : (o : Outcome) {r : TextRefusal} → answer_of o ≡ Err r → o ≡ refusing r
refused_is (accepted ps) {r} e = absurd (differs (sym e))
refused_is malformed {r} e = ap refusing (same_refusal e)
refused_is too_wide {r} e = ap refusing (same_refusal e)
refused_is unsatisfiable {r} e = ap refusing (same_refusal e)

pub accepted_is : (o : Outcome) {x : Compiled} → answer_of o ≡ Ok x
    → (ps : Sum) × (o ≡ accepted ps) × (x ≡ record { count = length ps; rows = rows_of ps })
accepted_is (accepted ps) {x} e = (ps, refl, same_compiled (sym e))
accepted_is malformed {x} e = absurd (differs e)
accepted_is too_wide {x} e = absurd (differs e)
accepted_is unsatisfiable {x} e = absurd (differs e)

pub sum_kept : (i : Issued) (s : List ℕ) → All Kept (sum_in (outcome_of i s))
sum_kept i s = go (outcome_of i s) refl
  where
    go : (o : Outcome) → outcome_of i s ≡ o → All Kept (sum_in o)
    go (accepted ps) e = (laws.bounds i s ps e).each
    go malformed e = no_more
    go too_wide e = no_more
    go unsatisfiable e = no_more

-- ---- its rows

rows_of_lem : (lock operations : ℕ) (ps : Sum) → All Kept ps → map (row_from lock operations) (map row_of ps) ≡ map (product_row lock operations) ps
rows_of_lem lock operations [] no_more = refl
rows_of_lem lock operations (p ∷ ps) (and_more k ks) =
    ap₂ (λ (w : Row) (t : Table). w ∷ t) (product_row_lem lock operations p k) (rows_of_lem lock operations ps ks)

pub rows_stored : (lock operations : ℕ) (ps : Sum) → All Kept ps
    → rows_from lock operations (record { count = length ps; rows = rows_of ps }) ≡ map (product_row lock operations) ps
rows_stored lock operations ps kept =
    let blanks : Table = replicate (8 - length ps) blank_row in
    let own : take (length ps) (rows_of ps) ≡ map row_of ps =
    ap (λ (n : ℕ). take n (map row_of ps ++ blanks)) (sym (length-map ps row_of)) ∙ take-append_seam (map row_of ps) blanks in
    ap (map (row_from lock operations)) own ∙ rows_of_lem lock operations ps kept

-- ---- the limits

module _ (registry : Row) (t : Table) (count : ℕ) {n : ℕ} (used : UsedCount t n) where
  pub too_many : most_standing - n < count → is_full registry t count ≡ true
  unfolding is_full
  too_many h = simp (lt-ltb most_standing (length (used_rows t) + count) (omega (arith, used.count, used.low)))

  pub no_number : most_numbers ≤ cell registry lock_count → count ≤ most_standing - n → is_full registry t count ≡ true
  unfolding is_full
  no_number h k =
      simp (le-ltb most_standing (length (used_rows t) + count) (omega (arith, used.count, used.low)), lt-ltb most_numbers (suc (cell registry lock_count)) (omega arith))

  pub has_room_lem : cell registry lock_count < most_numbers → count ≤ most_standing - n → is_full registry t count ≡ false
  unfolding is_full
  has_room_lem h k =
      simp (le-ltb most_standing (length (used_rows t) + count) (omega (arith, used.count, used.low)), le-ltb most_numbers (suc (cell registry lock_count)) (omega arith))

pub lock_stored : {registry : Row} {t t' : Table} {operations n : ℕ} {x : Compiled} → UsedCount t n → cell registry lock_count < most_numbers → x.count ≤ most_standing - n
    → t' ≡ store_rows n (rows_from (cell registry lock_count) operations x) t
    → LockStored registry t operations x (Ok (cell registry lock_count)) (set registry lock_count (cell registry lock_count + 1)) t'
lock_stored {registry} {t} {t'} {operations} {n} {x} used h k e =
    rw (e, used.count, add-one (cell registry lock_count)) (stored (has_room_lem registry t x.count used h k))
