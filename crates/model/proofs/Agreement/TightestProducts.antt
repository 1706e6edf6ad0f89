-- The lock of the longest product that opens is the history's tightest lock. Both are found by going through marks, a
-- lock's number with a count of literals: the marks of one lock, one after the other, are as the greatest of them.
use Rattle.std.specs.Prelude.{Option, None, Some}
use mathlib.Core.Path.{◌≡◌, refl, sym, ap, ◌∙◌}
use mathlib.Core.Bool.{Bool, true, false, ◌&&◌, cond, false≢true}
use mathlib.Core.List.{List, [], ◌∷◌, map, Memᴰ}
use Prim.Native.Nat.{ℕ, max, ◌≤◌, zero-le, suc-le-suc}
use native.Mathlib.Omega.{arith}
use lib.Dec.{eqb, ltb}
use lib.ListN.{length, length-map}
use borrow.Author.Tests.{lt-ltb, ltb-true, ltb-false, le-ltb}
use Rattle.product.specs.Product.{Product, opens}
use Rattle.product.specs.Sum.{Sum}
use Rattle.formula.specs.Outcome.{accepted}
use Rattle.formula.specs.Compiler.{Compiler, Laws, everything}
use Rattle.formula.specs.Meaning.{Meaning}
use Rattle.base.specs.Lists.{any, keep, concat_map, greater, greatest_from, greatest, maximum, map_option}
use Rattle.model.specs.Operations.{grants}
use Rattle.model.specs.Threads.{KeySet}
use Rattle.model.specs.State.{Segment, LockProduct}
use Rattle.model.specs.Refusals.{opens_for, literal_count}
use Rattle.model.specs.Effects.{lock_product}
use Rattle.model.specs.History.{Lock}
use Rattle.model.specs.HistoryLocks.{stands_on, products_of, stored_of}
use Rattle.model.specs.HistoryCheck.{tightness}
use Rattle.base.proofs.Lists.{All, case_bool, all_at, all_members, keep_none, keep_each, keep_members, keep_member, map_concat_map}
use Rattle.base.proofs.Greatest.{greatest_append, greatest_map, maximum_above, maximum_reached}
use Rattle.model.proofs.Agreement.Segments.{products_at}
use Rattle.model.proofs.Agreement.StandingLocks.{opens_any_lem, AgreeLocks}
use Rattle.model.proofs.Agreement.ReadLocks.{segment_stores, lock_made_lem}

-- ---- marks

abbrev Mark : Type 0
Mark = ℕ × ℕ

abbrev size_of : Mark → ℕ
size_of m = m.1

abbrev mark_row : LockProduct → Mark
mark_row r = (r.lock, literal_count r)

abbrev marks : ℕ → List ℕ → List Mark
marks n ks = map (λ k. (n, k)) ks

-- two marks of one lock are as the greater of them
merged : (n s m : ℕ) (o : Option Mark) → greater size_of (greater size_of o (n, s)) (n, m) ≡ greater size_of o (n, max s m)
merged n s m None =
    case_bool (ltb s m)
    (λ e. let h = ltb-true s m e in let i : m ≡ max s m = omega arith in simp e (ap (λ (k : ℕ). Some (n, k)) i))
    (λ e. let h = ltb-false s m e in let i : s ≡ max s m = omega arith in simp e (ap (λ (k : ℕ). Some (n, k)) i))
merged n s m (Some x) =
    let t : ℕ = x.1 in
    case_bool (ltb t s)
    (λ e.
    let h = ltb-true t s e in
    let over : ltb t (max s m) ≡ true = lt-ltb t (max s m) (omega arith) in
    case_bool (ltb s m)
    (λ f. let k = ltb-true s m f in let i : m ≡ max s m = omega arith in simp (e, f, over) (ap (λ (k : ℕ). Some (n, k)) i))
    (λ f. let k = ltb-false s m f in let i : s ≡ max s m = omega arith in simp (e, f, over) (ap (λ (k : ℕ). Some (n, k)) i)))
    (λ e.
    let h = ltb-false t s e in
    case_bool (ltb t m)
    (λ f.
    let k = ltb-true t m f in
    let over : ltb t (max s m) ≡ true = lt-ltb t (max s m) (omega arith) in
    let i : m ≡ max s m = omega arith in simp (e, f, over) (ap (λ (k : ℕ). Some (n, k)) i))
    (λ f.
    let k = ltb-false t m f in
    let under : ltb t (max s m) ≡ false = le-ltb t (max s m) (omega arith) in simp (e, f, under)))

-- and so are any number of them
greatest_mark : (n s : ℕ) (ss : List ℕ) (o : Option Mark) → greatest_from size_of o (marks n (s ∷ ss)) ≡ greater size_of o (n, maximum (s ∷ ss))
greatest_mark n s [] o = let i : s ≡ max s 0 = omega arith in ap (λ (k : ℕ). greater size_of o (n, k)) i
greatest_mark n s (x ∷ xs) o = greatest_mark n x xs (greater size_of o (n, s)) ∙ merged n s (maximum (x ∷ xs)) o

some_mark : (n : ℕ) (ss : List ℕ) (o : Option Mark) → 1 ≤ length ss → greatest_from size_of o (marks n ss) ≡ greater size_of o (n, maximum ss)
some_mark n [] o h = absurd (omega arith)
some_mark n (s ∷ ss) o h = greatest_mark n s ss o

-- ---- the products of one lock that open

abbrev open_lengths : KeySet → Sum → List ℕ
open_lengths keys ps = map length (keep (opens keys) ps)

some_kept : (keys : KeySet) (ps : Sum) → any (opens keys) ps ≡ true → 1 ≤ length (keep (opens keys) ps)
some_kept keys [] h = absurd (false≢true h)
some_kept keys (p ∷ ps) h = case_bool (opens keys p) (λ e. simp e (suc-le-suc zero-le)) (λ e. simp e (some_kept keys ps (rw e at h)))

some_length : (keys : KeySet) (ps : Sum) → any (opens keys) ps ≡ true → 1 ≤ length (open_lengths keys ps)
some_length keys ps h =
    let k = some_kept keys ps h in
    let l : length (open_lengths keys ps) ≡ length (keep (opens keys) ps) = length-map (keep (opens keys) ps) length in omega (arith, k, l)

-- the marks of its rows that open
row_marks : (n l o : ℕ) (keys : KeySet) (ps : Sum)
    → map mark_row (keep (opens_for grants n keys) (map (lock_product l o) ps)) ≡ cond (grants o n) (marks l (open_lengths keys ps)) []
row_marks n l o keys [] = case_bool (grants o n) (λ g. simp g) (λ g. simp g)
row_marks n l o keys (p ∷ ps) =
    let rest = row_marks n l o keys ps in
    case_bool (grants o n)
    (λ g. case_bool (opens keys p)
    (λ e. simp (g, e) (ap (λ (ms : List Mark). (l, length p) ∷ ms) (rest ∙ simp g)))
    (λ e. simp (g, e) (rest ∙ simp g)))
    (λ g. simp g (rest ∙ simp g))

-- ---- the standing locks

module _ (compile : Compiler) (holds : Meaning) (keys : KeySet) where
  -- a product of the lock's text opens exactly where the text holds
  abbrev pub Spelt : Lock → Type 0
  Spelt l = any (opens keys) (products_of compile l.text) ≡ holds keys l.text

  abbrev mark_lock : Lock → Mark
  mark_lock l = (l.number, tightness compile keys l)

  module _ (s n : ℕ) where
    abbrev gives : Lock → Bool
    gives l = eqb l.segment s && (grants l.operations n && holds keys l.text)

    abbrev marks_of : Lock → List Mark
    marks_of l = map mark_row (keep (opens_for grants n keys) (stored_of compile l))

    lock_marks : (l : Lock) → Spelt l → (o : Option Mark)
        → greatest_from size_of o (marks_of l) ≡ cond (grants l.operations n && holds keys l.text) (greater size_of o (mark_lock l)) o
    lock_marks l spelt o =
        let ps = products_of compile l.text in
        ap (greatest_from size_of o) (row_marks n l.number l.operations keys ps)
        ∙ case_bool (grants l.operations n)
        (λ g. case_bool (holds keys l.text)
        (λ h. simp (g, h) (some_mark l.number (open_lengths keys ps) o (some_length keys ps (spelt ∙ h))))
        (λ h. simp (g, h) (ap (λ (qs : Sum). greatest_from size_of o (marks l.number (map length qs))) (keep_none (opens keys) ps (spelt ∙ h)))))
        (λ g. simp g)

    every_lock : (ls : List Lock) → All Spelt ls → (o : Option Mark)
        → greatest_from size_of o (concat_map marks_of (keep (stands_on s) ls)) ≡ greatest_from size_of o (map mark_lock (keep gives ls))
    every_lock [] a o = refl
    every_lock (l ∷ ls) a o =
        let rest = concat_map marks_of (keep (stands_on s) ls) in
        case_bool (stands_on s l)
        (λ on. case_bool (grants l.operations n && holds keys l.text)
        (λ g. simp (on, g)
        (greatest_append size_of o (marks_of l) rest
        ∙ ap (λ (q : Option Mark). greatest_from size_of q rest) (lock_marks l a.0 o ∙ simp g)
        ∙ every_lock ls a.1 (greater size_of o (mark_lock l))))
        (λ g. simp (on, g)
        (greatest_append size_of o (marks_of l) rest
        ∙ ap (λ (q : Option Mark). greatest_from size_of q rest) (lock_marks l a.0 o ∙ simp g)
        ∙ every_lock ls a.1 o)))
        (λ off. simp off (every_lock ls a.1 o))

row_number : (o : Option LockProduct) → map_option (λ r. r.lock) o ≡ map_option (λ (m : Mark). m.0) (map_option mark_row o)
row_number None = refl
row_number (Some r) = refl

lock_number : (size : Lock → ℕ) (o : Option Lock) → map_option (λ (m : Mark). m.0) (map_option (λ l. (l.number, size l)) o) ≡ map_option (λ l. l.number) o
lock_number size None = refl
lock_number size (Some l) = refl

pub spelt_by_laws : (compile : Compiler) (holds : Meaning) → Laws compile holds → (keys : KeySet) (l : Lock)
    → compile everything l.text ≡ accepted (products_of compile l.text) → Spelt compile holds keys l
spelt_by_laws compile holds laws keys l made =
    let ps = products_of compile l.text in sym (opens_any_lem keys ps) ∙ laws.opening everything l.text ps made keys

module _ (compile : Compiler) (holds : Meaning) (laws : Laws compile holds) (segments : List Segment) (numbers : ℕ) (locks : List Lock) (c : AgreeLocks compile segments numbers locks) (keys : KeySet) where
  lock_spelt : (l : Lock) → Memᴰ l locks → Spelt compile holds keys l
  lock_spelt l m = spelt_by_laws compile holds laws keys l (lock_made_lem compile holds laws segments numbers locks c l m)

  -- the lock of the longest product that opens is the tightest standing lock
  pub tightest_agrees : (s n : ℕ)
      → map_option (λ r. r.lock) (greatest literal_count (keep (opens_for grants n keys) (products_at segments s)))
      ≡ map_option (λ l. l.number) (greatest (tightness compile keys) (keep (gives compile holds keys s n) locks))
  tightest_agrees s n =
      let p = opens_for grants n keys in
      let q = gives compile holds keys s n in
      let on = keep (stands_on s) locks in
      row_number (greatest literal_count (keep p (products_at segments s)))
      ∙ ap (map_option (λ (k : Mark). k.0))
      (greatest_map size_of mark_row None (keep p (products_at segments s))
      ∙ ap (greatest_from size_of None)
      (ap (λ (rs : List LockProduct). map mark_row (keep p rs)) (segment_stores compile holds laws segments numbers locks c s)
      ∙ ap (map mark_row) (keep_each p (stored_of compile) on)
      ∙ map_concat_map mark_row (λ l. keep p (stored_of compile l)) on)
      ∙ every_lock compile holds keys s n locks (all_members (Spelt compile holds keys) locks lock_spelt) None
      ∙ sym (greatest_map size_of (mark_lock compile holds keys) None (keep q locks)))
      ∙ lock_number (tightness compile keys) (greatest (tightness compile keys) (keep q locks))

-- ---- no opening product is longer than the lock is tight, and one is as long

module _ (compile : Compiler) (keys : KeySet) (l : Lock) where
  pub product_short : (p : Product) → Memᴰ p (products_of compile l.text) → opens keys p ≡ true → length p ≤ tightness compile keys l
  product_short p m e =
      let ps = products_of compile l.text in maximum_above length p (keep (opens keys) ps) (keep_member (opens keys) p ps m e)

  pub product_long : any (opens keys) (products_of compile l.text) ≡ true
      → (p : Product) × Memᴰ p (products_of compile l.text) × (opens keys p ≡ true) × (length p ≡ tightness compile keys l)
  product_long h =
      let ps = products_of compile l.text in
      let (p, m, e) = maximum_reached length (keep (opens keys) ps) (some_kept keys ps h) in
      let (from, agrees) = all_at (λ q. Memᴰ q ps × (opens keys q ≡ true)) (keep (opens keys) ps) (keep_members (opens keys) ps) p m in
      (p, from, agrees, e)
