-- What is read off locks that agree: the check, the order of numbers, where a lock stands, and what the segments store
-- for each. The check is a chain of laws of lists, and the opening law enters at one place.
use Rattle.std.specs.Prelude.{Option, None, Some}
use mathlib.Core.Path.{◌≡◌, refl, sym, ap, subst, ◌∙◌}
use mathlib.Core.Bool.{Bool, true, ◌&&◌, cond}
use mathlib.Core.List.{List, [], ◌∷◌, map, append-nil, Memᴰ}
use Prim.Native.Nat.{ℕ, ◌<◌}
use native.Mathlib.Omega.{arith}
use lib.Dec.{eqb}
use borrow.Author.Tests.{eq-eqb, ne_eqb, lt-ltb}
use Rattle.product.specs.Product.{opens}
use Rattle.product.specs.Sum.{Sum}
use Rattle.formula.specs.Outcome.{Outcome, accepted, sum_in}
use Rattle.formula.specs.Compiler.{Compiler, Laws, everything}
use Rattle.formula.specs.Meaning.{Meaning}
use Rattle.base.proofs.Truth.{and_right}
use Rattle.base.specs.Lists.{any, keep, first, concat_map, map_option, index_of, rising}
use Rattle.model.specs.Threads.{KeySet}
use Rattle.model.specs.State.{Segment, LockProduct, is_of_lock, has_lock, blank_segment}
use Rattle.model.specs.Effects.{lock_product}
use Rattle.model.specs.Refusals.{opens_for}
use Rattle.model.specs.History.{Lock}
use Rattle.model.specs.HistoryLocks.{stands_on, products_of, stored_of}
use Rattle.base.proofs.Lists.{All, case_bool, same_truth, eqb_self, any_found, any_passes, any_at, all_at, any_same, any_map, any_concat_map, any_keep, any_and, concat_map_map, concat_map_same, keep_map, keep_concat_map, keep_keep, first_keep, first_map, first_same, All-map, All-keep, index_of_passes}
use Rattle.model.proofs.Agreement.Segments.{products_at}
use Rattle.model.proofs.Agreement.StandingLocks.{Standing, lock_in, rows_of, is_on, row_number, first_lock, opens_any_lem, Rising, Sound, AgreeLocks}

module _ (compile : Compiler) where
  -- ---- the check

  lock_opens_lem : (holds : Meaning) → Laws compile holds → (segment_for : ℕ → ℕ) (numbers : ℕ) (stands : ℕ → ℕ → Bool) (s n : ℕ) (keys : KeySet) (l : Standing) → Sound compile segment_for numbers l
      → (is_on s l && any (opens_for stands n keys) (rows_of l)) ≡ (is_on s l && (stands l.operations n && holds keys l.text))
  lock_opens_lem holds laws segment_for numbers stands s n keys l c =
      ap (λ (b : Bool). is_on s l && b)
      (any_map (opens_for stands n keys) (lock_product l.number l.operations) l.products
      ∙ any_and (stands l.operations n) (opens keys) l.products
      ∙ ap (λ (b : Bool). stands l.operations n && b) (sym (opens_any_lem keys l.products) ∙ laws.opening c.issue l.text l.products c.made keys))

  -- the lock of the first product that opens is the first standing lock that does
  pub check_agrees : (holds : Meaning) → Laws compile holds → (segments : List Segment) (numbers : ℕ) (locks : List Lock) → AgreeLocks compile segments numbers locks
      → (stands : ℕ → ℕ → Bool) (s n : ℕ) (keys : KeySet)
      → map_option (λ r. r.lock) (first (opens_for stands n keys) (products_at segments s))
      ≡ map_option (λ l. l.number) (first (λ (l : Lock). eqb l.segment s && (stands l.operations n && holds keys l.text)) locks)
  check_agrees holds laws segments numbers locks c stands s n keys =
      let p = opens_for stands n keys in
      let q : Lock → Bool = λ l. eqb l.segment s && (stands l.operations n && holds keys l.text) in
      ap (λ (rs : List LockProduct). map_option (λ (r : LockProduct). r.lock) (first p rs)) (c.rows s)
      ∙ first_lock p (keep (is_on s) c.standing)
      ∙ ap (map_option (λ (l : Standing). l.number))
      (first_keep (λ l. any p (rows_of l)) (is_on s) c.standing
      ∙ first_same (λ l. is_on s l && any p (rows_of l)) (λ l. q (lock_in l)) c.standing (All-map (λ l h. lock_opens_lem holds laws c.segment_for numbers stands s n keys l h) c.standing c.sound))
      ∙ sym (ap (λ (ls : List Lock). map_option (λ (l : Lock). l.number) (first q ls)) c.written
      ∙ ap (map_option (λ (l : Lock). l.number)) (first_map q lock_in c.standing)
      ∙ numbers_same (first (λ l. q (lock_in l)) c.standing))
    where
      numbers_same : (o : Option Standing) → map_option (λ (l : Lock). l.number) (map_option lock_in o) ≡ map_option (λ (l : Standing). l.number) o
      numbers_same None = refl
      numbers_same (Some l) = refl

  -- ---- numbers

  homed_all : (segment_for : ℕ → ℕ) (numbers : ℕ) (ls : List Standing) → All (Sound compile segment_for numbers) ls → (l : Lock) → Memᴰ l (map lock_in ls) → segment_for l.number ≡ l.segment
  homed_all segment_for numbers [] s l x = elim x [ ]
  homed_all segment_for numbers (x ∷ xs) s l (Memᴰ.head e) = ap (λ (k : Lock). segment_for k.number) e ∙ s.0.homed ∙ ap (λ (k : Lock). k.segment) (sym e)
  homed_all segment_for numbers (x ∷ xs) s l (Memᴰ.tail m) = homed_all segment_for numbers xs s.1 l m

  -- the ghost map tells a standing lock's segment
  pub lock_homed : (segments : List Segment) (numbers : ℕ) (locks : List Lock) (c : AgreeLocks compile segments numbers locks) (l : Lock) → Memᴰ l locks
      → c.segment_for l.number ≡ l.segment
  lock_homed segments numbers locks c l m = homed_all c.segment_for numbers c.standing c.sound l (rw c.written at m)

  rising_numbers : (ls : List Standing) → Rising ls → rising (map (λ l. l.number) (map lock_in ls)) ≡ true
  rising_numbers [] r = refl
  rising_numbers (x ∷ []) r = refl
  rising_numbers (x ∷ y ∷ ls) r = let lt = lt-ltb x.number y.number r.0.0 in simp lt (rising_numbers (y ∷ ls) r.1)

  pub locks_rise : (segments : List Segment) (numbers : ℕ) (locks : List Lock) → AgreeLocks compile segments numbers locks → rising (map (λ l. l.number) locks) ≡ true
  locks_rise segments numbers locks c = rw c.written (rising_numbers c.standing c.rising)

  -- ---- where a lock stands

  module _ (segments : List Segment) (numbers : ℕ) (locks : List Lock) (c : AgreeLocks compile segments numbers locks) (n : ℕ) where
    -- a segment has its products exactly where the lock is on it
    rows_of_lem : (s : ℕ) → any (is_of_lock n) (products_at segments s) ≡ any (λ l. is_on s l && eqb l.number n) c.standing
    rows_of_lem s =
        ap (any (is_of_lock n)) (c.rows s)
        ∙ any_concat_map (is_of_lock n) rows_of (keep (is_on s) c.standing)
        ∙ any_keep (λ l. any (is_of_lock n) (rows_of l)) (is_on s) c.standing
        ∙ any_same (λ l. is_on s l && any (is_of_lock n) (rows_of l)) (λ l. is_on s l && eqb l.number n) c.standing
        (All-map (λ l k. ap (λ (b : Bool). is_on s l && b) (row_number n l k.filled)) c.standing c.sound)

    abbrev numbered : Standing → Bool
    numbered l = eqb l.number n

    pub lock_stands : any (has_lock n) segments ≡ any (λ l. eqb l.number n) locks
    lock_stands =
        same_truth (any (has_lock n) segments) (any numbered c.standing) to from
        ∙ sym (ap (any (λ (l : Lock). eqb l.number n)) c.written ∙ any_map (λ (l : Lock). eqb l.number n) lock_in c.standing)
      where
        to : any (has_lock n) segments ≡ true → any numbered c.standing ≡ true
        to h =
            let i = index_of (has_lock n) segments in
            let (l, m, t) = any_found (λ l. is_on i l && numbered l) c.standing (sym (rows_of_lem i) ∙ index_of_passes (has_lock n) blank_segment segments h) in
            any_passes numbered l c.standing m (and_right (is_on i l) (numbered l) t)

        from : any numbered c.standing ≡ true → any (has_lock n) segments ≡ true
        from h =
            let (l, m, t) = any_found numbered c.standing h in
            let s = l.segment in
            let on : (is_on s l && numbered l) ≡ true = simp (eqb_self s, t) in
            any_at (has_lock n) blank_segment segments s (rows_of_lem s ∙ any_passes (λ k. is_on s k && numbered k) l c.standing m on) refl

  -- ---- the products of one standing lock

  -- of locks in the order of their numbers one has the number
  single : (n : ℕ) (ls : List Standing) → Rising ls → (l : Lock) → Memᴰ l (map lock_in ls) → l.number ≡ n
      → (x : Standing) × (lock_in x ≡ l) × Memᴰ x ls × (keep (λ y. eqb y.number n) ls ≡ x ∷ [])
  single n [] r l x h = elim x [ ]
  single n (x ∷ xs) r l (Memᴰ.head e) h =
      let m : x.number ≡ n = ap (λ (k : Lock). k.number) (sym e) ∙ h in
      let here : eqb x.number n ≡ true = eq-eqb x.number n m in
      (x, sym e, Memᴰ.head refl, simp here (ap (λ (ys : List Standing). x ∷ ys) (above xs r.0 m)))
    where
      above : (ys : List Standing) → All (λ k. x.number < k.number) ys → x.number ≡ n → keep (λ y. eqb y.number n) ys ≡ []
      above [] a m = refl
      above (y ∷ ys) a m = let lt = a.0 in simp (ne_eqb y.number n (λ p. omega arith)) (above ys a.1 m)
  single n (x ∷ xs) r l (Memᴰ.tail i) h =
      let (y, e, m, k) = single n xs r.1 l i h in
      let lt : x.number < y.number = all_at (λ z. x.number < z.number) xs r.0 y m in
      let q : y.number ≡ n = ap (λ (z : Lock). z.number) e ∙ h in
      (y, e, Memᴰ.tail m, simp (ne_eqb x.number n (λ p. omega arith)) k)

  own_rows : (n : ℕ) (l : Standing) → keep (is_of_lock n) (rows_of l) ≡ cond (eqb l.number n) (rows_of l) []
  own_rows n l = go l.products
    where
      go : (ps : Sum) → keep (is_of_lock n) (map (lock_product l.number l.operations) ps) ≡ cond (eqb l.number n) (map (lock_product l.number l.operations) ps) []
      go [] = case_bool (eqb l.number n) (λ e. simp e) (λ e. simp e)
      go (p ∷ ps) = let h = go ps in case_bool (eqb l.number n) (λ e. simp e (ap (λ (rs : List LockProduct). lock_product l.number l.operations p ∷ rs) (rw e at h))) (λ e. simp e (rw e at h))

  -- ---- what the segments store

  module _ (meaning : Meaning) (laws : Laws compile meaning) (segments : List Segment) (numbers : ℕ) (locks : List Lock) (c : AgreeLocks compile segments numbers locks) where
    -- which keys were handed out when the lock was made makes no difference
    made_of : (l : Standing) → Sound compile c.segment_for numbers l → compile everything l.text ≡ accepted l.products
    made_of l k = laws.everywhere k.issue l.text l.products k.made

    rows_stored : (l : Standing) → Sound compile c.segment_for numbers l → rows_of l ≡ stored_of compile (lock_in l)
    rows_stored l k = ap (λ (o : Outcome). map (lock_product l.number l.operations) (sum_in o)) (sym (made_of l k))

    pub segment_stores : (s : ℕ) → products_at segments s ≡ concat_map (stored_of compile) (keep (stands_on s) locks)
    segment_stores s =
        c.rows s
        ∙ concat_map_same rows_of (λ l. stored_of compile (lock_in l)) (keep (is_on s) c.standing)
        (All-keep (λ l. rows_of l ≡ stored_of compile (lock_in l)) (is_on s) c.standing (All-map rows_stored c.standing c.sound))
        ∙ sym (concat_map_map (stored_of compile) lock_in (keep (is_on s) c.standing))
        ∙ ap (concat_map (stored_of compile)) (sym (keep_map (stands_on s) lock_in c.standing) ∙ ap (keep (stands_on s)) (sym c.written))

    module _ (l : Lock) (m : Memᴰ l locks) where
      one : (x : Standing) × (lock_in x ≡ l) × Memᴰ x c.standing × (keep (λ y. eqb y.number l.number) c.standing ≡ x ∷ [])
      one = single l.number c.standing c.rising l (rw c.written at m) refl

      pub lock_made_lem : compile everything l.text ≡ accepted (products_of compile l.text)
      lock_made_lem =
          let (x, e, i, k) = one in
          let made = made_of x (all_at (Sound compile c.segment_for numbers) c.standing c.sound x i) in
          subst (λ (z : Lock). compile everything z.text ≡ accepted (products_of compile z.text)) e (made ∙ ap (λ (o : Outcome). accepted (sum_in o)) (sym made))

      -- what is stored for a standing lock, on its segment and on any other
      pub lock_stores : (s : ℕ) → keep (is_of_lock l.number) (products_at segments s) ≡ cond (stands_on s l) (stored_of compile l) []
      lock_stores s =
          let n = l.number in
          let (x, e, i, k) = one in
          ap (keep (is_of_lock n)) (c.rows s)
          ∙ keep_concat_map (is_of_lock n) (λ y. eqb y.number n) rows_of (own_rows n) (keep (is_on s) c.standing)
          ∙ ap (concat_map rows_of) (keep_keep (λ y. eqb y.number n) (is_on s) c.standing ∙ ap (keep (is_on s)) k)
          ∙ alone x
          ∙ ap (λ (rs : List LockProduct). cond (is_on s x) rs []) (rows_stored x (all_at (Sound compile c.segment_for numbers) c.standing c.sound x i))
          ∙ ap (λ (z : Lock). cond (stands_on s z) (stored_of compile z) []) e
        where
          alone : (x : Standing) → concat_map rows_of (keep (is_on s) (x ∷ [])) ≡ cond (is_on s x) (rows_of x) []
          alone x = case_bool (is_on s x) (λ h. simp (h, append-nil)) (λ h. simp h)
