-- The products on the segments and the history's standing locks. A ghost list has the standing locks with their
-- products, in the order of their numbers; a segment's products are those of the locks on it; and a ghost map tells
-- each number's segment.
use Rattle.std.specs.Prelude.{Some}
use mathlib.Core.Path.{◌≡◌, refl, ap, ◌∙◌}
use mathlib.Core.Bool.{Bool, true, false, ◌||◌, not, cond}
use mathlib.Core.List.{List, [], ◌∷◌, ◌++◌, map}
use Prim.Native.Nat.{ℕ, ◌≤◌, ◌<◌}
use native.Mathlib.Omega.{arith}
use lib.Dec.{eqb}
use lib.ListN.{length}
use Rattle.product.specs.Product.{Product, opens}
use Rattle.product.specs.Sum.{Sum, opens_any}
use Rattle.formula.specs.declared.text.Issued.{Issued}
use Rattle.formula.specs.Outcome.{accepted}
use Rattle.formula.specs.Compiler.{Compiler}
use Rattle.base.specs.Lists.{any, keep, first, concat_map, map_option}
use Rattle.model.specs.Threads.{KeySet}
use Rattle.model.specs.State.{Segment, LockProduct, is_of_lock}
use Rattle.model.specs.Effects.{lock_product}
use Rattle.model.specs.History.{Lock}
use Rattle.base.proofs.Lists.{All, case_bool, any_map, All-append, All-keep}
use Rattle.model.proofs.Agreement.Segments.{products_at}

-- a standing lock with its products
pub record Standing : Type 0 where
  pub number : ℕ
  pub segment : ℕ
  pub operations : ℕ
  pub text : List ℕ
  pub products : Sum

abbrev pub lock_in : Standing → Lock
lock_in l = record { number = l.number; segment = l.segment; operations = l.operations; text = l.text }

abbrev pub rows_of : Standing → List LockProduct
rows_of l = map (lock_product l.number l.operations) l.products

abbrev pub is_on : ℕ → Standing → Bool
is_on s l = eqb l.segment s

abbrev pub stays : ℕ → Standing → Bool
stays n l = not (eqb l.number n)

-- a lock's rows have its number
any_row : (b : Bool) (p : Product) (ps : Sum) → any (λ q. b) (p ∷ ps) ≡ b
any_row true p ps = refl
any_row false p [] = refl
any_row false p (q ∷ ps) = any_row false q ps

pub row_number : (n : ℕ) (l : Standing) → 1 ≤ length l.products → any (is_of_lock n) (rows_of l) ≡ eqb l.number n
row_number n l h = any_map (is_of_lock n) (lock_product l.number l.operations) l.products ∙ go l.products h
  where
    go : (ps : Sum) → 1 ≤ length ps → any (λ p. eqb l.number n) ps ≡ eqb l.number n
    go [] k = absurd (omega arith)
    go (p ∷ ps) k = any_row (eqb l.number n) p ps

-- so they are dropped together
pub keep_rows : (n : ℕ) (l : Standing) → keep (λ r. not (is_of_lock n r)) (rows_of l) ≡ cond (stays n l) (rows_of l) []
keep_rows n l = case_bool (eqb l.number n) (λ e. simp e (none_stay e l.products)) (λ e. simp e (all_stay e l.products))
  where
    none_stay : eqb l.number n ≡ true → (ps : Sum) → keep (λ r. not (is_of_lock n r)) (map (lock_product l.number l.operations) ps) ≡ []
    none_stay e [] = refl
    none_stay e (p ∷ ps) = simp e (none_stay e ps)

    all_stay : eqb l.number n ≡ false → (ps : Sum) → keep (λ r. not (is_of_lock n r)) (map (lock_product l.number l.operations) ps) ≡ map (lock_product l.number l.operations) ps
    all_stay e [] = refl
    all_stay e (p ∷ ps) = simp e (ap (λ (rs : List LockProduct). lock_product l.number l.operations p ∷ rs) (all_stay e ps))

-- the lock of the first row that passes is the first lock with a row that does
first_rows : (p : LockProduct → Bool) (n o : ℕ) (ps : Sum) (rest : List LockProduct)
    → map_option (λ r. r.lock) (first p (map (lock_product n o) ps ++ rest)) ≡ cond (any p (map (lock_product n o) ps)) (Some n) (map_option (λ r. r.lock) (first p rest))
first_rows p n o [] rest = refl
first_rows p n o (x ∷ ps) rest = case_bool (p (lock_product n o x)) (λ e. simp e) (λ e. simp e (first_rows p n o ps rest))

pub first_lock : (p : LockProduct → Bool) (ls : List Standing)
    → map_option (λ r. r.lock) (first p (concat_map rows_of ls)) ≡ map_option (λ l. l.number) (first (λ l. any p (rows_of l)) ls)
first_lock p [] = refl
first_lock p (l ∷ ls) =
    first_rows p l.number l.operations l.products (concat_map rows_of ls)
    ∙ case_bool (any p (rows_of l)) (λ e. simp e) (λ e. simp e (first_lock p ls))

pub opens_any_lem : (keys : KeySet) (ps : Sum) → opens_any keys ps ≡ any (opens keys) ps
unfolding opens_any
opens_any_lem keys [] = refl
opens_any_lem keys (p ∷ ps) = ap (λ (b : Bool). opens keys p || b) (opens_any_lem keys ps)

-- numbers rise
abbrev pub Rising : List Standing → Type 0
Rising [] = Unit {0}
Rising (l ∷ ls) = All (λ k. l.number < k.number) ls × Rising ls

pub rising_keep : (p : Standing → Bool) (ls : List Standing) → Rising ls → Rising (keep p ls)
rising_keep p [] r = tt
rising_keep p (l ∷ ls) r =
    case_bool (p l)
    (λ e. simp e (All-keep (λ k. l.number < k.number) p ls r.0, rising_keep p ls r.1))
    (λ e. simp e (rising_keep p ls r.1))

pub rising_add : (new : Standing) (ls : List Standing) → All (λ l. l.number < new.number) ls → Rising ls → Rising (ls ++ new ∷ [])
rising_add new [] b r = (tt, tt)
rising_add new (l ∷ ls) b r = (All-append (λ k. l.number < k.number) ls (new ∷ []) r.0 (b.0, tt), rising_add new ls b.1 r.1)

module _ (compile : Compiler) where
  -- its products are what the compiler made of its text, and there is one; its number is handed out, and tells its
  -- segment
  pub record Sound (segment_for : ℕ → ℕ) (numbers : ℕ) (l : Standing) : Type 0 where
    pub issue : Issued
    pub made : compile issue l.text ≡ accepted l.products
    pub filled : 1 ≤ length l.products
    pub below : l.number < numbers
    pub homed : segment_for l.number ≡ l.segment

  pub record AgreeLocks (segments : List Segment) (numbers : ℕ) (locks : List Lock) : Type 0 where
    pub standing : List Standing
    pub segment_for : ℕ → ℕ
    pub written : locks ≡ map lock_in standing
    pub rows : (s : ℕ) → products_at segments s ≡ concat_map rows_of (keep (is_on s) standing)
    pub sound : All (Sound segment_for numbers) standing
    pub rising : Rising standing
