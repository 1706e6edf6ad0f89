-- The codes that the check compares stand for the keys of the thread's key set: a code of a list tells its key from
-- every other, no list has a U or R key, and a row has a key exactly where a cell has its code.
use Rattle.std.specs.Prelude.{Option}
use mathlib.Core.Path.{◌≡◌, refl, sym, ap, ap₂, ◌∙◌}
use mathlib.Core.Bool.{Bool, true, false, ◌&&◌, ◌||◌, not, cond}
use mathlib.Core.List.{List, [], ◌∷◌}
use Prim.Native.Nat.{ℕ, zero, suc, ◌+◌, ◌-◌, ◌/◌, ◌%◌, ◌<◌}
use native.Mathlib.Omega.{arith}
use lib.Dec.{eqb, ltb}
use borrow.Author.Tests.{lt-ltb, ltb-true, ltb-false, eq-eqb, ne_eqb, eqb-true}
use Rattle.product.specs.declared.literal.Key.{Key}
use Rattle.product.specs.declared.literal.Key.TheVariants.{User, Thread as ThreadKey, Segment as SegmentKey, Defined}
use Rattle.product.specs.declared.literal.Literal.{Literal}
use Rattle.product.specs.declared.literal.Literal.TheVariants.{Plain, Barred}
use Rattle.product.specs.Atom.{agrees, atom_of, number_of, compare_atoms}
use Rattle.base.specs.Lists.{any, keep, is_some}
use Rattle.model.specs.Limits.{most_segments}
use Rattle.model.specs.Threads.{same_key, is_in}
use Rattle.model.specs.Cells.{Row, Table, cell, row_at, number_cell, user_cell, no_key, key_in, has_key, keys_in, key_cell, defined_cell, signed, literal_in, frames_of}
use Rattle.model.proofs.Keys.{same_key_lem, key_same}
use Rattle.model.proofs.Refinement.Literals.{key_in_segment, key_in_defined}
use Rattle.base.proofs.Lists.{case_bool, same_truth, any_map, any_keep}
use Rattle.checking.specs.Deciding.{keys_at}
use Rattle.checking.specs.Internal.{has_code, newest_row, listable}

-- ---- equal keys

key_cell_key_in : (x : ℕ) → key_cell (key_in x) ≡ x
key_cell_key_in x = case_bool (ltb x most_segments) (λ e. simp e) (λ e. let l = ltb-false x most_segments e in simp e (omega arith))

same_codes : (code x : ℕ) → same_key (key_in code) (key_in x) ≡ eqb x code
same_codes code x =
    same_truth (same_key (key_in code) (key_in x)) (eqb x code)
    (λ e. eq-eqb x code (sym (key_cell_key_in x) ∙ ap key_cell (sym (same_key_lem (key_in code) (key_in x) e)) ∙ key_cell_key_in code))
    (λ e. key_same (key_in code) (key_in x) (ap key_in (sym (eqb-true x code e))))

same_users : (n u : ℕ) → same_key (User n) (User u) ≡ eqb u n
same_users n u =
    same_truth (same_key (User n) (User u)) (eqb u n)
    (λ e. eq-eqb u n (ap number_of (sym (same_key_lem (User n) (User u) e))))
    (λ e. key_same (User n) (User u) (ap User (sym (eqb-true u n e))))

same_threads : (n r : ℕ) → same_key (ThreadKey n) (ThreadKey r) ≡ eqb r n
same_threads n r =
    same_truth (same_key (ThreadKey n) (ThreadKey r)) (eqb r n)
    (λ e. eq-eqb r n (ap number_of (sym (same_key_lem (ThreadKey n) (ThreadKey r) e))))
    (λ e. key_same (ThreadKey n) (ThreadKey r) (ap ThreadKey (sym (eqb-true r n e))))

module _ (x n : ℕ) where
  listed_not_user : same_key (key_in x) (User n) ≡ false
  unfolding compare_atoms
  listed_not_user = case_bool (ltb x most_segments) (λ e. simp e) (λ e. simp e)

  listed_not_thread : same_key (key_in x) (ThreadKey n) ≡ false
  unfolding compare_atoms
  listed_not_thread = case_bool (ltb x most_segments) (λ e. simp e) (λ e. simp e)

  pub user_not_listed : same_key (User n) (key_in x) ≡ false
  unfolding compare_atoms
  user_not_listed = case_bool (ltb x most_segments) (λ e. simp e) (λ e. simp e)

  pub thread_not_listed : same_key (ThreadKey n) (key_in x) ≡ false
  unfolding compare_atoms
  thread_not_listed = case_bool (ltb x most_segments) (λ e. simp e) (λ e. simp e)

user_not_thread : (n r : ℕ) → same_key (User n) (ThreadKey r) ≡ false
unfolding compare_atoms
user_not_thread n r = refl

thread_not_user : (n r : ℕ) → same_key (ThreadKey n) (User r) ≡ false
unfolding compare_atoms
thread_not_user n r = refl

-- ---- the frames' lists

-- one of the oldest n frames has the code
abbrev inherited : Table → ℕ → ℕ → Bool
inherited t n code = is_some (newest_row t n code)

any_agree : {A : Type 0} (p q : A → Bool) → ((x : A) → p x ≡ q x) → (xs : List A) → any p xs ≡ any q xs
any_agree p q h [] = refl
any_agree p q h (x ∷ xs) = ap₂ (λ (a b : Bool). a || b) (h x) (any_agree p q h xs)

any_never : {A : Type 0} (p : A → Bool) → ((x : A) → p x ≡ false) → (xs : List A) → any p xs ≡ false
any_never p h [] = refl
any_never p h (x ∷ xs) = simp (h x) (any_never p h xs)

-- a key that is no code of a list stands in none
pub not_listed : (k : Key) → ((x : ℕ) → same_key k (key_in x) ≡ false) → (t : Table) (n : ℕ) → any (λ f. is_in k f.keys) (frames_of t n) ≡ false
not_listed k h t zero = refl
not_listed k h t (suc n) =
    let here : is_in k (keys_in (row_at t (suc n))) ≡ false =
    any_map (same_key k) key_in (keep has_key (row_at t (suc n))) ∙ any_never (λ x. same_key k (key_in x)) h (keep has_key (row_at t (suc n))) in
    simp here (not_listed k h t n)

module _ (code : ℕ) (low : code < no_key) where
  has_key_lem : (x : ℕ) → has_key x && same_key (key_in code) (key_in x) ≡ eqb x code
  has_key_lem x =
      case_bool (eqb x no_key)
      (λ e. let q = eqb-true x no_key e in let other : eqb x code ≡ false = ne_eqb x code (λ z. omega arith) in simp (e, other))
      (λ e. simp e (same_codes code x))

  pub in_row : (w : Row) → is_in (key_in code) (keys_in w) ≡ has_code w code
  in_row w =
      any_map (same_key (key_in code)) key_in (keep has_key w)
      ∙ any_keep (λ x. same_key (key_in code) (key_in x)) has_key w
      ∙ any_agree (λ x. has_key x && same_key (key_in code) (key_in x)) (λ x. eqb x code) has_key_lem w

  in_frames : (t : Table) (n : ℕ) → any (λ f. is_in (key_in code) f.keys) (frames_of t n) ≡ inherited t n code
  unfolding newest_row
  in_frames t zero = refl
  in_frames t (suc n) =
      ap₂ (λ (a b : Bool). a || b) (in_row (row_at t (suc n))) (in_frames t n)
      ∙ case_bool (has_code (row_at t (suc n)) code) (λ e. rw e refl) (λ e. rw e refl)

-- ---- the key set

or_false : (b : Bool) → b || false ≡ b
or_false true = refl
or_false false = refl

module _ (t : Table) (n : ℕ) where
  holds_listed : (code : ℕ) → code < no_key → keys_at t n (key_in code) ≡ inherited t n code
  holds_listed code low =
      simp (listed_not_user code (cell (row_at t 0) user_cell), listed_not_thread code (cell (row_at t 0) number_cell)) (in_frames code low t n)

  holds_user : (u : ℕ) → keys_at t n (User u) ≡ eqb (cell (row_at t 0) user_cell) u
  holds_user u =
      simp (user_not_thread u (cell (row_at t 0) number_cell), not_listed (User u) (λ x. user_not_listed x u) t n)
      (or_false (same_key (User u) (User (cell (row_at t 0) user_cell))) ∙ same_users u (cell (row_at t 0) user_cell))

  holds_thread : (r : ℕ) → keys_at t n (ThreadKey r) ≡ eqb (cell (row_at t 0) number_cell) r
  holds_thread r =
      simp (thread_not_user r (cell (row_at t 0) user_cell), not_listed (ThreadKey r) (λ x. thread_not_listed x r) t n)
      (or_false (same_key (ThreadKey r) (ThreadKey (cell (row_at t 0) number_cell))) ∙ same_threads r (cell (row_at t 0) number_cell))

  holds_segment : (s : ℕ) → ltb s most_segments ≡ true → keys_at t n (SegmentKey s) ≡ inherited t n s
  holds_segment s e =
      let low : s < most_segments = ltb-true s most_segments e in
      ap (keys_at t n) (sym (key_in_segment s low)) ∙ holds_listed s (omega arith)

  holds_defined : (k : ℕ) → ltb (defined_cell k) no_key ≡ true → keys_at t n (Defined k) ≡ inherited t n (defined_cell k)
  holds_defined k e = ap (keys_at t n) (sym (key_in_defined k)) ∙ holds_listed (defined_cell k) (ltb-true (defined_cell k) no_key e)

  -- ---- a key that is matched, and the literal that holds it

  module _ {k : Key} {number : ℕ} where
    pub user_key : k ≡ User number → eqb (cell (row_at t 0) user_cell) number ≡ keys_at t n k
    user_key e = sym (ap (keys_at t n) e ∙ holds_user number)

    pub thread_key : k ≡ ThreadKey number → eqb (cell (row_at t 0) number_cell) number ≡ keys_at t n k
    thread_key e = sym (ap (keys_at t n) e ∙ holds_thread number)

    module _ {code : ℕ} {row : Option ℕ} (l : listable k ≡ true) (h : row ≡ newest_row t n code) where
      pub segment_key : k ≡ SegmentKey number → code ≡ number → is_some row ≡ keys_at t n k
      segment_key e c = ap is_some h ∙ ap (inherited t n) c ∙ sym (ap (keys_at t n) e ∙ holds_segment number (ap listable (sym e) ∙ l))

      pub defined_key : k ≡ Defined number → code ≡ number + most_segments → is_some row ≡ keys_at t n k
      defined_key e c =
          let same : code ≡ defined_cell number = omega (arith, c) in
          ap is_some h ∙ ap (inherited t n) same ∙ sym (ap (keys_at t n) e ∙ holds_defined number (ap listable (sym e) ∙ l))

  module _ {l : Literal} {k : Key} {b : Bool} (h : b ≡ keys_at t n k) where
    pub plain_agrees : l ≡ Plain k → b ≡ agrees (keys_at t n) l
    plain_agrees e = h ∙ ap (agrees (keys_at t n)) (sym e)

    pub barred_agrees : l ≡ Barred k → not b ≡ agrees (keys_at t n) l
    barred_agrees e = ap not h ∙ ap (agrees (keys_at t n)) (sym e)

-- ---- a literal that a cell stands for has a key with a code

module _ {l : Literal} {k : Key} (h : listable (atom_of l) ≡ true) where
  pub plain_listable : l ≡ Plain k → listable k ≡ true
  plain_listable e = ap (λ (x : Literal). listable (atom_of x)) (sym e) ∙ h

  pub barred_listable : l ≡ Barred k → listable k ≡ true
  barred_listable e = ap (λ (x : Literal). listable (atom_of x)) (sym e) ∙ h

pub defined_low : {k : Key} {number : ℕ} → k ≡ Defined number → listable k ≡ true → number + most_segments < no_key
defined_low {k} {number} e h = let l = ltb-true (defined_cell number) no_key (ap listable (sym e) ∙ h) in omega (arith, l)

listable_code : (code : ℕ) → code < 32768 → listable (key_in code) ≡ true
listable_code code low =
    case_bool (ltb code most_segments)
    (λ e. simp e)
    (λ e. let high = ltb-false code most_segments e in simp e (lt-ltb (defined_cell (code - most_segments)) no_key (omega arith)))

signed_key : (plain : Bool) (k : Key) → atom_of (signed plain k) ≡ k
signed_key true k = refl
signed_key false k = refl

pub literal_listable : (x : ℕ) → listable (atom_of (literal_in x)) ≡ true
literal_listable x =
    case_bool (ltb x 65536)
    (λ e. simp e (ap listable (signed_key (ltb x 32768) (key_in (x % 32768))) ∙ listable_code (x % 32768) (omega arith)))
    (λ e.
    let own : Key = cond (ltb x 262144) (User (x % 65536)) (ThreadKey (x % 65536)) in
    simp e (ap listable (signed_key (eqb (x / 65536 % 2) 0) own) ∙ case_bool (ltb x 262144) (λ f. simp f) (λ f. simp f)))
