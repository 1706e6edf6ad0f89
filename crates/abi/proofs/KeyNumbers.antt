-- The key of a number, by the first digit of the number; the search for what is no key, as for a U key; and the number
-- of an answer.
use Rattle.std.specs.Prelude.{Ok, Err, Some, None}
use mathlib.Core.Path.{◌≡◌, refl, sym, ap, ◌∙◌}
use mathlib.Core.Bool.{true, false, cond}
use Prim.Native.Nat.{ℕ, ◌/◌, ◌%◌, ◌≤◌, ◌<◌}
use native.Mathlib.Omega.{arith}
use lib.Dec.{ltb}
use borrow.Author.Tests.{lt-ltb, le-ltb, ltb-true}
use Rattle.base.proofs.Lists.{case_bool}
use Rattle.product.specs.declared.literal.Key.{Key}
use Rattle.product.specs.declared.literal.Key.TheVariants.{User, Thread, Segment, Defined}
use Rattle.product.specs.Atom.{number_of}
use Rattle.product.specs.Code.{number_limit, key_limit, key_code, key_at}
use Rattle.product.proofs.Codes.{key_back, user_at, thread_at_lem, segment_at_lem, defined_at}
use Rattle.model.specs.declared.answer.Refusal.TheVariants.{NoThread}
use Rattle.model.specs.State.{State, is_live}
use Rattle.model.specs.Cells.{Cells, state_of}
use Rattle.search.specs.Searching.{Searched, searched, searched_number, searched_value}
use Rattle.search.proofs.Exactly.{exactly}
use Rattle.search.proofs.KeySets.{key_sets}
use Rattle.abi.proofs.AnswerCodes.{taken_apart}
use Rattle.abi.specs.KeySearch.{search_code, searched_for}
use Rattle.abi.specs.Internal.{key_read}
use Rattle.abi.specs.Theorems.KeyNumbers.{KeyNumbers}

module _ (x : ℕ) where
  as_key : {k : Key} → x < key_limit → k ≡ key_at x → k ≡ key_read x
  as_key h e = e ∙ sym (rw (lt-ltb x key_limit h) refl)

  pub thread_read : x / 65536 ≡ 1 → Thread (x % 65536) ≡ key_read x
  thread_read h = as_key (omega arith) (thread_at_lem x h)

  pub segment_read : x / 65536 ≡ 2 → Segment (x % 65536) ≡ key_read x
  segment_read h = as_key (omega arith) (segment_at_lem x h)

  pub defined_read : x / 65536 ≡ 3 → Defined (x % 65536) ≡ key_read x
  defined_read h = as_key (omega arith) (defined_at x (omega arith) (λ e. omega arith) (λ e. omega arith) (λ e. omega arith))

  pub other_read : (x / 65536 ≡ 1 → ⊥) → (x / 65536 ≡ 2 → ⊥) → (x / 65536 ≡ 3 → ⊥) → User (x % 65536) ≡ key_read x
  other_read a b c =
      case_bool (ltb x key_limit)
      (λ e. rw e (user_at x (let low = ltb-true x key_limit e in omega (arith, a, b, c))))
      (λ e. rw e refl)

module _ (d : Cells) (n x : ℕ) where
  no_key_lem : ltb x key_limit ≡ false → searched (state_of d) n (User (x % 65536)) ≡ cond (is_live (state_of d) n) (Ok None) (Err NoThread)
  no_key_lem e =
      case_bool (is_live (state_of d) n)
      (λ live. rw live (key_sets.users d n (x % 65536) live))
      (λ live. rw live (((exactly (state_of d) n (User (x % 65536))).refused NoThread).1 (live, refl)))

  read_searched : searched (state_of d) n (key_read x) ≡ searched_for (state_of d) n x
  read_searched = case_bool (ltb x key_limit) (λ e. rw e refl) (λ e. rw e (no_key_lem e))

  pub as_number : {s : Searched} {k : Key} {r : ℕ} → k ≡ key_read x → s ≡ searched (state_of d) n k → r ≡ search_code s
      → r ≡ search_code (searched_for (state_of d) n x)
  as_number key is code = code ∙ ap search_code (is ∙ ap (searched (state_of d) n) key ∙ read_searched)

code_low : (k : Key) → number_of k < number_limit → key_code k < key_limit
unfolding key_code
code_low (User n) h = omega arith
code_low (Thread n) h = omega arith
code_low (Segment n) h = omega arith
code_low (Defined n) h = omega arith

by_key : (d : State) (n : ℕ) (k : Key) → number_of k < number_limit → searched_for d n (key_code k) ≡ searched d n k
by_key d n k h =
    let low = lt-ltb (key_code k) key_limit (code_low k h) in
    rw low (ap (searched d n) (key_back k (λ z. h)))

beyond : (d : State) (n x : ℕ) → key_limit ≤ x → is_live d n ≡ true → searched_for d n x ≡ (Ok None)
beyond d n x h live = let high = le-ltb x key_limit h in rw (high, live) refl

not_live_lem : (d : State) (n x : ℕ) → is_live d n ≡ false → searched_for d n x ≡ Err NoThread
not_live_lem d n x dead =
    case_bool (ltb x key_limit)
    (λ e. rw e (((exactly d n (key_at x)).refused NoThread).1 (dead, refl)))
    (λ e. rw (e, dead) refl)

own_number : (p : ℕ) → search_code (Ok (Some p)) ≡ p
own_number p = omega arith

pub key_numbers_lem : KeyNumbers
key_numbers_lem =
    record {
      key = by_key;
      beyond = beyond;
      refused = not_live_lem;
      place = own_number;
      apart = λ s. taken_apart (searched_number s) (searched_value s);
    }
