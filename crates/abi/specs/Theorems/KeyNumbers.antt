-- The key search by a key's number is the search for the key; a number beyond the last key's is none where the thread
-- is live, and 2 where it is not; a place is its own number, and that of any answer is taken apart again. Proved in
-- `proofs/KeyNumbers.antt`.
use Rattle.std.specs.Prelude.{◌≡◌, true, false, ℕ, ◌/◌, ◌%◌, ◌≤◌, ◌<◌, Ok, Err, Some, None}
use Rattle.product.specs.declared.literal.Key.{Key}
use Rattle.product.specs.Atom.{number_of}
use Rattle.product.specs.Code.{number_limit, key_limit, key_code}
use Rattle.model.specs.declared.answer.Refusal.TheVariants.{NoThread}
use Rattle.model.specs.State.{State, is_live}
use Rattle.search.specs.Searching.{Searched, searched, searched_number, searched_value}
use Rattle.abi.specs.KeySearch.{search_code, searched_for}

pub record KeyNumbers : Type 0 where
  -- document 01: 'a key is a kind with a 16-bit number'
  pub key : (d : State) (n : ℕ) (k : Key) → number_of k < number_limit → searched_for d n (key_code k) ≡ searched d n k
  pub beyond : (d : State) (n x : ℕ) → key_limit ≤ x → is_live d n ≡ true → searched_for d n x ≡ Ok None
  pub refused : (d : State) (n x : ℕ) → is_live d n ≡ false → searched_for d n x ≡ Err NoThread
  pub place : (p : ℕ) → search_code (Ok (Some p)) ≡ p
  -- a value has 16 bits
  pub apart : (s : Searched) → searched_value s < 65536 → (search_code s / 65536 ≡ searched_number s)
      × (search_code s % 65536 ≡ searched_value s)
