-- A key is in a thread's key set exactly when it is its own U or R key or the search finds it; and it is never both,
-- whatever numbers are in the arrays: no open call hands a U or R key over. Proved in `proofs/KeySets.antt`.
use Rattle.std.specs.Prelude.{◌≡◌, Bool, true, false, ◌&&◌, ◌||◌, List, ℕ, Some, Ok, None}
use Rattle.product.specs.declared.literal.Key.{Key}
use Rattle.product.specs.declared.literal.Key.TheVariants.{User, Thread as ThreadKey}
use Rattle.formula.specs.Outcome.{outcome_of}
use Rattle.call.specs.Calls.{Call}
use Rattle.model.specs.Threads.{Thread, same_key, key_set}
use Rattle.model.specs.State.{State, is_live, thread_at}
use Rattle.model.specs.Cells.{Cells, state_of}
use Rattle.model.specs.Replay.{history_of}
use Rattle.search.specs.Searching.{searched, is_found}
use Rattle.search.specs.Theorems.FromHistory.{searched_after}

-- 'its user's U key, its own R key', of thread n
abbrev pub is_own_key : ℕ → Thread → Key → Bool
is_own_key n t k = same_key k (User t.user) || same_key k (ThreadKey n)

pub record KeySets : Type 0 where
  pub held : (d : State) (n : ℕ) (k : Key) → is_live d n ≡ true
      → key_set n (thread_at d n) k ≡ (is_own_key n (thread_at d n) k || is_found (searched d n k))
  -- the key set by which `Granting` judges a C or an A after a list of calls
  pub held_after : (xs : List Call) (n : ℕ) (t : Thread) (k : Key) → (history_of outcome_of xs).threads n ≡ Some t
      → key_set n t k ≡ (is_own_key n t k || is_found (searched_after xs n k))
  pub not_both : (d : Cells) (n : ℕ) (k : Key) → is_live (state_of d) n ≡ true
      → (is_own_key n (thread_at (state_of d) n) k && is_found (searched (state_of d) n k)) ≡ false
  pub users : (d : Cells) (n u : ℕ) → is_live (state_of d) n ≡ true → searched (state_of d) n (User u) ≡ Ok None
  pub threads : (d : Cells) (n m : ℕ) → is_live (state_of d) n ≡ true → searched (state_of d) n (ThreadKey m) ≡ Ok None
