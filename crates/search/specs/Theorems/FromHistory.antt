-- After every list of calls from the empty state the search is read from the calls and their answers alone: the live
-- threads, and what each of their open calls hands over. Proved in `proofs/FromHistory.antt`.
use Rattle.std.specs.Prelude.{◌≡◌, List, ◌↔◌, ℕ, None, Some, Ok, Err}
use Rattle.base.specs.Lists.{or_default}
use Rattle.product.specs.declared.literal.Key.{Key}
use Rattle.formula.specs.Outcome.{outcome_of}
use Rattle.call.specs.Calls.{Call}
use Rattle.model.specs.declared.answer.Refusal.{Refusal}
use Rattle.model.specs.declared.answer.Refusal.TheVariants.{NoThread}
use Rattle.model.specs.Threads.{Thread}
use Rattle.model.specs.Cells.{state_of}
use Rattle.model.specs.History.{Event, history}
use Rattle.model.specs.Replay.{reached, events, history_of}
use Rattle.checking.specs.Newest.{newest_from}
use Rattle.search.specs.Searching.{Searched, searched}
use Rattle.search.specs.Theorems.Exactly.{NewestAt, NoneHandsOver}

-- what the search answers after the list of calls
abbrev pub searched_after : List Call → ℕ → Key → Searched
searched_after xs n k = searched (state_of (reached outcome_of xs)) n k

-- the same from the calls with their answers
abbrev pub searched_from : List Event → ℕ → Key → Searched
searched_from es n k =
    or_default (Err NoThread) (λ t. Ok (newest_from k t.frames)) ((history es).threads n)

-- and in words
pub record ExactAfter (xs : List Call) (n : ℕ) (k : Key) : Type 0 where
  pub at : (p : ℕ) → (searched_after xs n k ≡ Ok (Some p))
      ↔ ((t : Thread) × ((history_of outcome_of xs).threads n ≡ Some t) × NewestAt k t.frames p)
  pub nowhere : (searched_after xs n k ≡ Ok None)
      ↔ ((t : Thread) × ((history_of outcome_of xs).threads n ≡ Some t) × NoneHandsOver k t.frames)
  pub refused : (r : Refusal) → (searched_after xs n k ≡ Err r)
      ↔ (((history_of outcome_of xs).threads n ≡ None) × (r ≡ NoThread))

pub record FromHistory : Type 0 where
  pub equation : (xs : List Call) (n : ℕ) (k : Key) → searched_after xs n k ≡ searched_from (events outcome_of xs) n k
  pub exactly : (xs : List Call) (n : ℕ) (k : Key) → ExactAfter xs n k
