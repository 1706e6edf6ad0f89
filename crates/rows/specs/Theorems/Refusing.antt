-- Demand 1 of a listing, 'lent rows included': it is refused exactly by the first condition that holds, in the table's
-- order, and then leaves every lent row; accepted is all the rest, and then it writes the rows for the user, from the
-- first on, and nothing else. Proved in `proofs/Refusing.antt`.
use Rattle.std.specs.Prelude.{◌≡◌, true, false, ◌↔◌, ℕ, ◌≤◌, length, take, drop, Ok, Err}
use mathlib.Core.List.{List, Memᴰ}
use Rattle.base.specs.Conditions.{Condition}
use Rattle.base.specs.Lists.{rising}
use Rattle.model.specs.declared.answer.Refusal.{Refusal}
use Rattle.model.specs.State.{State}
use Rattle.model.specs.Theorems.Refusing.{some_holds, FirstHolds, rank, ranks}
use Rattle.rows.specs.declared.row.Row.{Row}
use Rattle.rows.specs.Rows.{rows_for}
use Rattle.rows.specs.Listing.{list_conditions, Listed, filled, listed}

-- o is what a listing of segment s for user u gives
pub record ListRefuses (d : State) (u s : ℕ) (lent : List Row) (o : Listed Row) : Type 0 where
  pub refused : (r : Refusal) → (o.answer ≡ Err r) ↔ FirstHolds r (list_conditions d u s (length lent))
  pub accepted : (o.answer ≡ Ok (length (rows_for d u s)))
      ↔ (some_holds (list_conditions d u s (length lent)) ≡ false)
  -- no condition that holds is earlier in the table
  pub earliest : (r : Refusal) → o.answer ≡ Err r
      → (c : Condition Refusal) → Memᴰ c (list_conditions d u s (length lent)) → c.holds ≡ true
      → rank r ≤ rank c.refusal
  -- the lent rows afterwards, which are as many as before
  pub unchanged : (r : Refusal) → o.answer ≡ Err r → o.rows ≡ lent
  pub written : (n : ℕ) → o.answer ≡ Ok n → o.rows ≡ filled (rows_for d u s) lent
  -- the first n are the rows for the user, and those beyond them are untouched
  pub first : (n : ℕ) → o.answer ≡ Ok n → take n o.rows ≡ rows_for d u s
  pub beyond : (n : ℕ) → o.answer ≡ Ok n → drop n o.rows ≡ drop n lent
  pub as_many : length o.rows ≡ length lent

pub record ListRefusing : Type 0 where
  pub judged : (d : State) (u s : ℕ) (lent : List Row) → ListRefuses d u s lent (listed d u s lent)
  pub in_order : (d : State) (u s lent : ℕ) → rising (ranks (list_conditions d u s lent)) ≡ true
