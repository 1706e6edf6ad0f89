-- Where a live thread stands.
use Rattle.std.specs.Prelude.{◌≡◌, Bool, cond, List, map, ℕ, ◌<◌, ltb, length, Option, None, Some}
use Rattle.std.specs.Option.{IfSome}
use Rattle.model.specs.Limits.{most_threads}
use Rattle.model.specs.State.{Place, place_for}
use Rattle.model.specs.Cells.{Table, place_in}

-- a place of so many; there is none from their end on
abbrev pub place_below : ℕ → ℕ → Option ℕ
place_below most i = cond (ltb i most) (Some i) None

-- r is the place that passes the test, for thread n (document 01: run), and none exactly where none of the 64 does
pub record Placed (threads : List Table) (n : ℕ) (p : Place → Bool) (r : Option ℕ) : Type 0 where
  pub place : r ≡ place_below most_threads (place_for n p (map place_in threads))
  -- follows from it, and is said so that callers find the bound
  pub low : IfSome r (λ i. i < most_threads)
  pub count : length threads ≡ most_threads
