-- Document 02, P1: 'Two desks that differ only in a segment's formulas must show a colleague identical rows.' Of
-- states, whatever their locks are; and of lists of calls, in words of the calls and their answers alone. Proved in
-- `proofs/Discretion.antt`.
use Rattle.std.specs.Prelude.{◌≡◌, false, ◌&&◌, List, [], ◌∷◌, map, ℕ}
use Rattle.product.specs.Product.{Product}
use Rattle.product.specs.Sum.{Sum}
use Rattle.formula.specs.Outcome.{outcome_of}
use Rattle.call.specs.Calls.{Call}
use Rattle.call.specs.Letters as letters
use Rattle.base.specs.Lists.{concat_map}
use Rattle.model.specs.State.{LockProduct, State, is_segment, owns}
use Rattle.model.specs.Effects.{on_segment, with_products, lock_product}
use Rattle.model.specs.Cells.{state_of}
use Rattle.model.specs.History.{Event, Lock, history, accepted_of}
use Rattle.model.specs.Replay.{reached, events}
use Rattle.rows.specs.declared.row.Row.{Row}
use Rattle.rows.specs.Listing.{listed}
use Rattle.rows.specs.Theorems.FromHistory.{owns_in}

-- a standing lock, with the products of any formula, of which there is at least one
pub record StandingLock : Type 0 where
  pub number : ℕ
  pub operations : ℕ
  pub first : Product
  pub more : Sum

abbrev pub products_in : StandingLock → List LockProduct
products_in l = map (lock_product l.number l.operations) (l.first ∷ l.more)

-- the state with those locks on segment s, and all else as it is
abbrev pub with_standing : State → ℕ → List StandingLock → State
with_standing d s ls = on_segment d s (λ g. with_products g (concat_map products_in ls))

-- all of a lock but its formula
abbrev pub head_of : StandingLock → ℕ × ℕ
head_of l = (l.number, l.operations)

-- The locks on segment s differ only in their formulas. Segment t, which may be s, is not one that the user owns.
abbrev pub Discreet : Type 0
Discreet =
    (d : State) (s : ℕ) (ls ls' : List StandingLock) → map head_of ls ≡ map head_of ls'
    → (u t : ℕ) → is_segment d t && owns d u t ≡ false → (lent : List Row)
    → listed (with_standing d s ls) u t lent ≡ listed (with_standing d s ls') u t lent

-- a lock with its text struck out
abbrev pub textless : Lock → Lock
textless l = record { number = l.number; segment = l.segment; operations = l.operations; text = [] }

-- The histories differ only in the texts of locks, and as many users were handed out. Threads make no difference.
pub record SameButTexts (es es' : List Event) : Type 0 where
  pub users : accepted_of letters.U es ≡ accepted_of letters.U es'
  pub segments : (s : ℕ) → (history es).segments s ≡ (history es').segments s
  pub locks : map textless (history es).locks ≡ map textless (history es').locks

abbrev pub DiscreetCalls : Type 0
DiscreetCalls =
    (xs xs' : List Call) → SameButTexts (events outcome_of xs) (events outcome_of xs')
    → (u s : ℕ) → owns_in (events outcome_of xs) u s ≡ false → (lent : List Row)
    → listed (state_of (reached outcome_of xs)) u s lent ≡ listed (state_of (reached outcome_of xs')) u s lent

pub record Discretion : Type 0 where
  pub states : Discreet
  pub calls : DiscreetCalls
