-- What the code finds of a thread's place and on its table, as the search asks it of the state that the arrays hold.
use Rattle.std.specs.Prelude.{Option, None, Some, Ok, Err}
use Rattle.std.specs.Option.{option_map}
use mathlib.Core.Path.{◌≡◌, refl, ap}
use Prim.Native.Nat.{ℕ}
use Rattle.product.specs.declared.literal.Key.{Key}
use Rattle.model.specs.declared.answer.Refusal.TheVariants.{NoThread}
use Rattle.model.specs.State.{is_thread}
use Rattle.model.specs.Cells.{Cells, table_at, state_of}
use Rattle.threads.specs.Places.{Placed}
use Rattle.threads.proofs.FoundThread.{stands, not_live}
use Rattle.checking.specs.Newest.{NewestPlace}
use Rattle.search.specs.Searching.{searched}
use Rattle.search.proofs.Exactly.{found}

-- a number stays itself when its type does not
pub same_value : (o : Option ℕ) → option_map (λ x. x) o ≡ o
same_value None = refl
same_value (Some p) = refl

module _ (d : Cells) {n : ℕ} (k : Key) where
  pub missing : Placed d.threads n (is_thread n) None → Err NoThread ≡ searched (state_of d) n k
  unfolding searched
  missing h = rw (not_live d h) refl

  pub at_place : {i : ℕ} {r : Option ℕ} → Placed d.threads n (is_thread n) (Some i) → NewestPlace (table_at d.threads i) k r
      → Ok r ≡ searched (state_of d) n k
  unfolding searched
  at_place placed newest = let standing = stands d placed in rw (standing.live, standing.thread) (ap found newest.place)
