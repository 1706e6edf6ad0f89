-- Request P2 for the key search, which is no call: after two lists of calls that become equal once the C, R and A
-- records of threads other than n are struck out, it answers the same of thread n. Proved in `proofs/Neighbours.antt`.
use Rattle.std.specs.Prelude.{◌≡◌, List, ℕ}
use Rattle.product.specs.declared.literal.Key.{Key}
use Rattle.call.specs.Calls.{Call}
use Rattle.model.specs.Theorems.Neighbours.{strike}
use Rattle.search.specs.Theorems.FromHistory.{searched_after}

abbrev pub Neighbours : Type 0
Neighbours =
    (n : ℕ) (xs ys : List Call) → strike n xs ≡ strike n ys → (k : Key) → searched_after xs n k ≡ searched_after ys n k
