-- After every list of calls from the empty state a key that the search finds was handed out: it is the S key of a
-- segment that an accepted N handed out, or a D key that an accepted K handed out. So a key never handed out is found
-- nowhere, and there is no need for a 4. Proved in `proofs/HandedOut.antt`.
use Rattle.std.specs.Prelude.{◌≡◌, Bool, true, false, List, ℕ, ltb, Ok, Some}
use Rattle.product.specs.declared.literal.Key.{Key}
use Rattle.product.specs.declared.literal.Key.TheVariants.{User, Thread as ThreadKey, Segment as SegmentKey, Defined}
use Rattle.formula.specs.Outcome.{outcome_of}
use Rattle.call.specs.Calls.{Call}
use Rattle.call.specs.Letters as letters
use Rattle.model.specs.History.{Event, accepted_of}
use Rattle.model.specs.Replay.{events}
use Rattle.search.specs.Theorems.FromHistory.{searched_after}

-- a key that a list can have when so many segments and D keys were handed out: the S key of one of these segments, or
-- one of these D keys
abbrev pub can_be_listed : ℕ → ℕ → Key → Bool
can_be_listed segments defined (User n) = false
can_be_listed segments defined (ThreadKey n) = false
can_be_listed segments defined (SegmentKey n) = ltb n segments
can_be_listed segments defined (Defined n) = ltb n defined

-- when as many of them were handed out as N and K were accepted
abbrev pub can_be_listed_after : List Event → Key → Bool
can_be_listed_after es k = can_be_listed (accepted_of letters.N es) (accepted_of letters.K es) k

abbrev pub HandedOut : Type 0
HandedOut =
    (xs : List Call) (n : ℕ) (k : Key) (p : ℕ) → searched_after xs n k ≡ Ok (Some p)
    → can_be_listed_after (events outcome_of xs) k ≡ true
