-- Rows that are told as they are.
use Rattle.listing.proofs.MadeRows.{lists_as_they_are}
use Rattle.listing.proofs.list_locks.Goals as goal

pub returns : goal.returns
returns c = lists_as_they_are _ _ _ _ c.list.ensures
