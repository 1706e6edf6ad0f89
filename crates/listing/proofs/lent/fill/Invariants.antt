-- The first i rows are told.
use Rattle.std.proofs.Common.{◌≡◌, map}
use Rattle.listing.specs.Internal.{midway}
use Rattle.listing.proofs.lent.fill.Given as goal

abbrev pub invariant-loop-i : goal.invariant-loop-i
invariant-loop-i g l = l.rows ≡ midway (map g.R.LentRow.told l.made) l.initial.rows l.i
