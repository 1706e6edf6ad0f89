-- What the maker gives, once its rows are told in the first of the lent ones, is the listing.
use Rattle.std.proofs.Common.{rules}
use Rattle.listing.proofs.MadeRows.{lists_made, lists_refused}
use Rattle.listing.proofs.lent.list.Goals as goal

pub returns-in_err-listing : goal.returns-in_err-listing
returns-in_err-listing g c = lists_refused g.R.LentRow.told _ _ _ _ c.in_err-listing.ensures (search rules)

pub returns : goal.returns
returns g c = lists_made g.R.LentRow.told _ _ _ _ c.in_ok-listing.ensures c.fill.ensures
