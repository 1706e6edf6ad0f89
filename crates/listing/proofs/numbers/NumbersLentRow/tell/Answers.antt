-- The keys are told one by one.
use Rattle.std.proofs.Common.{rules}
use Rattle.std.specs.Prelude.{None}
use Rattle.listing.specs.Numbers.{slot_numbers}
use Rattle.listing.proofs.RowNumbers.{row_told, map_made}
use Rattle.listing.proofs.numbers.NumbersLentRow.tell.Goals as goal

pub returns : goal.returns
returns c =
    let keys = map_made _ slot_numbers (λ p x y q k. search rules) None c.args.row.keys c.map.result 6 (search rules) c.map.ensures.items in
    row_told c.args.row c.from.ensures keys c.map.ensures.items.long
