-- Each limit is a test, and the lock's rows are stored where the used ones end.
use Rattle.locks.specs.Internal.{full}
use Rattle.locks.proofs.CompiledRows.{too_many, no_number, lock_stored}
use Rattle.locks.proofs.calls.store_lock.Goals as goal

pub returns-then-from-compiled : goal.returns-then-from-compiled
returns-then-from-compiled c = full (too_many _ _ _ c.used-from.ensures c.if-from-compiled.true)

pub returns-then-number-ge-MOST_NUMBERS : goal.returns-then-number-ge-MOST_NUMBERS
returns-then-number-ge-MOST_NUMBERS c =
    full (no_number _ _ _ c.used-from.ensures c.if-number-ge-MOST_NUMBERS.true c.if-from-compiled.false)

pub returns : goal.returns
returns c = lock_stored c.used-from.ensures c.if-number-ge-MOST_NUMBERS.false c.if-from-compiled.false c.add_rows.ensures
