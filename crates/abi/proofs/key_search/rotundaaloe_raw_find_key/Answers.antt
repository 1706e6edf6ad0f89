-- The search's answer as a number, of the key that the number is read as.
use Rattle.abi.proofs.KeyNumbers.{as_number}
use Rattle.abi.proofs.key_search.rotundaaloe_raw_find_key.Goals as goal

pub returns : goal.returns
returns c = λ d.
    as_number _ _ c.args.key c.key_read.ensures (c.find_key.ensures d) c.search_code.ensures
