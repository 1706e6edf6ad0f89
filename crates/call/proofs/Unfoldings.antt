-- What a proof by computing about records of calls unfolds: `unfolding computing` is all that it says.
use Rattle.base.specs.Bytes.{bytes}
use Rattle.call.specs.Calls.{decoded_of, record_fits}

unfoldable pub computing : Unit {0}
unfolding bytes decoded_of record_fits
computing = tt
