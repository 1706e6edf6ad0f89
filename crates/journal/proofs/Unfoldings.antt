-- What a proof by computing about files of calls unfolds: `unfolding computing` is all that it says.
use Rattle.call.proofs.Unfoldings.{computing as call-computing}
use Rattle.journal.specs.Format.{file_bytes}
use Rattle.journal.specs.Reading.{whole_at, found_at, whole_from, records_from, records_of, verdict_of}

unfoldable pub computing : Unit {0}
unfolding call-computing file_bytes whole_at found_at whole_from records_from records_of verdict_of
computing = tt
