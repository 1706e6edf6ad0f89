-- An answer that is a length gives what `store_record` asks; after a refusal the buffer is as it was.
use mathlib.Core.Path.{sym}
use native.Mathlib.Omega.{arith}
use Rattle.call.proofs.Texts.{text_short}
use Rattle.journal.proofs.Files.{accepted, count_small}
use Rattle.journal.proofs.append.append.Goals as goal

pub store_record-requires : goal.store_record-requires
store_record-requires c =
    let ok = accepted _ _ _ _ (sym c.in_ok-length.ensures) in
    (ok.least, ok.room, text_short _ _ _ _ _ ok.fit, omega (arith, ok.count, count_small _ ok.file))
