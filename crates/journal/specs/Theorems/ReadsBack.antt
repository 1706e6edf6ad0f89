-- Reading what was written gives the records back (demand 2). The file of any records that a file can hold, if it is
-- not too long, is readable, and its records are those. Proved in `proofs/ReadsBack.antt`.
use Rattle.std.specs.Prelude.{◌≡◌, List, ◌≤◌, length, Ok}
use Rattle.call.specs.Calls.{Call}
use Rattle.journal.specs.Format.{Bytes, AllRecordable, file_bytes, most_bytes}
use Rattle.journal.specs.Reading.{records_of, verdict_of}

abbrev pub WrittenReadable : Type 0
WrittenReadable =
    (rs : List Call) → AllRecordable rs → length (file_bytes rs) ≤ most_bytes → verdict_of (file_bytes rs) ≡ Ok tt

-- what is written is bytes
abbrev pub WrittenBytes : Type 0
WrittenBytes = (rs : List Call) → AllRecordable rs → length (file_bytes rs) ≤ most_bytes → Bytes (file_bytes rs)

abbrev pub RecordsBack : Type 0
RecordsBack = (rs : List Call) → records_of (file_bytes rs) ≡ rs
