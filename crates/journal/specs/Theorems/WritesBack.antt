-- Every readable file is what its records write (demand 2: 'every readable file included'). So a file is readable
-- exactly where it is written from records that a file can hold, and not too long. Proved in `proofs/WritesBack.antt`.
use Rattle.std.specs.Prelude.{◌≡◌, List, ◌↔◌, ℕ, Ok}
use Rattle.journal.specs.Format.{Bytes, file_bytes}
use Rattle.journal.specs.Reading.{records_of, verdict_of}
use Rattle.journal.specs.Format.{Written}

abbrev pub WritesBack : Type 0
WritesBack = (s : List ℕ) → Bytes s → verdict_of s ≡ Ok tt → file_bytes (records_of s) ≡ s

abbrev pub ReadableExactly : Type 0
ReadableExactly = (s : List ℕ) → Bytes s → (verdict_of s ≡ Ok tt) ↔ Written s
