-- Appending a record to a readable file gives the file of its records with that one at the end, and changes no byte
-- after it. So records appended in order to the empty file give their file, and a readable file's records the same
-- file, in any buffer that holds it (demand 2). Proved in `proofs/Rebuilds.antt`.
use Rattle.std.specs.Prelude.{◌≡◌, List, [], ◌∷◌, ◌++◌, ℕ, ◌≤◌, length, take, drop, Ok}
use Rattle.call.specs.Calls.{Call}
use Rattle.journal.specs.Format.{Bytes, AllRecordable, file_bytes, most_bytes}
use Rattle.journal.specs.Reading.{records_of, verdict_of}
use Rattle.journal.specs.Appending.{append_answer, buffer_after, length_after, empty_answer, empty_after}

-- ---- one record

-- The file was the first len bytes of the buffer d and r was appended, so that it now has n bytes: the whole buffer
-- afterwards.
pub record Added (d : List ℕ) (len : ℕ) (r : Call) (n : ℕ) : Type 0 where
  pub size : n ≡ length (file_bytes (records_of (take len d) ++ r ∷ []))
  pub bytes : buffer_after (Ok n) d len r ≡ file_bytes (records_of (take len d) ++ r ∷ []) ++ drop n d
  pub readable : verdict_of (take n (buffer_after (Ok n) d len r)) ≡ Ok tt
  pub records : records_of (take n (buffer_after (Ok n) d len r)) ≡ records_of (take len d) ++ r ∷ []

abbrev pub AddsOne : Type 0
AddsOne = (d : List ℕ) (len : ℕ) (r : Call) (n : ℕ) → Bytes d → append_answer d len r ≡ Ok n → Added d len r n

-- ---- a list of records

-- a buffer, and the length of the file in it
pub record Buffer : Type 0 where
  pub bytes : List ℕ
  pub len : ℕ

-- the empty file in the buffer d
unfoldable pub emptied : List ℕ → Buffer
emptied d = record { bytes = empty_after (empty_answer d) d; len = length_after (empty_answer d) 0 }

unfoldable pub append_one : Buffer → Call → Buffer
append_one x r =
    let answer = append_answer x.bytes x.len r in
    record { bytes = buffer_after answer x.bytes x.len r; len = length_after answer x.len }

unfoldable pub append_all : Buffer → List Call → Buffer
append_all x [] = x
append_all x (r ∷ rs) = append_all (append_one x r) rs

-- the buffer d with the file s in its first bytes
abbrev pub holding : List ℕ → List ℕ → Buffer
holding d s = record { bytes = s ++ drop (length s) d; len = length s }

-- any records that a file can hold, appended in order to the empty file, give their file
abbrev pub AppendsAll : Type 0
AppendsAll =
    (rs : List Call) → AllRecordable rs → length (file_bytes rs) ≤ most_bytes
    → (d : List ℕ) → length (file_bytes rs) ≤ length d → append_all (emptied d) rs ≡ holding d (file_bytes rs)

-- so a readable file's records give that file again
abbrev pub Rebuilds : Type 0
Rebuilds =
    (s : List ℕ) → Bytes s → verdict_of s ≡ Ok tt → (d : List ℕ) → length s ≤ length d
    → append_all (emptied d) (records_of s) ≡ holding d s
