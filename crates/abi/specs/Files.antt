-- How a caller in C sees the journal's answers: one number, and what is then in the cursor, cells, bytes and size that
-- it lent.
use Rattle.std.specs.Prelude.{List, ℕ, Ok, Err, Some, None}
use Rattle.call.specs.Calls.{Call}
use Rattle.journal.specs.Verdicts.{verdict_number, found_number, found_values, appended_number}
use Rattle.journal.specs.Reading.{Found, found_at, cursor_after, verdict_of, cursor_opened}
use Rattle.journal.specs.Appending.{append_answer, buffer_after, length_after}

-- ---- opening the file s: its number, and the cursor afterwards

abbrev pub open_number : List ℕ → ℕ
open_number s = verdict_number (verdict_of s)

abbrev pub open_cursor : List ℕ → ℕ → ℕ
open_cursor s at = cursor_opened (verdict_of s) at

-- ---- the next record

-- 1 with a record; without one the number that the journal gives it, 0 at the end and 18 where neither stands there
abbrev pub present_number : Found → ℕ
present_number (Ok (Some e)) = 1
present_number (Ok None) = found_number (Ok None)
present_number (Err f) = found_number (Err f)

-- a record's values, and without one what stood there
abbrev pub values_in : Found → List ℕ → List ℕ
values_in (Ok (Some e)) old = found_values (Ok (Some e))
values_in (Ok None) old = old
values_in (Err f) old = old

-- at a cursor of the file s: the number, the cursor and the lent values afterwards
abbrev pub next_number : List ℕ → ℕ → ℕ
next_number s at = present_number (found_at s at)

abbrev pub next_cursor : List ℕ → ℕ → ℕ
next_cursor s at = cursor_after (found_at s at) at

abbrev pub next_values : List ℕ → ℕ → List ℕ → List ℕ
next_values s at old = values_in (found_at s at) old

-- ---- an append of r to the file in the first len bytes of d: its number, the buffer and the file's size afterwards

abbrev pub append_number : List ℕ → ℕ → Call → ℕ
append_number d len r = appended_number (append_answer d len r)

abbrev pub append_buffer : List ℕ → ℕ → Call → List ℕ
append_buffer d len r = buffer_after (append_answer d len r) d len r

abbrev pub append_size : List ℕ → ℕ → Call → ℕ
append_size d len r = length_after (append_answer d len r) len
