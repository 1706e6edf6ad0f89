-- Appending one record to a file (document 01: desk file) in a buffer (document 01: lent buffer): the answer, and every
-- byte of the buffer afterwards. Document 01's section 'Desk file'.
use Rattle.std.specs.Prelude.{not, cond, ◌||◌, List, [], ◌∷◌, ◌++◌, ℕ, ◌+◌, length, take, ltb, Option, None, Some, Result, Ok, Err}
use Rattle.std.proofs.lemmas.List.Edits.{sets}
use Rattle.call.specs.Calls.{Call}
use Rattle.base.specs.Conditions.{Condition, when, first_refusal}
use Rattle.journal.specs.declared.file.Refusal.{Refusal}
use Rattle.journal.specs.declared.file.Refusal.TheVariants.{Full, Corrupt}
use Rattle.journal.specs.Format.{word_bytes, record_bytes, is_fit, record_head_size, file_head_size, count_at, file_bytes, most_bytes}
use Rattle.journal.specs.Reading.{word, file_conditions}

-- the length of the file with the record
abbrev pub length_with : ℕ → Call → ℕ
length_with len r = len + record_head_size + length r.text

-- '18 for an unfit record .., and 10 when the buffer or 65,535 bytes would be passed'
abbrev pub own_conditions : List ℕ → ℕ → Call → List (Condition Refusal)
own_conditions d len r =
    when (not (is_fit r)) Corrupt
    ∷ when (ltb (length d) (length_with len r) || ltb most_bytes (length_with len r)) Full
    ∷ []

-- a length beyond the buffer is 18, 'checked first. Then come these refusals for the file', and then those
abbrev pub append_conditions : List ℕ → ℕ → Call → List (Condition Refusal)
append_conditions d len r = when (ltb (length d) len) Corrupt ∷ file_conditions (take len d) ++ own_conditions d len r

-- the answer to an append: the file's new length, or the refusal
abbrev pub Appended : Type 0
Appended = Result ℕ Refusal

abbrev pub answer : ℕ → Option Refusal → Appended
answer n None = Ok n
answer n (Some f) = Err f

-- the answer to an append of r to the file in the first len bytes of the buffer d
unfoldable pub append_answer : List ℕ → ℕ → Call → Appended
append_answer d len r = answer (length_with len r) (first_refusal (append_conditions d len r))

-- 'the count rises by 1, the record follows the file, no other byte changes': bytes are set at the count's place, and
-- from the file's end on
unfoldable pub with_record : List ℕ → ℕ → Call → List ℕ
with_record d len r = sets (sets d count_at (word_bytes (word d count_at + 1))) len (record_bytes r)

-- the buffer after an answer: a refusal changes no byte
abbrev pub buffer_after : Appended → List ℕ → ℕ → Call → List ℕ
buffer_after (Ok n) d len r = with_record d len r
buffer_after (Err f) d len r = d

-- the length of the file after it
abbrev pub length_after : Appended → ℕ → ℕ
length_after (Ok n) len = n
length_after (Err f) len = len

-- ---- the file with no record, from which appending starts: 10 where the buffer does not hold its 7 bytes

unfoldable pub empty_answer : List ℕ → Appended
empty_answer d = cond (ltb (length d) file_head_size) (Err Full) (Ok file_head_size)

abbrev pub empty_after : Appended → List ℕ → List ℕ
empty_after (Ok n) d = sets d 0 (file_bytes [])
empty_after (Err f) d = d
