-- The journal (document 01: desk file), as it is read: a file is a list of bytes, and a cursor is a place in it. What
-- stands at a cursor, the records of a file, and the first refusal of a file. Document 01's section 'Desk file'.
use Rattle.std.specs.Prelude.{Bool, cond, not, ◌&&◌, List, [], ◌∷◌, ℕ, zero, suc, ◌+◌, ◌*◌, length, get_or, take, drop, leb, ltb, eqb, Option, None, Some, Result, Ok, Err}
use Rattle.call.specs.declared.request.Fields.{Fields}
use Rattle.call.specs.Calls.{Call, record_fits}
use Rattle.base.specs.Conditions.{Condition, when, first_refusal}
use Rattle.journal.specs.declared.record.Entry.{Entry}
use Rattle.journal.specs.declared.file.Refusal.{Refusal}
use Rattle.journal.specs.declared.file.Refusal.TheVariants.{NotJournal, OtherVersion, Corrupt}
use Rattle.journal.specs.Format.{a_at, b_at, c_at, text_length_at, record_head_size, file_head_size, mark_k, mark_l, mark_d, file_version, version_at, count_at, most_bytes}

-- the 16 bits at i, low byte first
abbrev pub word : List ℕ → ℕ → ℕ
word s i = get_or s i 0 + get_or s (i + 1) 0 * 256

-- ---- one record

-- the record at a cursor: letter, fields and text
abbrev pub record_of : List ℕ → ℕ → Call
record_of s at =
    record {
      letter = get_or s at 0;
      a = word s (at + a_at);
      b = word s (at + b_at);
      c = word s (at + c_at);
      text = take (word s (at + text_length_at)) (drop (at + record_head_size) s);
    }

-- the cursor after it
abbrev pub next_of : List ℕ → ℕ → ℕ
next_of s at = at + record_head_size + word s (at + text_length_at)

-- the record is fit, and not cut short
unfoldable pub whole_at : List ℕ → ℕ → Bool
whole_at s at =
    let text_length = word s (at + text_length_at) in
    leb (at + record_head_size) (length s)
    && (record_fits (get_or s at 0) (word s (at + a_at)) (word s (at + b_at)) (word s (at + c_at)) text_length
    && leb (next_of s at) (length s))

-- the letter and fields
abbrev pub fields_of : List ℕ → ℕ → Fields
fields_of s at =
    record { letter = get_or s at 0; a = word s (at + a_at); b = word s (at + b_at); c = word s (at + c_at) }

-- the letter and fields, where the text starts, and the cursor after the record
abbrev pub entry_of : List ℕ → ℕ → Entry
entry_of s at =
    record { fields = fields_of s at; start = at + record_head_size; next = next_of s at }

-- what stands at a cursor: a record, the end of the records, or, with 18, neither
abbrev pub Found : Type 0
Found = Result (Option Entry) Refusal

unfoldable pub found_at : List ℕ → ℕ → Found
found_at s at = cond (leb (length s) at) (Ok None) (cond (whole_at s at) (Ok (Some (entry_of s at))) (Err Corrupt))

-- the cursor after what stands there: past a record, else where it was
abbrev pub cursor_after : Found → ℕ → ℕ
cursor_after (Ok (Some e)) at = e.next
cursor_after (Ok None) at = at
cursor_after (Err f) at = at

-- ---- the records of a file: as many as its count says, after its head

unfoldable pub records_from : ℕ → List ℕ → ℕ → List Call
records_from zero s at = []
records_from (suc n) s at = record_of s at ∷ records_from n s (next_of s at)

unfoldable pub records_of : List ℕ → List Call
records_of s = records_from (word s count_at) s file_head_size

-- each is whole, and no byte is left over
unfoldable pub whole_from : ℕ → List ℕ → ℕ → Bool
whole_from zero s at = eqb at (length s)
whole_from (suc n) s at = whole_at s at && whole_from n s (next_of s at)

-- ---- a whole file

-- the mark: three bytes or more, and the first three are `KLD`
abbrev pub marked : List ℕ → Bool
marked s =
    leb version_at (length s) && (eqb (get_or s 0 0) mark_k && eqb (get_or s 1 0) mark_l && eqb (get_or s 2 0) mark_d)

-- the version is 2
abbrev pub current : List ℕ → Bool
current s = eqb (word s version_at) file_version

-- 'The order is 16; 18 if under 7 bytes; 17; then 18 for length over the limit, unknown letter, an unnamed field not 0,
-- text length wrong, records cut short, bytes left over.'
abbrev pub file_conditions : List ℕ → List (Condition Refusal)
file_conditions s =
    when (not (marked s)) NotJournal
    ∷ when (ltb (length s) file_head_size) Corrupt
    ∷ when (not (current s)) OtherVersion
    ∷ when (ltb most_bytes (length s)) Corrupt
    ∷ when (not (whole_from (word s count_at) s file_head_size)) Corrupt
    ∷ []

-- the file's first refusal, or that it is readable
abbrev pub Verdict : Type 0
Verdict = Result (Unit {0}) Refusal

abbrev pub verdict : Option Refusal → Verdict
verdict None = Ok tt
verdict (Some f) = Err f

unfoldable pub verdict_of : List ℕ → Verdict
verdict_of s = verdict (first_refusal (file_conditions s))

-- ---- a reader: the cursor after the file's check, at the first record of a readable file, else where it was

abbrev pub cursor_opened : Verdict → ℕ → ℕ
cursor_opened (Ok u) at = file_head_size
cursor_opened (Err f) at = at
