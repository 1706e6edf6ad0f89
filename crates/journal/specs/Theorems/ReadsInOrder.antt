-- 'Reading checks the whole file first and answers its records in order, then their end' (document 01: 'Desk file';
-- demand 2). A reader that `open` answered Ok on answers the file's records in order and then the end, again and
-- again; one that `open` refused, or that was not opened, answers no record, only the end. All of it in the terms of
-- the contracts of `new`, `open` and `next`. Proved in `proofs/ReadsInOrder.antt`.
use Rattle.std.specs.Prelude.{◌≡◌, List, [], ◌∷◌, map, ℕ, zero, suc, ◌-◌, length, take, drop, None, Some, Ok, Err}
use Rattle.call.specs.Calls.{Call, call_from}
use Rattle.journal.specs.declared.record.Entry.{Entry}
use Rattle.journal.specs.declared.file.Refusal.{Refusal}
use Rattle.journal.specs.Reading.{Found, found_at, cursor_after, records_of, verdict_of, cursor_opened}

-- the answers of n calls of `next`, one after the other, of a reader of the file s that stands at a cursor
unfoldable pub next_answers : ℕ → List ℕ → ℕ → List Found
next_answers zero s at = []
next_answers (suc n) s at = found_at s at ∷ next_answers n s (cursor_after (found_at s at) at)

-- the record that an entry of the file s stands for
abbrev pub entry_record : List ℕ → Entry → Call
entry_record s e = call_from e.fields (take (e.next - e.start) (drop e.start s))

-- an answer, with the record itself in place of its entry
pub data Answer : Type 0 where
  record_read : Call → Answer
  end_reached : Answer
  damage_found : Answer

abbrev pub answer_in : List ℕ → Found → Answer
answer_in s (Ok (Some e)) = record_read (entry_record s e)
answer_in s (Ok None) = end_reached
answer_in s (Err f) = damage_found

-- n answers: the records in order, then the end, again and again
unfoldable pub records_then_end : ℕ → List Call → List Answer
records_then_end zero rs = []
records_then_end (suc n) [] = end_reached ∷ records_then_end n []
records_then_end (suc n) (r ∷ rs) = record_read r ∷ records_then_end n rs

pub record ReadsInOrder : Type 0 where
  -- wherever the reader stood when it was opened
  pub readable : (s : List ℕ) (at n : ℕ) → verdict_of s ≡ Ok tt
      → map (answer_in s) (next_answers n s (cursor_opened (verdict_of s) at)) ≡ records_then_end n (records_of s)
  -- `new` puts the cursor to the file's end
  pub refused : (s : List ℕ) (n : ℕ) (f : Refusal) → verdict_of s ≡ Err f
      → map (answer_in s) (next_answers n s (cursor_opened (verdict_of s) (length s))) ≡ records_then_end n []
  pub unopened : (s : List ℕ) (n : ℕ) → map (answer_in s) (next_answers n s (length s)) ≡ records_then_end n []
