-- 'Reading checks the whole file first and answers its records in order, then their end' (document 01: 'Desk file'),
-- for a caller in C. After `rotundaaloe_raw_journal_open` answered 0, calls of `rotundaaloe_raw_journal_next`, each
-- lent the cursor and the values that the one before left, answer 1 with the file's records in order, and then 0 with
-- the values left alone, again and again. Proved in `proofs/FilesInOrder.antt`.
use Rattle.std.specs.Prelude.{◌≡◌, List, [], ◌∷◌, ℕ, zero, suc, ◌+◌, length}
use Rattle.call.specs.Calls.{Call}
use Rattle.journal.specs.Format.{record_head_size, file_head_size}
use Rattle.journal.specs.Reading.{records_of}
use Rattle.abi.specs.Files.{open_number, open_cursor, next_number, next_cursor, next_values}

-- what a call leaves: its number, and the lent values
pub record Left : Type 0 where
  pub number : ℕ
  pub values : List ℕ

-- n calls on the file s, from a cursor and the lent values on
unfoldable pub next_calls : ℕ → List ℕ → ℕ → List ℕ → List Left
next_calls zero s at old = []
next_calls (suc n) s at old =
    record { number = next_number s at; values = next_values s at old }
    ∷ next_calls n s (next_cursor s at) (next_values s at old)

-- where the text of a record at a cursor starts, and where it ends
abbrev pub text_start : ℕ → ℕ
text_start at = at + record_head_size

abbrev pub text_end : ℕ → Call → ℕ
text_end at r = at + record_head_size + length r.text

abbrev pub values_of : ℕ → Call → List ℕ
values_of at r = r.letter ∷ r.a ∷ r.b ∷ r.c ∷ text_start at ∷ text_end at r ∷ []

-- what n calls are to leave, of records that stand one after the other from a cursor on
unfoldable pub left_for : ℕ → List Call → ℕ → List ℕ → List Left
left_for zero rs at old = []
left_for (suc n) [] at old = record { number = 0; values = old } ∷ left_for n [] at old
left_for (suc n) (r ∷ rs) at old =
    record { number = 1; values = values_of at r } ∷ left_for n rs (text_end at r) (values_of at r)

abbrev pub FilesInOrder : Type 0
FilesInOrder =
    (s : List ℕ) (at n : ℕ) (old : List ℕ) → open_number s ≡ 0
    → next_calls n s (open_cursor s at) old ≡ left_for n (records_of s) file_head_size old
