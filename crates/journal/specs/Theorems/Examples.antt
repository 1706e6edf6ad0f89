-- Worked examples of files, of appending and of numbers (document 01: 'Desk file', 'Trial desks'), each worked out by
-- hand from document 01. Proved in `proofs/Examples.antt`.
use Rattle.std.specs.Prelude.{◌≡◌, List, [], ◌∷◌, ◌++◌, ℕ, zero, suc, length, replicate, None, Some, Ok, Err}
use Rattle.call.specs.Calls.{Call, call_with}
use Rattle.journal.specs.declared.record.Entry.{Entry}
use Rattle.journal.specs.declared.file.Refusal.TheVariants.{Full, NotJournal, OtherVersion, Corrupt}
use Rattle.journal.specs.Format.{file_bytes}
use Rattle.journal.specs.Verdicts.{refusal_number, verdict_number, verdict_values}
use Rattle.journal.specs.Verdicts.{found_number, found_values, appended_number, appended_values}
use Rattle.journal.specs.Reading.{found_at, records_of, verdict_of, cursor_opened}
use Rattle.journal.specs.Appending.{append_answer, buffer_after, length_after, empty_answer, empty_after}

-- * 4B 4C 44 02 00 00 00
abbrev pub empty_file : List ℕ
empty_file = 75 ∷ 76 ∷ 68 ∷ 2 ∷ 0 ∷ 0 ∷ 0 ∷ []

-- `KLD`, version 2, a count below 256, and these bytes
abbrev pub counted : ℕ → List ℕ → List ℕ
counted n t = 75 ∷ 76 ∷ 68 ∷ 2 ∷ 0 ∷ n ∷ 0 ∷ t

-- the nine bytes of a record U
abbrev pub new_user : List ℕ
new_user = 85 ∷ 0 ∷ 0 ∷ 0 ∷ 0 ∷ 0 ∷ 0 ∷ 0 ∷ 0 ∷ []

unfoldable pub users_then : ℕ → List Call → List Call
users_then zero rs = rs
users_then (suc n) rs = call_with 85 0 0 0 [] ∷ users_then n rs

-- `D0|D1|D2`
abbrev pub eight_bytes : List ℕ
eight_bytes = 68 ∷ 48 ∷ 124 ∷ 68 ∷ 49 ∷ 124 ∷ 68 ∷ 50 ∷ []

-- 7,279 records U and an L with this text; and the same with `D0|D1|D20`
abbrev pub longest : List Call
longest = users_then 7279 (call_with 76 0 0 1 eight_bytes ∷ [])

abbrev pub one_more : List Call
one_more = users_then 7279 (call_with 76 0 0 1 (eight_bytes ++ 48 ∷ []) ∷ [])

pub record Examples : Type 0 where
  -- ---- readable files and their records
  pub empty_readable : verdict_of empty_file ≡ Ok tt
  pub empty_has_none : records_of empty_file ≡ []
  pub empty_written : file_bytes [] ≡ empty_file
  -- one record U
  pub one_readable : verdict_of (counted 1 new_user) ≡ Ok tt
  pub one_record : records_of (counted 1 new_user) ≡ call_with 85 0 0 0 [] ∷ []
  -- L 258 3 1 `U0`, then U: low byte first, and in order
  pub two_readable : verdict_of (counted 2 (76 ∷ 2 ∷ 1 ∷ 3 ∷ 0 ∷ 1 ∷ 0 ∷ 2 ∷ 0 ∷ 85 ∷ 48 ∷ new_user)) ≡ Ok tt
  pub two_records : records_of (counted 2 (76 ∷ 2 ∷ 1 ∷ 3 ∷ 0 ∷ 1 ∷ 0 ∷ 2 ∷ 0 ∷ 85 ∷ 48 ∷ new_user))
      ≡ call_with 76 258 3 1 (85 ∷ 48 ∷ []) ∷ call_with 85 0 0 0 [] ∷ []
  -- 'A wrong field value or formula is no fault of the file': N 0 9, and L 0 0 0 `x`
  pub wrong_value : verdict_of (counted 1 (78 ∷ 0 ∷ 0 ∷ 9 ∷ 0 ∷ 0 ∷ 0 ∷ 0 ∷ 0 ∷ [])) ≡ Ok tt
  pub wrong_formula : verdict_of (counted 1 (76 ∷ 0 ∷ 0 ∷ 0 ∷ 0 ∷ 0 ∷ 0 ∷ 1 ∷ 0 ∷ 120 ∷ [])) ≡ Ok tt
  -- ---- 16: 'under three bytes', and a wrong mark at any length and with any version
  pub no_bytes : verdict_of [] ≡ Err NotJournal
  pub two_bytes : verdict_of (75 ∷ 76 ∷ []) ≡ Err NotJournal
  pub wrong_mark : (t : List ℕ) → verdict_of (75 ∷ 76 ∷ 69 ∷ t) ≡ Err NotJournal
  -- ---- 18 if under 7 bytes, of version 2 and of version 1
  pub mark_alone : verdict_of (75 ∷ 76 ∷ 68 ∷ []) ≡ Err Corrupt
  pub six_bytes : verdict_of (75 ∷ 76 ∷ 68 ∷ 2 ∷ 0 ∷ 0 ∷ []) ≡ Err Corrupt
  pub version_cut : verdict_of (75 ∷ 76 ∷ 68 ∷ 1 ∷ 0 ∷ []) ≡ Err Corrupt
  -- ---- 17: seven bytes or more of version 1, however long or broken; versions 0, 3, 258 and 512
  pub version_one : (x y : ℕ) (t : List ℕ) → verdict_of (75 ∷ 76 ∷ 68 ∷ 1 ∷ 0 ∷ x ∷ y ∷ t) ≡ Err OtherVersion
  pub version_zero : verdict_of (75 ∷ 76 ∷ 68 ∷ 0 ∷ 0 ∷ 0 ∷ 0 ∷ []) ≡ Err OtherVersion
  pub version_three : verdict_of (75 ∷ 76 ∷ 68 ∷ 3 ∷ 0 ∷ 0 ∷ 0 ∷ []) ≡ Err OtherVersion
  pub version_258 : verdict_of (75 ∷ 76 ∷ 68 ∷ 2 ∷ 1 ∷ 0 ∷ 0 ∷ []) ≡ Err OtherVersion
  pub version_512 : verdict_of (75 ∷ 76 ∷ 68 ∷ 0 ∷ 2 ∷ 0 ∷ 0 ∷ []) ≡ Err OtherVersion
  -- ---- 18: 'length over the limit' of 65,535 bytes
  pub longest_length : length (file_bytes longest) ≡ 65535
  pub longest_readable : verdict_of (file_bytes longest) ≡ Ok tt
  pub one_more_length : length (file_bytes one_more) ≡ 65536
  pub one_more_refused : verdict_of (file_bytes one_more) ≡ Err Corrupt
  -- 'unknown letter': B
  pub unknown_letter : verdict_of (counted 1 (66 ∷ 0 ∷ 0 ∷ 0 ∷ 0 ∷ 0 ∷ 0 ∷ 0 ∷ 0 ∷ [])) ≡ Err Corrupt
  -- 'an unnamed field not 0': U with a 1, S with b 1, N with c 256
  pub unnamed_a : verdict_of (counted 1 (85 ∷ 1 ∷ 0 ∷ 0 ∷ 0 ∷ 0 ∷ 0 ∷ 0 ∷ 0 ∷ [])) ≡ Err Corrupt
  pub unnamed_b : verdict_of (counted 1 (83 ∷ 0 ∷ 0 ∷ 1 ∷ 0 ∷ 0 ∷ 0 ∷ 0 ∷ 0 ∷ [])) ≡ Err Corrupt
  pub unnamed_c : verdict_of (counted 1 (78 ∷ 0 ∷ 0 ∷ 1 ∷ 0 ∷ 0 ∷ 1 ∷ 0 ∷ 0 ∷ [])) ≡ Err Corrupt
  -- 'text length wrong': none in L, 97 bytes in L, one byte in U; 96 bytes in L are right
  pub text_of_none : verdict_of (counted 1 (76 ∷ 0 ∷ 0 ∷ 0 ∷ 0 ∷ 1 ∷ 0 ∷ 0 ∷ 0 ∷ [])) ≡ Err Corrupt
  pub text_of_96 : verdict_of (counted 1 (76 ∷ 0 ∷ 0 ∷ 0 ∷ 0 ∷ 1 ∷ 0 ∷ 96 ∷ 0 ∷ replicate 96 85)) ≡ Ok tt
  pub text_of_97 : verdict_of (counted 1 (76 ∷ 0 ∷ 0 ∷ 0 ∷ 0 ∷ 1 ∷ 0 ∷ 97 ∷ 0 ∷ replicate 97 85)) ≡ Err Corrupt
  pub text_outside_lock : verdict_of (counted 1 (85 ∷ 0 ∷ 0 ∷ 0 ∷ 0 ∷ 0 ∷ 0 ∷ 1 ∷ 0 ∷ 85 ∷ [])) ≡ Err Corrupt
  -- 'records cut short': in the head, in the text, and one record where the count is 2
  pub head_cut : verdict_of (counted 1 (85 ∷ 0 ∷ 0 ∷ 0 ∷ 0 ∷ 0 ∷ 0 ∷ 0 ∷ [])) ≡ Err Corrupt
  pub text_cut : verdict_of (counted 1 (76 ∷ 0 ∷ 0 ∷ 0 ∷ 0 ∷ 1 ∷ 0 ∷ 2 ∷ 0 ∷ 85 ∷ [])) ≡ Err Corrupt
  pub record_missing : verdict_of (counted 2 new_user) ≡ Err Corrupt
  -- 'bytes left over': one byte, and a whole record where the count is 0
  pub left_over : verdict_of (counted 1 (new_user ++ 0 ∷ [])) ≡ Err Corrupt
  pub record_left_over : verdict_of (counted 0 new_user) ≡ Err Corrupt
  -- ---- at a cursor: the L of 11 bytes above is at 7 with its text from 16 to 18, a file of 18 bytes ends there, and
  -- no record is at 8
  pub found_record : found_at (counted 1 (76 ∷ 2 ∷ 1 ∷ 3 ∷ 0 ∷ 1 ∷ 0 ∷ 2 ∷ 0 ∷ 85 ∷ 48 ∷ [])) 7
      ≡ Ok (Some (record { fields = record { letter = 76; a = 258; b = 3; c = 1 }; start = 16; next = 18 }))
  pub found_end : found_at (counted 1 (76 ∷ 2 ∷ 1 ∷ 3 ∷ 0 ∷ 1 ∷ 0 ∷ 2 ∷ 0 ∷ 85 ∷ 48 ∷ [])) 18 ≡ Ok None
  pub found_damaged : found_at (counted 1 (76 ∷ 2 ∷ 1 ∷ 3 ∷ 0 ∷ 1 ∷ 0 ∷ 2 ∷ 0 ∷ 85 ∷ 48 ∷ [])) 8 ≡ Err Corrupt
  -- a reader that stands at 16: opening it puts it to 7 or leaves it there
  pub opened_readable : cursor_opened (verdict_of (counted 1 new_user)) 16 ≡ 7
  pub opened_refused : cursor_opened (verdict_of (counted 2 new_user)) 16 ≡ 16

-- U as a call, and B, which is unfit
abbrev pub call_u : Call
call_u = call_with 85 0 0 0 []

abbrev pub call_b : Call
call_b = call_with 66 0 0 0 []

pub record AppendExamples : Type 0 where
  -- ---- the refusals in their order: with each, those after it would hold too
  -- a length of 2 'beyond the buffer' of one byte is 18
  pub beyond_buffer : append_answer (75 ∷ []) 2 call_b ≡ Err Corrupt
  -- then the file's: 16, 18 under 7 bytes, 17, and 18 where the count is 1 and there is no record
  pub not_journal : append_answer (75 ∷ 76 ∷ 69 ∷ 1 ∷ 0 ∷ 1 ∷ 0 ∷ []) 7 call_b ≡ Err NotJournal
  pub cut_short : append_answer (75 ∷ 76 ∷ 68 ∷ 1 ∷ 0 ∷ 1 ∷ 0 ∷ []) 6 call_b ≡ Err Corrupt
  pub other_version : append_answer (75 ∷ 76 ∷ 68 ∷ 1 ∷ 0 ∷ 1 ∷ 0 ∷ []) 7 call_b ≡ Err OtherVersion
  pub broken : append_answer (counted 1 []) 7 call_u ≡ Err Corrupt
  -- then 18 for an unfit record: letter B, U with a 1, and L with a text of 0 and of 97 bytes
  pub unfit_letter : append_answer empty_file 7 call_b ≡ Err Corrupt
  pub unfit_field : append_answer empty_file 7 (call_with 85 1 0 0 []) ≡ Err Corrupt
  pub unfit_no_text : append_answer empty_file 7 (call_with 76 0 0 1 []) ≡ Err Corrupt
  pub unfit_text : append_answer empty_file 7 (call_with 76 0 0 1 (replicate 97 85)) ≡ Err Corrupt
  -- then 10: in 7 and in 15 bytes there is no room for a record U, in 16 there is
  pub no_room_lem : append_answer empty_file 7 call_u ≡ Err Full
  pub no_room_by_one : append_answer (empty_file ++ replicate 8 0) 7 call_u ≡ Err Full
  pub just_room : append_answer (empty_file ++ replicate 9 0) 7 call_u ≡ Ok 16
  -- and where 65,535 bytes would be passed, though the buffer has room
  pub over_limit : append_answer (file_bytes longest ++ replicate 9 0) 65535 call_u ≡ Err Full
  -- ---- an accepted one: L 258 3 1 `U0` after a record U, in a buffer of 30 bytes; the last three stay
  pub accepted :
      append_answer (counted 1 new_user ++ replicate 14 9) 16 (call_with 76 258 3 1 (85 ∷ 48 ∷ [])) ≡ Ok 27
  pub accepted_buffer :
      buffer_after (Ok 27) (counted 1 new_user ++ replicate 14 9) 16 (call_with 76 258 3 1 (85 ∷ 48 ∷ []))
      ≡ 75 ∷ 76 ∷ 68 ∷ 2 ∷ 0 ∷ 2 ∷ 0 ∷ 85 ∷ 0 ∷ 0 ∷ 0 ∷ 0 ∷ 0 ∷ 0 ∷ 0 ∷ 0
      ∷ 76 ∷ 2 ∷ 1 ∷ 3 ∷ 0 ∷ 1 ∷ 0 ∷ 2 ∷ 0 ∷ 85 ∷ 48 ∷ 9 ∷ 9 ∷ 9 ∷ []
  -- a refused one
  pub refused_buffer : buffer_after (Err Full) empty_file 7 call_u ≡ empty_file
  -- the file's length after them
  pub accepted_length : length_after (Ok 27) 16 ≡ 27
  pub refused_length : length_after (Err Full) 7 ≡ 7
  -- ---- the file with no record, in buffers of six and of eight bytes
  pub empty_no_room : empty_answer (replicate 6 9) ≡ Err Full
  pub empty_kept : empty_after (Err Full) (replicate 6 9) ≡ 9 ∷ 9 ∷ 9 ∷ 9 ∷ 9 ∷ 9 ∷ []
  pub empty_accepted : empty_answer (replicate 8 9) ≡ Ok 7
  pub empty_buffer : empty_after (Ok 7) (replicate 8 9) ≡ 75 ∷ 76 ∷ 68 ∷ 2 ∷ 0 ∷ 0 ∷ 0 ∷ 9 ∷ []

-- each case with document 01's number, and its values
pub record NumberExamples : Type 0 where
  pub full : refusal_number Full ≡ 10
  pub not_journal : refusal_number NotJournal ≡ 16
  pub other_version : refusal_number OtherVersion ≡ 17
  pub corrupt : refusal_number Corrupt ≡ 18
  pub readable : verdict_number (Ok tt) ≡ 0
  pub readable_values : verdict_values (Ok tt) ≡ []
  pub refused : verdict_number (Err NotJournal) ≡ 16
  pub refused_values : verdict_values (Err NotJournal) ≡ 0 ∷ []
  pub found_record : (e : Entry) → found_number (Ok (Some e)) ≡ 0
  pub found_record_values :
      found_values
      (Ok (Some (record { fields = record { letter = 76; a = 258; b = 3; c = 1 }; start = 16; next = 18 })))
      ≡ 76 ∷ 258 ∷ 3 ∷ 1 ∷ 16 ∷ 18 ∷ []
  pub found_end : found_number (Ok None) ≡ 0
  pub found_end_values : found_values (Ok None) ≡ []
  pub found_damaged : found_number (Err Corrupt) ≡ 18
  pub found_damaged_values : found_values (Err Corrupt) ≡ 0 ∷ []
  pub appended : appended_number (Ok 16) ≡ 0
  pub appended_values_lem : appended_values (Ok 16) ≡ 16 ∷ []
  pub declined : appended_number (Err Full) ≡ 10
  pub declined_values : appended_values (Err Full) ≡ 0 ∷ []
