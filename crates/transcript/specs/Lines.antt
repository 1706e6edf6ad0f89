-- What the office program prints (document 01: 'Office program'), in ASCII bytes.
use Rattle.std.specs.Prelude.{◌≡◌, Bool, cond, List, [], ◌∷◌, ◌++◌, ℕ, suc, ◌+◌, ◌≤◌, leb, length, Ok, Err}
use Rattle.std.proofs.lemmas.List.Edits.{sets}
use Rattle.formula.specs.Spelling.{decimal}
use Rattle.base.specs.Bytes.{bytes}
use Rattle.formula.specs.Outcome.{outcome_of}
use Rattle.journal.specs.declared.file.Refusal.{Refusal}
use Rattle.journal.specs.Verdicts.{refusal_number as file_refusal}
use Rattle.journal.specs.Reading.{Verdict, verdict_of, records_of}
use Rattle.model.specs.Answers.{Answer}
use Rattle.model.specs.Answers.{answer_number, answer_value}
use Rattle.model.specs.History.{Event}
use Rattle.model.specs.Replay.{events}

-- '`ok` and the answer, or `no`, refusal and its second number'
abbrev pub outcome : Answer → List ℕ
outcome (Ok n) = bytes "ok " ++ decimal (answer_value (Ok n))
outcome (Err r) =
    bytes "no " ++ decimal (answer_number (Err r)) ++ bytes " " ++ decimal (answer_value (Err r))

-- 'its place from 0, letter', and that; 32 is a blank and 10 a line feed
unfoldable pub line : ℕ → ℕ → Answer → List ℕ
line place letter answer = decimal place ++ 32 ∷ letter ∷ 32 ∷ [] ++ outcome answer ++ 10 ∷ []

-- '`file no N`'
unfoldable pub file_line : Refusal → List ℕ
file_line r = bytes "file no " ++ decimal (file_refusal r) ++ 10 ∷ []

-- 'for each record one line'
abbrev pub lines_from : ℕ → List Event → List ℕ
lines_from place [] = []
lines_from place (e ∷ es) = line place e.call.letter e.answer ++ lines_from (suc place) es

-- all that is printed for a file: its records are answered one after the other, from the empty arrays on
abbrev pub printed_of : Verdict → List ℕ → List ℕ
printed_of (Err r) file = file_line r
printed_of (Ok tt) file = lines_from 0 (events outcome_of (records_of file))

unfoldable pub printed : List ℕ → List ℕ
printed file = printed_of (verdict_of file) file

-- ---- a line in a lent buffer

-- the most bytes of a record's line, and of a file's
abbrev pub most_line : ℕ
most_line = 20

abbrev pub most_file_line : ℕ
most_file_line = 11

-- as many bytes are left as the longest line has
abbrev pub has_room : ℕ → List ℕ → ℕ → Bool
has_room most buffer place = leb (place + most) (length buffer)

-- Line s was to be written from a place on: where there is room it was, and `next` is the place after it; else nothing
-- was, and `next` is the place.
pub record LinePut (most : ℕ) (before : List ℕ) (place : ℕ) (s after : List ℕ) (next : ℕ) : Type 0 where
  pub stored : after ≡ cond (has_room most before place) (sets before place s) before
  pub ends : next ≡ cond (has_room most before place) (place + length s) place
  pub short : next ≤ place + most
