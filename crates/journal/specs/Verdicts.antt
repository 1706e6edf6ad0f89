-- Document 01's numbers and values of the journal's answers: the verdict on a file, what stands at a cursor, and the
-- answer to an append. The number is that of the refusal, and 0 where nothing is refused.
use Rattle.std.specs.Prelude.{List, [], ◌∷◌, ℕ, None, Some, Ok, Err}
use Rattle.journal.specs.declared.file.Refusal.{Refusal}
use Rattle.journal.specs.declared.file.Refusal.TheVariants.{Full, NotJournal, OtherVersion, Corrupt}
use Rattle.journal.specs.Reading.{Found, Verdict}
use Rattle.journal.specs.Appending.{Appended}

-- refusals: full, not a desk file, other version, broken file
abbrev pub refusal_number : Refusal → ℕ
refusal_number Full = 10
refusal_number NotJournal = 16
refusal_number OtherVersion = 17
refusal_number Corrupt = 18

-- 'A refusal gives its number and, with 14, the lock, else 0': none of these is 14
abbrev pub refusal_values : Refusal → List ℕ
refusal_values f = 0 ∷ []

-- ---- the verdict on a file

abbrev pub verdict_number : Verdict → ℕ
verdict_number (Ok u) = 0
verdict_number (Err f) = refusal_number f

abbrev pub verdict_values : Verdict → List ℕ
verdict_values (Ok u) = []
verdict_values (Err f) = refusal_values f

-- ---- what stands at a cursor: a record, the end of the records, or a broken file

abbrev pub found_number : Found → ℕ
found_number (Ok e) = 0
found_number (Err f) = refusal_number f

-- a record's letter, its fields a, b, c, where its text starts and where it ends
abbrev pub found_values : Found → List ℕ
found_values (Ok (Some e)) = e.fields.letter ∷ e.fields.a ∷ e.fields.b ∷ e.fields.c ∷ e.start ∷ e.next ∷ []
found_values (Ok None) = []
found_values (Err f) = refusal_values f

-- ---- the answer to an append: 'the answer is the new length'

abbrev pub appended_number : Appended → ℕ
appended_number (Ok n) = 0
appended_number (Err f) = refusal_number f

abbrev pub appended_values : Appended → List ℕ
appended_values (Ok n) = n ∷ []
appended_values (Err f) = refusal_values f
