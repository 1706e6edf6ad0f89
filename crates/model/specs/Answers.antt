-- Document 01's table of refusals, and what document 02 adds to it: the number and the second number of each, and
-- whether an answer is one. Refusals 16 and 17 are a file's, and not the guard's; 19 is a lock list's, and no call's.
use Rattle.std.specs.Prelude.{Bool, true, false, ℕ, Result, Ok, Err}
use Rattle.formula.specs.declared.text.Refusal.{Refusal as TextRefusal}
use Rattle.formula.specs.declared.text.Refusal.TheVariants as text
use Rattle.model.specs.declared.answer.Refusal.{Refusal}
use Rattle.model.specs.declared.answer.Refusal.TheVariants.{UnknownUser, NoThread, NoSegment, NoKey, NoLock, NotOwner, Unfit, AlreadyPresent, NotPresent, Full, Malformed, TooWide, Unsatisfiable, Denied, NotGranted, Corrupt, TooFewRows}

-- 'its number and, with 14, the lock, else 0'
abbrev pub numbers_of : Refusal → ℕ × ℕ
numbers_of UnknownUser = (1, 0)
numbers_of NoThread = (2, 0)
numbers_of NoSegment = (3, 0)
numbers_of NoKey = (4, 0)
numbers_of NoLock = (5, 0)
numbers_of NotOwner = (6, 0)
numbers_of Unfit = (7, 0)
numbers_of AlreadyPresent = (8, 0)
numbers_of NotPresent = (9, 0)
numbers_of Full = (10, 0)
numbers_of Malformed = (11, 0)
numbers_of TooWide = (12, 0)
numbers_of Unsatisfiable = (13, 0)
numbers_of (Denied lock) = (14, lock)
numbers_of NotGranted = (15, 0)
numbers_of Corrupt = (18, 0)
numbers_of TooFewRows = (19, 0)

abbrev pub refusal_number : Refusal → ℕ
refusal_number r = (numbers_of r).0

abbrev pub second_number : Refusal → ℕ
second_number r = (numbers_of r).1

-- the refusal of a lock text
abbrev pub of_text : TextRefusal → Refusal
of_text text.Malformed = Malformed
of_text text.TooWide = TooWide
of_text text.Unsatisfiable = Unsatisfiable

-- what a call answers: the number that the table of the twelve calls gives its letter, or a refusal
abbrev pub Answer : Type 0
Answer = Result ℕ Refusal

-- of an answer: the number of the refusal, 0 where the call is accepted, and the value, the answer or the second number
abbrev pub answer_number : Answer → ℕ
answer_number (Ok n) = 0
answer_number (Err r) = refusal_number r

abbrev pub answer_value : Answer → ℕ
answer_value (Ok n) = n
answer_value (Err r) = second_number r

abbrev pub is_accepted : Answer → Bool
is_accepted (Ok n) = true
is_accepted (Err r) = false
