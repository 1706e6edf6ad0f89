-- Document 01, 'Operations and the check', on a thread's table and the table of a segment's product rows: what the
-- check answers.
use Rattle.std.specs.Prelude.{Bool, cond, map, ℕ, Result, Ok, Err, Option}
use Rattle.model.specs.declared.answer.Refusal.{Refusal}
use Rattle.model.specs.declared.answer.Refusal.TheVariants.{Denied as DeniedBy, NotGranted as NoneGrants}
use Rattle.model.specs.Answers.{Answer}
use Rattle.base.specs.Lists.{keep, first, greatest, is_some}
use Rattle.model.specs.Operations.{denies, grants, is_operation}
use Rattle.model.specs.Threads.{KeySet, key_set}
use Rattle.model.specs.State.{LockProduct}
use Rattle.model.specs.Refusals.{opens_for, literal_count, lock_of}
use Rattle.model.specs.Cells.{Table, cell, row_at, number_cell, user_cell, frames_of, depth_of, used_rows, product_in}
use Rattle.checking.specs.declared.Ungranted.{Ungranted}
use Rattle.checking.specs.declared.Ungranted.TheVariants.{Denied, NotGranted}

-- what the check answers
abbrev pub Checked : Type 0
Checked = Result ℕ Ungranted

-- the key set of the thread, with its oldest n frames
abbrev pub keys_at : Table → ℕ → KeySet
keys_at t n =
    key_set (cell (row_at t 0) number_cell) (record { user = cell (row_at t 0) user_cell; frames = frames_of t n })

abbrev pub keys_of : Table → KeySet
keys_of t = keys_at t (depth_of t)

-- the first product that opens, of those that stand for operation n
abbrev pub first_opening : (ℕ → ℕ → Bool) → Table → Table → ℕ → Option LockProduct
first_opening stands t w n = first (opens_for stands n (keys_of t)) (map product_in (used_rows w))

-- of the grant locks that stand for operation n the longest product that opens, the first of equal ones
abbrev pub tightest_opening : Table → Table → ℕ → Option LockProduct
tightest_opening t w n = greatest literal_count (keep (opens_for grants n (keys_of t)) (map product_in (used_rows w)))

-- 'If a deny lock opens, the lowest one's number goes with refusal 14. Otherwise' comes a grant lock's, 'and 15 if none
-- opens.'
abbrev pub decide : Option LockProduct → Option LockProduct → Checked
decide d g = cond (is_some d) (Err (Denied (lock_of d))) (cond (is_some g) (Ok (lock_of g)) (Err NotGranted))

-- Request P6: 'The answer becomes the lock whose longest opening product has most signed keys. .. Deny locks keep their
-- order.' No lock stands for a number that is no operation.
unfoldable pub check_of : Table → Table → ℕ → Checked
check_of t w n = cond (is_operation n) (decide (first_opening denies t w n) (tightest_opening t w n)) (Err NotGranted)

-- document 01's number of each case, 0 where nothing is refused, and its value: the lock
abbrev pub checked_number : Checked → ℕ
checked_number (Ok lock) = 0
checked_number (Err (Denied lock)) = 14
checked_number (Err NotGranted) = 15

abbrev pub checked_value : Checked → ℕ
checked_value (Ok lock) = lock
checked_value (Err (Denied lock)) = lock
checked_value (Err NotGranted) = 0

-- as the refusal, and the answer, of the call or access that is checked
abbrev pub refusal_of : Ungranted → Refusal
refusal_of (Denied lock) = DeniedBy lock
refusal_of NotGranted = NoneGrants

abbrev pub answer_of : Checked → Answer
answer_of (Ok lock) = Ok lock
answer_of (Err u) = Err (refusal_of u)
