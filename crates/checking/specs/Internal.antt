-- What the crate's private functions promise each other. Nothing here is part of what a reader must believe.
use Rattle.std.specs.Prelude.{◌≡◌, ◌-◌, Bool, true, false, ◌&&◌, ◌||◌, not, cond, List, [], ◌∷◌, ℕ, zero, suc, ◌/◌, ◌%◌, ◌≤◌, ◌<◌, eqb, ltb, Ok, Err, Option, None, Some}
use Rattle.product.specs.Code.{number_limit}
use Rattle.product.specs.Product.{opens}
use Rattle.base.specs.Lists.{any, keep, first, is_some, or_default}
use Rattle.product.specs.declared.literal.Key.{Key}
use Rattle.product.specs.declared.literal.Key.TheVariants.{User, Thread as ThreadKey, Segment as SegmentKey, Defined}
use Rattle.model.specs.Limits.{most_segments}
use Rattle.model.specs.Operations.{deny, shares}
use Rattle.model.specs.Threads.{KeySet}
use Rattle.model.specs.Cells.{Row, Table, cell, row_at, used_rows, product_in, no_key, defined_cell, thread_cells, barred_own, literal_unit, literal_counts}
use Rattle.checking.specs.declared.Ungranted.TheVariants.{Denied, NotGranted}
use Rattle.checking.specs.Deciding.{Checked, keys_of}

-- a cell of the row has the code
abbrev pub has_code : Row → ℕ → Bool
has_code w code = any (λ x. eqb x code) w

-- the row of the newest of the oldest n frames that has it
unfoldable pub newest_row : Table → ℕ → ℕ → Option ℕ
newest_row t zero code = None
newest_row t (suc n) code = cond (has_code (row_at t (suc n)) code) (Some (suc n)) (newest_row t n code)

-- a key's code in key lists, none for a key that no list can hold
abbrev pub list_code : Key → Option ℕ
list_code (User n) = None
list_code (ThreadKey n) = None
list_code (SegmentKey n) = cond (ltb n most_segments) (Some n) None
list_code (Defined n) = cond (ltb (defined_cell n) no_key) (Some (defined_cell n)) None

-- each cell is a number of 16 bits, and so in each of the oldest n frames
abbrev pub RowFits : Row → Type 0
RowFits w = (j : ℕ) → cell w j < number_limit

abbrev pub FramesFit : Table → ℕ → Type 0
FramesFit t n = (i : ℕ) → 0 < i → i ≤ n → RowFits (row_at t i)

-- the U or R key of a cell, whatever its sign
abbrev pub own_key : ℕ → Key
own_key x = cond (ltb x thread_cells) (User (x % barred_own)) (ThreadKey (x % barred_own))

-- an S or a D key has a code of its own in key lists
abbrev pub listable : Key → Bool
listable (User n) = true
listable (ThreadKey n) = true
listable (SegmentKey n) = ltb n most_segments
listable (Defined n) = ltb (defined_cell n) no_key

abbrev pub is_deny : Row → Bool
is_deny w = shares (cell w 0) deny

-- ---- the row that decides, for any number n, whose bits are compared with the head's

-- the row is of a lock that stands for n, and opens
abbrev pub opens_row : KeySet → ℕ → Row → Bool
opens_row keys n w = shares (cell w 0) n && opens keys (product_in w).product

abbrev pub head_of : Option Row → ℕ
head_of o = or_default 0 (λ w. cell w 0) o

-- how many literals a row with that head has
abbrev pub literals_in : ℕ → ℕ
literals_in head = head / literal_unit % literal_counts

-- the head of the longer of two grant rows that open, the one found before, 0 for none, and this one; of equal ones of
-- that found before
abbrev pub tighter : ℕ → Row → ℕ
tighter found w = cond (eqb found 0 || ltb (literals_in found) (literals_in (cell w 0))) (cell w 0) found

abbrev pub tightest_from : ℕ → List Row → ℕ
tightest_from found [] = found
tightest_from found (w ∷ ws) = tightest_from (tighter found w) ws

-- the head of the row that decides, 0 where none opens: of the first deny row that opens, else of the longest grant row
-- that does, `found` being the head of the longest before these rows
unfoldable pub decided_from : KeySet → ℕ → ℕ → Table → ℕ
decided_from keys n found w =
    let d = first (λ v. opens_row keys n v && is_deny v) (used_rows w) in
    let g = tightest_from found (keep (λ v. opens_row keys n v && not (is_deny v)) (used_rows w)) in
    cond (is_some d) (head_of d) g

unfoldable pub opening_of : Table → Table → ℕ → ℕ
opening_of t w n = decided_from (keys_of t) n 0 w

pub record Literals (head r : ℕ) : Type 0 where
  pub count : r ≡ literals_in head
  -- follows from it, and is said so that callers find the bound
  pub few : r < literal_counts

-- the head of a used row of a grant lock
pub record GrantHead (head : ℕ) : Type 0 where
  pub used : head ≡ 0 → ⊥
  pub grants : shares head deny ≡ false

-- a row with that head changes the answer by the grant row with the head `found`, if it opens
abbrev pub can_change : ℕ → ℕ → Bool
can_change found head = shares head deny || ltb (literals_in found) (literals_in head)

-- what a lock number counts for in a head
abbrev pub lock_unit : ℕ
lock_unit = 65536

-- what the check answers by it
unfoldable pub head_checked : ℕ → Checked
head_checked head =
    let lock = head / lock_unit in
    cond (eqb head 0) (Err NotGranted) (cond (shares head deny) (Err (Denied lock)) (Ok lock))

-- an answer as one number: a grant lock's own, a deny lock's from the first of these on, and the other for none
abbrev pub denied_codes : ℕ
denied_codes = 65536

abbrev pub not_granted_code : ℕ
not_granted_code = 131072

unfoldable pub code_checked : ℕ → Checked
code_checked code =
    cond (ltb code denied_codes) (Ok code)
    (cond (ltb code not_granted_code) (Err (Denied (code - denied_codes))) (Err NotGranted))
