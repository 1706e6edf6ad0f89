-- The state (document 01: desk) in the arrays that the host lends: their layout, and the state that they hold, whatever
-- numbers are in them.
--
-- registry: [u32; 8]               users, threads, segments, defined keys and locks handed out
-- makers: [u16; 1024]              each defined key's maker
-- segments: [[[u16; 8]; 2]; 64]    row 0: owner, kind; row 1: the key list, first its own S key, always its number
-- locks: [[[u32; 8]; 8]; 64]       a segment's products, a row each, to the first row that begins with 0: the lock, the
--                                  number of literals and the operations in one cell, then the literals
-- threads: [[[u16; 8]; 17]; 64]    (document 01: runs) row 0: number, user, number of frames (open calls), and not 0
--                                  where it is live; rows 1 to 16: the frames, the oldest first, each a copy of its
--                                  segment's key list, whose first cell is the segment; a key taken since is gone from
--                                  its cell
use Rattle.std.specs.Prelude.{◌≡◌, Bool, not, cond, List, [], ◌∷◌, ◌++◌, map, ℕ, zero, suc, ◌+◌, ◌-◌, ◌*◌, ◌/◌, ◌%◌, ◌<◌, min, eqb, ltb, length, get_or, set, take, replicate}
use Rattle.product.specs.declared.literal.Key.{Key}
use Rattle.product.specs.declared.literal.Key.TheVariants.{User, Thread as ThreadKey, Segment as SegmentKey, Defined}
use Rattle.product.specs.declared.literal.Literal.{Literal}
use Rattle.product.specs.declared.literal.Literal.TheVariants.{Plain, Barred}
use Rattle.base.specs.Lists.{keep, each}
use Rattle.model.specs.Limits.{most_threads, most_segments, most_defined, most_listed, most_standing, most_frames}
use Rattle.model.specs.Threads.{Frame}
use Rattle.model.specs.State.{LockProduct, Segment, Place, free, taken, State}

-- a row of cells, a table of rows, an array of tables
abbrev pub Row : Type 0
Row = List ℕ

abbrev pub Table : Type 0
Table = List Row

pub record Cells : Type 0 where
  pub registry : Row
  pub makers : Row
  pub segments : List Table
  pub locks : List Table
  pub threads : List Table

-- the arrays, in the order in which they are lent
abbrev pub cells_with : Row → Row → List Table → List Table → List Table → Cells
cells_with registry makers segments locks threads =
    record { registry = registry; makers = makers; segments = segments; locks = locks; threads = threads }

-- one array put in the place of what was there
abbrev pub registry_is : Row → Cells → Cells
registry_is registry d = cells_with registry d.makers d.segments d.locks d.threads

abbrev pub makers_are : Row → Cells → Cells
makers_are makers d = cells_with d.registry makers d.segments d.locks d.threads

abbrev pub segments_are : List Table → Cells → Cells
segments_are segments d = cells_with d.registry d.makers segments d.locks d.threads

abbrev pub locks_are : List Table → Cells → Cells
locks_are locks d = cells_with d.registry d.makers d.segments locks d.threads

abbrev pub threads_are : List Table → Cells → Cells
threads_are threads d = cells_with d.registry d.makers d.segments d.locks threads

abbrev pub unchanged : Cells → Cells
unchanged d = d

infixr 50 ◌and◌
abbrev pub ◌and◌ : (Cells → Cells) → (Cells → Cells) → Cells → Cells
◌and◌ f g d = f (g d)

abbrev pub cell : Row → ℕ → ℕ
cell w j = get_or w j 0

abbrev pub row_at : Table → ℕ → Row
row_at t i = get_or t i []

abbrev pub table_at : List Table → ℕ → Table
table_at ts i = get_or ts i []

-- ---- the places of the cells

-- in the registry
abbrev pub user_count : ℕ
user_count = 0

abbrev pub thread_count : ℕ
thread_count = 1

abbrev pub segment_count : ℕ
segment_count = 2

abbrev pub defined_count : ℕ
defined_count = 3

abbrev pub lock_count : ℕ
lock_count = 4

-- in row 0 of a segment
abbrev pub owner_cell : ℕ
owner_cell = 0

abbrev pub kind_cell : ℕ
kind_cell = 1

-- in row 0 of a thread
abbrev pub number_cell : ℕ
number_cell = 0

abbrev pub user_cell : ℕ
user_cell = 1

abbrev pub frame_count : ℕ
frame_count = 2

abbrev pub live_cell : ℕ
live_cell = 3

-- ---- key lists: S n is n, D n is `defined_codes` more, and a cell without a key has the greatest number

abbrev pub defined_codes : ℕ
defined_codes = 64

abbrev pub no_key : ℕ
no_key = 65535

abbrev pub defined_cell : ℕ → ℕ
defined_cell k = defined_codes + k

abbrev pub key_in : ℕ → Key
key_in x = cond (ltb x defined_codes) (SegmentKey x) (Defined (x - defined_codes))

abbrev pub has_key : ℕ → Bool
has_key x = not (eqb x no_key)

abbrev pub keys_in : Row → List Key
keys_in w = map key_in (keep has_key w)

-- a segment's list that is written is closed up; a frame's may have cells without a key between others
abbrev pub key_row : List ℕ → Row
key_row xs = xs ++ replicate (most_listed - length xs) no_key

-- ---- literals

-- S n and D n have the code that they have in a key list, so that the check compares cells, and `barred_listed`
-- more where they are barred, which no code that a call stores in a list reaches; all these are below `listed_cells`
abbrev pub barred_listed : ℕ
barred_listed = 32768

abbrev pub listed_cells : ℕ
listed_cells = 65536

-- U n is `user_cells` and R n is `thread_cells` more than n, and `barred_own` more than that where they are barred
abbrev pub user_cells : ℕ
user_cells = 131072

abbrev pub thread_cells : ℕ
thread_cells = 262144

abbrev pub barred_own : ℕ
barred_own = 65536

abbrev pub key_cell : Key → ℕ
key_cell (User n) = user_cells + n
key_cell (ThreadKey n) = thread_cells + n
key_cell (SegmentKey n) = n
key_cell (Defined n) = defined_cell n

abbrev pub barred_by : Key → ℕ
barred_by (User n) = barred_own
barred_by (ThreadKey n) = barred_own
barred_by (SegmentKey n) = barred_listed
barred_by (Defined n) = barred_listed

abbrev pub literal_cell : Literal → ℕ
literal_cell (Plain k) = key_cell k
literal_cell (Barred k) = key_cell k + barred_by k

abbrev pub signed : Bool → Key → Literal
signed plain k = cond plain (Plain k) (Barred k)

-- what any number stands for
abbrev pub literal_in : ℕ → Literal
literal_in x =
    cond (ltb x listed_cells) (signed (ltb x barred_listed) (key_in (x % barred_listed)))
    (signed (eqb (x / barred_own % 2) 0)
    (cond (ltb x thread_cells) (User (x % barred_own)) (ThreadKey (x % barred_own))))

-- ---- product rows

-- the first cell: what a lock number and a literal count for, and how many numbers of literals there are; the
-- operations stand below both
abbrev pub lock_unit : ℕ
lock_unit = 65536

abbrev pub literal_unit : ℕ
literal_unit = 16

abbrev pub literal_counts : ℕ
literal_counts = 8

abbrev pub head : ℕ → ℕ → ℕ → ℕ
head lock literals operations = lock * lock_unit + literals * literal_unit + operations

-- the cells after it
abbrev pub literal_cells : ℕ
literal_cells = 7

abbrev pub is_used : Row → Bool
is_used w = not (eqb (cell w 0) 0)

-- the rows before the first that is not used
abbrev pub used_rows : Table → Table
used_rows [] = []
used_rows (w ∷ t) = let rest = used_rows t in cond (is_used w) (w ∷ rest) []

-- ---- the state that the arrays hold; a count of frames, segments or defined keys is read as no more than its limit

abbrev pub frame_of : Row → Frame
frame_of w = record { segment = cell w 0; keys = keys_in w }

-- the oldest n frames, the newest of them first
abbrev pub frames_of : Table → ℕ → List Frame
frames_of t zero = []
frames_of t (suc n) = frame_of (row_at t (suc n)) ∷ frames_of t n

abbrev pub depth_of : Table → ℕ
depth_of t = min (cell (row_at t 0) frame_count) most_frames

abbrev pub place_in : Table → Place
place_in t =
    let w = row_at t 0 in
    cond (eqb (cell w live_cell) 0) free
    (taken (cell w number_cell) (record { user = cell w user_cell; frames = frames_of t (depth_of t) }))

abbrev pub product_in : Row → LockProduct
product_in w =
    record {
      lock = cell w 0 / lock_unit;
      operations = cell w 0 % literal_unit;
      product = each (λ i. literal_in (cell w i)) 1 (cell w 0 / literal_unit % literal_counts);
    }

-- segment s's key list in its table: its own S key, whatever number stands in that cell, then the rest of row 1
abbrev pub list_row : ℕ → Table → Row
list_row s g = set (row_at g 1) 0 s

-- segment s, of its table and its products'
abbrev pub segment_of : ℕ → Table → Table → Segment
segment_of s g t =
    record {
      owner = cell (row_at g 0) owner_cell;
      kind = cell (row_at g 0) kind_cell;
      keys = keys_in (list_row s g);
      products = map product_in (used_rows t);
    }

abbrev pub segment_in : Cells → ℕ → Segment
segment_in d s = segment_of s (table_at d.segments s) (table_at d.locks s)

unfoldable pub state_of : Cells → State
state_of d =
    record {
      users = cell d.registry user_count;
      thread_numbers = cell d.registry thread_count;
      lock_numbers = cell d.registry lock_count;
      makers = take (min (cell d.registry defined_count) most_defined) d.makers;
      segments = each (segment_in d) 0 (min (cell d.registry segment_count) most_segments);
      places = map place_in d.threads;
    }

-- ---- the arrays' sizes, and the empty state: every cell is 0

-- the cells of a row, and of the registry; the rows of a segment and of a thread
abbrev pub row_cells : ℕ
row_cells = 8

abbrev pub segment_rows : ℕ
segment_rows = 2

abbrev pub thread_rows : ℕ
thread_rows = suc most_frames

-- n tables of k rows
pub record Tables (n k : ℕ) (ts : List Table) : Type 0 where
  pub count : length ts ≡ n
  pub rows : (i : ℕ) → i < n → length (table_at ts i) ≡ k
  pub cells : (i j : ℕ) → i < n → j < k → length (row_at (table_at ts i) j) ≡ row_cells

pub record Sized (d : Cells) : Type 0 where
  pub registry : length d.registry ≡ row_cells
  pub makers : length d.makers ≡ most_defined
  pub segments : Tables most_segments segment_rows d.segments
  pub locks : Tables most_segments most_standing d.locks
  pub threads : Tables most_threads thread_rows d.threads

abbrev pub zeros : ℕ → ℕ → List Table
zeros n k = replicate n (replicate k (replicate row_cells 0))

abbrev pub empty_cells : Cells
empty_cells =
    cells_with (replicate row_cells 0) (replicate most_defined 0) (zeros most_segments segment_rows)
    (zeros most_segments most_standing) (zeros most_threads thread_rows)
