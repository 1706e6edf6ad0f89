-- The protection state (document 01: desk) as short lists and records, and what is read of it. In what follows d is
-- one.
use Rattle.std.specs.Prelude.{Bool, true, false, not, cond, List, [], ◌∷◌, ℕ, ◌%◌, eqb, ltb, length, get_or, replicate, Option, None, Some}
use Rattle.product.specs.declared.literal.Key.{Key}
use Rattle.product.specs.declared.literal.Key.TheVariants.{Segment as SegmentKey}
use Rattle.product.specs.Product.{Product}
use Rattle.formula.specs.declared.text.Issued.{Issued}
use Rattle.base.specs.Lists.{any, keep, index_of, is_some, map_option, or_default}
use Rattle.model.specs.Limits.{most_threads}
use Rattle.model.specs.Threads.{Thread}

-- a product of a standing lock, with the lock's number and operations
pub record LockProduct : Type 0 where
  pub lock : ℕ
  pub operations : ℕ
  pub product : Product

-- a segment handed out: its owner and kind, its key list, and the products of its standing locks, in the order of lock
-- numbers and each lock's in its formula's order
pub record Segment : Type 0 where
  pub owner : ℕ
  pub kind : ℕ
  pub keys : List Key
  pub products : List LockProduct

-- a place for a live thread: free, or taken by the thread with that number
pub data Place : Type 0 where
  free : Place
  taken : ℕ → Thread → Place

-- users, thread numbers and lock numbers handed out; each defined key's maker; each segment; the places for live
-- threads
pub record State : Type 0 where
  pub users : ℕ
  pub thread_numbers : ℕ
  pub lock_numbers : ℕ
  pub makers : List ℕ
  pub segments : List Segment
  pub places : List Place

-- 'An empty desk is a new one, before any call.'
abbrev pub empty_state : State
empty_state =
    record {
      users = 0;
      thread_numbers = 0;
      lock_numbers = 0;
      makers = [];
      segments = [];
      places = replicate most_threads free;
    }

-- ---- reading it

abbrev pub is_user : State → ℕ → Bool
is_user d u = ltb u d.users

abbrev pub is_segment : State → ℕ → Bool
is_segment d s = ltb s (length d.segments)

abbrev pub is_key : State → ℕ → Bool
is_key d k = ltb k (length d.makers)

abbrev pub blank_segment : Segment
blank_segment = record { owner = 0; kind = 0; keys = []; products = [] }

-- segment s when it is handed out: 'a list of its own S key', and no lock
abbrev pub fresh_segment : ℕ → ℕ → ℕ → Segment
fresh_segment s owner kind = record { owner = owner; kind = kind; keys = SegmentKey s ∷ []; products = [] }

abbrev pub segment_at : State → ℕ → Segment
segment_at d s = get_or d.segments s blank_segment

abbrev pub owns : State → ℕ → ℕ → Bool
owns d u s = eqb (segment_at d s).owner u

abbrev pub made : State → ℕ → ℕ → Bool
made d u k = eqb (get_or d.makers k 0) u

-- 'Numbers .. rise from 0 and are never handed out again.' 'An ended run's R key may still be named in a text.'
abbrev pub issued : State → Issued
issued d =
    record {
      users = d.users;
      threads = d.thread_numbers;
      segments = length d.segments;
      defined = length d.makers;
    }

abbrev pub is_free : Place → Bool
is_free free = true
is_free (taken k t) = false

-- live threads
abbrev pub live_in : List Place → ℕ
live_in places = length (keep (λ p. not (is_free p)) places)

abbrev pub is_thread : ℕ → Place → Bool
is_thread n free = false
is_thread n (taken k t) = eqb n k

-- The place that passes the test, for thread n: the one at n % 64 before all others, then the first. No answer depends
-- on which it is.
abbrev pub place_for : ℕ → (Place → Bool) → List Place → ℕ
place_for n p places = cond (p (get_or places (n % most_threads) free)) (n % most_threads) (index_of p places)

abbrev pub thread_in : Place → Option Thread
thread_in free = None
thread_in (taken k t) = Some t

abbrev pub place_of : ℕ → List Place → ℕ
place_of n places = place_for n (is_thread n) places

abbrev pub find_thread : ℕ → List Place → Option Thread
find_thread n places = thread_in (get_or places (place_of n places) free)

abbrev pub is_live : State → ℕ → Bool
is_live d n = is_some (find_thread n d.places)

-- a thread that begins
abbrev pub fresh_thread : ℕ → Thread
fresh_thread u = record { user = u; frames = [] }

abbrev pub blank_thread : Thread
blank_thread = fresh_thread 0

abbrev pub thread_at : State → ℕ → Thread
thread_at d n = or_default blank_thread (λ t. t) (find_thread n d.places)

-- Who edits, in the six calls that change segments, keys and locks (request P4): 'N, K, G, T, L and D now carry a run
-- in field a, and the user is that run's.' None if the thread isn't live.
abbrev pub editor : State → ℕ → Option ℕ
editor d a = map_option (λ t. t.user) (find_thread a d.places)

abbrev pub user_of : State → ℕ → ℕ
user_of d a = or_default 0 (λ u. u) (editor d a)

-- a product of lock n
abbrev pub is_of_lock : ℕ → LockProduct → Bool
is_of_lock n r = eqb r.lock n

abbrev pub has_lock : ℕ → Segment → Bool
has_lock n g = any (is_of_lock n) g.products

-- lock n is made and not dropped; a standing lock has at least one product
abbrev pub is_lock : State → ℕ → Bool
is_lock d n = any (has_lock n) d.segments

-- the segment that it is on
abbrev pub lock_segment : State → ℕ → ℕ
lock_segment d n = index_of (has_lock n) d.segments
