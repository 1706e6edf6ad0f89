-- Document 01, 'Twelve calls': what an accepted call changes in the state, and what it answers.
use Rattle.std.specs.Prelude.{not, cond, List, [], ◌∷◌, ◌++◌, map, ℕ, suc, eqb, length, get_or, set}
use Rattle.product.specs.declared.literal.Key.{Key}
use Rattle.product.specs.declared.literal.Key.TheVariants.{Defined}
use Rattle.product.specs.Product.{Product}
use Rattle.product.specs.Sum.{Sum}
use Rattle.formula.specs.Outcome.{sum_in}
use Rattle.formula.specs.Compiler.{Compiler}
use Rattle.call.specs.declared.request.Request.{Request}
use Rattle.call.specs.declared.request.Request.TheVariants as request
use Rattle.base.specs.Lists.{keep, tail_of}
use Rattle.model.specs.Operations.{execute}
use Rattle.model.specs.Threads.{Frame, Thread, same_key}
use Rattle.model.specs.State.{fresh_thread, LockProduct, Segment, Place, State, fresh_segment, segment_at, user_of, issued, is_free, place_for, place_of, thread_at, is_of_lock, lock_segment, free, taken}
use Rattle.model.specs.Refusals.{tightest_product, lock_of}

-- ---- what an accepted call changes

abbrev pub state_with : ℕ → ℕ → ℕ → List ℕ → List Segment → List Place → State
state_with users thread_numbers lock_numbers makers segments places =
    record {
      users = users;
      thread_numbers = thread_numbers;
      lock_numbers = lock_numbers;
      makers = makers;
      segments = segments;
      places = places;
    }

-- one part put in the place of what was there
abbrev pub with_users : State → ℕ → State
with_users d users = state_with users d.thread_numbers d.lock_numbers d.makers d.segments d.places

abbrev pub with_thread_numbers : State → ℕ → State
with_thread_numbers d thread_numbers =
    state_with d.users thread_numbers d.lock_numbers d.makers d.segments d.places

abbrev pub with_lock_numbers : State → ℕ → State
with_lock_numbers d lock_numbers =
    state_with d.users d.thread_numbers lock_numbers d.makers d.segments d.places

abbrev pub with_makers : State → List ℕ → State
with_makers d makers = state_with d.users d.thread_numbers d.lock_numbers makers d.segments d.places

abbrev pub with_segments : State → List Segment → State
with_segments d segments = state_with d.users d.thread_numbers d.lock_numbers d.makers segments d.places

abbrev pub with_places : State → List Place → State
with_places d places = state_with d.users d.thread_numbers d.lock_numbers d.makers d.segments places

abbrev pub on_segment : State → ℕ → (Segment → Segment) → State
on_segment d s f = with_segments d (set d.segments s (f (segment_at d s)))

abbrev pub on_thread : (Thread → Thread) → Place → Place
on_thread f free = free
on_thread f (taken k t) = taken k (f t)

abbrev pub with_frames : Thread → List Frame → Thread
with_frames t frames = record { user = t.user; frames = frames }

-- the place of thread n
abbrev pub at_place : State → ℕ → (Place → Place) → State
at_place d n f = let i = place_of n d.places in with_places d (set d.places i (f (get_or d.places i free)))

-- 'A granted call hands the run the segment's key list as it then is.'
abbrev pub push_frame : ℕ → List Key → Thread → Thread
push_frame s keys t = with_frames t (record { segment = s; keys = keys } ∷ t.frames)

-- 'R leaves the newest open call.'
abbrev pub pop_frame : Thread → Thread
pop_frame t = with_frames t (tail_of t.frames)

abbrev pub newest : List Frame → ℕ
newest [] = 0
newest (f ∷ fs) = f.segment

abbrev pub with_keys : Segment → List Key → Segment
with_keys g keys = record { owner = g.owner; kind = g.kind; keys = keys; products = g.products }

abbrev pub give_key : ℕ → Segment → Segment
give_key k g = with_keys g (g.keys ++ Defined k ∷ [])

-- the keys of a list but for D key k
abbrev pub without : ℕ → List Key → List Key
without k keys = keep (λ j. not (same_key (Defined k) j)) keys

abbrev pub take_key : ℕ → Segment → Segment
take_key k g = with_keys g (without k g.keys)

-- Request P5: 'An accepted T withdraws the key from every open call of that segment.'
abbrev pub revoke_frame : ℕ → ℕ → Frame → Frame
revoke_frame s k f = cond (eqb f.segment s) (record { segment = f.segment; keys = without k f.keys }) f

abbrev pub revoke_thread : ℕ → ℕ → Thread → Thread
revoke_thread s k t = with_frames t (map (revoke_frame s k) t.frames)

-- of every thread
abbrev pub revoke_key : ℕ → ℕ → List Place → List Place
revoke_key s k places = map (on_thread (revoke_thread s k)) places

abbrev pub with_products : Segment → List LockProduct → Segment
with_products g products = record { owner = g.owner; kind = g.kind; keys = g.keys; products = products }

abbrev pub lock_product : ℕ → ℕ → Product → LockProduct
lock_product lock operations p = record { lock = lock; operations = operations; product = p }

abbrev pub add_products : ℕ → ℕ → Sum → Segment → Segment
add_products lock operations ps g = with_products g (g.products ++ map (lock_product lock operations) ps)

abbrev pub drop_products : ℕ → Segment → Segment
drop_products n g = with_products g (keep (λ r. not (is_of_lock n r)) g.products)

module _ (compile : Compiler) where
  unfoldable pub update : State → Request → List ℕ → State
  update d request.NewUser text = with_users d (suc d.users)
  update d (request.StartThread a) text =
      let n = d.thread_numbers in
      let new = taken n (fresh_thread a) in
      with_thread_numbers (with_places d (set d.places (place_for n is_free d.places) new)) (suc n)
  update d (request.EndThread a) text = at_place d a (λ p. free)
  update d (request.NewSegment a b) text =
      let s = length d.segments in
      with_segments d (d.segments ++ fresh_segment s (user_of d a) b ∷ [])
  update d (request.NewKey a) text = with_makers d (d.makers ++ user_of d a ∷ [])
  update d (request.GiveKey a b c) text = on_segment d b (give_key c)
  update d (request.TakeKey a b c) text = with_places (on_segment d b (take_key c)) (revoke_key b c d.places)
  update d (request.AddLock a b c) text =
      let n = d.lock_numbers in
      let ps = sum_in (compile (issued d) text) in
      with_lock_numbers (on_segment d b (add_products n c ps)) (suc n)
  update d (request.DropLock a b) text = on_segment d (lock_segment d b) (drop_products b)
  update d (request.CallSegment a b) text = at_place d a (on_thread (push_frame b (segment_at d b).keys))
  update d (request.ReturnCall a) text = at_place d a (on_thread pop_frame)
  update d (request.Access a b c) text = d

  -- ---- what an accepted call answers

  unfoldable pub answer : State → Request → List ℕ → ℕ
  answer d request.NewUser text = d.users
  answer d (request.StartThread a) text = d.thread_numbers
  answer d (request.EndThread a) text = length (thread_at d a).frames
  answer d (request.NewSegment a b) text = length d.segments
  answer d (request.NewKey a) text = length d.makers
  answer d (request.GiveKey a b c) text = length (give_key c (segment_at d b)).keys
  answer d (request.TakeKey a b c) text = length (take_key c (segment_at d b)).keys
  answer d (request.AddLock a b c) text = d.lock_numbers
  answer d (request.DropLock a b) text = length (keep (is_of_lock b) (segment_at d (lock_segment d b)).products)
  answer d (request.CallSegment a b) text = lock_of (tightest_product d a b execute)
  answer d (request.ReturnCall a) text = newest (thread_at d a).frames
  answer d (request.Access a b c) text = lock_of (tightest_product d a b c)
