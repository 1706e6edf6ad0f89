-- Request P5: 'An accepted T withdraws the key from every open call of that segment. Giving it again serves later calls
-- only. The same key from another segment's open call is still held. So a still open call now hands over its list less
-- what was taken since, and the history reads that way.' Proved in `proofs/Agreement/Revocation.antt`.
use Rattle.std.specs.Prelude.{◌≡◌, true, false, ◌&&◌, ◌||◌, not, cond, ◌↔◌, ℕ, eqb, Option, Some}
use mathlib.Core.List.{List, [], ◌∷◌, ◌++◌, map, Memᴰ}
use Rattle.product.specs.declared.literal.Key.{Key}
use Rattle.product.specs.declared.literal.Key.TheVariants.{Segment as SegmentKey, Defined}
use Rattle.formula.specs.Outcome.{outcome_of}
use Rattle.call.specs.declared.request.Request.TheVariants.{TakeKey, ReturnCall}
use Rattle.call.specs.Calls.{Call, decoded}
use Rattle.call.specs.Letters as letters
use Rattle.base.specs.Lists.{keep, tail_of, map_option}
use Rattle.model.specs.Answers.{Answer}
use Rattle.model.specs.Answers.{is_accepted, answer_value}
use Rattle.model.specs.Threads.{Frame, Thread, same_key, is_in, hands}
use Rattle.model.specs.State.{segment_at, thread_at}
use Rattle.model.specs.Cells.{Cells, Sized, state_of}
use Rattle.model.specs.Stores.{step_cells}
use Rattle.model.specs.History.{Event, Lock, event, history, list_of, counts}
use Rattle.model.specs.Replay.{reached, events, history_of, answer_to}

-- ---- its list less what was taken since

-- an open call, by the list of calls and answers alone: what came before its C, its segment, and what came after
pub record OpenCall : Type 0 where
  pub before : List Event
  pub segment : ℕ
  pub since : List Event

-- the D keys that accepted Ts took from the list of segment s
abbrev pub taken_from : ℕ → List Event → List Key
taken_from s es = map (λ e. Defined e.call.c) (keep (λ e. counts letters.T e && eqb s e.call.b) es)

-- 'its list' is the one that its segment had when the call was made
abbrev pub handed_over : OpenCall → Frame
handed_over o =
    record {
      segment = o.segment;
      keys = keep (λ k. not (is_in k (taken_from o.segment o.since))) (list_of (history o.before) o.segment);
    }

-- one event more
abbrev pub and_then : Event → OpenCall → OpenCall
and_then e o = record { before = o.before; segment = o.segment; since = o.since ++ e ∷ [] }

-- The open calls of thread n, the newest first, after events es and one more: an accepted C of the thread opens one, an
-- accepted R of it closes the newest, its S begins with none and its E leaves none.
abbrev pub open_next : ℕ → List Event → Event → List OpenCall → List OpenCall
open_next n es e os =
    let still = map (and_then e) os in
    cond (counts letters.C e && eqb n e.call.a) (record { before = es; segment = e.call.b; since = [] } ∷ still)
    (cond (counts letters.R e && eqb n e.call.a) (tail_of still)
    (cond (counts letters.S e && eqb n (answer_value e.answer) || counts letters.E e && eqb n e.call.a) [] still))

abbrev pub open_from : ℕ → List Event → List OpenCall → List Event → List OpenCall
open_from n es os [] = os
open_from n es os (e ∷ rest) = open_from n (es ++ e ∷ []) (open_next n es e os) rest

abbrev pub open_calls : ℕ → List Event → List OpenCall
open_calls n es = open_from n [] [] es

-- ---- what a T withdraws

-- what an accepted T of D key c from segment b leaves of an open call
pub record Withdrawn (b c : ℕ) (was now : Frame) : Type 0 where
  pub segment : now.segment ≡ was.segment
  pub gone : was.segment ≡ b → hands now (Defined c) ≡ false
  pub other_keys : (k : Key) → (k ≡ Defined c → ⊥) → hands now k ≡ hands was k
  pub other_calls : (was.segment ≡ b → ⊥) → now ≡ was

-- of a thread's open calls, one by one
abbrev pub AllWithdrawn : ℕ → ℕ → List Frame → List Frame → Type 0
AllWithdrawn b c [] [] = Unit {0}
AllWithdrawn b c (f ∷ fs) (g ∷ gs) = Withdrawn b c f g × AllWithdrawn b c fs gs
AllWithdrawn b c [] (g ∷ gs) = ⊥
AllWithdrawn b c (f ∷ fs) [] = ⊥

-- the open calls of thread n in the state of the arrays
abbrev pub frames_at : Cells → ℕ → List Frame
frames_at d n = (thread_at (state_of d) n).frames

-- ---- and what it leaves alone

abbrev pub kind_in : List Event → ℕ → Option ℕ
kind_in es s = map_option (λ e. e.kind) ((history es).segments s)

abbrev pub lock_made : Call → ℕ → Lock
lock_made x n = record { number = n; segment = x.b; operations = x.c; text = x.text }

-- What the next call, answered r, does to the open calls and to the segments and their locks, told from the events
-- before it.
pub record Revokes (es : List Event) (next : Call) (r : Answer) : Type 0 where
  -- an accepted T, of every live thread, whosever it is
  pub taken : (a b c : ℕ) → decoded next ≡ Some (TakeKey a b c) → is_accepted r ≡ true
      → (n : ℕ) (t : Thread) → (history es).threads n ≡ Some t
      → (u : Thread) × ((history (es ++ event next r ∷ [])).threads n ≡ Some u) × (u.user ≡ t.user)
      × AllWithdrawn b c t.frames u.frames
  -- a refused call, so also a T, withdraws nothing; that it changes no cell is `unchanged` of `Refusing`
  pub refused : is_accepted r ≡ false → history (es ++ event next r ∷ []) ≡ history es
  -- a segment's list: an accepted N begins one, an accepted G adds a key, an accepted T takes one out, and nothing else
  -- changes one
  pub lists : (s : ℕ) → list_of (history (es ++ event next r ∷ [])) s
      ≡ cond (counts letters.N (event next r) && eqb s (answer_value r)) (SegmentKey s ∷ [])
      (cond (counts letters.G (event next r) && eqb s next.b) (list_of (history es) s ++ Defined next.c ∷ [])
      (cond (counts letters.T (event next r) && eqb s next.b)
      (keep (λ k. not (same_key (Defined next.c) k)) (list_of (history es) s)) (list_of (history es) s)))
  -- a segment's kind is given by an accepted N, and standing locks by an accepted L until an accepted D; nothing else,
  -- so no T, changes them
  pub kinds : (s : ℕ) → kind_in (es ++ event next r ∷ []) s
      ≡ cond (counts letters.N (event next r) && eqb s (answer_value r)) (Some next.b) (kind_in es s)
  pub locks : (history (es ++ event next r ∷ [])).locks
      ≡ cond (counts letters.L (event next r)) ((history es).locks ++ lock_made next (answer_value r) ∷ [])
      (cond (counts letters.D (event next r)) (keep (λ l. not (eqb l.number next.b)) (history es).locks)
      (history es).locks)
  -- R is accepted exactly where the thread has an open call, whatever that still hands over
  pub returned : (a : ℕ) → decoded next ≡ Some (ReturnCall a)
      → (is_accepted r ≡ true)
      ↔ ((t : Thread) × (f : Frame) × (fs : List Frame) × ((history es).threads a ≡ Some t) × (t.frames ≡ f ∷ fs))

pub record Revocation : Type 0 where
  -- an open call hands over the keys that it has
  pub hands_exactly : (f : Frame) (k : Key) → (hands f k ≡ true) ↔ Memᴰ k f.keys
  pub revokes : (xs : List Call) (next : Call) → Revokes (events outcome_of xs) next (answer_to outcome_of xs next)
  -- the same of the arrays, whatever numbers are in them
  pub withdrawn : (d : Cells) → Sized d → (next : Call) (a b c : ℕ) → decoded next ≡ Some (TakeKey a b c)
      → is_accepted (step_cells outcome_of d next).answer ≡ true → (n : ℕ)
      → AllWithdrawn b c (frames_at d n) (frames_at (step_cells outcome_of d next).cells n)
  -- 'a still open call now hands over its list less what was taken since'
  pub handed : (xs : List Call) (n : ℕ) (t : Thread) → (history_of outcome_of xs).threads n ≡ Some t
      → t.frames ≡ map handed_over (open_calls n (events outcome_of xs))
  -- So the D keys that an open call hands over are in its segment's list as it stands now: in the history, and in the
  -- arrays.
  pub current : (xs : List Call) (n : ℕ) (t : Thread) → (history_of outcome_of xs).threads n ≡ Some t
      → (f : Frame) → Memᴰ f t.frames → (k : ℕ) → hands f (Defined k) ≡ true
      → is_in (Defined k) (list_of (history_of outcome_of xs) f.segment) ≡ true
  pub stored : (xs : List Call) (n : ℕ) (f : Frame) → Memᴰ f (frames_at (reached outcome_of xs) n)
      → (k : ℕ) → hands f (Defined k) ≡ true
      → is_in (Defined k) (segment_at (state_of (reached outcome_of xs)) f.segment).keys ≡ true
