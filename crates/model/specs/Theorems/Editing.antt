-- Request P4: 'N, K, G, T, L and D now carry a run in field a, and the user is that run's. .. An ended or unknown run
-- is 2 where 1 stood. .. The history in the granting theorem takes the editor from the run.' What the list of calls and
-- answers before an edit says of 2, of 6 and of its being accepted, and before an S of 1; and whose everything is after
-- any call. Proved in `proofs/Agreement/Editing.antt`.
use Rattle.std.specs.Prelude.{◌≡◌, true, false, ◌&&◌, cond, ◌↔◌, ℕ, ◌≤◌, ◌<◌, eqb, length, get_or, Err, Option, None, Some}
use mathlib.Core.List.{List, [], ◌∷◌, ◌++◌, Memᴰ}
use Rattle.product.specs.declared.literal.Key.TheVariants.{Defined}
use Rattle.formula.specs.Outcome.{outcome_of}
use Rattle.call.specs.declared.request.Request.{Request}
use Rattle.call.specs.declared.request.Request.TheVariants.{StartThread, NewSegment, NewKey, GiveKey, TakeKey, AddLock, DropLock}
use Rattle.call.specs.Calls.{Call, call_with, decoded}
use Rattle.call.specs.Letters as letters
use Rattle.model.specs.declared.answer.Refusal.TheVariants.{UnknownUser, NoThread, NotOwner}
use Rattle.model.specs.Answers.{Answer}
use Rattle.model.specs.Answers.{is_accepted, answer_value}
use Rattle.model.specs.Threads.{Thread, is_in}
use Rattle.model.specs.History.{Event, Entry, Lock, event, history, counts, accepted_of, makers_of}
use Rattle.base.specs.Lists.{is_some, map_option, or_default}
use Rattle.model.specs.Stores.{step_cells}
use Rattle.model.specs.Replay.{reached, events, answer_to}
use Rattle.model.specs.Theorems.Neighbours.{has_letter}

abbrev pub edit_letters : List ℕ
edit_letters = letters.N ∷ letters.K ∷ letters.G ∷ letters.T ∷ letters.L ∷ letters.D ∷ []

-- the other letters whose field a names a thread; `every_edit_letter` of `SideBySide` has both
abbrev pub run_letters : List ℕ
run_letters = letters.E ∷ letters.C ∷ letters.R ∷ letters.A ∷ []

-- thread a is live and segment s handed out, and the segment's owner isn't the thread's user
pub record AnothersSegment (es : List Event) (a s : ℕ) : Type 0 where
  pub thread : Thread
  pub live : (history es).threads a ≡ Some thread
  pub entry : Entry
  pub segment : (history es).segments s ≡ Some entry
  pub other : entry.owner ≡ thread.user → ⊥

-- D key k is handed out too, and the thread's user isn't both the segment's owner and the key's maker
pub record AnothersSegmentOrKey (es : List Event) (a s k : ℕ) : Type 0 where
  pub thread : Thread
  pub live : (history es).threads a ≡ Some thread
  pub entry : Entry
  pub segment : (history es).segments s ≡ Some entry
  pub key : k < accepted_of letters.K es
  pub other : entry.owner ≡ thread.user → get_or (makers_of es) k 0 ≡ thread.user → ⊥

-- thread a is live and segment s handed out, and the thread's user is the segment's owner
pub record OwnSegment (es : List Event) (a s : ℕ) : Type 0 where
  pub thread : Thread
  pub live : (history es).threads a ≡ Some thread
  pub entry : Entry
  pub segment : (history es).segments s ≡ Some entry
  pub owner : entry.owner ≡ thread.user

-- who edits, as the history has him: the user of thread a, if it is live
abbrev pub user_in : List Event → ℕ → Option ℕ
user_in es a = map_option (λ t. t.user) ((history es).threads a)

-- whose segment s is
abbrev pub owner_in : List Event → ℕ → Option ℕ
owner_in es s = map_option (λ e. e.owner) ((history es).segments s)

-- the same call with another field a
abbrev pub by_thread : ℕ → Call → Call
by_thread a x = call_with x.letter a x.b x.c x.text

-- What the events before the next call say of it and its answer r.
pub record Edits (es : List Event) (next : Call) (r : Answer) : Type 0 where
  -- 2 exactly where the thread of field a isn't live, whatever else is named; and 1 never
  pub no_thread : (q : Request) → decoded next ≡ Some q → has_letter edit_letters next ≡ true
      → (r ≡ Err NoThread) ↔ ((history es).threads next.a ≡ None)
  -- and so of the other letters that name a thread, E, C, R and A
  pub not_live : (q : Request) → decoded next ≡ Some q → has_letter run_letters next ≡ true
      → (r ≡ Err NoThread) ↔ ((history es).threads next.a ≡ None)
  pub no_stranger : (q : Request) → decoded next ≡ Some q → has_letter edit_letters next ≡ true
      → r ≡ Err UnknownUser → ⊥
  -- 6: 'segment (for D, the lock's) has another owner; in G also key made by another'
  pub give : (a b c : ℕ) → decoded next ≡ Some (GiveKey a b c)
      → (r ≡ Err NotOwner) ↔ AnothersSegmentOrKey es a b c
  pub take : (a b c : ℕ) → decoded next ≡ Some (TakeKey a b c)
      → (r ≡ Err NotOwner) ↔ (AnothersSegment es a b × (c < accepted_of letters.K es))
  pub lock : (a b c : ℕ) → decoded next ≡ Some (AddLock a b c)
      → (r ≡ Err NotOwner) ↔ AnothersSegment es a b
  pub drop : (a b : ℕ) → decoded next ≡ Some (DropLock a b)
      → (r ≡ Err NotOwner)
      ↔ ((l : Lock) × Memᴰ l (history es).locks × (l.number ≡ b) × AnothersSegment es a l.segment)
  -- accepted exactly so; of L that is `made` of `LockTexts`
  pub segment_made : (a b : ℕ) → decoded next ≡ Some (NewSegment a b)
      → (is_accepted r ≡ true)
      ↔ ((is_some ((history es).threads a) ≡ true) × (b ≤ 1) × (accepted_of letters.N es < 64))
  pub key_made : (a : ℕ) → decoded next ≡ Some (NewKey a)
      → (is_accepted r ≡ true) ↔ ((is_some ((history es).threads a) ≡ true) × (accepted_of letters.K es < 1024))
  pub key_given : (a b c : ℕ) → decoded next ≡ Some (GiveKey a b c)
      → (is_accepted r ≡ true)
      ↔ ((o : OwnSegment es a b) × (c < accepted_of letters.K es) × (get_or (makers_of es) c 0 ≡ o.thread.user)
      × (is_in (Defined c) o.entry.keys ≡ false) × (length o.entry.keys < 8))
  pub key_taken : (a b c : ℕ) → decoded next ≡ Some (TakeKey a b c)
      → (is_accepted r ≡ true)
      ↔ ((o : OwnSegment es a b) × (c < accepted_of letters.K es) × (is_in (Defined c) o.entry.keys ≡ true))
  pub lock_dropped : (a b : ℕ) → decoded next ≡ Some (DropLock a b)
      → (is_accepted r ≡ true)
      ↔ ((l : Lock) × Memᴰ l (history es).locks × (l.number ≡ b) × OwnSegment es a l.segment)
  -- S: 1 exactly where its user isn't handed out
  pub stranger : (a : ℕ) → decoded next ≡ Some (StartThread a)
      → (r ≡ Err UnknownUser) ↔ (accepted_of letters.U es ≤ a)
  -- Whose everything is after the call. Of a thread: whom an accepted S names, nobody after an accepted E, and else as
  -- before. Of a segment and of a D key: who edits in an accepted N and K, and else as before.
  pub users : (n : ℕ) → user_in (es ++ event next r ∷ []) n
      ≡ cond (counts letters.S (event next r) && eqb n (answer_value r)) (Some next.a)
      (cond (counts letters.E (event next r) && eqb n next.a) None (user_in es n))
  pub owners : (s : ℕ) → owner_in (es ++ event next r ∷ []) s
      ≡ cond (counts letters.N (event next r) && eqb s (answer_value r)) (user_in es next.a) (owner_in es s)
  pub makers : makers_of (es ++ event next r ∷ [])
      ≡ makers_of es ++ cond (counts letters.K (event next r)) (or_default [] (λ u. u ∷ []) (user_in es next.a)) []

pub record Editing : Type 0 where
  pub edits : (xs : List Call) (next : Call) → Edits (events outcome_of xs) next (answer_to outcome_of xs next)
  -- of a thread an edit asks nothing but whose it is: with another thread of the same user in field a it is answered
  -- alike, and leaves the same arrays
  pub alike : (xs : List Call) (next : Call) (q : Request) (a : ℕ) → decoded next ≡ Some q
      → has_letter edit_letters next ≡ true → user_in (events outcome_of xs) a ≡ user_in (events outcome_of xs) next.a
      → step_cells outcome_of (reached outcome_of xs) (by_thread a next)
      ≡ step_cells outcome_of (reached outcome_of xs) next
