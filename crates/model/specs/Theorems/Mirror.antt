-- The state is what the history says: after any list of calls from the empty state, what the numbers 1 to 9 of the
-- table ask of users, threads, segments, key lists, defined keys and locks, the list of calls and answers tells. (14
-- and 15 are in `Granting`, 11 to 13 and what 10 asks in L in `LockTexts`, what is stored for locks in `StoredLocks`.)
-- And the text of each standing lock spells a formula, which is what the text holds for. Proved in
-- `proofs/Agreement/Mirror.antt`.
use Rattle.std.specs.Prelude.{◌≡◌, Bool, ℕ, ◌+◌, eqb, Some}
use mathlib.Core.List.{List, ◌∷◌, Memᴰ}
use Rattle.product.specs.declared.literal.Key.{Key}
use Rattle.product.specs.declared.literal.Key.TheVariants.{Segment as SegmentKey}
use Rattle.product.specs.Atom.{Atom}
use Rattle.formula.specs.declared.text.Issued.{Issued}
use Rattle.formula.specs.Tree.{ors, Tree, holds}
use Rattle.formula.specs.Text.{Text}
use Rattle.formula.specs.Outcome.{outcome_of}
use Rattle.formula.specs.Meaning.{text_holds, Meaning}
use Rattle.formula.specs.Compiler.{Compiler, Laws}
use Rattle.call.specs.Calls.{Call}
use Rattle.call.specs.Letters as letters
use Rattle.base.specs.Lists.{any, is_some, map_option}
use Rattle.model.specs.Threads.{Thread}
use Rattle.model.specs.State.{State, issued, live_in, is_live, thread_at, editor, is_segment, segment_at, is_lock, lock_segment}
use Rattle.model.specs.Cells.{state_of}
use Rattle.model.specs.History.{Event, Entry, Lock, history, accepted_of, makers_of, issued_by}
use Rattle.model.specs.Replay.{reached, events, history_of}

pub record Mirrors (es : List Event) (d : State) : Type 0 where
  -- handed out are as many users, thread numbers, segments, defined keys and lock numbers as U, S, N, K and L were
  -- accepted
  pub handed_out : issued d ≡ issued_by es
  pub lock_numbers : d.lock_numbers ≡ accepted_of letters.L es
  -- each defined key's maker
  pub makers : d.makers ≡ makers_of es
  -- live threads, as many as S started and E did not end, with their user and frames
  pub threads : live_in d.places + accepted_of letters.E es ≡ accepted_of letters.S es
  pub live : (n : ℕ) → is_live d n ≡ is_some ((history es).threads n)
  pub thread : (n : ℕ) (t : Thread) → (history es).threads n ≡ Some t → thread_at d n ≡ t
  -- who edits: the user of the thread that field a names, if it is live
  pub editors : (n : ℕ) → editor d n ≡ map_option (λ t. t.user) ((history es).threads n)
  -- segments, with their owner, kind and key list, which starts with its own S key
  pub segment : (s : ℕ) → is_segment d s ≡ is_some ((history es).segments s)
  pub owner : (s : ℕ) (e : Entry) → (history es).segments s ≡ Some e → (segment_at d s).owner ≡ e.owner
  pub kind : (s : ℕ) (e : Entry) → (history es).segments s ≡ Some e → (segment_at d s).kind ≡ e.kind
  pub keys : (s : ℕ) (e : Entry) → (history es).segments s ≡ Some e → (segment_at d s).keys ≡ e.keys
  pub own : (s : ℕ) (e : Entry) → (history es).segments s ≡ Some e → (rest : List Key) × (e.keys ≡ SegmentKey s ∷ rest)
  -- standing locks, with their segment
  pub lock : (n : ℕ) → is_lock d n ≡ any (λ l. eqb l.number n) (history es).locks
  pub segment_for : (l : Lock) → Memᴰ l (history es).locks → lock_segment d l.number ≡ l.segment

abbrev pub MirrorByLaws : Type 0
MirrorByLaws =
    (compile : Compiler) (meaning : Meaning) → Laws compile meaning → (xs : List Call)
    → Mirrors (events compile xs) (state_of (reached compile xs))

-- a text of the grammar, under some counts of keys handed out, and the formula that it spells
pub record Spelt (s : List ℕ) : Type 0 where
  pub issue : Issued
  pub tree : Tree ors
  pub text : Text issue s tree
  pub meaning : (ρ : Atom → Bool) → text_holds ρ s ≡ holds ρ tree

pub record Mirror : Type 0 where
  pub state : (xs : List Call) → Mirrors (events outcome_of xs) (state_of (reached outcome_of xs))
  pub formula : (xs : List Call) (l : Lock) → Memᴰ l (history_of outcome_of xs).locks → Spelt l.text
