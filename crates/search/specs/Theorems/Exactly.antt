-- Request P3 in words: 'the place, 0 for the newest, of the newest open call that hands the key over, or none exactly
-- when no open call does', and 2 exactly when the thread is not live. It is so in every state, for every thread number
-- and every key. Proved in `proofs/Exactly.antt`.
use Rattle.std.specs.Prelude.{◌≡◌, true, false, List, [], ◌↔◌, ℕ, ◌<◌, length, get_or, Ok, Err, None, Some}
use Rattle.product.specs.declared.literal.Key.{Key}
use Rattle.model.specs.declared.answer.Refusal.{Refusal}
use Rattle.model.specs.declared.answer.Refusal.TheVariants.{NoThread}
use Rattle.model.specs.Limits.{most_frames}
use Rattle.model.specs.Threads.{Frame, hands}
use Rattle.model.specs.State.{State, is_live, thread_at}
use Rattle.model.specs.Cells.{Cells, state_of}
use Rattle.search.specs.Searching.{searched}

abbrev pub no_frame : Frame
no_frame = record { segment = 0; keys = [] }

-- the open call at place p of a list with the newest first
abbrev pub call_at : List Frame → ℕ → Frame
call_at fs p = get_or fs p no_frame

-- call p hands the key over, and no newer one does
pub record NewestAt (k : Key) (fs : List Frame) (p : ℕ) : Type 0 where
  pub inside : p < length fs
  pub hands_over : hands (call_at fs p) k ≡ true
  pub newer : (q : ℕ) → q < p → hands (call_at fs q) k ≡ false

-- none does
abbrev pub NoneHandsOver : Key → List Frame → Type 0
NoneHandsOver k fs = (p : ℕ) → p < length fs → hands (call_at fs p) k ≡ false

pub record Exact (d : State) (n : ℕ) (k : Key) : Type 0 where
  pub at : (p : ℕ) → (searched d n k ≡ Ok (Some p)) ↔ ((is_live d n ≡ true) × NewestAt k (thread_at d n).frames p)
  pub nowhere : (searched d n k ≡ Ok None) ↔ ((is_live d n ≡ true) × NoneHandsOver k (thread_at d n).frames)
  pub refused : (r : Refusal) → (searched d n k ≡ Err r) ↔ ((is_live d n ≡ false) × (r ≡ NoThread))

abbrev pub Exactly : Type 0
Exactly = (d : State) (n : ℕ) (k : Key) → Exact d n k

-- a place is below 16, whatever numbers are in the arrays
abbrev pub LowPlaces : Type 0
LowPlaces = (d : Cells) (n : ℕ) (k : Key) (p : ℕ) → searched (state_of d) n k ≡ Ok (Some p) → p < most_frames
