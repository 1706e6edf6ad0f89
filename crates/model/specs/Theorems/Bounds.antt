-- Document 01, 'Twelve calls': 'Most at a time'. After any list of calls from the empty state every limit holds. It is
-- said of the model, whose key lists, products, frames and makers could be of any length, and so of the state in the
-- arrays too (`Refinement`). Proved in `proofs/Limits/Bounds.antt`.
use Rattle.std.specs.Prelude.{List, ◌≡◌, ℕ, ◌≤◌, length, get_or}
use Rattle.formula.specs.Outcome.{outcome_of}
use Rattle.formula.specs.Compiler.{Compiler}
use Rattle.call.specs.Calls.{Call}
use Rattle.model.specs.Threads.{Thread}
use Rattle.model.specs.State.{State, empty_state, free, taken, live_in, segment_at}
use Rattle.model.specs.Cells.{state_of}
use Rattle.model.specs.Replay.{state_after, reached}

-- the numbers are written out, so that `Limits` is checked too
pub record Within (d : State) : Type 0 where
  pub users : d.users ≤ 32
  pub threads : live_in d.places ≤ 64
  pub segments : length d.segments ≤ 64
  pub defined : length d.makers ≤ 1024
  pub listed : (s : ℕ) → length (segment_at d s).keys ≤ 8
  pub products : (s : ℕ) → length (segment_at d s).products ≤ 8
  pub frames : (i k : ℕ) (t : Thread) → get_or d.places i free ≡ taken k t → length t.frames ≤ 16
  pub thread_numbers : d.thread_numbers ≤ 65536
  pub lock_numbers : d.lock_numbers ≤ 65536

-- for every compiler
abbrev pub BoundsAlways : Type 0
BoundsAlways = (compile : Compiler) (xs : List Call) → Within (state_after compile empty_state xs)

pub record Bounds : Type 0 where
  pub model : (xs : List Call) → Within (state_after outcome_of empty_state xs)
  pub arrays : (xs : List Call) → Within (state_of (reached outcome_of xs))
