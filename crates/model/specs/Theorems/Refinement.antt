-- The arrays hold the model: for arrays of the right sizes, whatever numbers are in them, a call on the arrays leaves
-- the state that the call on the model leaves, and answers the same; and so does every list of calls from the empty
-- state. Proved in `proofs/Refinement/EveryCall.antt`.
use Rattle.std.specs.Prelude.{◌≡◌, List}
use Rattle.formula.specs.Outcome.{outcome_of}
use Rattle.formula.specs.Compiler.{Compiler, Laws}
use Rattle.formula.specs.Meaning.{Meaning}
use Rattle.call.specs.Calls.{Call}
use Rattle.model.specs.State.{empty_state}
use Rattle.model.specs.Model.{step}
use Rattle.model.specs.Cells.{Cells, Sized, state_of, empty_cells}
use Rattle.model.specs.Stores.{step_cells}
use Rattle.model.specs.Replay.{state_after, events_of, reached, events}

pub record Refines (compile : Compiler) (d : Cells) (x : Call) : Type 0 where
  pub state : state_of (step_cells compile d x).cells ≡ (step compile (state_of d) x).state
  pub answer : (step_cells compile d x).answer ≡ (step compile (state_of d) x).answer
  pub sized : Sized (step_cells compile d x).cells

pub record Follows (compile : Compiler) (xs : List Call) : Type 0 where
  pub state : state_of (reached compile xs) ≡ state_after compile empty_state xs
  pub events : events compile xs ≡ events_of compile empty_state xs
  pub sized : Sized (reached compile xs)

abbrev pub RefinementByLaws : Type 0
RefinementByLaws =
    (compile : Compiler) (holds : Meaning) → Laws compile holds → (d : Cells) → Sized d → (x : Call)
    → Refines compile d x

pub record Refinement : Type 0 where
  pub call : (d : Cells) → Sized d → (x : Call) → Refines outcome_of d x
  pub list : (xs : List Call) → Follows outcome_of xs
  pub empty : state_of empty_cells ≡ empty_state
