-- Lists of calls: each gets what the one before it left, in the arrays and in the model, and each call stands with its
-- answer in a list of events.
use Rattle.std.specs.Prelude.{List, [], ◌∷◌}
use Rattle.formula.specs.Compiler.{Compiler}
use Rattle.call.specs.Calls.{Call}
use Rattle.model.specs.Answers.{Answer}
use Rattle.model.specs.State.{State}
use Rattle.model.specs.Model.{step}
use Rattle.model.specs.Cells.{Cells, empty_cells}
use Rattle.model.specs.Stores.{step_cells}
use Rattle.model.specs.History.{Event, event, History, history}

module _ (compile : Compiler) where
  abbrev pub cells_after : Cells → List Call → Cells
  cells_after d [] = d
  cells_after d (x ∷ xs) = cells_after (step_cells compile d x).cells xs

  abbrev pub events_in : Cells → List Call → List Event
  events_in d [] = []
  events_in d (x ∷ xs) = event x (step_cells compile d x).answer ∷ events_in (step_cells compile d x).cells xs

  -- the same on the model
  abbrev pub state_after : State → List Call → State
  state_after d [] = d
  state_after d (x ∷ xs) = state_after (step compile d x).state xs

  abbrev pub events_of : State → List Call → List Event
  events_of d [] = []
  events_of d (x ∷ xs) = event x (step compile d x).answer ∷ events_of (step compile d x).state xs

  -- from the empty state: the arrays, the events and the history after a list of calls, and what the next call answers
  abbrev pub reached : List Call → Cells
  reached xs = cells_after empty_cells xs

  abbrev pub events : List Call → List Event
  events xs = events_in empty_cells xs

  abbrev pub history_of : List Call → History
  history_of xs = history (events xs)

  abbrev pub answer_to : List Call → Call → Answer
  answer_to xs next = (step_cells compile (reached xs) next).answer
