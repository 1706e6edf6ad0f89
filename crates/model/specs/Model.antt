-- One call on the state: 18 if it isn't well formed, else the first refusal that holds, else its change and its answer.
use Rattle.std.specs.Prelude.{List, ℕ, Ok, Err, Option, None, Some}
use Rattle.formula.specs.Compiler.{Compiler}
use Rattle.call.specs.declared.request.Request.{Request}
use Rattle.call.specs.Calls.{Decoded}
use Rattle.call.specs.Calls.{Call, decoded}
use Rattle.base.specs.Conditions.{first_refusal}
use Rattle.model.specs.declared.answer.Refusal.{Refusal}
use Rattle.model.specs.declared.answer.Refusal.TheVariants.{Corrupt}
use Rattle.model.specs.Answers.{Answer}
use Rattle.model.specs.State.{State}
use Rattle.model.specs.Refusals.{conditions}
use Rattle.model.specs.Effects.{update, answer}

module _ (compile : Compiler) where
  abbrev pub judged : State → Request → List ℕ → Option Refusal → record { state : State; answer : Answer }
  judged d q text None = record { state = update compile d q text; answer = Ok (answer compile d q text) }
  judged d q text (Some r) = record { state = d; answer = Err r }

  -- a call that is not well formed 'is 18 before all else'
  abbrev pub step_decoded : State → Decoded → List ℕ → record { state : State; answer : Answer }
  step_decoded d None text = record { state = d; answer = Err Corrupt }
  step_decoded d (Some q) text = judged d q text (first_refusal (conditions compile d q text))

  unfoldable pub step : State → Call → record { state : State; answer : Answer }
  step d x = step_decoded d (decoded x) x.text
