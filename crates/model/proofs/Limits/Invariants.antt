-- What every accepted call keeps, every list of calls keeps: a refused call changes nothing.
use Rattle.std.specs.Prelude.{Option, None, Some}
use mathlib.Core.Path.{◌≡◌, refl}
use mathlib.Core.List.{List, [], ◌∷◌}
use Prim.Native.Nat.{ℕ}
use Rattle.formula.specs.Compiler.{Compiler}
use Rattle.call.specs.declared.request.Request.{Request}
use Rattle.call.specs.Calls.{Decoded}
use Rattle.call.specs.Calls.{Call, decoded}
use Rattle.base.specs.Conditions.{first_refusal}
use Rattle.model.specs.declared.answer.Refusal.{Refusal}
use Rattle.model.specs.State.{State}
use Rattle.model.specs.Refusals.{conditions}
use Rattle.model.specs.Effects.{update}
use Rattle.model.specs.Model.{judged, step_decoded, step}
use Rattle.model.specs.Replay.{state_after}

module _ (compile : Compiler) (Holds : State → Type 0)
    (keeps : (d : State) → Holds d → (text : List ℕ) (q : Request) → first_refusal (conditions compile d q text) ≡ None → Holds (update compile d q text)) where
  keep_judged : (d : State) → Holds d → (text : List ℕ) (q : Request) (o : Option Refusal) → first_refusal (conditions compile d q text) ≡ o
      → Holds (judged compile d q text o).state
  keep_judged d h text q None e = keeps d h text q e
  keep_judged d h text q (Some r) e = h

  keep_decoded : (d : State) → Holds d → (text : List ℕ) (x : Decoded) → Holds (step_decoded compile d x text).state
  keep_decoded d h text None = h
  keep_decoded d h text (Some q) = keep_judged d h text q (first_refusal (conditions compile d q text)) refl

  keep_step : (d : State) → Holds d → (x : Call) → Holds (step compile d x).state
  unfolding step
  keep_step d h x = keep_decoded d h x.text (decoded x)

  pub keep_calls : (d : State) → Holds d → (xs : List Call) → Holds (state_after compile d xs)
  keep_calls d h [] = h
  keep_calls d h (x ∷ xs) = keep_calls (step compile d x).state (keep_step d h x) xs
