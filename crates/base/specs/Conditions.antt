-- Document 01, under the table of refusals: 'Checked in that order'. The first of a list of conditions that holds
-- refuses; over any type of refusals.
use Rattle.std.specs.Prelude.{Bool, cond, List, [], ◌∷◌, Option, None, Some}

pub record Condition (R : Type 0) : Type 0 where
  pub holds : Bool
  pub refusal : R

abbrev pub when : {R : Type 0} → Bool → R → Condition R
when b f = record { holds = b; refusal = f }

-- the refusal of the first condition that holds
abbrev pub first_refusal : {R : Type 0} → List (Condition R) → Option R
first_refusal [] = None
first_refusal (x ∷ xs) = cond x.holds (Some x.refusal) (first_refusal xs)
