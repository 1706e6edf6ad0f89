-- Demand 1: 'Refused are calls .. that meet a condition in document 01's table, each by the first such number in its
-- order and never otherwise, with the desk and every lent byte unchanged. Accepted is all the rest.' Over the arrays,
-- whatever numbers are in them, and over every compiler. Proved in `proofs/Refusals/Refusing.antt`.
use Rattle.std.specs.Prelude.{◌≡◌, Bool, true, false, ◌↔◌, ℕ, ◌≤◌, eqb, Err, Some, None}
use mathlib.Core.List.{List, [], ◌∷◌, ◌++◌, map, Memᴰ}
use Rattle.formula.specs.Compiler.{Compiler}
use Rattle.call.specs.declared.request.Request.{Request}
use Rattle.call.specs.Calls.{Call, decoded}
use Rattle.base.specs.Conditions.{Condition}
use Rattle.model.specs.declared.answer.Refusal.{Refusal}
use Rattle.model.specs.declared.answer.Refusal.TheVariants.{Corrupt}
use Rattle.model.specs.Answers.{refusal_number, is_accepted}
use Rattle.base.specs.Lists.{any, index_of, rising}
use Rattle.model.specs.State.{State}
use Rattle.model.specs.Refusals.{conditions}
use Rattle.model.specs.Cells.{Cells, state_of}
use Rattle.model.specs.Stores.{step_cells}

abbrev pub some_holds : List (Condition Refusal) → Bool
some_holds cs = any (λ c. c.holds) cs

-- the first condition that holds has the refusal r
pub record FirstHolds (r : Refusal) (cs : List (Condition Refusal)) : Type 0 where
  pub earlier : List (Condition Refusal)
  pub condition : Condition Refusal
  pub later : List (Condition Refusal)
  pub split : cs ≡ earlier ++ condition ∷ later
  pub none_earlier : some_holds earlier ≡ false
  pub holds : condition.holds ≡ true
  pub refusal : condition.refusal ≡ r

-- the table's order: 18 'before all else', 'Checked in that order, 10 last'; 19, which no call gives, stands before 10
abbrev pub order : List ℕ
order = 18 ∷ 1 ∷ 2 ∷ 3 ∷ 4 ∷ 5 ∷ 6 ∷ 7 ∷ 8 ∷ 9 ∷ 11 ∷ 12 ∷ 13 ∷ 14 ∷ 15 ∷ 19 ∷ 10 ∷ []

abbrev pub rank : Refusal → ℕ
rank r = index_of (eqb (refusal_number r)) order

pub record Refuses (compile : Compiler) (d : Cells) (x : Call) : Type 0 where
  -- 18 'before all else', exactly where the call is not well formed
  pub corrupt : ((step_cells compile d x).answer ≡ Err Corrupt) ↔ (decoded x ≡ None)
  -- a well formed call is refused exactly by the first of its conditions that holds, and accepted exactly where none
  -- does
  pub refused : (q : Request) → decoded x ≡ Some q → (r : Refusal)
      → ((step_cells compile d x).answer ≡ Err r) ↔ FirstHolds r (conditions compile (state_of d) q x.text)
  pub accepted : (q : Request) → decoded x ≡ Some q
      → (is_accepted (step_cells compile d x).answer ≡ true)
      ↔ (some_holds (conditions compile (state_of d) q x.text) ≡ false)
  -- no condition that holds is earlier in the table
  pub earliest : (q : Request) → decoded x ≡ Some q → (r : Refusal) → (step_cells compile d x).answer ≡ Err r
      → (c : Condition Refusal) → Memᴰ c (conditions compile (state_of d) q x.text) → c.holds ≡ true
      → rank r ≤ rank c.refusal
  -- a refusal changes no cell
  pub unchanged : (r : Refusal) → (step_cells compile d x).answer ≡ Err r → (step_cells compile d x).cells ≡ d

abbrev pub Refusing : Type 0
Refusing = (compile : Compiler) (d : Cells) (x : Call) → Refuses compile d x

abbrev pub ranks : List (Condition Refusal) → List ℕ
ranks cs = map (λ c. rank c.refusal) cs

abbrev pub InOrder : Type 0
InOrder =
    (compile : Compiler) (d : State) (q : Request) (text : List ℕ)
    → rising (ranks (conditions compile d q text)) ≡ true

-- every refusal has its place in that order
abbrev pub Ranked : Type 0
Ranked = (r : Refusal) → any (eqb (refusal_number r)) order ≡ true
