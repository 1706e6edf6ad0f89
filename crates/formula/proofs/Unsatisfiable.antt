-- A text is unsatisfiable exactly where it is in the grammar, every node fits and no valuation makes its formula true:
-- then its list is empty, since each product of a list opens for some valuation.
use mathlib.Core.Path.{◌≡◌, ◌∙◌}
use Prim.Native.Nat.{ℕ}
use native.Mathlib.Omega.{arith}
use Rattle.formula.specs.Outcome.{Outcome, too_wide, unsatisfiable}
use Rattle.formula.specs.Refusals.{Never}
use Rattle.formula.specs.Theorems.Unsatisfiable.{UnsatisfiableExactly}
use Rattle.formula.proofs.Nodes.{products_empty}
use Rattle.formula.proofs.Outcomes.{outcome_text, Judged, formula, none_such, judged, list_fits, judged_fits, judged_unsatisfiable}

pub unsatisfiable_exactly_lem : UnsatisfiableExactly
unsatisfiable_exactly_lem i s =
    (λ e. go (judged i s) e, λ n. outcome_text i s n.text ∙ rw (list_fits n.tree n.fit, (products_empty n.tree).1 n.never))
  where
    other : unsatisfiable ≡ too_wide → ⊥
    other e = let z : ◌≡◌ {A = ℕ} 0 1 = cc in omega arith

    go : {o : Outcome} → Judged i s o → o ≡ unsatisfiable → Never i s
    go (formula t h) e =
        let f = judged_fits t unsatisfiable e other in
        record { tree = t; text = h; fit = f; never = (products_empty t).0 (judged_unsatisfiable t e f) }
    go (none_such n) e = let z : ◌≡◌ {A = ℕ} 0 1 = cc in absurd (omega arith)
