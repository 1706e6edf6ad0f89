-- A text is too wide exactly where it is in the grammar and some node does not fit.
use mathlib.Core.Path.{◌≡◌, ◌∙◌}
use Prim.Native.Nat.{ℕ}
use native.Mathlib.Omega.{arith}
use Rattle.formula.specs.Outcome.{Outcome, too_wide}
use Rattle.formula.specs.Refusals.{Wide}
use Rattle.formula.specs.Theorems.Width.{TooWideExactly}
use Rattle.formula.proofs.Outcomes.{outcome_text, Judged, formula, none_such, judged, list_wide, judged_wide}

pub too_wide_exactly : TooWideExactly
too_wide_exactly i s = (λ e. go (judged i s) e, λ w. outcome_text i s w.text ∙ rw (list_wide w.tree w.wide))
  where
    go : {o : Outcome} → Judged i s o → o ≡ too_wide → Wide i s
    go (formula t h) e = record { tree = t; text = h; wide = judged_wide t e }
    go (none_such n) e = let z : ◌≡◌ {A = ℕ} 0 1 = cc in absurd (omega arith)
