-- Of an operation the answer is that by the row that decides; of any other number none opens.
use mathlib.Core.Path.{◌≡◌, sym, ap, ◌∙◌}
use mathlib.Core.Bool.{Bool, true, false}
use Prim.Native.Nat.{ℕ}
use lib.Dec.{eqb}
use borrow.Author.Tests.{eq-eqb, ne_eqb}
use Rattle.base.proofs.Truth.{or_right}
use Rattle.model.specs.Operations.{execute, is_access}
use Rattle.model.specs.Cells.{Table}
use Rattle.checking.specs.Deciding.{Checked, check_of}
use Rattle.checking.specs.Internal.{opening_of, head_checked, code_checked}
use Rattle.checking.proofs.DecidingRow.{answered, no_check}
use Rattle.checking.proofs.check.Goals as goal
use Rattle.checking.proofs.check.Goals.{then-is_access, else-is_access+then-operation-eq-EXECUTE, else-is_access+else-operation-eq-EXECUTE}

module _ (t w : Table) (n code : ℕ) (r : Checked) (is : r ≡ code_checked code) (b : Bool) (i : b ≡ is_access n) where
  accessed : b ≡ true → (x : ℕ) → code_checked x ≡ head_checked (opening_of t w n) → code ≡ x → r ≡ check_of t w n
  accessed e x o j = answered t w n code r (or_right (eqb n execute) (sym i ∙ e)) (ap code_checked j ∙ o) is

  executed : n ≡ execute → (x : ℕ) → code_checked x ≡ head_checked (opening_of t w execute) → code ≡ x → r ≡ check_of t w n
  executed e x o j =
      answered t w n code r (rw (eq-eqb n execute e)) (ap code_checked j ∙ o ∙ ap (λ (k : ℕ). head_checked (opening_of t w k)) (sym e)) is

  unasked : b ≡ false → (n ≡ execute → ⊥) → code ≡ 131072 → r ≡ check_of t w n
  unfolding code_checked
  unasked e z j = is ∙ ap code_checked j ∙ no_check t w n (rw (ne_eqb n execute z) (sym i ∙ e))

pub returns : goal.returns
returns c =
    let is = c.checked_in.ensures in
    elim c.if-is_access.branch [
      | then-is_access w ↦ accessed _ _ _ _ _ is _ c.is_access.ensures w.if-is_access.true _ w.opening-code.ensures w.code-is
      | else-is_access+then-operation-eq-EXECUTE w ↦
          executed _ _ _ _ _ is _ c.is_access.ensures w.if-operation-eq-EXECUTE.true _ w.opening.ensures w.code-is
      | else-is_access+else-operation-eq-EXECUTE w ↦
          unasked _ _ _ _ _ is _ c.is_access.ensures w.if-is_access.false w.if-operation-eq-EXECUTE.false w.code-is
    ]
