-- Outer loop: what decides is what decides from row p on, with the longest grant row found before it. Inner loop: the
-- row opens exactly when the literals up to k agree.
use mathlib.Core.Path.{◌≡◌, sym, ap, subst, ◌∙◌}
use Prim.Native.Nat.{ℕ}
use native.Mathlib.Omega.{arith}
use Rattle.checking.specs.Internal.{GrantHead, head_checked}
use Rattle.checking.proofs.LoopSteps.{left_hit, left_miss, left_end, deciding_as, rest_past, rest_stop, rest_idle, rest_shut, rest_denied, rest_longer, rest_looser, grant_head}
use Rattle.checking.proofs.tightest.decided_after.Goals as goal
use Rattle.checking.proofs.tightest.decided_after.Goals.{then-has+then-can_change+else-loop-k-test+else-has-2, then-has+else-can_change, else-has+else-head-eq0, else-products-test, then-products-test+else-has+then-head-eq0}

head_as : {found found' : ℕ} → found' ≡ found → GrantHead found → GrantHead found'
head_as e g = subst GrantHead (sym e) g

pub products-preserved-then-not-agrees : goal.products-preserved-then-not-agrees
products-preserved-then-not-agrees c =
    let inv = c.products.invariant in (
      inv.0,
      rest_shut (sym c.told-products) inv.1 (omega arith) _ c.has.ensures c.if-has.true
          (left_miss c.loop-k.invariant (λ z. omega arith) _ c.literal_in-literal.ensures _ c.agrees.ensures c.if-not-agrees.true),
    )

pub loop-k-preserved : goal.loop-k-preserved
loop-k-preserved c = left_hit c.loop-k.invariant (λ z. omega arith) _ c.literal_in-literal.ensures _ c.agrees.ensures c.if-not-agrees.false

pub products-preserved : goal.products-preserved
products-preserved c =
    let inv = c.products.invariant in
    let stands = c.has.ensures in (
      elim c.if-has.branch [
        | then-has+then-can_change+else-loop-k-test+else-has-2 w ↦
            head_as w.found-is
            (grant_head (sym c.told-products) inv.1 (omega arith) _ stands w.if-has.true _ w.has-then-can_change.ensures w.if-has-2.false)
        | then-has+else-can_change w ↦ head_as w.found-is inv.0
        | else-has+else-head-eq0 w ↦ head_as w.found-is inv.0
      ],
      elim c.if-has.branch [
        | then-has+then-can_change+else-loop-k-test+else-has-2 w ↦
            deciding_as w.found-is
            (rest_longer (sym c.told-products) inv.1 (omega arith) _ stands w.if-has.true (left_end w.loop-k.invariant (omega arith))
            _ w.has-then-can_change.ensures inv.0 _ w.can_change.ensures w.if-can_change.true w.if-has-2.false)
        | then-has+else-can_change w ↦
            deciding_as w.found-is
            (rest_looser (sym c.told-products) inv.1 (omega arith) _ stands w.if-has.true inv.0 _ w.can_change.ensures w.if-can_change.false)
        | else-has+else-head-eq0 w ↦
            deciding_as w.found-is (rest_idle (sym c.told-products) inv.1 (omega arith) _ stands w.if-has.false w.if-head-eq0.false)
      ],
    )

pub returns-then-has-2 : goal.returns-then-has-2
returns-then-has-2 c =
    c.denied.ensures ∙ ap head_checked
    (rest_denied (sym c.told-products) c.products.invariant.1 (omega arith) _ c.has.ensures c.if-has.true
    (left_end c.loop-k.invariant (omega arith)) _ c.has-then-can_change.ensures c.if-has-2.true)

pub returns-after-products : goal.returns-after-products
returns-after-products c =
    let inv = c.products.invariant in
    c.granted.ensures ∙ ap head_checked
    (elim c.products-test.branch [
      | else-products-test w ↦ rest_past (sym c.told-products) inv.1 (omega arith)
      | then-products-test+else-has+then-head-eq0 w ↦ rest_stop (sym c.told-products) inv.1 (omega arith) w.if-head-eq0.true
    ])
