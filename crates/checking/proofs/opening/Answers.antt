-- Outer loop: what decides is what decides from row p on, with no grant row found before it. Inner loop: the row opens
-- exactly when the literals up to k agree.
use mathlib.Core.Path.{◌≡◌, refl, sym, ap, ◌∙◌}
use Prim.Native.Nat.{ℕ}
use native.Mathlib.Omega.{arith}
use Rattle.checking.specs.Internal.{head_checked, code_checked}
use Rattle.checking.proofs.LoopSteps.{left_hit, left_miss, left_end, deciding_start, rest_past, rest_stop, rest_idle, rest_shut, rest_denied, rest_first}
use Rattle.checking.proofs.opening.Goals as goal

-- with no row that opens there is no grant
none_opens : {r : ℕ} → 0 ≡ r → code_checked 131072 ≡ head_checked r
unfolding code_checked head_checked
none_opens e = ap head_checked e

pub products-init : goal.products-init
products-init c = deciding_start _ _ c.of-frames.ensures

pub products-preserved-then-not-agrees : goal.products-preserved-then-not-agrees
products-preserved-then-not-agrees c =
    rest_shut (sym c.told-products) c.products.invariant (omega arith) _ c.has.ensures c.if-has.true
    (left_miss c.loop-k.invariant (λ z. omega arith) _ c.literal_in-literal.ensures _ c.agrees.ensures c.if-not-agrees.true)

pub loop-k-preserved : goal.loop-k-preserved
loop-k-preserved c = left_hit c.loop-k.invariant (λ z. omega arith) _ c.literal_in-literal.ensures _ c.agrees.ensures c.if-not-agrees.false

pub products-preserved : goal.products-preserved
products-preserved c =
    rest_idle (sym c.told-products) c.products.invariant (omega arith) _ c.has.ensures c.if-has.false c.if-head-eq0.false

pub returns-then-has-2 : goal.returns-then-has-2
returns-then-has-2 c =
    c.denied.ensures ∙ ap head_checked
    (rest_denied (sym c.told-products) c.products.invariant (omega arith) _ c.has.ensures c.if-has.true
    (left_end c.loop-k.invariant (omega arith)) _ c.has-then-has.ensures c.if-has-2.true)

pub returns-else-has-2 : goal.returns-else-has-2
returns-else-has-2 c =
    c.decided_after.ensures ∙ ap head_checked
    (sym (rest_first (sym c.told-products) c.products.invariant (omega arith) _ c.has.ensures c.if-has.true
    (left_end c.loop-k.invariant (omega arith)) _ c.has-then-has.ensures refl c.if-has-2.false).rest)

pub returns-after-products : goal.returns-after-products
returns-after-products c = none_opens (rest_past (sym c.told-products) c.products.invariant (omega arith))

pub returns-then-head-eq0 : goal.returns-then-head-eq0
returns-then-head-eq0 c = none_opens (rest_stop (sym c.told-products) c.products.invariant (omega arith) c.if-head-eq0.true)
