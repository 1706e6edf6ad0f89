-- The loop carries a literal upwards (`Placing`).
use Rattle.std.proofs.Common.{ℕ, ◌+◌, ap, ◌∙◌, set}
use Rattle.product.proofs.Insertion.{Inserted, placing_same, placing_put, placing_keep, placing_as, placing_last, inserted, room_left}
use Rattle.product.proofs.DerivedOrders.{equal_same}
use Rattle.product.proofs.row.Wide.insert.Goals as goal
use Rattle.product.proofs.row.Wide.insert.Goals.{else-is_before, then-is_before}

pub loop-i-preserved : goal.loop-i-preserved
loop-i-preserved c =
    let room = room_left c.self.invariant c.self.view_is c.requires in
    let p = c.loop-i.invariant.0 in
    let e = equal_same c.loop-i.carried c.from-y.result c.eq.ensures in
    elim c.if-is_before.branch [
      | then-is_before w ↦ (
        placing_as (ap (λ s. s.cells) w.self-inside-is) w.carried-is
            (placing_put room p c.loop-i-test.true _ c.from-y.ensures e c.if-eq.false c.is_before.ensures w.if-is_before.true w.from.ensures),
        ap (λ s. s.size) w.self-inside-is ∙ c.loop-i.invariant.1,
      )
      | else-is_before w ↦ (
        placing_as (ap (λ s. s.cells) w.self-inside-is) w.carried-is
            (placing_keep room p c.loop-i-test.true _ c.from-y.ensures e c.if-eq.false c.is_before.ensures w.if-is_before.false),
        ap (λ s. s.size) w.self-inside-is ∙ c.loop-i.invariant.1,
      )
    ]

-- it is there: what the cells are
there : (c : goal.Then-eq) → Inserted c.args.x c.self.inside.size c.self.inside.cells c.loop-i.self-inside.cells c.self.inside.size
there c =
    placing_same (room_left c.self.invariant c.self.view_is c.requires) c.loop-i.invariant.0 c.loop-i-test.true _ c.from-y.ensures
    (equal_same c.loop-i.carried c.from-y.result c.eq.ensures) c.if-eq.true

pub returns-then-eq-clause-product : goal.returns-then-eq-clause-product
returns-then-eq-clause-product c = (inserted c.self.invariant c.self.view_is c.loop-i.invariant.1 (there c)).0

pub returns-then-eq-clause-few : goal.returns-then-eq-clause-few
returns-then-eq-clause-few c = (inserted c.self.invariant c.self.view_is c.loop-i.invariant.1 (there c)).1

pub invariant_of-self : goal.invariant_of-self
invariant_of-self c = (inserted c.self.invariant c.self.view_is c.loop-i.invariant.1 (there c)).2

-- the last one carried stands at the end
last : (c : goal.After-self-1)
    → Inserted c.args.x c.self.inside.size c.self.inside.cells (set c.loop-i.self-inside.cells c.loop-i.self-inside.size c.from-2.result) (c.self.inside.size + 1)
last c =
    placing_last (room_left c.self.invariant c.self.view_is c.requires) c.loop-i.invariant.0 c.loop-i-test.false c.loop-i.invariant.1 c.from-2.ensures

pub invariant_of-self-2 : goal.invariant_of-self-2
invariant_of-self-2 c = (inserted c.self.invariant c.self.view_is (ap (λ (k : ℕ). k + 1) c.loop-i.invariant.1) (last c)).2

pub returns-clause-product : goal.returns-clause-product
returns-clause-product c = (inserted c.self.invariant c.self.view_is (ap (λ (k : ℕ). k + 1) c.loop-i.invariant.1) (last c)).0

pub returns-clause-few : goal.returns-clause-few
returns-clause-few c = (inserted c.self.invariant c.self.view_is (ap (λ (k : ℕ). k + 1) c.loop-i.invariant.1) (last c)).1
