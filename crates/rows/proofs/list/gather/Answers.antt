-- The rows so far, and what the rest of the table gives (`Gathering`).
use Rattle.rows.proofs.RowsMade.{gathering_start, gathering_skip, gathering_keep, gathering_same, gathered_all, gathered_early}
use Rattle.std.proofs.Common.{rules, sym, ◌∙◌}
use Rattle.rows.proofs.list.gather.Goals as goal
use Rattle.rows.proofs.list.gather.Goals.{then-shown, then-shown-via-then-shown, then-shown-via-else-shown+then-ne, else-shown+else-ne}

pub loop-product-init : goal.loop-product-init
loop-product-init c = gathering_start _ _ _ c.empty-listing.ensures

pub returns-then-head-eq0 : goal.returns-then-head-eq0
returns-then-head-eq0 c = gathered_early c.loop-product.invariant (search rules) (search rules) c.if-head-eq0.true

pub loop-product-preserved : goal.loop-product-preserved
loop-product-preserved c =
    let inv = c.loop-product.invariant in
    let z = c.if-head-eq0.false in
    elim c.if-shown.branch [
      | then-shown w ↦
          gathering_same (w.listing-is ∙ w.push.ensures) w.last-is
          (gathering_keep inv (search rules) z (search rules)
          (elim w.then-shown.branch [ then-shown-via-then-shown v ↦ rw v.if-shown.true | then-shown-via-else-shown+then-ne v ↦ rw v.if-shown.false (sym v.ne.ensures ∙ v.if-ne.true) ])
          w.row_of.ensures)
      | else-shown+else-ne w ↦ gathering_same w.listing-is w.last-is (gathering_skip inv (search rules) z (rw w.if-shown.false (sym w.ne.ensures ∙ w.if-ne.false)))
    ]

pub returns : goal.returns
returns c = gathered_all c.loop-product.invariant (search rules) (search rules)
