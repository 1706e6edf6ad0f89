-- The rows so far are closed up (`ClosedUp`).
use borrow.Author.Rules.{rules}
use mathlib.Core.Path.{sym, ◌∙◌}
use Rattle.locks.proofs.KeptRows.{packing_start, packing_skip, packing_keep, packing_whole}
use Rattle.locks.proofs.rows.close_up.Goals as goal
use Rattle.locks.proofs.rows.close_up.Goals.{then-not-is_of, else-not-is_of}

pub loop-from-init : goal.loop-from-init
loop-from-init c = packing_start

pub loop-from-preserved : goal.loop-from-preserved
loop-from-preserved c =
    let inv = c.loop-from.invariant in
    elim c.if-not-is_of.branch [
      | then-not-is_of w ↦ rw (w.products-is, w.to-is) (packing_keep inv (search rules) (sym c.is_of.ensures ∙ w.if-not-is_of.true))
      | else-not-is_of w ↦ rw (w.products-is, w.to-is) (packing_skip inv (search rules) (sym c.is_of.ensures ∙ w.if-not-is_of.false))
    ]

pub returns : goal.returns
returns c = packing_whole (search rules) c.loop-from.invariant
