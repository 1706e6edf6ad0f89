-- A refusal is the first test that fails; the rows are those of the segment's table.
use Rattle.rows.proofs.MadeLists.{makes_refused, makes_accepted, unknown_user, no_segment_lem, too_few, enough}
use mathlib.Core.Path.{sym, ◌∙◌}
use Rattle.rows.proofs.list.make.Goals as goal

pub returns-then-not-is_user : goal.returns-then-not-is_user
returns-then-not-is_user c = makes_refused (λ d. unknown_user _ _ _ _ (sym c.is_user.ensures ∙ c.if-not-is_user.true))

pub returns-then-segments-s : goal.returns-then-segments-s
returns-then-segments-s c =
    makes_refused (λ d. no_segment_lem _ _ _ _ (sym c.is_user.ensures ∙ c.if-not-is_user.false) c.segments.ensures.count c.if-segments-s.true)

pub returns-then-lent-listing : goal.returns-then-lent-listing
returns-then-lent-listing c =
    makes_refused
    (λ d. too_few _ _ _ _ (sym c.is_user.ensures ∙ c.if-not-is_user.false) c.segments.ensures.count c.if-segments-s.false c.gather-listing.ensures c.if-lent-listing.true)

pub returns : goal.returns
returns c =
    makes_accepted c.gather-listing.ensures.few c.if-lent-listing.false
    (λ d. enough _ _ _ _ (sym c.is_user.ensures ∙ c.if-not-is_user.false) c.segments.ensures.count c.if-segments-s.false c.gather-listing.ensures c.if-lent-listing.false)
