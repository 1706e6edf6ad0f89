-- A listing depends on three things: whether the user is known, whether the segment is handed out, and, where it is,
-- on the rows.
use mathlib.Core.Path.{◌≡◌, refl, ap}
use mathlib.Core.Bool.{Bool, true, false}
use mathlib.Core.List.{List, [], ◌∷◌}
use lib.Dec.{ltb}
use lib.ListN.{length}
use Rattle.base.specs.Conditions.{when, first_refusal}
use Rattle.model.specs.declared.answer.Refusal.TheVariants.{UnknownUser, NoSegment, TooFewRows}
use Rattle.model.specs.Refusals.{unless}
use Rattle.rows.specs.declared.row.Row.{Row}
use Rattle.rows.specs.Listing.{Listed, listed_by}

abbrev judged : Bool → Bool → List Row → List Row → Listed Row
judged known handed rows lent =
    listed_by rows lent
    (first_refusal (unless known UnknownUser ∷ unless handed NoSegment ∷ when (ltb (length lent) (length rows)) TooFewRows ∷ []))

by_handed : (known handed : Bool) (rows rows' lent : List Row) → (handed ≡ true → rows ≡ rows') → judged known handed rows lent ≡ judged known handed rows' lent
by_handed false handed rows rows' lent h = refl
by_handed true false rows rows' lent h = refl
by_handed true true rows rows' lent h = ap (λ (rs : List Row). judged true true rs lent) (h refl)

pub same_listing : {known known' handed handed' : Bool} {rows rows' : List Row} (lent : List Row) → known ≡ known' → handed ≡ handed'
    → (handed' ≡ true → rows ≡ rows') → judged known handed rows lent ≡ judged known' handed' rows' lent
same_listing {known} {known'} {handed} {handed'} {rows} {rows'} lent k h r = rw (k, h) (by_handed known' handed' rows rows' lent r)
