-- A text that none of the three conditions on it refuses has products.
use mathlib.Core.Path.{◌≡◌, refl}
use mathlib.Core.Bool.{false, true≢false}
use Rattle.formula.specs.Outcome.{Outcome, accepted, malformed, too_wide, unsatisfiable, sum_in}
use Rattle.model.specs.Refusals.{is_malformed, is_too_wide, is_unsatisfiable}

pub compiled : (o : Outcome) → is_malformed o ≡ false → is_too_wide o ≡ false → is_unsatisfiable o ≡ false → o ≡ accepted (sum_in o)
compiled (accepted ps) m w u = refl
compiled malformed m w u = absurd (true≢false m)
compiled too_wide m w u = absurd (true≢false w)
compiled unsatisfiable m w u = absurd (true≢false u)
