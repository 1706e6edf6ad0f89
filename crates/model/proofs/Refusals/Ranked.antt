-- One by one, computed.
use mathlib.Core.Path.{refl}
use Rattle.model.specs.declared.answer.Refusal.TheVariants.{UnknownUser, NoThread, NoSegment, NoKey, NoLock, NotOwner, Unfit, AlreadyPresent, NotPresent, Full, Malformed, TooWide, Unsatisfiable, Denied, NotGranted, Corrupt, TooFewRows}
use Rattle.model.specs.Theorems.Refusing.{Ranked}

pub ranked : Ranked
ranked UnknownUser = refl
ranked NoThread = refl
ranked NoSegment = refl
ranked NoKey = refl
ranked NoLock = refl
ranked NotOwner = refl
ranked Unfit = refl
ranked AlreadyPresent = refl
ranked NotPresent = refl
ranked Full = refl
ranked Malformed = refl
ranked TooWide = refl
ranked Unsatisfiable = refl
ranked (Denied lock) = refl
ranked NotGranted = refl
ranked Corrupt = refl
ranked TooFewRows = refl
