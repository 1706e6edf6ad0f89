-- By computing.
use mathlib.Core.Path.{refl}
use Rattle.transcript.specs.Theorems.OneTable.{OneTable}

pub one_table : OneTable
one_table = record { malformed = refl; too_wide = refl; unsatisfiable = refl; corrupt_call = refl; full_file = refl; corrupt_file = refl }
