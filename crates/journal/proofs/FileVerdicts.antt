-- A verdict is a file's first refusal, or none.
use Rattle.std.specs.Prelude.{Option, None, Some, Ok, Err}
use mathlib.Core.Path.{◌≡◌, refl}
use Rattle.journal.specs.declared.file.Refusal.{Refusal}
use Rattle.journal.specs.Reading.{verdict}

pub refused_some : (o : Option Refusal) {f : Refusal} → verdict o ≡ Err f → o ≡ Some f
refused_some None h = cc
refused_some (Some g) h = cc

pub readable_none : (o : Option Refusal) → verdict o ≡ Ok tt → o ≡ None
readable_none None h = refl
readable_none (Some g) h = cc
