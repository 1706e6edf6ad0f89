-- The invariant is that the records left decide what all of them do.
use Prim.Native.Nat.{◌-◌}
use mathlib.Core.Path.{◌≡◌}
use Rattle.journal.specs.Reading.{word, whole_from}
use Rattle.journal.proofs.file.records_fill.Given as goal

abbrev pub invariant-loop : goal.invariant-loop
invariant-loop l = whole_from (l.end - l.counter) l.file l.at ≡ whole_from (word l.file 5) l.file 7
