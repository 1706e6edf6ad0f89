-- The value so far and the digits that are left make the number.
use Rattle.std.proofs.Common.{◌≡◌, drop}
use Rattle.formula.specs.Internal.Reader.{read_digits}
use Rattle.formula.proofs.number.read_digits.Given as goal

abbrev pub invariant-loop-i : goal.invariant-loop-i
invariant-loop-i l = read_digits 0 (drop l.at l.text) ≡ read_digits l.value (drop l.i l.text)
