-- Whether a number begins there.
use Rattle.std.proofs.Common.{sym, ◌∙◌}
use Rattle.formula.proofs.Numerals.{number_none, number_some}
use Rattle.formula.specs.Internal.Readers.{no_digits}
use Rattle.formula.proofs.number.read_number.Goals as goal

pub returns-then-begins_number : goal.returns-then-begins_number
returns-then-begins_number c =
    let b = rw (c.byte_at.ensures, c.byte_at-2.ensures) at c.begins_number.ensures in
    rw (number_some c.args.text.now c.args.at (sym b ∙ c.if-begins_number.true)) c.read_digits.ensures

pub returns-else-begins_number : goal.returns-else-begins_number
returns-else-begins_number c =
    let b = rw (c.byte_at.ensures, c.byte_at-2.ensures) at c.begins_number.ensures in
    rw (number_none c.args.text.now c.args.at (sym b ∙ c.if-begins_number.false)) no_digits
