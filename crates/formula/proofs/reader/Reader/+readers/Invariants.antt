-- The measure of each reader is the bytes that remain, times 4, and a small number that orders the readers at one
-- place. In a loop the parts up to `left` are joined.
use Rattle.std.proofs.Common.{◌+◌, ◌-◌, ◌*◌, length}
use Rattle.formula.proofs.ReaderSteps.{Joined, and_chain, or_chain}
use Rattle.formula.proofs.reader.Reader.+readers.Given as goal

abbrev pub decreases-read_and : goal.decreases-read_and
decreases-read_and l = 4 * (length l.self.now.text.now - l.at) + 2

abbrev pub decreases-read_bracket : goal.decreases-read_bracket
decreases-read_bracket l = 4 * (length l.self.now.text.now - l.at) + 4

abbrev pub decreases-read_not : goal.decreases-read_not
decreases-read_not l = 4 * (length l.self.now.text.now - l.at) + 1

abbrev pub decreases-read_or : goal.decreases-read_or
decreases-read_or l = 4 * (length l.self.now.text.now - l.at) + 3

abbrev pub invariant-read_and-loop-right : goal.invariant-read_and-loop-right
invariant-read_and-loop-right l = Joined (and_chain l.self.issued l.self.level l.self.odd) l.self.text.now l.at l.left l.rows

abbrev pub decreases-read_and-loop-right : goal.decreases-read_and-loop-right
decreases-read_and-loop-right l = length l.self.text.now - l.left.end

abbrev pub invariant-read_or-loop-right : goal.invariant-read_or-loop-right
invariant-read_or-loop-right l = Joined (or_chain l.self.issued l.self.level l.self.odd) l.self.text.now l.at l.left l.rows

abbrev pub decreases-read_or-loop-right : goal.decreases-read_or-loop-right
decreases-read_or-loop-right l = length l.self.text.now - l.left.end
