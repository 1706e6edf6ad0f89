-- The measure is the number.
use Rattle.transcript.proofs.bytes.Output.+decimal.Given as goal

abbrev pub decreases-decimal : goal.decreases-decimal
decreases-decimal l = l.n
