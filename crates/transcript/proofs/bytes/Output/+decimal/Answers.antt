-- A number's digits are those of its tenth part and the last one.
use native.Mathlib.Omega.{arith}
use Rattle.transcript.proofs.Decimals.{one_digit, decimal_grows}
use Rattle.transcript.proofs.PutBytes.{put_digit, put_last, room_left}
use Rattle.transcript.proofs.bytes.Output.+decimal.Goals.{then-n-ge10, else-n-ge10}
use Rattle.transcript.proofs.bytes.Output.+decimal.Goals as goal

pub decimal-requires : goal.decimal-requires
decimal-requires t c = (omega arith, omega (arith, decimal_grows c.args.n c.if-n-ge10.true))

pub put-requires : goal.put-requires
put-requires t c = elim c.if-n-ge10.branch [
  | then-n-ge10 w ↦ rw w.self-is (room_left _ 1 w.decimal.ensures c.requires (omega (arith, decimal_grows c.args.n w.if-n-ge10.true)))
  | else-n-ge10 w ↦ rw w.self-is (omega (arith, one_digit c.args.n w.if-n-ge10.false))
]

pub returns : goal.returns
returns t c = elim c.if-n-ge10.branch [
  | then-n-ge10 w ↦ put_last c.args.n w.if-n-ge10.true w.decimal.ensures (rw (← w.self-is) c.put.ensures)
  | else-n-ge10 w ↦ put_digit c.args.n w.if-n-ge10.false (rw (← w.self-is) c.put.ensures)
]
