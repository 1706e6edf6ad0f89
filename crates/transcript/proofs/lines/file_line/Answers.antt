-- The three pieces of the line are put one after the other, where there is room for them.
use mathlib.Core.Path.{refl}
use native.Mathlib.Omega.{arith}
use Rattle.std.proofs.Common.{rules}
use Rattle.transcript.proofs.PutBytes.{room_left}
use Rattle.transcript.proofs.PutLines.{room, file_line_put, file_digits}
use Rattle.transcript.proofs.lines.file_line.Goals as goal

pub decimal-requires : goal.decimal-requires
decimal-requires c =
    room_left 11 _ c.put.ensures (omega arith) (omega (arith, file_digits c.args.refusal c.from.ensures))

pub put-requires-2 : goal.put-requires-2
put-requires-2 c =
    room_left 3 1 c.decimal.ensures (room_left 11 3 c.put.ensures (omega arith) (omega arith))
    (omega (arith, file_digits c.args.refusal c.from.ensures))

pub returns : goal.returns
returns c =
    let f = c.args.refusal in
    let whole = file_line_put f c.from.result c.from.ensures c.put.ensures c.decimal.ensures c.put-2.ensures in
    room 11 refl (search (rules, whole.same)) (omega arith)
    (omega (arith, file_digits f c.from.ensures, c.put.ensures.ends, c.decimal.ensures.ends, c.put-2.ensures.ends))
    whole
