-- The four pieces of a line are put one after the other, where there is room for the longest line.
use mathlib.Core.Path.{refl}
use Prim.Native.Nat.{◌<◌}
use native.Mathlib.Omega.{arith}
use Rattle.std.proofs.Common.{rules}
use Rattle.transcript.proofs.Decimals.{five_digits}
use Rattle.transcript.proofs.PutBytes.{room_left}
use Rattle.transcript.proofs.PutLines.{room, line_put}
use Rattle.transcript.proofs.lines.line.Goals as goal

pub decimal-requires : goal.decimal-requires
decimal-requires c =
    let place = c.args.place in
    let word : place < 65536 = omega arith in
    omega (arith, five_digits place word)

pub put-requires : goal.put-requires
put-requires c =
    let place = c.args.place in
    let word : place < 65536 = omega arith in
    room_left 20 3 c.decimal.ensures (omega arith) (omega (arith, five_digits place word))

pub outcome-requires : goal.outcome-requires
outcome-requires c =
    let place = c.args.place in
    let word : place < 65536 = omega arith in
    room_left 15 11 c.put.ensures (room_left 20 15 c.decimal.ensures (omega arith) (omega (arith, five_digits place word))) (omega arith)

pub put-requires-2 : goal.put-requires-2
put-requires-2 c =
    let place = c.args.place in
    let word : place < 65536 = omega arith in
    room_left 12 1 c.outcome.ensures.0
    (room_left 15 12 c.put.ensures (room_left 20 15 c.decimal.ensures (omega arith) (omega (arith, five_digits place word))) (omega arith))
    (omega (arith, c.outcome.ensures.0.ends, c.outcome.ensures.1))

pub returns : goal.returns
returns c =
    let a = c.args in
    let word : a.place < 65536 = omega arith in
    let whole = line_put a.place a.answer c.decimal.ensures c.put.ensures c.outcome.ensures.0 c.put-2.ensures in
    room 20 refl (search (rules, whole.same)) (omega arith)
    (omega (arith, five_digits a.place word, c.decimal.ensures.ends, c.put.ensures.ends, c.outcome.ensures.1, c.put-2.ensures.ends))
    whole
