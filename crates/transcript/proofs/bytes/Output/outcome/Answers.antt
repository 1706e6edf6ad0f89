-- `ok` and a number, or `no` and two numbers, of which the first has two digits at most.
use Prim.Native.Nat.{◌<◌}
use native.Mathlib.Omega.{arith}
use Rattle.transcript.proofs.Decimals.{five_digits}
use Rattle.transcript.proofs.PutBytes.{room_left}
use Rattle.transcript.proofs.PutLines.{accepted_put, refused_put, refusal_digits}
use Rattle.transcript.proofs.bytes.Output.outcome.Goals as goal

pub decimal-requires : goal.decimal-requires
decimal-requires c =
    let n = c.in-Ok.n in
    let word : n < 65536 = omega arith in
    room_left 11 _ c.put.ensures c.requires (omega (arith, five_digits n word))

pub decimal-requires-in-Err : goal.decimal-requires-in-Err
decimal-requires-in-Err c =
    room_left 11 _ c.put-in-Err.ensures c.requires (omega (arith, refusal_digits c.in-Err.refusal c.number.ensures))

pub put-requires-in-Err-2 : goal.put-requires-in-Err-2
put-requires-in-Err-2 c =
    room_left 8 1 c.decimal-in-Err.ensures (room_left 11 8 c.put-in-Err.ensures c.requires (omega arith))
    (omega (arith, refusal_digits c.in-Err.refusal c.number.ensures))

pub decimal-requires-in-Err-2 : goal.decimal-requires-in-Err-2
decimal-requires-in-Err-2 c =
    let n = c.second.result in
    let word : n < 65536 = omega arith in
    room_left 6 _ c.put-in-Err-2.ensures
    (room_left 8 6 c.decimal-in-Err.ensures (room_left 11 8 c.put-in-Err.ensures c.requires (omega arith))
    (omega (arith, refusal_digits c.in-Err.refusal c.number.ensures)))
    (omega (arith, five_digits n word))

pub returns-in-Ok : goal.returns-in-Ok
returns-in-Ok c =
    let word : c.in-Ok.n < 65536 = omega arith in (
      accepted_put c.in-Ok.is c.put.ensures c.decimal.ensures,
      omega (arith, five_digits c.in-Ok.n word, c.put.ensures.ends, c.decimal.ensures.ends),
    )

pub returns-in-Err : goal.returns-in-Err
returns-in-Err c =
    let n = c.second.result in
    let word : n < 65536 = omega arith in (
      refused_put c.in-Err.is c.number.ensures c.second.ensures c.put-in-Err.ensures c.decimal-in-Err.ensures c.put-in-Err-2.ensures c.decimal-in-Err-2.ensures,
      omega (
        arith,
        refusal_digits c.in-Err.refusal c.number.ensures,
        five_digits n word,
        c.put-in-Err.ensures.ends,
        c.decimal-in-Err.ensures.ends,
        c.put-in-Err-2.ensures.ends,
        c.decimal-in-Err-2.ensures.ends,
      ),
    )
