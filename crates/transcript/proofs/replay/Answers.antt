-- The invariant is that some records are answered and the rest are left; the measure is the bytes that are left.
use native.Mathlib.Omega.{arith}
use mathlib.Core.Path.{◌≡◌}
use Rattle.std.specs.Prelude.{None}
use Rattle.std.proofs.Common.{rules}
use Rattle.transcript.proofs.AnsweredRecord.{found_inside, entry_is, answered}
use Rattle.transcript.proofs.ReplayLoop.{loop_start, loop_length, loop_room, loop_ended, loop_end, loop_step}
use Rattle.transcript.proofs.replay.Goals as goal

pub loop-entry-init : goal.loop-entry-init
loop-entry-init c = loop_start _ _ _ c.requires.0

pub overflow_add-place : goal.overflow_add-place
overflow_add-place c =
    let inside = found_inside c.args.file.now c.loop-entry.at c.read.ensures c.in-Ok-Some.is c.in-Ok-Some.field-0-is in
    omega (arith, (loop_room c.loop-entry.invariant c.requires.0 inside).0)

pub loop-entry-preserved : goal.loop-entry-preserved
loop-entry-preserved c =
    let going = c.loop-entry.invariant in
    let inside = found_inside c.args.file.now c.loop-entry.at c.read.ensures c.in-Ok-Some.is c.in-Ok-Some.field-0-is in
    loop_step going inside
    (answered c.args.file.now c.loop-entry.at (omega (arith, loop_length going, (loop_room going c.requires.0 inside).1, c.requires.1))
    (entry_is c.args.file.now c.loop-entry.at c.read.ensures c.in-Ok-Some.is c.in-Ok-Some.field-0-is) c.call-answer.ensures c.line-used.ensures)

pub returns-in_default : goal.returns-in_default
returns-in_default c =
    let none : c.in_default.field-0 ≡ None = search rules in
    loop_end c.loop-entry.invariant c.requires.0 (loop_ended c.loop-entry.invariant c.read.ensures (λ e q. cc (c.in_default.is, none, q)))

pub returns-in_default-2 : goal.returns-in_default-2
returns-in_default-2 c =
    loop_end c.loop-entry.invariant c.requires.0 (loop_ended c.loop-entry.invariant c.read.ensures (λ e q. cc (c.in_default.is, q)))
