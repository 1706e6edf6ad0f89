-- A digit further, the digits' end, and a number that is too large before its last digit.
use Rattle.std.proofs.Common.{◌≡◌, [], true, false, arith, sym, ◌∙◌, get_or, drop, length}
use lib.ListN.{drop_of_length-le}
use Rattle.formula.proofs.Numerals.{digits_step, digits_end, digits_large}
use Rattle.formula.specs.Internal.Readers.{too_large, number}
use Rattle.formula.specs.Internal.Reader.{digit, read_digits}
use Rattle.formula.proofs.number.read_digits.Goals as goal

pub returns-then-not-is_ascii_digit : goal.returns-then-not-is_ascii_digit
returns-then-not-is_ascii_digit c =
    let v = c.loop-i in
    let t = c.args.text.now in
    let e : digit (get_or t v.i 0) ≡ false = sym c.if-not-is_ascii_digit.ensures.value in
    rw (v.invariant ∙ digits_end t v.i v.value e) number

pub returns-in_err-checked_mul : goal.returns-in_err-checked_mul
returns-in_err-checked_mul c =
    let v = c.loop-i in
    let t = c.args.text.now in
    let h = c.in_err-checked_mul.ensures in
    let e : digit (get_or t v.i 0) ≡ true = sym c.if-not-is_ascii_digit.ensures.value in
    rw c.from_residual.ensures (too_large {p = read_digits 0 (drop c.args.at t)} (rw v.invariant (digits_large t v.i v.value (omega arith) e (omega (arith, h)))))

pub returns-in_err-value : goal.returns-in_err-value
returns-in_err-value c =
    let v = c.loop-i in
    let t = c.args.text.now in
    let h = c.in_err-value.ensures in
    let g = c.in_ok-checked_mul.ensures in
    let e : digit (get_or t v.i 0) ≡ true = sym c.if-not-is_ascii_digit.ensures.value in
    rw c.from_residual-in_err-value.ensures
    (too_large {p = read_digits 0 (drop c.args.at t)} (rw v.invariant (digits_large t v.i v.value (omega arith) e (omega (arith, g, h, c.from.ensures)))))

pub loop-i-preserved : goal.loop-i-preserved
loop-i-preserved c =
    let v = c.loop-i in
    let t = c.args.text.now in
    let h = c.in_ok-value.ensures in
    let g = c.in_ok-checked_mul.ensures in
    let e : digit (get_or t v.i 0) ≡ true = sym c.if-not-is_ascii_digit.ensures.value in
    v.invariant ∙ digits_step t v.i v.value (omega arith) e (omega (arith, g, h, c.from.ensures))

pub returns : goal.returns
unfolding read_digits
returns c =
    let v = c.loop-i in
    let t = c.args.text.now in
    let e : drop (length t) t ≡ [] = drop_of_length-le t (omega arith) in
    let i : v.i ≡ length t = omega arith in
    rw (v.invariant, i, e, ← e) number
