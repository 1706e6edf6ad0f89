-- A key with a code is where the code is, one without is nowhere.
use borrow.Author.Rules.{rules}
use Rattle.checking.proofs.NewestFrames.{no_code, found_nowhere, found_at, row_inside}
use Rattle.checking.proofs.newest.newest_call.Goals as goal

pub returns-in_err-code : goal.returns-in_err-code
returns-in_err-code c =
    rw c.from_residual.ensures
    (no_code c.of-frames.ensures c.args.key c.code_of.ensures c.fit.ensures c.in_err-code.was)

pub returns-in_err-row : goal.returns-in_err-row
returns-in_err-row c =
    rw c.from_residual-in_err-row.ensures
    (found_nowhere c.of-frames.ensures c.args.key c.code_of.ensures c.in_ok-code.was c.newest_row.ensures
    c.in_err-row.was)

pub overflow_sub-result : goal.overflow_sub-result
overflow_sub-result c =
    let inside = row_inside c.of-frames.ensures c.args.key c.code_of.ensures c.in_ok-code.was c.newest_row.ensures c.in_ok-row.was in
    search (rules, inside)

pub returns : goal.returns
returns c =
    found_at c.of-frames.ensures c.args.key c.code_of.ensures c.in_ok-code.was c.newest_row.ensures c.in_ok-row.was (search rules)
