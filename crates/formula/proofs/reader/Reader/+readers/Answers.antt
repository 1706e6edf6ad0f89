-- The cycle of the readers: a law of `ReaderSteps` for each way through a reader.
use Rattle.std.proofs.Common.{◌+◌, arith, sym, ◌∙◌}
use Rattle.formula.proofs.ReaderSteps.{not_negated, not_bracketed, not_atom, bracket_deep, bracket_failed, bracket_unclosed, bracket_closed, chain_further, chain_failed, chain_begun, chain_ended, chain_broken, chain_grown, and_chain, or_chain}
use Rattle.formula.proofs.reader.Reader.+readers.Goals as goal

pub read_and-returns-in_err-left : goal.read_and-returns-in_err-left
read_and-returns-in_err-left t c =
    let a = c.args.self.now in
    rw c.from_residual.ensures (chain_failed (and_chain a.issued a.level a.odd) a.text.now c.args.at c.in_err-left.ensures)

pub read_and-loop-right-init : goal.read_and-loop-right-init
read_and-loop-right-init t c =
    let a = c.args.self.now in
    chain_begun (and_chain a.issued a.level a.odd) a.text.now c.args.at c.in_ok-left.ensures

pub read_and-returns-in_err-part : goal.read_and-returns-in_err-part
read_and-returns-in_err-part t c =
    let a = c.args.self.now in
    rw c.from_residual-in_err-part.ensures
    (chain_broken (and_chain a.issued a.level a.odd) a.text.now c.loop-right.invariant (sym c.byte_at.ensures ∙ c.loop-right-test.true) c.in_err-part.ensures)

pub read_and-loop-right-smaller : goal.read_and-loop-right-smaller
read_and-loop-right-smaller t c =
    let a = c.args.self.now in
    omega (arith, chain_further (and_chain a.issued a.level a.odd) a.text.now (c.loop-right.left.end + 1) c.in_ok-part.ensures)

pub read_and-loop-right-preserved : goal.read_and-loop-right-preserved
read_and-loop-right-preserved t c =
    let a = c.args.self.now in
    chain_grown (and_chain a.issued a.level a.odd) a.text.now c.loop-right.invariant (sym c.byte_at.ensures ∙ c.loop-right-test.true)
    c.in_ok-part.ensures c.join-left.ensures.end c.join-left.ensures.sum

pub read_and-returns : goal.read_and-returns
read_and-returns t c =
    let a = c.args.self.now in
    chain_ended (and_chain a.issued a.level a.odd) a.text.now c.loop-right.invariant (λ e. c.loop-right-test.false (c.byte_at.ensures ∙ e))

pub read_bracket-returns-in_err-checked_sub : goal.read_bracket-returns-in_err-checked_sub
read_bracket-returns-in_err-checked_sub t c =
    let a = c.args.self.now in
    rw c.from_residual.ensures (bracket_deep a.issued a.text.now a.odd c.args.at a.level (omega (arith, c.in_err-checked_sub.ensures)))

pub read_bracket-returns-in_err-inner : goal.read_bracket-returns-in_err-inner
read_bracket-returns-in_err-inner t c =
    let a = c.args.self.now in
    rw c.from_residual-in_err-inner.ensures (bracket_failed a.issued a.text.now a.odd c.args.at (omega (arith, c.in_ok-checked_sub.ensures)) c.in_err-inner.ensures)

pub read_bracket-returns-then-byte_at-ne41 : goal.read_bracket-returns-then-byte_at-ne41
read_bracket-returns-then-byte_at-ne41 t c =
    let a = c.args.self.now in
    bracket_unclosed a.issued a.text.now a.odd c.args.at (omega (arith, c.in_ok-checked_sub.ensures)) c.in_ok-inner.ensures (λ e. c.if-byte_at-ne41.true (c.byte_at.ensures ∙ e))

pub read_bracket-returns : goal.read_bracket-returns
read_bracket-returns t c =
    let a = c.args.self.now in
    bracket_closed a.issued a.text.now a.odd c.args.at (omega (arith, c.in_ok-checked_sub.ensures)) c.in_ok-inner.ensures (sym c.byte_at.ensures ∙ c.if-byte_at-ne41.false)

pub read_not-returns-then-b-eq33 : goal.read_not-returns-then-b-eq33
read_not-returns-then-b-eq33 t c =
    let a = c.args.self.now in
    not_negated a.issued a.text.now a.level a.odd c.args.at (sym c.byte_at-b.ensures ∙ c.if-b-eq33.true) c.read_not.ensures

pub read_not-returns-then-b-eq40 : goal.read_not-returns-then-b-eq40
read_not-returns-then-b-eq40 t c =
    let a = c.args.self.now in
    not_bracketed a.issued a.text.now a.level a.odd c.args.at (sym c.byte_at-b.ensures ∙ c.if-b-eq40.true) c.read_bracket.ensures

pub read_not-returns : goal.read_not-returns
read_not-returns t c =
    let a = c.args.self.now in
    not_atom a.issued a.text.now a.level a.odd c.args.at
    (λ e. c.if-b-eq33.false (c.byte_at-b.ensures ∙ e))
    (λ e. c.if-b-eq40.false (c.byte_at-b.ensures ∙ e)) c.read_atom.ensures

pub read_or-returns-in_err-left : goal.read_or-returns-in_err-left
read_or-returns-in_err-left t c =
    let a = c.args.self.now in
    rw c.from_residual.ensures (chain_failed (or_chain a.issued a.level a.odd) a.text.now c.args.at c.in_err-left.ensures)

pub read_or-loop-right-init : goal.read_or-loop-right-init
read_or-loop-right-init t c =
    let a = c.args.self.now in
    chain_begun (or_chain a.issued a.level a.odd) a.text.now c.args.at c.in_ok-left.ensures

pub read_or-returns-in_err-part : goal.read_or-returns-in_err-part
read_or-returns-in_err-part t c =
    let a = c.args.self.now in
    rw c.from_residual-in_err-part.ensures
    (chain_broken (or_chain a.issued a.level a.odd) a.text.now c.loop-right.invariant (sym c.byte_at.ensures ∙ c.loop-right-test.true) c.in_err-part.ensures)

pub read_or-loop-right-smaller : goal.read_or-loop-right-smaller
read_or-loop-right-smaller t c =
    let a = c.args.self.now in
    omega (arith, chain_further (or_chain a.issued a.level a.odd) a.text.now (c.loop-right.left.end + 1) c.in_ok-part.ensures)

pub read_or-loop-right-preserved : goal.read_or-loop-right-preserved
read_or-loop-right-preserved t c =
    let a = c.args.self.now in
    chain_grown (or_chain a.issued a.level a.odd) a.text.now c.loop-right.invariant (sym c.byte_at.ensures ∙ c.loop-right-test.true)
    c.in_ok-part.ensures c.join-left.ensures.end c.join-left.ensures.sum

pub read_or-returns : goal.read_or-returns
read_or-returns t c =
    let a = c.args.self.now in
    chain_ended (or_chain a.issued a.level a.odd) a.text.now c.loop-right.invariant (λ e. c.loop-right-test.false (c.byte_at.ensures ∙ e))
