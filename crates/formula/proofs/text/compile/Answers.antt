-- A law of `CompiledAnswers` for each way out.
use Rattle.std.proofs.Common.{◌≡◌, ◌∙◌, rules, Err}
use Rattle.formula.specs.declared.text.Refusal.TheVariants.{Malformed}
use Rattle.formula.proofs.CompiledAnswers.{long_text, text_unread, text_longer, text_wide, text_unsatisfiable, text_accepted}
use Rattle.formula.proofs.text.compile.Goals as goal

pub returns-then-text-gt-MOST_BYTES : goal.returns-then-text-gt-MOST_BYTES
returns-then-text-gt-MOST_BYTES c = long_text c.args.issued c.args.text.now c.if-text-gt-MOST_BYTES.true

pub returns-in_err-end : goal.returns-in_err-end
returns-in_err-end c =
    let r : c.from_residual.result ≡ Err Malformed = search rules in
    r ∙ text_unread c.args.issued c.args.text.now c.if-text-gt-MOST_BYTES.false (rw c.in_err-end.ensures.ok_part at c.read_or.ensures)

pub returns-then-end-text : goal.returns-then-end-text
returns-then-end-text c =
    text_longer c.args.issued c.args.text.now c.if-text-gt-MOST_BYTES.false (rw c.in_ok-end.ensures.ok_part at c.read_or.ensures) c.if-end-text.true

pub returns-then-count-gt-MOST_PRODUCTS : goal.returns-then-count-gt-MOST_PRODUCTS
returns-then-count-gt-MOST_PRODUCTS c =
    text_wide c.args.issued c.args.text.now c.if-text-gt-MOST_BYTES.false (rw c.in_ok-end.ensures.ok_part at c.read_or.ensures)
    c.if-end-text.false c.if-count-gt-MOST_PRODUCTS.true

pub returns-then-count-eq0 : goal.returns-then-count-eq0
returns-then-count-eq0 c =
    text_unsatisfiable c.args.issued c.args.text.now c.if-text-gt-MOST_BYTES.false (rw c.in_ok-end.ensures.ok_part at c.read_or.ensures)
    c.if-end-text.false c.if-count-eq0.true

pub returns : goal.returns
returns c =
    text_accepted c.args.issued c.args.text.now c.if-text-gt-MOST_BYTES.false (rw c.in_ok-end.ensures.ok_part at c.read_or.ensures)
    c.if-end-text.false c.if-count-eq0.false c.if-count-gt-MOST_PRODUCTS.false
