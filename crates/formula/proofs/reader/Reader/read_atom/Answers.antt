-- A law for each way out (`atom_past` and on).
use Rattle.std.proofs.Common.{◌≡◌, arith, get_or, sym, ◌∙◌}
use Rattle.std.proofs.lemmas.Grind.{common_steps}
use Rattle.formula.proofs.ReaderSteps.{atom_past, atom_unread, atom_unnamed, atom_unknown, atom_known, atom_list}
use Rattle.formula.proofs.reader.Reader.read_atom.Goals as goal

pub returns-in_err-letter : goal.returns-in_err-letter
returns-in_err-letter c =
    let a = c.args.self.now in
    rw c.from_residual.ensures (atom_past a.issued a.text.now a.odd c.args.at (omega (arith, c.in_err-letter.ensures.lookup)))

pub returns-in_err-number : goal.returns-in_err-number
returns-in_err-number c =
    let a = c.args.self.now in
    rw c.from_residual-in_err-number.ensures (atom_unread a.issued a.text.now a.odd c.args.at c.in_err-number.ensures)

pub returns-in_err-key : goal.returns-in_err-key
returns-in_err-key c =
    let a = c.args.self.now in
    let e : c.in_ok-letter.field-0.now ≡ get_or a.text.now c.args.at 0 = grind (arith, common_steps, c.in_ok-letter.ensures.lookup) in
    rw c.from_residual-in_err-key.ensures (atom_unnamed a.issued a.text.now a.odd c.args.at e c.in_ok-number.ensures c.in_err-key.ensures)

pub returns-then-not-has : goal.returns-then-not-has
returns-then-not-has c =
    let a = c.args.self.now in
    let e : c.in_ok-letter.field-0.now ≡ get_or a.text.now c.args.at 0 = grind (arith, common_steps, c.in_ok-letter.ensures.lookup) in
    atom_unknown a.issued a.text.now a.odd c.args.at e c.in_ok-number.ensures c.in_ok-key.key c.in_ok-key.ensures (sym c.has.ensures ∙ c.if-not-has.true)

pub returns : goal.returns
returns c =
    let a = c.args.self.now in
    let k = c.in_ok-key.key in
    let e : c.in_ok-letter.field-0.now ≡ get_or a.text.now c.args.at 0 = grind (arith, common_steps, c.in_ok-letter.ensures.lookup) in
    atom_known a.issued a.text.now a.odd c.args.at e c.in_ok-number.ensures k c.in_ok-key.ensures (sym c.has.ensures ∙ c.if-not-has.false)
    (atom_list a.odd k c.signed.ensures c.single-count.ensures)
