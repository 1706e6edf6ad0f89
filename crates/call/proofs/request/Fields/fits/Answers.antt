-- Of a call that is well formed the text's length decides; any other is unfit.
use mathlib.Core.Path.{◌∙◌}
use Rattle.call.proofs.Texts.{judged_alone}
use Rattle.call.proofs.request.Fields.fits.Goals as goal

pub returns-in-Some : goal.returns-in-Some
returns-in-Some c =
    let f = c.args.self in
    c.text_fits.ensures ∙ (rw c.in-Some.is at (judged_alone f.letter f.a f.b f.c c.args.size c.decode.result c.decode.ensures))

pub returns-in-None : goal.returns-in-None
returns-in-None c =
    let f = c.args.self in
    rw c.in-None.is at (judged_alone f.letter f.a f.b f.c c.args.size c.decode.result c.decode.ensures)
