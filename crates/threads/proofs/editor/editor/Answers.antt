-- The user's cell of the thread's table.
use Rattle.std.proofs.Common.{rules}
use Rattle.std.specs.Prelude.{Err}
use mathlib.Core.Path.{◌≡◌, sym, ap, ◌∙◌}
use Rattle.model.specs.declared.answer.Refusal.TheVariants.{NoThread}
use Rattle.model.specs.Answers.{Answer}
use Rattle.model.specs.Cells.{threads_are}
use Rattle.threads.specs.Editors.{editor_answer}
use Rattle.threads.proofs.FoundThread.{stands, no_editor}
use Rattle.threads.proofs.editor.editor.Goals as goal

pub returns-in_err-place : goal.returns-in_err-place
returns-in_err-place c =
    let refused : ◌≡◌ {A = Answer} c.from_residual.result (Err NoThread) = search rules in
    λ d. refused ∙ sym (ap editor_answer (no_editor (threads_are c.args.threads.now d) (rw c.in_err-place.ensures.ok_part at c.find.ensures)))

pub returns : goal.returns
returns c = λ d. sym (ap editor_answer (stands (threads_are c.args.threads.now d) (rw c.in_ok-place.ensures.ok_part at c.find.ensures)).edits)
