-- A refused file prints its line, a readable one the lines of its records.
use mathlib.Core.Path.{sym, ◌∙◌}
use native.Mathlib.Omega.{arith}
use Rattle.transcript.proofs.PrintedFile.{refused_prints, readable_prints}
use Rattle.transcript.proofs.transcript.Goals as goal

pub returns-in-Err : goal.returns-in-Err
returns-in-Err c = refused_prints (omega arith) _ (sym c.open_file.ensures ∙ c.in-Err.is) c.file_line.ensures

pub returns : goal.returns
returns c = readable_prints (omega arith) (sym c.open_file.ensures ∙ c.in_default.is) c.replay.ensures
