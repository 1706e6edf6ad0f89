-- What the crate's private functions promise each other. Nothing here is part of what a reader must believe.
use Rattle.std.specs.Prelude.{◌≡◌, List, ℕ, ◌+◌, ◌≤◌, length}
use Rattle.std.proofs.lemmas.List.Edits.{sets}
use Rattle.formula.specs.Outcome.{outcome_of}
use Rattle.journal.specs.Reading.{record_of, records_of}
use Rattle.model.specs.Cells.{Cells}
use Rattle.model.specs.Stores.{step_cells}
use Rattle.model.specs.Replay.{events_in}
use Rattle.transcript.specs.declared.bytes.Output.{Output}
use Rattle.transcript.specs.Lines.{line, lines_from}
use Rattle.transcript.specs.Printing.{most_printed}

-- the line of the record at a cursor, on arrays d
abbrev pub line_at : List ℕ → ℕ → ℕ → Cells → List ℕ
line_at file at place d = line place (record_of file at).letter (step_cells outcome_of d (record_of file at)).answer

-- every record was answered, and the lines put
pub record Replayed (file : List ℕ) (d : Cells) (before after : List ℕ) (size : ℕ) : Type 0 where
  pub stored : after ≡ sets before 0 (lines_from 0 (events_in outcome_of d (records_of file)))
  pub ends : size ≡ length (lines_from 0 (events_in outcome_of d (records_of file)))
  pub short : size ≤ most_printed

-- there is room for so many bytes more
abbrev pub Room : Output → ℕ → Type 0
Room output size = output.at + size ≤ length output.buffer.now

-- the bytes were put at an output's place, which is after them now; the buffer is the one that was lent
pub record Put (before : Output) (put : List ℕ) (after : Output) : Type 0 where
  pub stored : after.buffer.now ≡ sets before.buffer.now before.at put
  pub ends : after.at ≡ before.at + length put
  pub same : after.buffer.ghost_name ≡ before.buffer.ghost_name

-- the most bytes of what follows the letter
abbrev pub most_outcome : ℕ
most_outcome = 11
