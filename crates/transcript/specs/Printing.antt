-- What is printed for a file, in a lent buffer.
use Rattle.std.specs.Prelude.{◌≡◌, List, ℕ, ◌≤◌, length}
use Rattle.std.proofs.lemmas.List.Edits.{sets}
use Rattle.transcript.specs.Lines.{printed}

-- 7,280 lines of 20 bytes
abbrev pub most_printed : ℕ
most_printed = 145600

-- the buffer starts with all that is printed, which has `size` bytes, and no other byte of it changed
pub record Prints (file before after : List ℕ) (size : ℕ) : Type 0 where
  pub stored : after ≡ sets before 0 (printed file)
  pub ends : size ≡ length (printed file)
  pub inside : size ≤ length after
