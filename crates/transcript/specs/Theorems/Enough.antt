-- The first 65,536 bytes of a file decide what is printed: a program may read no more. Proved in `proofs/Enough.antt`.
use Rattle.std.specs.Prelude.{◌≡◌, List, ℕ, suc, take}
use Rattle.journal.specs.Format.{most_bytes}
use Rattle.transcript.specs.Lines.{printed}

abbrev pub Enough : Type 0
Enough = (file : List ℕ) → printed (take (suc most_bytes) file) ≡ printed file
