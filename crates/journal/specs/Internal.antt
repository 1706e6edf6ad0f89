-- What the crate's private functions promise each other. Nothing here is part of what a reader must believe.
use Rattle.std.specs.Prelude.{cond, List, ℕ, ◌+◌, Option, None, Some}
use Rattle.journal.specs.Format.{text_length_at, record_head_size}
use Rattle.journal.specs.Reading.{word, whole_at}

-- the bytes of the whole record at a cursor, if there is one
unfoldable pub size_at : List ℕ → ℕ → Option ℕ
size_at s at = cond (whole_at s at) (Some (record_head_size + word s (at + text_length_at))) None

-- the most that 16 bits hold
abbrev pub most_word : ℕ
most_word = 65535
