-- What the check answers, and the answer of the call or access that is made of it, have the same number and value.
-- Proved in `proofs/DecidingRow.antt`.
use Rattle.std.specs.Prelude.{◌≡◌}
use Rattle.model.specs.Answers.{answer_number, answer_value}
use Rattle.checking.specs.Deciding.{Checked, checked_number, checked_value, answer_of}

abbrev pub SameNumbers : Type 0
SameNumbers =
    (k : Checked) → (answer_number (answer_of k) ≡ checked_number k) × (answer_value (answer_of k) ≡ checked_value k)
