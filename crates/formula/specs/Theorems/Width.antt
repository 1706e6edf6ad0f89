-- Texts that are too wide: document 01, 'Lock text' and refusal 12. Proved in `proofs/Width.antt`.
use Rattle.std.specs.Prelude.{◌≡◌, List, ◌↔◌, ℕ}
use Rattle.formula.specs.declared.text.Issued.{Issued}
use Rattle.formula.specs.Outcome.{too_wide, outcome_of}
use Rattle.formula.specs.Refusals.{Wide}

-- a text is too wide exactly where it is such
abbrev pub TooWideExactly : Type 0
TooWideExactly = (i : Issued) (s : List ℕ) → (outcome_of i s ≡ too_wide) ↔ Wide i s
