-- Unsatisfiable texts: document 01, refusal 13, void: the whole formula's list is empty. Proved in
-- `proofs/Unsatisfiable.antt`.
use Rattle.std.specs.Prelude.{◌≡◌, List, ◌↔◌, ℕ}
use Rattle.formula.specs.declared.text.Issued.{Issued}
use Rattle.formula.specs.Outcome.{unsatisfiable, outcome_of}
use Rattle.formula.specs.Refusals.{Never}

-- a text is unsatisfiable exactly where it is such
abbrev pub UnsatisfiableExactly : Type 0
UnsatisfiableExactly = (i : Issued) (s : List ℕ) → (outcome_of i s ≡ unsatisfiable) ↔ Never i s
