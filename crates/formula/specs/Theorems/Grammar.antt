-- Malformed texts: document 01, 'Lock text' and refusal 11, misspelt. Proved in `proofs/Grammar.antt`.
use Rattle.std.specs.Prelude.{◌≡◌, List, ◌↔◌, ℕ}
use Rattle.formula.specs.declared.text.Issued.{Issued}
use Rattle.formula.specs.Tree.{ors, Tree}
use Rattle.formula.specs.Text.{Text}
use Rattle.formula.specs.Outcome.{malformed, outcome_of}

-- a text is malformed exactly where it is in the grammar as no formula
abbrev pub MalformedExactly : Type 0
MalformedExactly = (i : Issued) (s : List ℕ) → (outcome_of i s ≡ malformed) ↔ ((t : Tree ors) → Text i s t → ⊥)

-- no text is in the grammar as two formulas
abbrev pub Unambiguous : Type 0
Unambiguous = (i : Issued) (s : List ℕ) (t u : Tree ors) → Text i s t → Text i s u → t ≡ u
