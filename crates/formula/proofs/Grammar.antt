-- A text is malformed exactly where it is in the grammar as no formula, and it is in the grammar as one formula at
-- most: the reader, which is a function, answers each.
use mathlib.Core.Path.{◌≡◌, refl, sym, ◌∙◌}
use mathlib.Core.Bool.{false}
use Rattle.formula.specs.Tree.{ors, Tree}
use Rattle.formula.specs.Text.{issued_to, Text}
use Rattle.formula.specs.Nodes.{list_of}
use Rattle.formula.specs.Outcome.{Outcome, malformed}
use Rattle.formula.specs.Theorems.Grammar.{MalformedExactly, Unambiguous}
use Rattle.formula.proofs.ReaderCorrect.{reader_complete}
use Rattle.formula.proofs.Outcomes.{text_spells, outcome_text, Judged, formula, none_such, judged, judged_formed}

pub malformed_exactly : MalformedExactly
malformed_exactly i s = (λ e t h. judged_formed (list_of false t) (sym (outcome_text i s h) ∙ e), λ n. go (judged i s) n)
  where
    go : {o : Outcome} → Judged i s o → ((t : Tree ors) → Text i s t → ⊥) → o ≡ malformed
    go (formula t h) n = absurd (n t h)
    go (none_such h) n = refl

pub unambiguous : Unambiguous
unambiguous i s t u h k =
    cc (reader_complete (issued_to i) s t (text_spells i s h), reader_complete (issued_to i) s u (text_spells i s k))
