-- When a text of the grammar is refused, said of its formula: refusals 12, too wide, and 13, void.
use Rattle.std.specs.Prelude.{◌≡◌, false, Bool, true, List, ℕ}
use Rattle.formula.specs.declared.text.Issued.{Issued}
use Rattle.formula.specs.Tree.{ors, Tree, holds}
use Rattle.formula.specs.Text.{Text}
use Rattle.formula.specs.Nodes.{fits}
use Rattle.product.specs.Atom.{Atom}

-- the text is in the grammar, and some node of its formula does not fit
pub record Wide (i : Issued) (s : List ℕ) : Type 0 where
  pub tree : Tree ors
  pub text : Text i s tree
  pub wide : fits false tree ≡ false

-- the text is in the grammar, every node fits, and no key set makes the formula true
pub record Never (i : Issued) (s : List ℕ) : Type 0 where
  pub tree : Tree ors
  pub text : Text i s tree
  pub fit : fits false tree ≡ true
  pub never : (ρ : Atom → Bool) → holds ρ tree ≡ false
