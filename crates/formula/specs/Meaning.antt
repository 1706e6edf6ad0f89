-- What a text means: whether its formula is true of a key set. The reader by which the formula is found need not be
-- believed: `HoldsSpelt` (Theorems/Opening) says that it is the formula which the text spells.
use Rattle.std.specs.Prelude.{Bool, true, false, List, ℕ, Option, None, Some}
use Rattle.product.specs.Atom.{Atom}
use Rattle.formula.specs.Tree.{ors, Tree, holds}
use Rattle.formula.specs.Internal.Reader.{read_text}

-- What a text means: whether its formula is true of a key set, whatever keys were handed out when it was compiled.
abbrev pub Meaning : Type 0
Meaning = (Atom → Bool) → List ℕ → Bool

-- What the laws of the compiler call the formula of a text: the tree that the reader finds, whatever keys were handed
-- out. False of a text that is no formula.
abbrev pub tree_holds : (Atom → Bool) → Option (Tree ors) → Bool
tree_holds ρ None = false
tree_holds ρ (Some t) = holds ρ t

unfoldable pub text_holds : Meaning
text_holds ρ s = tree_holds ρ (read_text (λ a. true) s)
