-- The opening law: document 01, 'Lock text'. A text is accepted exactly where it is in the grammar, every node fits and
-- some key set makes its formula true; its products are then its formula's, within the bounds, and a key set opens one
-- of them exactly where it makes the formula true. Proved in `proofs/Opening.antt`.
use Rattle.std.specs.Prelude.{◌≡◌, Bool, true, false, List, ℕ, length, Some}
use Rattle.product.specs.Atom.{Atom}
use Rattle.product.specs.Sum.{Sum, opens_any}
use Rattle.product.specs.Cells.{sum_of, rows_of}
use Rattle.product.specs.Held.{opens_sum}
use Rattle.formula.specs.declared.text.Issued.{Issued}
use Rattle.formula.specs.Tree.{ors, Tree, holds}
use Rattle.formula.specs.Text.{Text}
use Rattle.formula.specs.Nodes.{products, fits}
use Rattle.formula.specs.Outcome.{accepted, outcome_of}
use Rattle.formula.specs.Compiler.{Bounded}
use Rattle.formula.specs.Meaning.{text_holds}

pub record Opened (i : Issued) (s : List ℕ) (ps : Sum) : Type 0 where
  pub tree : Tree ors
  pub text : Text i s tree
  pub fit : fits false tree ≡ true
  pub list : ps ≡ products false tree
  pub witness : (ρ : Atom → Bool) × (holds ρ tree ≡ true)
  pub law : (ρ : Atom → Bool) → opens_any ρ ps ≡ holds ρ tree
  pub bounds : Bounded ps

-- an accepted text has all this
abbrev pub OpeningLaw : Type 0
OpeningLaw = (i : Issued) (s : List ℕ) (ps : Sum) → outcome_of i s ≡ accepted ps → Opened i s ps

-- and the other way round: where the text is such, it is accepted, with its formula's products
abbrev pub AcceptedWhere : Type 0
AcceptedWhere =
    (i : Issued) (s : List ℕ) (t : Tree ors) → Text i s t → fits false t ≡ true → (ρ : Atom → Bool) → holds ρ t ≡ true
    → outcome_of i s ≡ accepted (products false t)

-- it is the formula as which the text is in the grammar
abbrev pub HoldsSpelt : Type 0
HoldsSpelt = (i : Issued) (s : List ℕ) (t : Tree ors) → Text i s t → (ρ : Atom → Bool) → text_holds ρ s ≡ holds ρ t

-- what is stored of an accepted text, its products as rows of numbers, is read back as its products
abbrev pub StoredLaw : Type 0
StoredLaw =
    (i : Issued) (s : List ℕ) (ps : Sum) → outcome_of i s ≡ accepted ps → sum_of (length ps) (rows_of ps) ≡ Some ps

-- so a key set opens what is stored exactly where it makes the formula true
abbrev pub StoredOpens : Type 0
StoredOpens =
    (i : Issued) (s : List ℕ) (ps : Sum) → outcome_of i s ≡ accepted ps → (ρ : Atom → Bool)
    → opens_sum ρ (sum_of (length ps) (rows_of ps)) ≡ text_holds ρ s
