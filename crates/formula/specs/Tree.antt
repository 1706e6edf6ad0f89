-- Formulas as trees, when a tree holds, and how deep its brackets go. Document 01, 'Lock text'.
use Rattle.std.specs.Prelude.{Bool, not, ◌&&◌, ◌||◌, ℕ, suc, max}
use Rattle.product.specs.Atom.{Atom}

-- How tightly a formula binds: `nots` a key, a bracket or a NOT; `ands` such, joined by AND; `ors` a whole formula,
-- those joined by OR.
pub data Level : Type 0 where
  nots ands ors : Level

-- Document 01: formula. NOT stands before a key, a bracket or another NOT, and binds tightest; then AND, then OR, both
-- grouping to the left. A bracket holds a whole formula again.
pub data Tree : Level → Type 0 where
  atom : Atom → Tree nots
  negate : Tree nots → Tree nots
  bracket : Tree ors → Tree nots
  factor : Tree nots → Tree ands
  and : Tree ands → Tree nots → Tree ands
  term : Tree ands → Tree ors
  or : Tree ors → Tree ands → Tree ors

-- the formula under a valuation of the atoms: a plain key holds for a key set that has it
unfoldable pub holds : (Atom → Bool) → {l : Level} → Tree l → Bool
holds ρ (atom a) = ρ a
holds ρ (negate t) = not (holds ρ t)
holds ρ (bracket t) = holds ρ t
holds ρ (factor t) = holds ρ t
holds ρ (and t u) = holds ρ t && holds ρ u
holds ρ (term t) = holds ρ t
holds ρ (or t u) = holds ρ t || holds ρ u

-- how many brackets stand within each other
unfoldable pub depth : {l : Level} → Tree l → ℕ
depth (atom a) = 0
depth (negate t) = depth t
depth (bracket t) = suc (depth t)
depth (factor t) = depth t
depth (and t u) = max (depth t) (depth u)
depth (term t) = depth t
depth (or t u) = max (depth t) (depth u)
