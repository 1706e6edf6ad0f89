-- A key set as the numbers of its keys, and whether it opens a sum. Document 01, 'Lock text': a key set opens a product
-- where every plain key is in it and every barred one is not.
use Rattle.std.specs.Prelude.{Bool, false, ◌||◌, List, [], ◌∷◌, ℕ, eqb, None, Some}
use Rattle.product.specs.Atom.{Atom}
use Rattle.product.specs.Sum.{Sum?, opens_any}
use Rattle.product.specs.Code.{key_code}

unfoldable pub member : ℕ → List ℕ → Bool
member k [] = false
member k (x ∷ l) = eqb k x || member k l

-- document 01: key set. The one that has exactly the keys with these numbers.
abbrev pub held_by : List ℕ → Atom → Bool
held_by keys a = member (key_code a) keys

-- some product opens; none of a sum that is too wide does
abbrev pub opens_sum : (Atom → Bool) → Sum? → Bool
opens_sum ρ None = false
opens_sum ρ (Some ps) = opens_any ρ ps
