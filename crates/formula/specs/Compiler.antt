-- What a layer above may use of the compiler of formula texts, and all of it. Document 01, 'Lock text': the desk's
-- layer rests on this law, not on the text.
use Rattle.std.specs.Prelude.{◌≡◌, Bool, true, List, ℕ, ◌≤◌, length}
use Rattle.product.specs.Atom.{Atom, atom_of}
use Rattle.product.specs.Product.{Product, ordered, once, All}
use Rattle.product.specs.Sum.{Sum, opens_any, most_products, most_literals}
use Rattle.product.specs.Code.{number_limit, Numbered}
use Rattle.formula.specs.declared.text.Issued.{Issued}
use Rattle.formula.specs.Text.{issued_to}
use Rattle.formula.specs.Outcome.{Outcome, accepted}
use Rattle.formula.specs.Meaning.{Meaning}

abbrev pub Compiler : Type 0
Compiler = Issued → List ℕ → Outcome

-- a product as it is kept: few literals, in order, with no key twice, and numbers of 16 bits
pub record Kept (p : Product) : Type 0 where
  pub short : length p ≤ most_literals
  pub rising : ordered p ≡ true
  pub single : once p ≡ true
  pub numbers : All Numbered p

-- at least one product, and no more than fit
pub record Bounded (ps : Sum) : Type 0 where
  pub filled : 1 ≤ length ps
  pub few : length ps ≤ most_products
  pub each : All Kept ps

-- every key there can be is handed out
abbrev pub everything : Issued
everything = record { users = number_limit; threads = number_limit; segments = number_limit; defined = number_limit }

-- A compiler keeps a meaning. This crate's is `outcome_of` and keeps `text_holds`: `laws` in `proofs/Opening.antt`.
pub record Laws (compile : Compiler) (holds : Meaning) : Type 0 where
  -- a key set opens a product of an accepted text exactly where the formula is true of it
  pub opening : (i : Issued) (s : List ℕ) (ps : Sum) → compile i s ≡ accepted ps
      → (ρ : Atom → Bool) → opens_any ρ ps ≡ holds ρ s
  pub bounds : (i : Issued) (s : List ℕ) (ps : Sum) → compile i s ≡ accepted ps → Bounded ps
  -- its keys are handed out
  pub issued : (i : Issued) (s : List ℕ) (ps : Sum) → compile i s ≡ accepted ps
      → All (λ p. All (λ x. issued_to i (atom_of x) ≡ true) p) ps
  -- its products are the text's, whatever keys were handed out when it was compiled
  pub everywhere : (i : Issued) (s : List ℕ) (ps : Sum) → compile i s ≡ accepted ps → compile everything s ≡ accepted ps
