-- Which texts are in the grammar, and as which formula. Document 01, 'Keys', 'Lock text' and refusal 11. Assumes
-- nothing.
use Rattle.std.specs.Prelude.{◌≡◌, Bool, true, ◌&&◌, List, ℕ, ◌≤◌, ltb, length}
use Rattle.product.specs.declared.literal.Key.TheVariants.{User, Thread, Segment, Defined}
use Rattle.product.specs.Atom.{Atom, number_of}
use Rattle.product.specs.Code.{number_limit}
use Rattle.formula.specs.declared.text.Issued.{Issued}
use Rattle.formula.specs.Tree.{Level, ors, Tree, atom, negate, bracket, factor, and, term, or, depth}
use Rattle.formula.specs.Spelling.{spell}

-- how many keys of the atom's kind were handed out
abbrev pub issued_of : Issued → Atom → ℕ
issued_of i (User n) = i.users
issued_of i (Thread n) = i.threads
issued_of i (Segment n) = i.segments
issued_of i (Defined n) = i.defined

-- The key was handed out: numbers have 16 bits and rise from 0. An ended thread's key still counts.
unfoldable pub issued_to : Issued → Atom → Bool
issued_to i a = ltb (number_of a) number_limit && ltb (number_of a) (issued_of i a)

-- every atom of the tree is one of these
unfoldable pub every_atom : (Atom → Bool) → {l : Level} → Tree l → Bool
every_atom f (atom a) = f a
every_atom f (negate t) = every_atom f t
every_atom f (bracket t) = every_atom f t
every_atom f (factor t) = every_atom f t
every_atom f (and t u) = every_atom f t && every_atom f u
every_atom f (term t) = every_atom f t
every_atom f (or t u) = every_atom f t && every_atom f u

abbrev pub all_issued : Issued → Tree ors → Bool
all_issued i t = every_atom (issued_to i) t

-- document 01: 1 to 96 bytes, brackets at most 8 deep
abbrev pub most_bytes : ℕ
most_bytes = 96

abbrev pub most_deep : ℕ
most_deep = 8

-- Document 01: lock text. s is in the grammar, as the formula t, and every key in it was handed out
pub record Text (i : Issued) (s : List ℕ) (t : Tree ors) : Type 0 where
  pub spelt : s ≡ spell t
  pub size : 1 ≤ length s
  pub short : length s ≤ most_bytes
  pub shallow : depth t ≤ most_deep
  pub issued : all_issued i t ≡ true
