-- The reader of formula texts, by document 01's 'Lock text'. There is nothing to believe here: it is proved to answer
-- exactly the tree that a text spells, and the theorems speak of texts and trees alone.
use Rattle.std.specs.Prelude.{Bool, not, cond, ◌&&◌, List, [], ◌∷◌, ℕ, zero, suc, ◌+◌, ◌*◌, ◌-◌, leb, eqb, length, get_or, drop, Option, None, Some}
use Rattle.product.specs.declared.literal.Key.TheVariants.{User, Thread, Segment, Defined}
use Rattle.product.specs.Atom.{Atom}
use Rattle.formula.specs.Spelling.{digit_zero, digit_nine, letter_u, letter_r, letter_s, letter_d, not_sign, and_sign, or_sign, open_bracket, close_bracket}
use Rattle.formula.specs.Text.{most_deep}
use Rattle.formula.specs.Tree.{Level, nots, ands, ors, Tree, atom, negate, bracket, factor, and, term, or}

-- numbers

abbrev pub digit : ℕ → Bool
digit b = leb digit_zero b && leb b digit_nine

-- the digits in front, after those that make `sofar`, and what follows them
unfoldable pub read_digits : ℕ → List ℕ → ℕ × List ℕ
read_digits sofar [] = (sofar, [])
read_digits sofar (b ∷ s) =
    let more = read_digits (10 * sofar + (b - digit_zero)) s in
    cond (digit b) more (sofar, b ∷ s)

-- a number in front: a digit, and no other after a 0
unfoldable pub read_number : List ℕ → Option (ℕ × List ℕ)
read_number s =
    cond (digit (get_or s 0 0) && not (eqb (get_or s 0 0) digit_zero && digit (get_or s 1 0)))
    (Some (read_digits 0 s)) None

-- trees

-- a tree read in front of a text, and the rest of the text
abbrev pub Found : Level → Type 0
Found l = Option (Tree l × List ℕ)

abbrev pub found : {l : Level} → Tree l → List ℕ → Found l
found t r = Some (t, r)

abbrev pub next : {l m : Level} → Found l → (Tree l → List ℕ → Found m) → Found m
next None g = None
next (Some p) g = g p.0 p.1

abbrev pub close : Tree ors → List ℕ → Found nots
close t r = cond (eqb (get_or r 0 0) close_bracket) (found (bracket t) (drop 1 r)) None

-- the key of a letter and a number
abbrev pub key_named : ℕ → ℕ → Option Atom
key_named b n =
    cond (eqb b letter_u) (Some (User n))
    (cond (eqb b letter_r) (Some (Thread n))
    (cond (eqb b letter_s) (Some (Segment n)) (cond (eqb b letter_d) (Some (Defined n)) None)))

-- the tree, where nothing is left of the text
abbrev pub whole_of : Found ors → Option (Tree ors)
whole_of None = None
whole_of (Some p) = cond (eqb (length p.1) 0) (Some p.0) None

module _ (known : Atom → Bool) where
  -- the key, where it is known
  abbrev pub keep : Option Atom → List ℕ → Found nots
  keep None r = None
  keep (Some a) r = cond (known a) (found (atom a) r) None

  abbrev pub named : ℕ → Option (ℕ × List ℕ) → Found nots
  named b None = None
  named b (Some p) = keep (key_named b p.0) p.1

  unfoldable pub read_atom : List ℕ → Found nots
  read_atom s = named (get_or s 0 0) (read_number (drop 1 s))

  -- with fuel, one unit for each call, and with k brackets still to be opened
  unfoldable mutual
    pub read_nots : ℕ → ℕ → List ℕ → Found nots
    read_nots zero k s = None
    read_nots (suc f) k s =
        let negated = next (read_nots f k (drop 1 s)) (λ t r. found (negate t) r) in
        let bracketed = read_bracket f k (drop 1 s) in
        cond (eqb (get_or s 0 0) not_sign) negated (cond (eqb (get_or s 0 0) open_bracket) bracketed (read_atom s))

    pub read_bracket : ℕ → ℕ → List ℕ → Found nots
    read_bracket zero k s = None
    read_bracket (suc f) zero s = None
    read_bracket (suc f) (suc k) s = next (read_ors f k s) close

    pub read_ands : ℕ → ℕ → List ℕ → Found ands
    read_ands zero k s = None
    read_ands (suc f) k s = next (read_nots f k s) (λ t r. more_ands f k (factor t) r)

    pub more_ands : ℕ → ℕ → Tree ands → List ℕ → Found ands
    more_ands zero k t s = None
    more_ands (suc f) k t s =
        let longer = next (read_nots f k (drop 1 s)) (λ u r. more_ands f k (and t u) r) in
        cond (eqb (get_or s 0 0) and_sign) longer (found t s)

    pub read_ors : ℕ → ℕ → List ℕ → Found ors
    read_ors zero k s = None
    read_ors (suc f) k s = next (read_ands f k s) (λ t r. more_ors f k (term t) r)

    pub more_ors : ℕ → ℕ → Tree ors → List ℕ → Found ors
    more_ors zero k t s = None
    more_ors (suc f) k t s =
        let longer = next (read_ands f k (drop 1 s)) (λ u r. more_ors f k (or t u) r) in
        cond (eqb (get_or s 0 0) or_sign) longer (found t s)

  -- the whole text, of which each byte costs at most four calls, with all its brackets to be opened
  unfoldable pub read_text : List ℕ → Option (Tree ors)
  read_text s = whole_of (read_ors (4 * length s + 3) most_deep s)
