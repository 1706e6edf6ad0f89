-- How a tree is spelt, in ASCII and with no blanks. Document 01, 'Lock text'.
use Rattle.std.specs.Prelude.{cond, List, [], ◌∷◌, ◌++◌, ℕ, zero, suc, ◌+◌, ◌/◌, ◌%◌, ltb}
use Rattle.product.specs.declared.literal.Key.TheVariants.{User, Thread, Segment, Defined}
use Rattle.product.specs.Atom.{Atom, number_of}
use Rattle.formula.specs.Tree.{Level, Tree, atom, negate, bracket, factor, and, term, or}

-- the bytes of a text, in ASCII: digits, the letters of keys, and `!`, `&`, `|`, `(` and `)`
abbrev pub digit_zero : ℕ
digit_zero = 48

abbrev pub digit_nine : ℕ
digit_nine = 57

abbrev pub letter_u : ℕ
letter_u = 85

abbrev pub letter_r : ℕ
letter_r = 82

abbrev pub letter_s : ℕ
letter_s = 83

abbrev pub letter_d : ℕ
letter_d = 68

abbrev pub not_sign : ℕ
not_sign = 33

abbrev pub and_sign : ℕ
and_sign = 38

abbrev pub or_sign : ℕ
or_sign = 124

abbrev pub open_bracket : ℕ
open_bracket = 40

abbrev pub close_bracket : ℕ
close_bracket = 41

-- the last f digits of n, or all of them where there are no more
unfoldable pub digits : ℕ → ℕ → List ℕ
digits zero n = []
digits (suc f) n =
    let more = digits f (n / 10) ++ (digit_zero + n % 10) ∷ [] in
    cond (ltb n 10) ((digit_zero + n) ∷ []) more

-- a decimal number without leading zeros, which has at most n + 1 digits
unfoldable pub decimal : ℕ → List ℕ
decimal n = digits (suc n) n

abbrev pub letter_of : Atom → ℕ
letter_of (User n) = letter_u
letter_of (Thread n) = letter_r
letter_of (Segment n) = letter_s
letter_of (Defined n) = letter_d

-- a key is its letter and its number
abbrev pub spell_atom : Atom → List ℕ
spell_atom a = letter_of a ∷ decimal (number_of a)

-- `!` before, `&` and `|` between, a bracket around
unfoldable pub spell : {l : Level} → Tree l → List ℕ
spell (atom a) = spell_atom a
spell (negate t) = not_sign ∷ spell t
spell (bracket t) = open_bracket ∷ spell t ++ close_bracket ∷ []
spell (factor t) = spell t
spell (and t u) = spell t ++ and_sign ∷ spell u
spell (term t) = spell t
spell (or t u) = spell t ++ or_sign ∷ spell u
