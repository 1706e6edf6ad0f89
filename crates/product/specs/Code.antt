-- The number that a cell of a row holds of a literal: twice the key's, and 1 more where it is barred. The key's is
-- 65,536 for each kind before its own, and its own number. Literals are compared, joined and asked as literals; a row
-- alone has numbers.
use Rattle.std.specs.Prelude.{◌≡◌, cond, ℕ, ◌+◌, ◌*◌, ◌-◌, ◌/◌, ◌%◌, ◌<◌, ltb, eqb}
use Rattle.product.specs.declared.literal.Key.{Key}
use Rattle.product.specs.declared.literal.Key.TheVariants.{User, Thread, Segment, Defined}
use Rattle.product.specs.declared.literal.Literal.{Literal}
use Rattle.product.specs.declared.literal.Literal.TheVariants.{Plain, Barred}
use Rattle.product.specs.Atom.{kind_of, number_of, atom_of, sign_of}

-- document 01: a 16-bit number
abbrev pub number_limit : ℕ
number_limit = 65536

-- how many keys there are, of four kinds
abbrev pub key_limit : ℕ
key_limit = 262144

unfoldable pub key_code : Key → ℕ
key_code k = number_limit * kind_of k + number_of k

unfoldable pub code_of : Literal → ℕ
code_of l = 2 * key_code (atom_of l) + sign_of l

-- what a number stands for
unfoldable pub key_at : ℕ → Key
key_at c =
    cond (ltb c number_limit) (User c)
    (cond (ltb c (2 * number_limit)) (Thread (c - number_limit))
    (cond (ltb c (3 * number_limit)) (Segment (c - 2 * number_limit)) (Defined (c - 3 * number_limit))))

unfoldable pub literal_at : ℕ → Literal
literal_at x = cond (eqb (x % 2) 0) (Plain (key_at (x / 2))) (Barred (key_at (x / 2)))

-- The literals of 16-bit keys have the numbers below this. The code reads any number as one of these; `literal_at`
-- differs from that only beyond the limit, where it gives keys of more than 16 bits, so that different numbers stand
-- for different literals.
abbrev pub code_limit : ℕ
code_limit = 524288

abbrev pub literal_of : ℕ → Literal
literal_of x = literal_at (x % code_limit)

abbrev pub Numbered : Literal → Type 0
Numbered x = number_of (atom_of x) < number_limit

-- a key's number, which stands for it
pub record EncodedKey (k : Key) (c : ℕ) : Type 0 where
  pub code : c ≡ key_code k
  pub back : key_at c ≡ k
  pub small : c < key_limit

-- a literal's number, which stands for it
pub record Encoded (l : Literal) (x : ℕ) : Type 0 where
  pub code : x ≡ code_of l
  pub back : literal_at x ≡ l
  pub low : x < code_limit
