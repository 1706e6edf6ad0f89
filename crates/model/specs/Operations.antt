-- Document 01, 'Operations and the check': operations, sets of them, and which of them a segment takes.
use Rattle.std.specs.Prelude.{Bool, ◌&&◌, ◌||◌, not, cond, ℕ, ◌/◌, ◌%◌, eqb, ltb}
use Rattle.std.specs.Int.Bits.{bit_and}

-- 'numbered 1 execute, 2 read and 4 write, with 8 for deny'
abbrev pub execute : ℕ
execute = 1

abbrev pub read : ℕ
read = 2

abbrev pub write : ℕ
write = 4

abbrev pub deny : ℕ
deny = 8

abbrev pub is_operation : ℕ → Bool
is_operation n = eqb n execute || (eqb n read || eqb n write)

-- a set of operations is the sum of their numbers; n is one of them
abbrev pub includes : ℕ → ℕ → Bool
includes operations n = eqb (operations / n % 2) 1

-- the sets have an operation in common; of one operation this is `includes`: `shares_one` in
-- `proofs/Refinement/OperationSets`
abbrev pub shares : ℕ → ℕ → Bool
shares operations n = not (eqb (bit_and operations n) 0)

-- a lock with that set stands for an operation as a deny lock: 'with 8 among them it is a deny lock, else a grant lock'
abbrev pub denies : ℕ → ℕ → Bool
denies operations n = includes operations n && includes operations deny

abbrev pub grants : ℕ → ℕ → Bool
grants operations n = includes operations n && not (includes operations deny)

-- a segment's kind
abbrev pub code : ℕ
code = 0

abbrev pub sheet : ℕ
sheet = 1

-- 'Code takes execute; sheets take read and write.'
abbrev pub takes : ℕ → ℕ → Bool
takes kind n = cond (eqb kind code) (eqb n execute) (eqb n read || eqb n write)

-- an A's c
abbrev pub is_access : ℕ → Bool
is_access n = eqb n read || eqb n write

-- an operation of the set is one that the segment takes
abbrev pub takes_in : ℕ → ℕ → ℕ → Bool
takes_in kind operations n = not (includes operations n) || takes kind n

-- a set has no bits above 8
abbrev pub operation_sets : ℕ
operation_sets = 16

-- a lock's set: with 1, 2 or 4, no bits above 8, and no operation that the segment doesn't take
abbrev pub takes_set : ℕ → ℕ → Bool
takes_set kind operations =
    ltb operations operation_sets
    && ((includes operations execute || includes operations read || includes operations write)
    && (takes_in kind operations execute && takes_in kind operations read && takes_in kind operations write))
