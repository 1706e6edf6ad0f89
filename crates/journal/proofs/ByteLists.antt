-- Lists of bytes, element by element, and cut.
use Prim.Native.Nat.{ℕ, zero, suc, ◌<◌}
use mathlib.Core.List.{List, [], ◌∷◌}
use native.Mathlib.Omega.{arith}
use lib.ListN.{take, drop}
use Rattle.base.proofs.Lists.{All}
use Rattle.journal.specs.Format.{Bytes}

abbrev pub Each : List ℕ → Type 0
Each s = All (λ x. x < 256) s

pub each : (s : List ℕ) → Bytes s → Each s
each [] b = tt
each (x ∷ s) b = (b 0, each s (λ i. b (suc i)))

pub all_are : (s : List ℕ) → Each s → Bytes s
all_are [] e i = omega arith
all_are (x ∷ s) e zero = e.0
all_are (x ∷ s) e (suc i) = all_are s e.1 i

pub bytes_take : (n : ℕ) (s : List ℕ) → Bytes s → Bytes (take n s)
bytes_take zero s b i = omega arith
bytes_take (suc n) [] b i = omega arith
bytes_take (suc n) (x ∷ s) b zero = b 0
bytes_take (suc n) (x ∷ s) b (suc i) = bytes_take n s (λ j. b (suc j)) i

pub bytes_drop : (n : ℕ) (s : List ℕ) → Bytes s → Bytes (drop n s)
bytes_drop zero s b i = b i
bytes_drop (suc n) [] b i = omega arith
bytes_drop (suc n) (x ∷ s) b i = bytes_drop n s (λ j. b (suc j)) i
