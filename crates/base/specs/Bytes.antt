-- The bytes of a text.
use Rattle.std.specs.Prelude.{List, [], ◌∷◌, ℕ}
use Prim.Native.Char.{code}
use Prim.Native.String.{String, [] as none_left, ◌∷◌ as ◌and-then◌}

-- the ASCII bytes of a text
unfoldable pub bytes : String → List ℕ
bytes none_left = []
bytes (◌and-then◌ c s) = code c ∷ bytes s
