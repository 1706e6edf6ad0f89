-- A well formed call is the call of its request, so it has the request's letter and fields.
use mathlib.Core.Path.{◌≡◌, refl, sym, ap}
use mathlib.Core.List.{List, [], ◌∷◌}
use Prim.Native.Nat.{ℕ}
use native.Mathlib.Omega.{arith}
use Rattle.std.specs.Prelude.{None, Some}
use Rattle.call.specs.Calls.{Decoded, Call, decoded}
use Rattle.call.specs.Numbers.{decoded_number, decoded_values}
use Rattle.call.specs.Theorems.Requests.{ValuesKept}
use Rattle.call.proofs.Requests.{requests_exactly}

abbrev values_of : Call → List ℕ
values_of x = x.letter ∷ x.a ∷ x.b ∷ x.c ∷ []

pub values_kept : ValuesKept
values_kept x h = go (decoded x) refl h
  where
    go : (d : Decoded) → decoded x ≡ d → decoded_number d ≡ 0 → decoded_values d ≡ values_of x
    go (Some q) e h = ap values_of (sym ((requests_exactly x q).0 e))
    go None e h = absurd (omega arith)
