-- One row of one literal.
use Rattle.std.specs.Prelude.{Some}
use mathlib.Core.Path.{refl, ap}
use mathlib.Core.List.{[], ◌∷◌}
use Rattle.product.specs.declared.literal.Literal.{Literal}
use Rattle.product.proofs.Codes.{encoded_read}
use Rattle.product.proofs.sum.single.Goals as goal

pub returns : goal.returns
returns c =
    let made = c.from-cell.ensures in
    record { cells = rw made.code; count = refl; reads = ap (λ (k : Literal). Some ((k ∷ []) ∷ [])) (encoded_read made) }
