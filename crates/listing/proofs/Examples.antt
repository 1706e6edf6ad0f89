-- By computing.
use mathlib.Core.Path.{refl}
use Rattle.model.proofs.Unfoldings.{computing}
use Rattle.rows.specs.Rows.{rows_for}
use Rattle.listing.specs.Numbers.{listed_numbers}
use Rattle.listing.specs.Theorems.Examples.{desk, Examples}

pub examples : Examples
unfolding computing rows_for desk listed_numbers
examples = record { happens = refl; granting = refl; denying = refl; owner = refl; colleague = refl }
