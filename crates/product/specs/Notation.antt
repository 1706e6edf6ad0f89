-- Short names for what worked examples are written with.
use Rattle.std.specs.Prelude.{ℕ}
use Rattle.product.specs.declared.literal.Literal.{Literal}
use Rattle.product.specs.declared.literal.Literal.TheVariants.{Plain, Barred}
use Rattle.product.specs.declared.literal.Key.TheVariants.{Defined}

-- the literals of a D key
abbrev pub plain : ℕ → Literal
plain n = Plain (Defined n)

abbrev pub barred : ℕ → Literal
barred n = Barred (Defined n)
