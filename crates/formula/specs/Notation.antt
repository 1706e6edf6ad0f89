-- What worked examples of texts are written with.
use Rattle.std.specs.Prelude.{ℕ}
use Prim.Native.String.{String}
use Rattle.product.specs.Sum.{Sum}
use Rattle.formula.specs.declared.text.Issued.{Issued}
use Rattle.formula.specs.Outcome.{Outcome, outcome_of, number_of_refusal, sum_in}
use Rattle.base.specs.Bytes.{bytes}

-- D0 and so on made, n of them, and no other key handed out
abbrev pub made : ℕ → Issued
made n = record { users = 0; threads = 0; segments = 0; defined = n }

-- document 01's number of an outcome's refusal, 0 for none, and its products
abbrev pub numbered : Outcome → ℕ × Sum
numbered o = (number_of_refusal o, sum_in o)

-- those of a text with n D keys made
abbrev pub compiled : ℕ → String → ℕ × Sum
compiled n text = numbered (outcome_of (made n) (bytes text))
