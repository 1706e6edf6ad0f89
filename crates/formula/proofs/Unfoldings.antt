-- What a proof by computing about formula texts unfolds, the reader as well: `unfolding computing` is all that it says.
use Rattle.base.specs.Bytes.{bytes}
use Rattle.product.proofs.Unfoldings.{computing as product-computing}
use Rattle.formula.specs.Text.{issued_to}
use Rattle.formula.specs.Tree.{holds}
use Rattle.formula.specs.Nodes.{products, fits, list_of}
use Rattle.formula.specs.Internal.Reader.{read_digits, read_number, read_atom, read_nots, read_text}
use Rattle.formula.specs.Outcome.{outcome_of}
use Rattle.formula.specs.Meaning.{text_holds}

unfoldable pub computing : Unit {0}
unfolding product-computing bytes issued_to holds products fits list_of read_digits read_number read_atom read_nots read_text outcome_of text_holds
computing = tt
