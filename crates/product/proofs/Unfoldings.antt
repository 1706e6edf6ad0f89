-- What a proof by computing about products unfolds: `unfolding computing` is all that it says.
use Rattle.product.specs.Atom.{compare_atoms, compare_literals}
use Rattle.product.specs.Product.{opens, insert, union, clashes, contradictory, same_product}
use Rattle.product.specs.Sum.{opens_any, join_each, join_all, present, consistent, firsts, narrow, fits_node}
use Rattle.product.specs.Code.{key_code, code_of, key_at, literal_at}
use Rattle.product.specs.Held.{member}

unfoldable pub computing : Unit {0}
unfolding compare_atoms compare_literals opens insert union clashes contradictory same_product opens_any join_each join_all present consistent firsts narrow fits_node key_code code_of key_at literal_at member
computing = tt
