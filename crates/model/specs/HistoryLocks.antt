-- The standing locks on a segment, read from the history; what is stored of a lock, and for which key sets that opens.
use Rattle.std.specs.Prelude.{Bool, List, map, ℕ, eqb, length}
use Rattle.product.specs.Product.{opens}
use Rattle.product.specs.Sum.{Sum}
use Rattle.formula.specs.Outcome.{sum_in}
use Rattle.formula.specs.Compiler.{Compiler, everything}
use Rattle.base.specs.Lists.{any, keep, concat_map, total}
use Rattle.model.specs.Threads.{KeySet}
use Rattle.model.specs.State.{State, LockProduct, is_of_lock}
use Rattle.model.specs.Effects.{lock_product}
use Rattle.model.specs.History.{Event, Lock, history}

-- the standing locks on segment s, in the order of their making
abbrev pub stands_on : ℕ → Lock → Bool
stands_on s l = eqb l.segment s

abbrev pub locks_on : List Event → ℕ → List Lock
locks_on es s = keep (stands_on s) (history es).locks

module _ (compile : Compiler) where
  -- A text's products, of the text alone: which keys were handed out when an accepted text was compiled makes no
  -- difference (`everywhere` of the compiler's laws).
  abbrev pub products_of : List ℕ → Sum
  products_of text = sum_in (compile everything text)

  -- what a lock stores: its text's products, in order, each with the lock's number and operations
  abbrev pub stored_of : Lock → List LockProduct
  stored_of l = map (lock_product l.number l.operations) (products_of l.text)

  -- how many products the standing locks on segment s have
  abbrev pub standing_products : List Event → ℕ → ℕ
  standing_products es s = total (map (λ l. length (products_of l.text)) (locks_on es s))

-- the products that the state has stored for lock n, of all segments
abbrev pub stored_for : State → ℕ → List LockProduct
stored_for d n = keep (is_of_lock n) (concat_map (λ g. g.products) d.segments)

-- one of them opens for a key set
abbrev pub stored_opens : State → ℕ → KeySet → Bool
stored_opens d n keys = any (λ r. opens keys r.product) (stored_for d n)
