-- Sums: a node's list of products, and how AND and OR join two of them. Document 01, 'Lock text'.
use Rattle.std.specs.Prelude.{Bool, true, false, cond, ◌&&◌, ◌||◌, List, [], ◌∷◌, ◌++◌, ℕ, leb, length, Option, None, Some}
use Rattle.product.specs.Atom.{Atom}
use Rattle.product.specs.Product.{Product, opens, union, contradictory, same_product}

-- document 01: a node's list of products
abbrev pub Sum : Type 0
Sum = List Product

-- some product opens
unfoldable pub opens_any : (Atom → Bool) → Sum → Bool
opens_any ρ [] = false
opens_any ρ (p ∷ ps) = opens ρ p || opens_any ρ ps

-- p joined with each right product, in order
unfoldable pub join_each : Product → Sum → Sum
join_each p [] = []
join_each p (q ∷ qs) = union p q ∷ join_each p qs

-- each left product, in order, joined with each right one
unfoldable pub join_all : Sum → Sum → Sum
join_all [] qs = []
join_all (p ∷ ps) qs = join_each p qs ++ join_all ps qs

unfoldable pub present : Product → Sum → Bool
present p [] = false
present p (q ∷ qs) = same_product p q || present p qs

-- the products with no key both plain and barred
unfoldable pub consistent : Sum → Sum
consistent [] = []
consistent (p ∷ ps) = let rest = consistent ps in cond (contradictory p) rest (p ∷ rest)

-- after the products found, those that are no repeat
unfoldable pub firsts : Sum → Sum → Sum
firsts found [] = found
firsts found (p ∷ ps) = firsts (cond (present p found) found (found ++ p ∷ [])) ps

-- products with a key both plain and barred go, then repeats, the first staying
abbrev pub tidy : Sum → Sum
tidy ps = firsts [] (consistent ps)

-- the list of an AND node, and of an OR node
abbrev pub conjoin : Sum → Sum → Sum
conjoin ps qs = tidy (join_all ps qs)

abbrev pub disjoin : Sum → Sum → Sum
disjoin ps qs = tidy (ps ++ qs)

-- document 01: a node fits with at most 8 products of at most 6 signed keys
abbrev pub most_products : ℕ
most_products = 8

abbrev pub most_literals : ℕ
most_literals = 6

-- no product has more literals
unfoldable pub narrow : Sum → Bool
narrow [] = true
narrow (p ∷ ps) = leb (length p) most_literals && narrow ps

-- document 01: the node fits
unfoldable pub fits_node : Sum → Bool
fits_node ps = leb (length ps) most_products && narrow ps

-- a sum, or none where it is too wide
abbrev pub Sum? : Type 0
Sum? = Option Sum

abbrev pub cap : Sum → Sum?
cap ps = cond (fits_node ps) (Some ps) None

-- two sums joined, unless one of the three is too wide
abbrev pub joined : (Sum → Sum → Sum) → Sum? → Sum? → Sum?
joined g None y = None
joined g (Some ps) None = None
joined g (Some ps) (Some qs) = cap (g ps qs)
