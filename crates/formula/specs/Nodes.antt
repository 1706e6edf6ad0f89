-- The list of products of each node of a formula, and whether every node fits. Document 01, 'Lock text'. Assumes
-- nothing.
use Rattle.std.specs.Prelude.{Bool, true, false, not, cond, ◌&&◌, [], ◌∷◌, None, Some}
use Rattle.product.specs.declared.literal.Literal.{Literal}
use Rattle.product.specs.declared.literal.Literal.TheVariants.{Plain, Barred}
use Rattle.product.specs.Atom.{Atom}
use Rattle.product.specs.Sum.{Sum, Sum?, conjoin, disjoin, fits_node}
use Rattle.formula.specs.Tree.{Level, Tree, atom, negate, bracket, factor, and, term, or}

-- `odd` says that a node stands under an odd number of NOTs: there a key is barred, and AND and OR change places
abbrev pub literal : Bool → Atom → Literal
literal false a = Plain a
literal true a = Barred a

abbrev pub join_and : Bool → Sum → Sum → Sum
join_and false ps qs = conjoin ps qs
join_and true ps qs = disjoin ps qs

abbrev pub join_or : Bool → Sum → Sum → Sum
join_or false ps qs = disjoin ps qs
join_or true ps qs = conjoin ps qs

-- document 01: the node's list of products
unfoldable pub products : Bool → {l : Level} → Tree l → Sum
products odd (atom a) = (literal odd a ∷ []) ∷ []
products odd (negate t) = products (not odd) t
products odd (bracket t) = products odd t
products odd (factor t) = products odd t
products odd (and t u) = join_and odd (products odd t) (products odd u)
products odd (term t) = products odd t
products odd (or t u) = join_or odd (products odd t) (products odd u)

-- Document 01: fits. Every node from this one down does. A node is judged on the list that it has where it stands,
-- under its own number of NOTs. A key's list, one product of one literal, always fits; a NOT's is that of what it
-- stands before.
unfoldable pub fits : Bool → {l : Level} → Tree l → Bool
fits odd (atom a) = true
fits odd (negate t) = fits (not odd) t
fits odd (bracket t) = fits odd t
fits odd (factor t) = fits odd t
fits odd (and t u) = fits odd t && (fits odd u && fits_node (products odd (and t u)))
fits odd (term t) = fits odd t
fits odd (or t u) = fits odd t && (fits odd u && fits_node (products odd (or t u)))

-- the list, or none where some node does not fit
unfoldable pub list_of : Bool → {l : Level} → Tree l → Sum?
list_of odd t = cond (fits odd t) (Some (products odd t)) None
