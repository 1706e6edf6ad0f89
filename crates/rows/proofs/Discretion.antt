-- Of states: the one segment that differs has the same owner, and its blank rows are those of the locks' heads. Of
-- calls: the history gives anyone but the owner rows in which no text occurs.
use mathlib.Core.Path.{◌≡◌, refl, sym, ap, ◌∙◌}
use mathlib.Core.Bool.{Bool, true, false, ◌&&◌}
use mathlib.Core.List.{List, [], ◌∷◌, map}
use Prim.Native.Nat.{ℕ, zero, suc}
use lib.Dec.{eqb, ltb}
use lib.ListN.{get_or, set, length-set}
use Rattle.product.specs.Sum.{Sum}
use Rattle.formula.specs.Outcome.{outcome_of}
use Rattle.base.specs.Lists.{keep, concat_map, is_some}
use Rattle.base.proofs.Lists.{All, keep_map, map_map}
use Rattle.model.specs.State.{LockProduct, Segment, State, blank_segment, segment_at, is_user, is_segment, owns}
use Rattle.model.specs.Effects.{with_products}
use Rattle.model.specs.History.{Event, Lock, history}
use Rattle.model.specs.HistoryLocks.{stands_on, locks_on}
use Rattle.model.specs.Replay.{events}
use Rattle.rows.specs.Rows.{row_without_keys, firsts_of, rows_for}
use Rattle.rows.specs.Listing.{listed}
use Rattle.rows.specs.Theorems.FromHistory.{owns_in, rows_from}
use Rattle.rows.specs.Theorems.FromHistory.{lock_blank}
use Rattle.rows.specs.Theorems.Discretion.{StandingLock, products_in, with_standing, head_of, Discreet, textless, SameButTexts, DiscreetCalls, Discretion}
use Rattle.rows.proofs.BlankRows.{Filled, blanks_of_lem, blanks_of}
use Rattle.rows.proofs.SameListings.{same_listing}
use Rattle.rows.proofs.FromHistory.{from_history}

-- ---- states

-- what a colleague sees of a segment
pub record SeenAlike (g g' : Segment) : Type 0 where
  pub owner : g.owner ≡ g'.owner
  pub blanks : map row_without_keys (firsts_of g.products) ≡ map row_without_keys (firsts_of g'.products)

self_alike : (g : Segment) → SeenAlike g g
self_alike g = record { owner = refl; blanks = refl }

set_alike : (gs : List Segment) (s t : ℕ) (g g' : Segment) → SeenAlike g g' → SeenAlike (get_or (set gs s g) t blank_segment) (get_or (set gs s g') t blank_segment)
set_alike [] s t g g' a = self_alike blank_segment
set_alike (x ∷ gs) zero zero g g' a = a
set_alike (x ∷ gs) zero (suc t) g g' a = self_alike (get_or gs t blank_segment)
set_alike (x ∷ gs) (suc s) zero g g' a = self_alike x
set_alike (x ∷ gs) (suc s) (suc t) g g' a = set_alike gs s t g g' a

-- a segment with other products has the owner that it had
set_owner : (gs : List Segment) (s t : ℕ) (ps : List LockProduct)
    → (get_or (set gs s (with_products (get_or gs s blank_segment) ps)) t blank_segment).owner ≡ (get_or gs t blank_segment).owner
set_owner [] s t ps = refl
set_owner (x ∷ gs) zero zero ps = refl
set_owner (x ∷ gs) zero (suc t) ps = refl
set_owner (x ∷ gs) (suc s) zero ps = refl
set_owner (x ∷ gs) (suc s) (suc t) ps = set_owner gs s t ps

abbrev number : StandingLock → ℕ
number l = l.number

abbrev operations : StandingLock → ℕ
operations l = l.operations

abbrev sum : StandingLock → Sum
sum l = l.first ∷ l.more

filled : (ls : List StandingLock) → All (Filled number operations sum) ls
filled [] = tt
filled (l ∷ ls) = ((l.first, l.more, refl), filled ls)

alike : (g : Segment) (ls ls' : List StandingLock) → map head_of ls ≡ map head_of ls'
    → SeenAlike (with_products g (concat_map products_in ls)) (with_products g (concat_map products_in ls'))
alike g ls ls' e =
    record { owner = refl; blanks = blanks_of_lem number operations sum ls (filled ls) ∙ ap blanks_of e ∙ sym (blanks_of_lem number operations sum ls' (filled ls')) }

rows_alike : (d d' : State) (u t : ℕ) → owns d u t ≡ false → SeenAlike (segment_at d t) (segment_at d' t) → rows_for d u t ≡ rows_for d' u t
unfolding rows_for
rows_alike d d' u t other a =
    let other' : owns d' u t ≡ false = ap (λ (n : ℕ). eqb n u) (sym a.owner) ∙ other in
    rw (other, other') a.blanks

discreet : Discreet
unfolding listed
discreet d s ls ls' e u t other lent =
    let gs = d.segments in
    let g = with_products (segment_at d s) (concat_map products_in ls) in
    let g' = with_products (segment_at d s) (concat_map products_in ls') in
    let handed : is_segment (with_standing d s ls) t ≡ is_segment (with_standing d s ls') t = ap (ltb t) (length-set gs s g ∙ sym (length-set gs s g')) in
    let mine : is_segment (with_standing d s ls') t ≡ true → owns (with_standing d s ls) u t ≡ false =
    λ h. ap (λ (n : ℕ). eqb n u) (set_owner gs s t (concat_map products_in ls)) ∙ sym (ap (λ (b : Bool). b && owns d u t) (sym (ap (ltb t) (length-set gs s g')) ∙ h)) ∙ other in
    same_listing {known = is_user d u} lent refl handed
    (λ h. rows_alike (with_standing d s ls) (with_standing d s ls') u t (mine h) (set_alike gs s t g g' (alike (segment_at d s) ls ls' e)))

-- ---- calls

blanks_textless : (es : List Event) (s : ℕ) → map lock_blank (locks_on es s) ≡ map lock_blank (keep (stands_on s) (map textless (history es).locks))
blanks_textless es s =
    sym (map_map lock_blank textless (locks_on es s)) ∙ ap (map lock_blank) (sym (keep_map (stands_on s) textless (history es).locks))

rows_textless : (es es' : List Event) → SameButTexts es es' → (u s : ℕ) → owns_in es u s ≡ false → rows_from es u s ≡ rows_from es' u s
rows_textless es es' same u s other =
    let other' : owns_in es' u s ≡ false = rw (← same.segments s) other in
    rw (other, other')
    (blanks_textless es s ∙ ap (λ (ls : List Lock). map lock_blank (keep (stands_on s) ls)) same.locks ∙ sym (blanks_textless es' s))

discreet_calls : DiscreetCalls
discreet_calls xs xs' same u s other lent =
    let es = events outcome_of xs in
    let es' = events outcome_of xs' in
    from_history.listing xs u s lent
    ∙ same_listing lent (ap (ltb u) same.users) (ap is_some (same.segments s)) (λ h. rows_textless es es' same u s other)
    ∙ sym (from_history.listing xs' u s lent)

pub discretion : Discretion
discretion = record { states = discreet; calls = discreet_calls }
