-- The segments and the history's: the same owner, kind and key list at the same number.
use Rattle.std.specs.Prelude.{slice_get, Option, None, Some}
use mathlib.Core.Path.{◌≡◌, refl, sym, ap, ◌∙◌}
use mathlib.Core.Bool.{cond}
use mathlib.Core.List.{List, [], ◌∷◌, ◌++◌}
use Prim.Native.Nat.{ℕ, zero, suc, ◌<◌}
use native.Mathlib.Nat.{le_of_suc-le-suc, not-suc-le-zero}
use lib.Dec.{eqb, eqb-suc-suc, eqb-suc-zero, eqb-zero-suc}
use lib.ListN.{length, get_or, set}
use Rattle.base.specs.Lists.{put, adjust, Map, map_option}
use Rattle.model.specs.State.{Segment, LockProduct, blank_segment}
use Rattle.model.specs.History.{Entry}
use Rattle.base.proofs.Lists.{case_bool, at_append_one, at_set, at_lt, at_some_lt, some_inj, some≢none}

abbrev pub entry_of : Segment → Entry
entry_of g = record { owner = g.owner; kind = g.kind; keys = g.keys }

abbrev pub AgreeSegments : List Segment → Map Entry → Type 0
AgreeSegments segments entries = (s : ℕ) → entries s ≡ map_option entry_of (slice_get segments s)

module _ (segments : List Segment) (entries : Map Entry) (c : AgreeSegments segments entries) where
  -- a segment that the history has
  pub entry_low : (s : ℕ) (e : Entry) → entries s ≡ Some e → s < length segments
  entry_low s e h = by (slice_get segments s) refl
    where
      by : (o : Option Segment) → slice_get segments s ≡ o → s < length segments
      by None q = absurd (some≢none (sym h ∙ c s ∙ ap (map_option entry_of) q))
      by (Some g) q = at_some_lt segments s g q

  pub entry_is : (s : ℕ) (e : Entry) → entries s ≡ Some e → entry_of (get_or segments s blank_segment) ≡ e
  entry_is s e h = some_inj (sym (ap (map_option entry_of) (at_lt segments s blank_segment (entry_low s e h))) ∙ sym (c s) ∙ h)

  -- N
  pub agree_new : (g : Segment) → AgreeSegments (segments ++ g ∷ []) (put entries (length segments) (entry_of g))
  agree_new g s = case_bool (eqb s (length segments)) (λ t. simp (at_append_one, t)) (λ t. simp (at_append_one, t) (c s))

  module _ (s : ℕ) (f : Segment → Segment) where
    abbrev changed : List Segment
    changed = set segments s (f (get_or segments s blank_segment))

    -- a change of segment s that the history follows
    pub agree_adjust : (F : Entry → Entry) → ((g : Segment) → entry_of (f g) ≡ F (entry_of g)) → AgreeSegments changed (adjust entries s F)
    agree_adjust F h j =
        case_bool (eqb j s)
        (λ t. simp (at_set segments s f blank_segment j, t, c j) (square (slice_get segments j)))
        (λ t. simp (at_set segments s f blank_segment j, t) (c j))
      where
        square : (o : Option Segment) → map_option F (map_option entry_of o) ≡ map_option entry_of (map_option f o)
        square None = refl
        square (Some g) = ap Some (sym (h g))

    -- a change that it doesn't see
    pub agree_unseen : ((g : Segment) → entry_of (f g) ≡ entry_of g) → AgreeSegments changed entries
    agree_unseen h j =
        case_bool (eqb j s)
        (λ t. simp (at_set segments s f blank_segment j, t) (c j ∙ unseen (slice_get segments j)))
        (λ t. simp (at_set segments s f blank_segment j, t) (c j))
      where
        unseen : (o : Option Segment) → map_option entry_of o ≡ map_option entry_of (map_option f o)
        unseen None = refl
        unseen (Some g) = ap Some (sym (h g))

-- ---- the products of a segment's standing locks

abbrev pub products_at : List Segment → ℕ → List LockProduct
products_at segments s = (get_or segments s blank_segment).products

pub products_append_one : (segments : List Segment) (g : Segment) → g.products ≡ [] → (s : ℕ) → products_at (segments ++ g ∷ []) s ≡ products_at segments s
products_append_one [] g e zero = e
products_append_one [] g e (suc s) = refl
products_append_one (x ∷ xs) g e zero = refl
products_append_one (x ∷ xs) g e (suc s) = products_append_one xs g e s

-- a change of a segment changes its products as it says, and no other's
pub products_set : (segments : List Segment) (i : ℕ) (g : Segment) → i < length segments
    → (s : ℕ) → products_at (set segments i g) s ≡ cond (eqb s i) g.products (products_at segments s)
products_set [] i g h s = absurd (not-suc-le-zero h)
products_set (x ∷ xs) zero g h zero = refl
products_set (x ∷ xs) zero g h (suc s) = simp eqb-suc-zero
products_set (x ∷ xs) (suc i) g h zero = simp eqb-zero-suc
products_set (x ∷ xs) (suc i) g h (suc s) = simp eqb-suc-suc (products_set xs i g (le_of_suc-le-suc h) s)

-- a change that leaves the products alone
pub products_same : (segments : List Segment) (i : ℕ) (f : Segment → Segment) → ((g : Segment) → (f g).products ≡ g.products)
    → (s : ℕ) → products_at (set segments i (f (get_or segments i blank_segment))) s ≡ products_at segments s
products_same [] i f h s = refl
products_same (x ∷ xs) zero f h zero = h x
products_same (x ∷ xs) zero f h (suc s) = refl
products_same (x ∷ xs) (suc i) f h zero = refl
products_same (x ∷ xs) (suc i) f h (suc s) = products_same xs i f h s
