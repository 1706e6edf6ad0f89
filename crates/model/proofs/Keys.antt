-- Keys that are the same, and whether a key is in a list without one.
use mathlib.Core.Path.{◌≡◌, refl, sym, ap, ◌∙◌}
use mathlib.Core.Bool.{Bool, true, false, ◌&&◌, not}
use mathlib.Core.List.{List}
use Prim.Native.Nat.{ℕ}
use Rattle.product.specs.declared.literal.Key.{Key}
use Rattle.product.specs.declared.literal.Key.TheVariants.{Defined}
use Rattle.std.specs.Cmp.{Equal-is}
use Rattle.product.specs.Atom.{compare_atoms}
use Rattle.product.proofs.Comparison.{compare_equal, compare_same}
use Rattle.base.proofs.Lists.{case_bool, same_truth, all_members, any_and, any_keep, any_same}
use Rattle.model.specs.Threads.{same_key, is_in}
use Rattle.model.specs.Effects.{without}

pub same_key_lem : (j k : Key) → same_key j k ≡ true → j ≡ k
same_key_lem j k e = compare_equal j k ((Equal-is (compare_atoms j k)).0 e)

pub key_same : (j k : Key) → j ≡ k → same_key j k ≡ true
key_same j k e = ap (same_key j) (sym e) ∙ (let o = compare_same j in rw o)

pub same_back : (j k : Key) → same_key j k ≡ same_key k j
same_back j k =
    same_truth (same_key j k) (same_key k j) (λ e. key_same k j (sym (same_key_lem j k e))) (λ e. key_same j k (sym (same_key_lem k j e)))

and_miss : (a : Bool) {b : Bool} → b ≡ false → (a && b) ≡ false
and_miss true e = e
and_miss false e = refl

-- asked of a key that is j, it is asked of j
other_same : (j : Key) (c : ℕ) (x : Key) → (not (same_key (Defined c) x) && same_key j x) ≡ (not (same_key (Defined c) j) && same_key j x)
other_same j c x =
    case_bool (same_key j x)
    (λ e. ap (λ (y : Key). not (same_key (Defined c) y) && same_key j x) (sym (same_key_lem j x e)))
    (λ e. and_miss (not (same_key (Defined c) x)) e ∙ sym (and_miss (not (same_key (Defined c) j)) e))

pub in_without : (j : Key) (c : ℕ) (keys : List Key) → is_in j (without c keys) ≡ (not (same_key (Defined c) j) && is_in j keys)
in_without j c keys =
    any_keep (same_key j) (λ k. not (same_key (Defined c) k)) keys
    ∙ any_same _ _ keys (all_members _ keys (λ x m. other_same j c x))
    ∙ any_and (not (same_key (Defined c) j)) (same_key j) keys
