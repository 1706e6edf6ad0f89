-- Thread n sees both states alike (`Neighbours/OneCall`), and finds itself in what it sees.
use mathlib.Core.Path.{◌≡◌, refl, sym, ap, ◌∙◌}
use mathlib.Core.List.{List, [], ◌∷◌}
use Prim.Native.Nat.{ℕ}
use Rattle.base.proofs.Lists.{case_bool}
use Rattle.product.specs.declared.literal.Key.{Key}
use Rattle.formula.specs.Outcome.{outcome_of}
use Rattle.formula.specs.Compiler.{Compiler}
use Rattle.call.specs.Calls.{Call}
use Rattle.model.specs.State.{State, empty_state}
use Rattle.model.specs.Model.{step}
use Rattle.model.specs.Replay.{state_after}
use Rattle.model.specs.Theorems.Neighbours.{is_struck, strike}
use Rattle.model.proofs.Refinement.EveryCall.{refinement}
use Rattle.model.proofs.Neighbours.Erased.{view, own_kept}
use Rattle.model.proofs.Neighbours.OneCall.{struck_unseen, left_alike}
use Rattle.search.specs.Searching.{searched}
use Rattle.search.specs.Theorems.Neighbours.{Neighbours}

module _ (compile : Compiler) (n : ℕ) where
  seen_of : (xs : List Call) (d e : State) → view n d ≡ view n e
      → view n (state_after compile d xs) ≡ view n (state_after compile e (strike n xs))
  seen_of [] d e same = same
  seen_of (x ∷ xs) d e same =
      case_bool (is_struck n x)
      (λ t. simp t (seen_of xs (step compile d x).state e (struck_unseen compile n d x t ∙ same)))
      (λ t. simp t (seen_of xs (step compile d x).state (step compile e x).state (left_alike compile n d e same x t).0))

  seen_same : (xs ys : List Call) → strike n xs ≡ strike n ys
      → view n (state_after compile empty_state xs) ≡ view n (state_after compile empty_state ys)
  seen_same xs ys e =
      seen_of xs empty_state empty_state refl
      ∙ ap (λ (zs : List Call). view n (state_after compile empty_state zs)) e
      ∙ sym (seen_of ys empty_state empty_state refl)

searched_seen : (n : ℕ) (k : Key) (d : State) → searched (view n d) n k ≡ searched d n k
unfolding searched
searched_seen n k d = rw (own_kept n d.places) refl

pub neighbours : Neighbours
neighbours n xs ys e k =
    ap (λ (d : State). searched d n k) (refinement.list xs).state
    ∙ sym (searched_seen n k (state_after outcome_of empty_state xs))
    ∙ ap (λ (d : State). searched d n k) (seen_same outcome_of n xs ys e)
    ∙ searched_seen n k (state_after outcome_of empty_state ys)
    ∙ sym (ap (λ (d : State). searched d n k) (refinement.list ys).state)
