-- Request P2. A list and what is left of it, from two states that thread n sees alike: what is struck out leaves them
-- alike, and so does every other call, which is answered alike. The request's own words are the part of it that the
-- one thread asks.
use mathlib.Core.Path.{◌≡◌, refl, sym, ap, ap₂, ◌∙◌}
use mathlib.Core.Bool.{true, not, and-false}
use mathlib.Core.List.{List, [], ◌∷◌, map}
use Prim.Native.Nat.{ℕ}
use lib.Dec.{eqb}
use Rattle.base.specs.Lists.{keep}
use Rattle.base.proofs.Lists.{case_bool, all_members, keep_map, keep_idle}
use Rattle.base.proofs.Truth.{and_right}
use Rattle.formula.specs.Outcome.{outcome_of}
use Rattle.formula.specs.Compiler.{Compiler}
use Rattle.call.specs.Calls.{Call}
use Rattle.model.specs.Answers.{Answer}
use Rattle.model.specs.State.{State, empty_state}
use Rattle.model.specs.Model.{step}
use Rattle.model.specs.History.{Event, event}
use Rattle.model.specs.Replay.{events_of, events}
use Rattle.model.specs.Theorems.Neighbours.{has_letter, is_struck, strike, thread_letters, is_own, answers_to, seen, answers_left, Neighbours}
use Rattle.model.proofs.Refinement.EveryCall.{refinement}
use Rattle.model.proofs.Neighbours.Erased.{view}
use Rattle.model.proofs.Neighbours.OneCall.{struck_unseen, left_alike}

module _ (compile : Compiler) (n : ℕ) where
  left_of : (xs : List Call) (d e : State) → view n d ≡ view n e
      → answers_left n (events_of compile d xs) ≡ answers_left n (events_of compile e (strike n xs))
  left_of [] d e same = refl
  left_of (x ∷ xs) d e same =
      case_bool (is_struck n x)
      (λ t. simp t (left_of xs (step compile d x).state e (struck_unseen compile n d x t ∙ same)))
      (λ t.
      let (v, a) = left_alike compile n d e same x t in
      simp t (ap₂ (λ (r : Answer) (es : List Event). event x r ∷ es) a (left_of xs (step compile d x).state (step compile e x).state v)))

  left_same : (xs ys : List Call) → strike n xs ≡ strike n ys
      → answers_left n (events_of compile empty_state xs) ≡ answers_left n (events_of compile empty_state ys)
  left_same xs ys e =
      left_of xs empty_state empty_state refl
      ∙ ap (λ (zs : List Call). answers_left n (events_of compile empty_state zs)) e
      ∙ sym (left_of ys empty_state empty_state refl)

-- ---- the one thread's own

own_names : (n : ℕ) (x : Call) → is_own n x ≡ true → eqb x.a n ≡ true
own_names n x h = and_right (has_letter thread_letters x) (eqb x.a n) h

own_left : (n : ℕ) (x : Call) → is_own n x ≡ true → not (is_struck n x) ≡ true
own_left n x h = simp (own_names n x h, and-false)

own_seen : (n : ℕ) (e : Event) → is_own n e.call ≡ true → seen n e ≡ e
own_seen n e h = simp (own_names n e.call h, and-false)

all_own_seen : (n : ℕ) (es : List Event) → map (seen n) (answers_to n es) ≡ answers_to n es
all_own_seen n [] = refl
all_own_seen n (e ∷ es) =
    case_bool (is_own n e.call)
    (λ t. simp t (ap₂ (λ (f : Event) (fs : List Event). f ∷ fs) (own_seen n e t) (all_own_seen n es)))
    (λ t. simp t (all_own_seen n es))

-- the one thread's own answers, read from all that are left
own_of_left : (n : ℕ) (es : List Event) → answers_to n (answers_left n es) ≡ answers_to n es
own_of_left n es =
    keep_map (λ e. is_own n e.call) (seen n) (keep (λ e. not (is_struck n e.call)) es)
    ∙ ap (map (seen n)) (keep_idle (λ e. not (is_struck n e.call)) (λ e. is_own n e.call) es (all_members _ es (λ e m h. own_left n e.call h)))
    ∙ all_own_seen n es

pub neighbours : Neighbours
neighbours n xs ys e =
    let left : answers_left n (events outcome_of xs) ≡ answers_left n (events outcome_of ys) =
    ap (answers_left n) (refinement.list xs).events ∙ left_same outcome_of n xs ys e ∙ sym (ap (answers_left n) (refinement.list ys).events) in
    record {
      own = sym (own_of_left n (events outcome_of xs)) ∙ ap (answers_to n) left ∙ own_of_left n (events outcome_of ys);
      left = left;
    }
