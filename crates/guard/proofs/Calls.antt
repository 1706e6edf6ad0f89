-- From a call to its request and back.
use Rattle.std.specs.Prelude.{Err, Some, None}
use mathlib.Core.Path.{◌≡◌}
use mathlib.Core.List.{List}
use Prim.Native.Nat.{ℕ}
use Rattle.call.specs.declared.request.Request.{Request}
use Rattle.call.specs.Calls.{Call, decoded}
use Rattle.model.specs.declared.answer.Refusal.TheVariants.{Corrupt}
use Rattle.model.specs.Answers.{Answer}
use Rattle.model.specs.Cells.{Cells}
use Rattle.model.specs.Stores.{step_cells}
use Rattle.model.specs.Serving.{Serves, Answers}

module _ (d d' : Cells) (r : Answer) where
  -- a request is served by its call's function, which is lent some of the arrays
  module _ (text : List ℕ) (q : Request) {q' : Request} (e : q ≡ q') (lent left : Cells → Cells) where
    pub with_text_lem : ((x : Cells) → Serves (lent x) q' text r (left x)) → lent d ≡ d → left d ≡ d' → Serves d q text r d'
    with_text_lem s before after = let h = s d in rw e (rw (before, after) at h)

    pub as_request : ((t : List ℕ) (x : Cells) → Serves (lent x) q' t r (left x)) → lent d ≡ d → left d ≡ d' → Serves d q text r d'
    as_request s = with_text_lem (s text)

  -- a well formed call is its request
  pub as_call : (x : Call) (q : Request) → decoded x ≡ Some q → Serves d q x.text r d' → Answers d x r d'
  unfolding step_cells
  as_call x q e s = rw e s

-- any other is refused before all else
pub not_well_formed : (d : Cells) (x : Call) → decoded x ≡ None → Answers d x (Err Corrupt) d
unfolding step_cells
not_well_formed d x e = record { answer = rw e; cells = rw e }
