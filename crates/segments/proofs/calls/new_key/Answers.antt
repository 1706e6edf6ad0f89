-- Err to a thread that is not live and where 1,024 keys are there, else the next number is handed out.
use Rattle.std.specs.Prelude.{Ok, Err, Some}
use mathlib.Core.Path.{◌≡◌, refl, ap, ap₂, ◌∙◌}
use mathlib.Core.List.{List}
use Prim.Native.Nat.{ℕ, suc, ◌+◌, ◌≤◌, ◌<◌, min}
use native.Mathlib.Numerals.{add-one}
use native.Mathlib.Omega.{arith}
use borrow.Author.Rules.{rules}
use borrow.Author.Tests.{lt-ltb, le-ltb}
use lib.ListN.{length, set, length-take}
use Rattle.call.specs.declared.request.Request.TheVariants.{NewKey}
use Rattle.model.specs.declared.answer.Refusal.TheVariants.{Full}
use Rattle.model.specs.Limits.{most_defined}
use Rattle.model.specs.Refusals.{conditions}
use Rattle.model.specs.State.{editor}
use Rattle.model.specs.Effects.{answer}
use Rattle.model.specs.Cells.{Cells, registry_is, makers_are, cell, defined_count, state_of}
use Rattle.model.specs.Stores.{store}
use Rattle.model.specs.Serving.{Serves}
use Rattle.model.proofs.Refinement.ServedCalls.{serves_refused, serves_accepted}
use Rattle.registry.specs.Counts.{Handed}
use Rattle.threads.proofs.Editors.{BeginsWithEditor, editor_missing, editor_known}
use Rattle.segments.proofs.calls.new_key.Goals as goal

module _ (d : Cells) (text : List ℕ) (a : ℕ) where
  begins : BeginsWithEditor d (NewKey a) text a
  unfolding conditions
  begins = (_, refl)

  module _ {u : ℕ} (known : editor (state_of d) a ≡ Some u) {n : ℕ} (c : Handed (cell d.registry defined_count) d.makers n) where
    full : most_defined ≤ n → Serves d (NewKey a) text (Err Full) d
    unfolding conditions state_of
    full h = serves_refused d (NewKey a) text (rw (known, ← c.keys, lt-ltb most_defined (suc n) (omega arith)))

    handed : n < most_defined → length d.makers ≡ most_defined
        → Serves d (NewKey a) text (Ok n) (registry_is (set d.registry defined_count (n + 1)) (makers_are (set d.makers n u) d))
    unfolding conditions answer state_of store
    handed h long =
        let e = c.keys in
        let l = length-take (min (cell d.registry defined_count) most_defined) d.makers in
        let same : n ≡ cell d.registry defined_count = omega arith in
        serves_accepted d (NewKey a) text
        (rw (known, ← c.keys, le-ltb most_defined (suc n) (omega arith)))
        c.keys
        (rw known
        (ap₂ (λ (k m : ℕ). registry_is (set d.registry defined_count k) (makers_are (set d.makers m u) d)) (add-one n ∙ ap suc same) same))

pub returns-in_err-user : goal.returns-in_err-user
returns-in_err-user c =
    let r : c.from_residual.result ≡ c.editor.result = search (rules, c.in_err-user.was) in
    λ text d. rw r (editor_missing _ _ c.editor.ensures (NewKey _) text (begins _ text _) _ c.in_err-user.was)

pub returns-then-key-ge-MOST_DEFINED : goal.returns-then-key-ge-MOST_DEFINED
returns-then-key-ge-MOST_DEFINED c =
    λ text d.
    full _ text _ (editor_known _ _ c.editor.ensures _ c.in_ok-user.was) c.defined-key.ensures c.if-key-ge-MOST_DEFINED.true

pub returns : goal.returns
returns c =
    λ text d.
    handed _ text _ (editor_known _ _ c.editor.ensures _ c.in_ok-user.was) c.defined-key.ensures c.if-key-ge-MOST_DEFINED.false (search rules)
