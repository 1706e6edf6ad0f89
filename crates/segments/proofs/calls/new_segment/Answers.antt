-- Err to a thread that is not live, for a third kind and where 64 segments are there, else the next number is
-- handed out.
use Rattle.std.specs.Prelude.{Ok, Err, Some}
use mathlib.Core.Path.{◌≡◌, refl, ap}
use mathlib.Core.List.{List}
use Prim.Native.Nat.{ℕ, suc, ◌+◌, ◌≤◌, ◌<◌}
use native.Mathlib.Numerals.{add-one}
use native.Mathlib.Omega.{arith}
use borrow.Author.Rules.{rules}
use borrow.Author.Tests.{lt-ltb, le-ltb}
use lib.ListN.{length, set}
use Rattle.call.specs.declared.request.Request.TheVariants.{NewSegment}
use Rattle.model.specs.declared.answer.Refusal.TheVariants.{Unfit, Full}
use Rattle.model.specs.Limits.{most_segments}
use Rattle.model.specs.Operations.{sheet}
use Rattle.model.specs.Refusals.{conditions}
use Rattle.model.specs.State.{editor}
use Rattle.model.specs.Effects.{answer}
use Rattle.model.specs.Cells.{Cells, registry_is, segments_are, locks_are, cell, segment_count, state_of}
use Rattle.model.specs.Stores.{new_segment, on_table, end_rows, store}
use Rattle.model.specs.Serving.{Serves}
use Rattle.model.proofs.Refinement.ServedCalls.{serves_refused, serves_accepted}
use Rattle.threads.proofs.Editors.{BeginsWithEditor, editor_missing, editor_known}
use Rattle.segments.proofs.ArrayTests.{segments_there}
use Rattle.segments.proofs.calls.new_segment.Goals as goal

module _ (d : Cells) (text : List ℕ) (a kind : ℕ) where
  begins : BeginsWithEditor d (NewSegment a kind) text a
  unfolding conditions
  begins = (_, refl)

  module _ {u : ℕ} (known : editor (state_of d) a ≡ Some u) where
    unfit : sheet < kind → Serves d (NewSegment a kind) text (Err Unfit) d
    unfolding conditions
    unfit h = serves_refused d (NewSegment a kind) text (rw (known, lt-ltb sheet kind h))

    module _ (fits : kind ≤ sheet) where
      full : most_segments ≤ cell d.registry segment_count → Serves d (NewSegment a kind) text (Err Full) d
      unfolding conditions
      full h =
          let e = segments_there d in
          serves_refused d (NewSegment a kind) text
          (rw (known, le-ltb sheet kind fits, lt-ltb most_segments (suc (length (state_of d).segments)) (omega arith)))

      handed : cell d.registry segment_count < most_segments
          → Serves d (NewSegment a kind) text (Ok (cell d.registry segment_count))
          (registry_is (set d.registry segment_count (cell d.registry segment_count + 1))
          (segments_are (set d.segments (cell d.registry segment_count) (new_segment (cell d.registry segment_count) u kind))
          (locks_are (on_table d.locks (cell d.registry segment_count) (λ t. end_rows t 0)) d)))
      unfolding conditions answer store
      handed h =
          let e = segments_there d in
          let s : ℕ = cell d.registry segment_count in
          let same : s ≡ length (state_of d).segments = omega arith in
          serves_accepted d (NewSegment a kind) text
          (rw (known, le-ltb sheet kind fits, le-ltb most_segments (suc (length (state_of d).segments)) (omega arith)))
          same
          (rw known
          (ap (λ (n : ℕ). registry_is (set d.registry segment_count n) (segments_are (set d.segments s (new_segment s u kind)) (locks_are (on_table d.locks s (λ t. end_rows t 0)) d))) (add-one s)))

pub returns-in_err-user : goal.returns-in_err-user
returns-in_err-user c =
    let r : c.from_residual.result ≡ c.editor.result = search (rules, c.in_err-user.was) in
    λ text d. rw r (editor_missing _ _ c.editor.ensures (NewSegment _ _) text (begins _ text _ _) _ c.in_err-user.was)

pub returns-then-kind-gt-SHEET : goal.returns-then-kind-gt-SHEET
returns-then-kind-gt-SHEET c =
    λ text d.
    unfit _ text _ _ (editor_known _ _ c.editor.ensures _ c.in_ok-user.was) c.if-kind-gt-SHEET.true

pub returns-then-segment : goal.returns-then-segment
returns-then-segment c =
    λ text d.
    full _ text _ _ (editor_known _ _ c.editor.ensures _ c.in_ok-user.was) c.if-kind-gt-SHEET.false c.if-segment.true

pub returns : goal.returns
returns c =
    λ text d.
    handed _ text _ _ (editor_known _ _ c.editor.ensures _ c.in_ok-user.was) c.if-kind-gt-SHEET.false c.if-segment.false
