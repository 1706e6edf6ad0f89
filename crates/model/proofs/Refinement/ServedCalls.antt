-- How a function of the guard meets its promise: a refusal is the first condition that holds, and leaves the arrays; an
-- accepted call's answer and arrays are the definitions'. And what the tests that the code makes on the arrays say of
-- the state that they hold.
use Rattle.std.specs.Prelude.{Ok, Err, Option, None, Some}
use mathlib.Core.Path.{◌≡◌, sym, ap, ◌∙◌}
use mathlib.Core.List.{List}
use Prim.Native.Nat.{ℕ, ◌<◌, min}
use native.Mathlib.Omega.{arith}
use lib.Dec.{ltb}
use Rattle.formula.specs.Outcome.{outcome_of}
use Rattle.call.specs.declared.request.Request.{Request}
use Rattle.base.specs.Conditions.{first_refusal}
use Rattle.model.specs.declared.answer.Refusal.{Refusal}
use Rattle.model.specs.Answers.{Answer}
use Rattle.model.specs.Limits.{most_segments}
use Rattle.model.specs.Refusals.{conditions}
use Rattle.model.specs.Effects.{answer}
use Rattle.model.specs.State.{blank_segment, segment_at, is_segment}
use Rattle.model.specs.Cells.{Cells, cell, segment_count, segment_in, state_of}
use Rattle.model.specs.Stores.{store, judged_cells}
use Rattle.model.specs.Serving.{Serves}
use Rattle.base.proofs.Lists.{length_each, get_d_each}

module _ (d : Cells) (q : Request) (text : List ℕ) where
  unfoldable after : Option Refusal → record { cells : Cells; answer : Answer }
  after o = judged_cells outcome_of d q text o

  pub serves_refused : {r : Refusal} → first_refusal (conditions outcome_of (state_of d) q text) ≡ Some r → Serves d q text (Err r) d
  unfolding after
  serves_refused e = record { answer = sym (ap (λ (o : Option Refusal). (after o).answer) e); cells = sym (ap (λ (o : Option Refusal). (after o).cells) e) }

  pub serves_accepted : {n : ℕ} {d' : Cells} → first_refusal (conditions outcome_of (state_of d) q text) ≡ None
      → n ≡ answer outcome_of (state_of d) q text → d' ≡ store outcome_of d q text → Serves d q text (Ok n) d'
  unfolding after
  serves_accepted e a s =
      record { answer = ap Ok a ∙ sym (ap (λ (o : Option Refusal). (after o).answer) e); cells = s ∙ sym (ap (λ (o : Option Refusal). (after o).cells) e) }

-- how many segments the arrays hold
abbrev pub segments_in : Cells → ℕ
segments_in d = min (cell d.registry segment_count) most_segments

pub is_segment_lem : (d : Cells) (s : ℕ) → is_segment (state_of d) s ≡ ltb s (segments_in d)
unfolding state_of
is_segment_lem d s = ap (ltb s) (length_each (segment_in d) 0 (segments_in d))

pub segment_at_lem : (d : Cells) (s : ℕ) → s < segments_in d → segment_at (state_of d) s ≡ segment_in d s
unfolding state_of
segment_at_lem d s h = get_d_each (segment_in d) 0 (segments_in d) s blank_segment h ∙ ap (segment_in d) (omega arith)
