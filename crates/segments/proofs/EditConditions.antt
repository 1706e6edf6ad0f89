-- What the tests that G and T begin with say of the state: the thread is live, the segment and the key are handed out.
use Rattle.std.specs.Prelude.{Some, Result, Ok, Err, ⊤}
use mathlib.Core.Path.{◌≡◌, ap, subst, ◌∙◌}
use mathlib.Core.Bool.{false, not}
use mathlib.Core.List.{List, ◌∷◌}
use Prim.Native.Nat.{ℕ, ◌<◌}
use native.Mathlib.Omega.{arith}
use lib.ListN.{get_or}
use Rattle.formula.specs.Outcome.{outcome_of}
use Rattle.call.specs.declared.request.Request.{Request}
use Rattle.base.specs.Conditions.{Condition, first_refusal}
use Rattle.model.specs.declared.answer.Refusal.{Refusal}
use Rattle.model.specs.declared.answer.Refusal.TheVariants.{NoSegment, NoKey}
use Rattle.model.specs.Answers.{Answer}
use Rattle.model.specs.Limits.{most_defined}
use Rattle.model.specs.Refusals.{conditions, unless, unknown_editor}
use Rattle.model.specs.State.{is_segment, is_key, segment_at, editor}
use Rattle.model.specs.Cells.{Cells, threads_are, cell, segment_in, state_of}
use Rattle.model.specs.Serving.{Serves}
use Rattle.model.proofs.Refinement.ServedCalls.{serves_refused}
use Rattle.threads.specs.Editors.{EditorLent}
use Rattle.threads.proofs.Editors.{editor_known}
use Rattle.segments.specs.Internal.{NamesTested, no_segment_lem, no_key_lem, handed_out_lem}
use Rattle.segments.proofs.ArrayTests.{segment_missing, a_segment, segment_here, key_missing, a_key, maker_here}

-- the call's conditions begin with them
abbrev pub Names : Cells → Request → List ℕ → ℕ → ℕ → ℕ → Type 0
Names d q text a s k =
    (rest : List (Condition Refusal))
    × (conditions outcome_of (state_of d) q text
    ≡ unknown_editor (state_of d) a ∷ unless (is_segment (state_of d) s) NoSegment ∷ unless (is_key (state_of d) k) NoKey ∷ rest)

-- and none of them holds of a call of user u
pub record Begun (d : Cells) (a s k u : ℕ) : Type 0 where
  pub known : editor (state_of d) a ≡ Some u
  pub segment : not (is_segment (state_of d) s) ≡ false
  pub key : not (is_key (state_of d) k) ≡ false
  pub there : segment_at (state_of d) s ≡ segment_in d s
  pub maker : get_or (state_of d).makers k 0 ≡ cell d.makers k
  pub low : k < most_defined

-- what the answer of the tests says of a call whose editor the first answer knows
module _ (d : Cells) (q : Request) (text : List ℕ) (a s k : ℕ) (names : Names d q text a s k) {r : Answer} (lent : EditorLent (threads_are d.threads) a r)
    {u : ℕ} (e : r ≡ Ok u) where
  abbrev pub Told : Result ⊤ Refusal → Type 0
  Told (Err x) = Serves d q text (Err x) d
  Told (Ok z) = Begun d a s k u

  known : editor (state_of d) a ≡ Some u
  known = editor_known d a lent u e

  refused : {x : Refusal} → {before : List (Condition Refusal)} → conditions outcome_of (state_of d) q text ≡ before → first_refusal before ≡ Some x
      → Serves d q text (Err x) d
  refused same e = serves_refused d q text (ap first_refusal same ∙ e)

  told : {t : Result ⊤ Refusal} → NamesTested d.registry d.makers s k t → Told t
  told (no_segment_lem n segments h) = refused names.1 (rw (known, segment_missing d s segments h))
  told (no_key_lem n segments segment m keys h) = refused names.1 (rw (known, a_segment d s segments segment, key_missing d k keys h))
  told (handed_out_lem n segments segment m keys key) =
      record {
        known = known;
        segment = a_segment d s segments segment;
        key = a_key d k keys key;
        there = segment_here d s segments segment;
        maker = maker_here d k keys key;
        low = let all = keys.low in omega arith;
      }

  pub name_missing : {t : Result ⊤ Refusal} {x : Refusal} → NamesTested d.registry d.makers s k t → t ≡ Err x → Serves d q text (Err x) d
  name_missing t e = subst Told e (told t)

  pub begun : {t : Result ⊤ Refusal} → NamesTested d.registry d.makers s k t → t ≡ Ok tt → Begun d a s k u
  begun t e = subst Told e (told t)
