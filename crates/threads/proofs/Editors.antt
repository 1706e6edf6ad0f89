-- Who edits: what a place says of it, and what the answer says of an edit, whose first condition asks for it.
use Rattle.std.specs.Prelude.{Ok, Err, Option, None, Some}
use mathlib.Core.Path.{◌≡◌, refl, sym, ap, ◌∙◌}
use mathlib.Core.List.{List, ◌∷◌}
use Prim.Native.Nat.{ℕ}
use native.Mathlib.Omega.{arith}
use Rattle.formula.specs.Outcome.{outcome_of}
use Rattle.call.specs.declared.request.Request.{Request}
use Rattle.base.specs.Conditions.{Condition, first_refusal}
use Rattle.model.specs.declared.answer.Refusal.{Refusal}
use Rattle.model.specs.Answers.{Answer}
use Rattle.model.specs.State.{editor}
use Rattle.model.specs.Refusals.{conditions, unknown_editor}
use Rattle.model.specs.Cells.{Cells, threads_are, state_of}
use Rattle.model.specs.Serving.{Serves}
use Rattle.model.proofs.Refinement.ServedCalls.{serves_refused}
use Rattle.threads.specs.Editors.{editor_answer, EditorLent}

differs : {x : Refusal} {u : ℕ} → ◌≡◌ {A = Answer} (Err x) (Ok u) → ⊥
differs e = let z : ◌≡◌ {A = ℕ} 0 1 = cc in omega arith

same_number : {u v : ℕ} → ◌≡◌ {A = Answer} (Ok u) (Ok v) → u ≡ v
same_number e = cc

-- the call's conditions begin with the editor
abbrev pub BeginsWithEditor : Cells → Request → List ℕ → ℕ → Type 0
BeginsWithEditor d q text a = (rest : List (Condition Refusal)) × (conditions outcome_of (state_of d) q text ≡ unknown_editor (state_of d) a ∷ rest)

module _ (d : Cells) (a : ℕ) {r : Answer} (lent : EditorLent (threads_are d.threads) a r) where
  told : r ≡ editor_answer (editor (state_of d) a)
  told = lent d

  -- refused: so is the call, as the answer says
  pub editor_missing : (q : Request) (text : List ℕ) → BeginsWithEditor d q text a → (x : Refusal) → r ≡ Err x → Serves d q text r d
  editor_missing q text begins x e = by (editor (state_of d) a) refl
    where
      by : (o : Option ℕ) → editor (state_of d) a ≡ o → Serves d q text r d
      by None h = rw (told, h) (serves_refused d q text (ap first_refusal begins.1 ∙ rw h))
      by (Some u) h = let z = sym e ∙ told ∙ ap editor_answer h in absurd (differs z)

  pub editor_known : (u : ℕ) → r ≡ Ok u → editor (state_of d) a ≡ Some u
  editor_known u e = by (editor (state_of d) a) refl
    where
      by : (o : Option ℕ) → editor (state_of d) a ≡ o → editor (state_of d) a ≡ Some u
      by None h = let z = sym (told ∙ ap editor_answer h) ∙ e in absurd (differs z)
      by (Some v) h = h ∙ ap Some (same_number (sym (told ∙ ap editor_answer h) ∙ e))
