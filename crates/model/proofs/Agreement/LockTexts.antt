-- The conditions of an L are tests on the state, each of which the history tells; the text's outcome is the compiler's,
-- whose laws say where it is which.
use Rattle.std.specs.Prelude.{Err, Option, None, Some}
use mathlib.Core.Path.{◌≡◌, refl, sym, ap, ◌∙◌}
use mathlib.Core.Bool.{Bool, true, false, true≢false}
use mathlib.Core.List.{List}
use mathlib.Core.Logic.{◌↔◌}
use Prim.Native.Nat.{ℕ, suc, ◌+◌}
use lib.ListN.{length}
use borrow.Author.Tests.{ltb-false, le-ltb, eqb-true, eq-eqb}
use Rattle.product.specs.Sum.{Sum}
use Rattle.formula.specs.declared.text.Issued.{Issued}
use Rattle.formula.specs.Tree.{ors, Tree, holds}
use Rattle.formula.specs.Text.{Text}
use Rattle.formula.specs.Nodes.{products, fits}
use Rattle.formula.specs.Outcome.{Outcome, accepted, malformed, too_wide, unsatisfiable, outcome_of, sum_in}
use Rattle.formula.specs.Meaning.{text_holds}
use Rattle.formula.specs.Refusals.{Never}
use Rattle.formula.proofs.Grammar.{malformed_exactly, unambiguous}
use Rattle.formula.proofs.Width.{too_wide_exactly}
use Rattle.formula.proofs.Opening.{opening_law, accepted_where}
use Rattle.formula.proofs.Unsatisfiable.{unsatisfiable_exactly_lem}
use Rattle.call.specs.declared.request.Request.TheVariants.{AddLock}
use Rattle.call.specs.Calls.{Call, decoded}
use Rattle.base.specs.Conditions.{first_refusal}
use Rattle.base.proofs.Truth.{neither}
use Rattle.call.specs.Letters as letters
use Rattle.model.specs.declared.answer.Refusal.{Refusal}
use Rattle.model.specs.declared.answer.Refusal.TheVariants.{Full, Malformed, TooWide, Unsatisfiable}
use Rattle.model.specs.Answers.{is_accepted}
use Rattle.model.specs.Limits.{most_standing, most_numbers, passes}
use Rattle.model.specs.Operations.{takes_set}
use Rattle.base.specs.Lists.{is_some}
use Rattle.model.specs.Threads.{KeySet}
use Rattle.model.specs.State.{issued, is_segment, segment_at, editor, user_of, owns}
use Rattle.model.specs.Refusals.{conditions}
use Rattle.model.specs.Cells.{Cells, state_of}
use Rattle.model.specs.Stores.{step_cells}
use Rattle.model.specs.History.{Event, history, accepted_of, issued_by}
use Rattle.model.specs.Replay.{reached, events}
use Rattle.model.specs.Theorems.Mirror.{Mirrors}
use Rattle.model.specs.HistoryLocks.{standing_products}
use Rattle.model.specs.Theorems.StoredLocks.{Stores}
use Rattle.model.specs.Theorems.LockTexts.{Allowed, Satisfiable, Room, TextJudged, LockTexts}
use Rattle.base.proofs.Lists.{case_bool, is_some_some}
use Rattle.model.proofs.Refusals.Refusing.{judged_accepted, answer_decoded, refused_as}
use Rattle.model.proofs.Agreement.Mirror.{mirror}
use Rattle.model.proofs.Agreement.StoredLocks.{stored_locks}
use Rattle.model.proofs.Agreement.Editors.{live_as, user_as}
use Rattle.model.proofs.Agreement.TextTests.{tests, late, is_late, reaches_text, passed, late_malformed, late_wide, late_unsatisfiable, late_full, late_none, late_over, overfull}

-- ---- of an L after some events

module _ (es : List Event) (d : Cells) (m : Mirrors es (state_of d)) (k : Stores outcome_of text_holds es (state_of d)) (next : Call) (a b c : ℕ) (e : decoded next ≡ Some (AddLock a b c)) where
  abbrev text : List ℕ
  text = next.text

  abbrev outcome : Outcome
  outcome = outcome_of (issued (state_of d)) text

  outcome_as : outcome ≡ outcome_of (issued_by es) text
  outcome_as = ap (λ (i : Issued). outcome_of i text) m.handed_out

  abbrev over : Bool
  over = overfull (length (segment_at (state_of d) b).products) (length (sum_in outcome)) (state_of d).lock_numbers

  abbrev live : Bool
  live = is_some (editor (state_of d) a)

  abbrev own : Bool
  own = owns (state_of d) (user_of (state_of d) a) b

  abbrev first_of : Option Refusal
  first_of = first_refusal (conditions outcome_of (state_of d) (AddLock a b c) text)

  refused_first : (r : Refusal) → ((step_cells outcome_of d next).answer ≡ Err r) ↔ (first_of ≡ Some r)
  refused_first = refused_as outcome_of d next (AddLock a b c) e

  accepted_as : (is_accepted (step_cells outcome_of d next).answer ≡ true) ↔ (first_of ≡ None)
  accepted_as =
      let (to, from) = judged_accepted outcome_of d (AddLock a b c) text first_of in
      let same = ap is_accepted (answer_decoded outcome_of d next (Some (AddLock a b c)) e) in
      (λ h. to (sym same ∙ h), λ h. same ∙ from h)

  allowed : live ≡ true → is_segment (state_of d) b ≡ true → own ≡ true → takes_set (segment_at (state_of d) b).kind c ≡ true → Allowed es a b c
  allowed u s o f =
      let (thread, l) = is_some_some ((history es).threads a) (sym (live_as es (state_of d) m a) ∙ u) in
      let (entry, h) = is_some_some ((history es).segments b) (sym (m.segment b) ∙ s) in
      record {
        thread = thread;
        live = l;
        entry = entry;
        segment = h;
        owner = sym (m.owner b entry h) ∙ eqb-true _ _ o ∙ user_as es (state_of d) m a thread l;
        operations = ap (λ (n : ℕ). takes_set n c) (sym (m.kind b entry h)) ∙ f;
      }

  -- a late answer is what the text and the limit say, in an L that no earlier number refuses
  is_late_lem : (r : Option Refusal) → is_late r ≡ true → first_of ≡ r → Allowed es a b c × (late outcome over ≡ r)
  unfolding conditions
  is_late_lem r l h =
      let (u, s, o, f) = passed live (is_segment (state_of d) b) own (takes_set (segment_at (state_of d) b).kind c) outcome over r l h in
      (allowed u s o f, sym (reaches_text outcome over) ∙ sym (same u s o f) ∙ h)
    where
      same : live ≡ true → is_segment (state_of d) b ≡ true → own ≡ true → takes_set (segment_at (state_of d) b).kind c ≡ true
          → first_refusal (tests live (is_segment (state_of d) b) own (takes_set (segment_at (state_of d) b).kind c) outcome over) ≡ first_refusal (tests true true true true outcome over)
      same u s o f = rw (u, s, o, f)

  -- and the other way round
  reaches : Allowed es a b c → first_of ≡ late outcome over
  unfolding conditions
  reaches w = same known segment owner fit ∙ reaches_text outcome over
    where
      known : live ≡ true
      known = live_as es (state_of d) m a ∙ ap is_some w.live

      segment : is_segment (state_of d) b ≡ true
      segment = m.segment b ∙ rw w.segment

      owner : own ≡ true
      owner = eq-eqb _ _ (m.owner b w.entry w.segment ∙ w.owner ∙ sym (user_as es (state_of d) m a w.thread w.live))

      fit : takes_set (segment_at (state_of d) b).kind c ≡ true
      fit = ap (λ (n : ℕ). takes_set n c) (m.kind b w.entry w.segment) ∙ w.operations

      same : live ≡ true → is_segment (state_of d) b ≡ true → own ≡ true → takes_set (segment_at (state_of d) b).kind c ≡ true
          → first_refusal (tests live (is_segment (state_of d) b) own (takes_set (segment_at (state_of d) b).kind c) outcome over) ≡ first_refusal (tests true true true true outcome over)
      same u s o f = rw (u, s, o, f)

  -- a refusal of the text, exactly where the compiler gives it
  by_outcome : {P : Type 0} (r : Refusal) (x : Outcome) → is_late (Some r) ≡ true → ((y : Outcome) (t : Bool) → late y t ≡ Some r → y ≡ x) → ((t : Bool) → late x t ≡ Some r)
      → (outcome_of (issued_by es) text ≡ x) ↔ P
      → ((step_cells outcome_of d next).answer ≡ Err r) ↔ (Allowed es a b c × P)
  by_outcome {P} r x l to from laws = (there, back)
    where
      there : (step_cells outcome_of d next).answer ≡ Err r → Allowed es a b c × P
      there h = let (w, q) = is_late_lem (Some r) l ((refused_first r).0 h) in (w, laws.0 (sym outcome_as ∙ to outcome over q))

      back : Allowed es a b c × P → (step_cells outcome_of d next).answer ≡ Err r
      back p = (refused_first r).1 (reaches p.0 ∙ ap (λ (y : Outcome). late y over) (outcome_as ∙ laws.1 p.1) ∙ from over)

  -- ---- the limits

  over_as : (ps : Sum) → outcome ≡ accepted ps → over ≡ overfull (standing_products outcome_of es b) (length ps) (accepted_of letters.L es)
  over_as ps q =
      ap (λ (o : Outcome). overfull (length (segment_at (state_of d) b).products) (length (sum_in o)) (state_of d).lock_numbers) q
      ∙ rw (k.count b, m.lock_numbers)

  room_over : (ps : Sum) → outcome ≡ accepted ps → Room es b (length ps) → over ≡ false
  room_over ps q r = over_as ps q ∙ rw (le-ltb 8 (standing_products outcome_of es b + length ps) r.products, le-ltb 65536 (suc (accepted_of letters.L es)) r.numbers)

  over_room : (ps : Sum) → outcome ≡ accepted ps → over ≡ false → Room es b (length ps)
  over_room ps q h =
      let (p, n) = neither (passes most_standing (standing_products outcome_of es b + length ps)) (passes most_numbers (suc (accepted_of letters.L es))) (sym (over_as ps q) ∙ h) in
      record { products = ltb-false 8 (standing_products outcome_of es b + length ps) p; numbers = ltb-false 65536 (suc (accepted_of letters.L es)) n }

  -- an accepted text's formula, and the products of such a one
  satisfiable : (ps : Sum) → outcome ≡ accepted ps → Satisfiable (issued_by es) text
  satisfiable ps q = let o = opening_law (issued_by es) text ps (sym outcome_as ∙ q) in record { tree = o.tree; text = o.text; fit = o.fit; true_for = o.witness }

  accepts : (f : Satisfiable (issued_by es) text) → outcome ≡ accepted (products false f.tree)
  accepts f = outcome_as ∙ accepted_where (issued_by es) text f.tree f.text f.fit f.true_for.0 f.true_for.1

  full_as : ((step_cells outcome_of d next).answer ≡ Err Full) ↔ (Allowed es a b c × (f : Satisfiable (issued_by es) text) × (Room es b (length (products false f.tree)) → ⊥))
  full_as = (there, back)
    where
      there : (step_cells outcome_of d next).answer ≡ Err Full → Allowed es a b c × (f : Satisfiable (issued_by es) text) × (Room es b (length (products false f.tree)) → ⊥)
      there h =
          let (w, q) = is_late_lem (Some Full) refl ((refused_first Full).0 h) in
          let (ps, v, o) = late_full outcome over q in
          let f = satisfiable ps v in
          (w, f, λ r. true≢false (sym o ∙ room_over (products false f.tree) (accepts f) r))

      back : Allowed es a b c × (f : Satisfiable (issued_by es) text) × (Room es b (length (products false f.tree)) → ⊥) → (step_cells outcome_of d next).answer ≡ Err Full
      back p =
          let (w, f, none_left) = p in
          let o : over ≡ true = case_bool over (λ t. t) (λ t. absurd (none_left (over_room (products false f.tree) (accepts f) t))) in
          (refused_first Full).1 (reaches w ∙ late_over (products false f.tree) outcome over true (accepts f) o)

  made_as : (is_accepted (step_cells outcome_of d next).answer ≡ true) ↔ (Allowed es a b c × (f : Satisfiable (issued_by es) text) × Room es b (length (products false f.tree)))
  made_as = (there, back)
    where
      there : is_accepted (step_cells outcome_of d next).answer ≡ true → Allowed es a b c × (f : Satisfiable (issued_by es) text) × Room es b (length (products false f.tree))
      there h =
          let (w, q) = is_late_lem None refl (accepted_as.0 h) in
          let (ps, v, o) = late_none outcome over q in
          let f = satisfiable ps v in
          (w, f, over_room (products false f.tree) (accepts f) o)

      back : Allowed es a b c × (f : Satisfiable (issued_by es) text) × Room es b (length (products false f.tree)) → is_accepted (step_cells outcome_of d next).answer ≡ true
      back p =
          let (w, f, room) = p in
          accepted_as.1 (reaches w ∙ late_over (products false f.tree) outcome over false (accepts f) (room_over (products false f.tree) (accepts f) room))

  -- ---- the whole

  unsatisfiable_as : ((step_cells outcome_of d next).answer ≡ Err Unsatisfiable) ↔ (Allowed es a b c × Never (issued_by es) text)
  unsatisfiable_as = by_outcome Unsatisfiable unsatisfiable refl late_unsatisfiable (λ t. refl) (unsatisfiable_exactly_lem (issued_by es) text)

  unsatisfiable_words : Allowed es a b c → (t : Tree ors) → Text (issued_by es) text t → fits false t ≡ true
      → ((step_cells outcome_of d next).answer ≡ Err Unsatisfiable) ↔ ((keys : KeySet) → holds keys t ≡ false)
  unsatisfiable_words w t h f = (
    λ q keys.
        let never = (unsatisfiable_as.0 q).1 in
        ap (λ (u : Tree ors). holds keys u) (unambiguous (issued_by es) text t never.tree h never.text) ∙ never.never keys,
    λ q. unsatisfiable_as.1 (w, record { tree = t; text = h; fit = f; never = q }),
  )

  judged_as : TextJudged es a b c text (step_cells outcome_of d next).answer
  judged_as =
      record {
        malformed = by_outcome Malformed malformed refl late_malformed (λ t. refl) (malformed_exactly (issued_by es) text);
        too_wide = by_outcome TooWide too_wide refl late_wide (λ t. refl) (too_wide_exactly (issued_by es) text);
        unsatisfiable = unsatisfiable_as;
        unsatisfiable_exactly = unsatisfiable_words;
        full = full_as;
        made = made_as;
      }

pub lock_texts : LockTexts
lock_texts xs next a b c e = judged_as (events outcome_of xs) (reached outcome_of xs) (mirror.state xs) (stored_locks.state xs) next a b c e
