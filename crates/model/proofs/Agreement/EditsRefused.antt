-- 2 and 6 of an edit are each the refusal of one condition alone, so they are given exactly where that holds and none
-- before it does; and 1 is no condition's.
use Rattle.std.specs.Prelude.{Option, None, Some}
use mathlib.Core.Path.{◌≡◌, refl, sym, ap, subst, ◌∙◌}
use mathlib.Core.Bool.{Bool, true, false, ◌&&◌, not, cond, false≢true}
use mathlib.Core.List.{List, [], ◌∷◌, ◌++◌, Memᴰ}
use mathlib.Core.Logic.{◌↔◌}
use Prim.Native.Nat.{ℕ, ◌<◌}
use lib.Dec.{eqb}
use lib.ListN.{length}
use borrow.Author.Tests.{ltb-true, lt-ltb, eqb-true, eq-eqb, not-true, not-false}
use Rattle.base.specs.Conditions.{Condition, when, first_refusal}
use Rattle.base.specs.Lists.{any, is_some, tail_of}
use Rattle.base.proofs.Lists.{clash, eqb_self, any_found, any_passes, index_of_lt, some≢none}
use Rattle.base.proofs.Truth.{neither, false_not}
use Rattle.formula.specs.Outcome.{outcome_of}
use Rattle.call.specs.declared.request.Request.{Request}
use Rattle.call.specs.declared.request.Request.TheVariants as request
use Rattle.call.specs.Requests.{call_of}
use Rattle.call.specs.Letters as letters
use Rattle.call.proofs.EveryRequest.{every_request}
use Rattle.model.specs.declared.answer.Refusal.{Refusal}
use Rattle.model.specs.declared.answer.Refusal.TheVariants.{UnknownUser, NoThread, NoSegment, NoKey, NoLock, NotOwner}
use Rattle.model.specs.Threads.{Thread}
use Rattle.model.specs.State.{State, is_live, is_segment, is_key, editor, user_of, owns, made, has_lock, is_lock, lock_segment}
use Rattle.model.specs.Refusals.{conditions, unless, unknown_editor}
use Rattle.model.specs.Cells.{Cells, state_of}
use Rattle.model.specs.History.{Event, Lock, history, accepted_of}
use Rattle.model.specs.Theorems.Mirror.{Mirrors}
use Rattle.model.specs.Theorems.Refusing.{some_holds}
use Rattle.model.specs.Theorems.Neighbours.{has_letter}
use Rattle.model.specs.Theorems.Editing.{edit_letters, run_letters, AnothersSegment, AnothersSegmentOrKey}
use Rattle.model.proofs.Refusals.Refusing.{gives, refusal_in, exactly_here}
use Rattle.model.proofs.Agreement.Editors.{live_as, keys_as, anothers, is_anothers, anothers_key, is_anothers_key, passes_live, passes_key}

is_none : (o : Option Thread) → (not (is_some o) ≡ true) ↔ (o ≡ None)
is_none None = (λ h. refl, λ h. refl)
is_none (Some t) = (λ h. absurd (false≢true h), λ h. absurd (some≢none h))

pub through : {A B C : Type 0} → A ↔ B → B ↔ C → A ↔ C
through f g = (λ a. g.0 (f.0 a), λ c. f.1 (g.1 c))

-- of a call after some events

module _ (es : List Event) (d : Cells) (m : Mirrors es (state_of d)) (text : List ℕ) where
  abbrev s₀ : State
  s₀ = state_of d

  abbrev first : Request → Option Refusal
  first q = first_refusal (conditions outcome_of s₀ q text)

  -- a refusal that one of the call's conditions alone has
  pub alone : (r : Refusal) (q : Request) (earlier : List (Condition Refusal)) (b : Bool) (later : List (Condition Refusal))
      → conditions outcome_of s₀ q text ≡ earlier ++ when b r ∷ later
      → any (λ c. gives r c.refusal) earlier ≡ false → any (λ c. gives r c.refusal) later ≡ false
      → (first q ≡ Some r) ↔ ((some_holds earlier ≡ false) × (b ≡ true))
  alone r q earlier b later same h k =
      let (to, from) = exactly_here r earlier b later h k in
      (λ e. to (sym (ap first_refusal same) ∙ e), λ p. ap first_refusal same ∙ from p)

  -- 2 is the first's
  no_editor : (q : Request) (a : ℕ) {later : List (Condition Refusal)} → conditions outcome_of s₀ q text ≡ unknown_editor s₀ a ∷ later
      → any (λ c. gives NoThread c.refusal) later ≡ false
      → (first q ≡ Some NoThread) ↔ ((history es).threads a ≡ None)
  no_editor q a same h =
      let (to, from) = alone NoThread q [] (not (is_some (editor s₀ a))) _ same refl h in
      let (gone, was) = is_none ((history es).threads a) in
      let lives : not (is_some (editor s₀ a)) ≡ not (is_some ((history es).threads a)) = ap not (live_as es s₀ m a) in
      (λ e. gone (sym lives ∙ (to e).1), λ e. from (refl, lives ∙ was e))

  -- an edit's conditions begin with it, no later one gives 2, and none gives 1; computed for every request at once
  abbrev edits : Request → Bool
  edits q = has_letter edit_letters (call_of q text)

  abbrev later : Request → List (Condition Refusal)
  later q = tail_of (conditions outcome_of s₀ q text)

  begins : (q : Request)
      → conditions outcome_of s₀ q text ≡ cond (edits q) (unknown_editor s₀ (call_of q text).a ∷ later q) (conditions outcome_of s₀ q text)
  unfolding conditions
  begins q =
      every_request (λ r. conditions outcome_of s₀ r text) (λ r. cond (edits r) (unknown_editor s₀ (call_of r text).a ∷ later r) (conditions outcome_of s₀ r text))
      (λ a b c. refl) q

  no_two : (q : Request) → (edits q && any (λ c. gives NoThread c.refusal) (later q)) ≡ false
  unfolding conditions
  no_two q = every_request (λ r. edits r && any (λ c. gives NoThread c.refusal) (later r)) (λ r. false) (λ a b c. refl) q

  no_one : (q : Request) → (edits q && any (λ c. gives UnknownUser c.refusal) (conditions outcome_of s₀ q text)) ≡ false
  unfolding conditions
  no_one q = every_request (λ r. edits r && any (λ c. gives UnknownUser c.refusal) (conditions outcome_of s₀ r text)) (λ r. false) (λ a b c. refl) q

  pub first_two : (q : Request) → edits q ≡ true → (first q ≡ Some NoThread) ↔ ((history es).threads (call_of q text).a ≡ None)
  first_two q h =
      no_editor q (call_of q text).a
      (begins q ∙ ap (λ (b : Bool). cond b (unknown_editor s₀ (call_of q text).a ∷ later q) (conditions outcome_of s₀ q text)) h)
      (sym (ap (λ (b : Bool). b && any (λ c. gives NoThread c.refusal) (later q)) h) ∙ no_two q)

  -- the same of E, C, R and A, whose first condition asks whether the thread is live
  abbrev runs : Request → Bool
  runs q = has_letter run_letters (call_of q text)

  runs_begin : (q : Request)
      → conditions outcome_of s₀ q text ≡ cond (runs q) (unless (is_live s₀ (call_of q text).a) NoThread ∷ later q) (conditions outcome_of s₀ q text)
  unfolding conditions
  runs_begin q =
      every_request (λ r. conditions outcome_of s₀ r text)
      (λ r. cond (runs r) (unless (is_live s₀ (call_of r text).a) NoThread ∷ later r) (conditions outcome_of s₀ r text))
      (λ a b c. refl) q

  runs_no_two : (q : Request) → (runs q && any (λ c. gives NoThread c.refusal) (later q)) ≡ false
  unfolding conditions
  runs_no_two q = every_request (λ r. runs r && any (λ c. gives NoThread c.refusal) (later r)) (λ r. false) (λ a b c. refl) q

  pub first_gone : (q : Request) → runs q ≡ true → (first q ≡ Some NoThread) ↔ ((history es).threads (call_of q text).a ≡ None)
  first_gone q h =
      let a : ℕ = (call_of q text).a in
      let (to, from) = alone NoThread q [] (not (is_live s₀ a)) (later q)
      (runs_begin q ∙ ap (λ (b : Bool). cond b (unless (is_live s₀ a) NoThread ∷ later q) (conditions outcome_of s₀ q text)) h) refl
      (sym (ap (λ (b : Bool). b && any (λ c. gives NoThread c.refusal) (later q)) h) ∙ runs_no_two q) in
      let (gone, was) = is_none ((history es).threads a) in
      let lives : not (is_live s₀ a) ≡ not (is_some ((history es).threads a)) = ap not (m.live a) in
      (λ e. gone (sym lives ∙ (to e).1), λ e. from (refl, lives ∙ was e))

  pub never_one : (q : Request) → edits q ≡ true → first q ≡ Some UnknownUser → ⊥
  never_one q h e =
      clash (eqb_self 1) (refusal_in (gives UnknownUser) UnknownUser (conditions outcome_of s₀ q text)
      (sym (ap (λ (b : Bool). b && any (λ c. gives UnknownUser c.refusal) (conditions outcome_of s₀ q text)) h) ∙ no_one q) e)

  -- 6
  pub give_six : (a b c : ℕ) → (first (request.GiveKey a b c) ≡ Some NotOwner) ↔ AnothersSegmentOrKey es a b c
  unfolding conditions
  give_six a b c =
      let (to, from) = alone NotOwner (request.GiveKey a b c) (unknown_editor s₀ a ∷ unless (is_segment s₀ b) NoSegment ∷ unless (is_key s₀ c) NoKey ∷ [])
      (not (owns s₀ (user_of s₀ a) b && made s₀ (user_of s₀ a) c)) _ refl refl refl in (
        λ e.
            let (before, here) = to e in
            let (l, rest) = neither _ _ before in
            let (g, rest') = neither _ _ rest in
            anothers_key es s₀ m a b c (not-false _ l) (not-false _ g) (not-false _ (neither _ _ rest').0) (not-true _ here),
        λ w. from (
          rw (passes_live es s₀ m a w.thread w.live, ap not (m.segment b ∙ ap is_some w.segment), passes_key es s₀ m c w.key),
          false_not (is_anothers_key es s₀ m a b c w),
        ),
      )

  pub take_six : (a b c : ℕ) → (first (request.TakeKey a b c) ≡ Some NotOwner) ↔ (AnothersSegment es a b × (c < accepted_of letters.K es))
  unfolding conditions
  take_six a b c =
      let (to, from) = alone NotOwner (request.TakeKey a b c) (unknown_editor s₀ a ∷ unless (is_segment s₀ b) NoSegment ∷ unless (is_key s₀ c) NoKey ∷ [])
      (not (owns s₀ (user_of s₀ a) b)) _ refl refl refl in (
        λ e.
            let (before, here) = to e in
            let (l, rest) = neither _ _ before in
            let (g, rest') = neither _ _ rest in (
              anothers es s₀ m a b (not-false _ l) (not-false _ g) (not-true _ here),
              subst (λ (n : ℕ). c < n) (keys_as es s₀ m) (ltb-true c (length s₀.makers) (not-false _ (neither _ _ rest').0)),
            ),
        λ (w, k). from (
          rw (passes_live es s₀ m a w.thread w.live, ap not (m.segment b ∙ ap is_some w.segment), passes_key es s₀ m c k),
          false_not (is_anothers es s₀ m a b w),
        ),
      )

  pub lock_six : (a b c : ℕ) → (first (request.AddLock a b c) ≡ Some NotOwner) ↔ AnothersSegment es a b
  unfolding conditions
  lock_six a b c =
      let (to, from) = alone NotOwner (request.AddLock a b c) (unknown_editor s₀ a ∷ unless (is_segment s₀ b) NoSegment ∷ [])
      (not (owns s₀ (user_of s₀ a) b)) _ refl refl refl in (
        λ e.
            let (before, here) = to e in
            let (l, rest) = neither _ _ before in
            anothers es s₀ m a b (not-false _ l) (not-false _ (neither _ _ rest).0) (not-true _ here),
        λ w. from (
          rw (passes_live es s₀ m a w.thread w.live, ap not (m.segment b ∙ ap is_some w.segment)),
          false_not (is_anothers es s₀ m a b w),
        ),
      )

  pub drop_six : (a b : ℕ)
      → (first (request.DropLock a b) ≡ Some NotOwner)
      ↔ ((l : Lock) × Memᴰ l (history es).locks × (l.number ≡ b) × AnothersSegment es a l.segment)
  unfolding conditions
  drop_six a b =
      let (to, from) = alone NotOwner (request.DropLock a b) (unknown_editor s₀ a ∷ unless (is_lock s₀ b) NoLock ∷ [])
      (not (owns s₀ (user_of s₀ a) (lock_segment s₀ b))) _ refl refl refl in (
        λ e.
            let (before, here) = to e in
            let (v, rest) = neither _ _ before in
            let there : is_lock s₀ b ≡ true = not-false _ (neither _ _ rest).0 in
            let (l, i, q) = any_found (λ k. eqb k.number b) (history es).locks (sym (m.lock b) ∙ there) in
            let number = eqb-true _ _ q in
            let at : lock_segment s₀ b ≡ l.segment = ap (lock_segment s₀) (sym number) ∙ m.segment_for l i in
            let inside : is_segment s₀ (lock_segment s₀ b) ≡ true = lt-ltb _ _ (index_of_lt (has_lock b) s₀.segments there) in (
              l,
              i,
              number,
              anothers es s₀ m a l.segment (not-false _ v) (sym (ap (is_segment s₀) at) ∙ inside) (sym (ap (owns s₀ (user_of s₀ a)) at) ∙ not-true _ here),
            ),
        λ (l, i, number, w). from (
          rw (passes_live es s₀ m a w.thread w.live, ap not (m.lock b ∙ any_passes (λ k. eqb k.number b) l (history es).locks i (eq-eqb _ _ number))),
          false_not (ap (owns s₀ (user_of s₀ a)) (ap (lock_segment s₀) (sym number) ∙ m.segment_for l i) ∙ is_anothers es s₀ m a l.segment w),
        ),
      )
