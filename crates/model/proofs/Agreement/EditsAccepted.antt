-- An edit is accepted exactly where none of its conditions holds, each of which the history tells; and 1 of an S.
use Rattle.std.specs.Prelude.{Option, Some}
use mathlib.Core.Path.{◌≡◌, refl, sym, ap, subst, ◌∙◌}
use mathlib.Core.Bool.{true, false, not}
use mathlib.Core.List.{List, [], Memᴰ}
use mathlib.Core.Logic.{◌↔◌}
use Prim.Native.Nat.{ℕ, suc, ◌≤◌, ◌<◌}
use native.Mathlib.Omega.{arith}
use lib.Dec.{eqb}
use lib.ListN.{length, get_or}
use borrow.Author.Tests.{ltb-true, ltb-false, lt-ltb, le-ltb, eqb-true, eq-eqb, not-true, not-false}
use Rattle.product.specs.declared.literal.Key.TheVariants.{Defined}
use Rattle.base.specs.Conditions.{first_refusal}
use Rattle.base.specs.Lists.{is_some}
use Rattle.base.proofs.Lists.{any_found, any_passes, index_of_lt}
use Rattle.base.proofs.Truth.{neither, and_both}
use Rattle.formula.specs.declared.text.Issued.{Issued}
use Rattle.formula.specs.Outcome.{outcome_of}
use Rattle.call.specs.declared.request.Request.{Request}
use Rattle.call.specs.declared.request.Request.TheVariants as request
use Rattle.call.specs.Letters as letters
use Rattle.model.specs.declared.answer.Refusal.{Refusal}
use Rattle.model.specs.declared.answer.Refusal.TheVariants.{UnknownUser}
use Rattle.model.specs.Threads.{is_in}
use Rattle.model.specs.State.{State, is_segment, editor, user_of, owns, made, has_lock, is_lock, lock_segment, segment_at, is_user}
use Rattle.model.specs.Refusals.{conditions}
use Rattle.model.specs.Cells.{Cells, state_of}
use Rattle.model.specs.History.{Event, Lock, history, accepted_of, makers_of}
use Rattle.model.specs.Theorems.Mirror.{Mirrors}
use Rattle.model.specs.Theorems.Refusing.{some_holds}
use Rattle.model.specs.Theorems.Editing.{OwnSegment}
use Rattle.model.proofs.Agreement.Editors.{live_as, user_as, keys_as, own, is_own_lem, segments_as, passes_live, passes_key}
use Rattle.model.proofs.Agreement.EditsRefused.{alone}

module _ (es : List Event) (d : Cells) (m : Mirrors es (state_of d)) (text : List ℕ) where
  abbrev s₀ : State
  s₀ = state_of d

  abbrev first : Request → Option Refusal
  first q = first_refusal (conditions outcome_of s₀ q text)

  -- 1 of an S
  pub start_one : (a : ℕ) → (first (request.StartThread a) ≡ Some UnknownUser) ↔ (accepted_of letters.U es ≤ a)
  unfolding conditions
  start_one a =
      let (to, from) = alone es d m text UnknownUser (request.StartThread a) [] (not (is_user s₀ a)) _ refl refl refl in
      let users : s₀.users ≡ accepted_of letters.U es = ap (λ (i : Issued). i.users) m.handed_out in (
        λ e. subst (λ (n : ℕ). n ≤ a) users (ltb-false a s₀.users (not-true _ (to e).1)),
        λ h. from (refl, ap not (le-ltb a s₀.users (subst (λ (n : ℕ). n ≤ a) (sym users) h))),
      )

  -- accepted
  abbrev free : Request → Type 0
  free q = some_holds (conditions outcome_of s₀ q text) ≡ false

  lives : (a : ℕ) → not (is_some (editor s₀ a)) ≡ false → is_some ((history es).threads a) ≡ true
  lives a l = sym (live_as es s₀ m a) ∙ not-false _ l

  living : (a : ℕ) → is_some ((history es).threads a) ≡ true → not (is_some (editor s₀ a)) ≡ false
  living a h = ap not (live_as es s₀ m a ∙ h)

  pub new_free : (a b : ℕ) → free (request.NewSegment a b) ↔ ((is_some ((history es).threads a) ≡ true) × (b ≤ 1) × (accepted_of letters.N es < 64))
  unfolding conditions
  new_free a b =
      let many = segments_as es s₀ m in (
        λ h.
            let (l, rest) = neither _ _ h in
            let (k, rest') = neither _ _ rest in
            let f : suc (length s₀.segments) ≤ 64 = ltb-false 64 (suc (length s₀.segments)) (neither _ _ rest').0 in
            (lives a l, ltb-false 1 b k, subst (λ (n : ℕ). suc n ≤ 64) many f),
        λ (l, k, f). rw (living a l, le-ltb 1 b k, le-ltb 64 (suc (length s₀.segments)) (omega arith)),
      )

  pub key_free : (a : ℕ) → free (request.NewKey a) ↔ ((is_some ((history es).threads a) ≡ true) × (accepted_of letters.K es < 1024))
  unfolding conditions
  key_free a =
      let many = keys_as es s₀ m in (
        λ h.
            let (l, rest) = neither _ _ h in
            let f : suc (length s₀.makers) ≤ 1024 = ltb-false 1024 (suc (length s₀.makers)) (neither _ _ rest).0 in
            (lives a l, subst (λ (n : ℕ). suc n ≤ 1024) many f),
        λ (l, f). rw (living a l, le-ltb 1024 (suc (length s₀.makers)) (omega arith)),
      )

  pub give_free : (a b c : ℕ)
      → free (request.GiveKey a b c)
      ↔ ((o : OwnSegment es a b) × (c < accepted_of letters.K es) × (get_or (makers_of es) c 0 ≡ o.thread.user) × (is_in (Defined c) o.entry.keys ≡ false) × (length o.entry.keys < 8))
  unfolding conditions
  give_free a b c = (
    λ h.
        let (l, r₁) = neither _ _ h in
        let (g, r₂) = neither _ _ r₁ in
        let (k, r₃) = neither _ _ r₂ in
        let (both, r₄) = neither _ _ r₃ in
        let (p, r₅) = neither _ _ r₄ in
        let f : suc (length (segment_at s₀ b).keys) ≤ 8 = ltb-false 8 (suc (length (segment_at s₀ b).keys)) (neither _ _ r₅).0 in
        let (mine, made_by_lem) = and_both _ _ (not-false _ both) in
        let o = own es s₀ m a b (not-false _ l) (not-false _ g) mine in
        let keys = m.keys b o.entry o.segment in
        let fewer : length (segment_at s₀ b).keys ≡ length o.entry.keys = ap length keys in (
          o,
          subst (λ (n : ℕ). c < n) (keys_as es s₀ m) (ltb-true c (length s₀.makers) (not-false _ k)),
          sym (ap (λ (ms : List ℕ). get_or ms c 0) m.makers) ∙ eqb-true _ _ made_by_lem ∙ user_as es s₀ m a o.thread o.live,
          sym (ap (is_in (Defined c)) keys) ∙ p,
          subst (λ (n : ℕ). suc n ≤ 8) fewer f,
        ),
    λ (o, k, w, p, f).
        let keys = m.keys b o.entry o.segment in
        let fewer : length (segment_at s₀ b).keys ≡ length o.entry.keys = ap length keys in
        let by_user : made s₀ (user_of s₀ a) c ≡ true = eq-eqb _ _ (ap (λ (ms : List ℕ). get_or ms c 0) m.makers ∙ w ∙ sym (user_as es s₀ m a o.thread o.live)) in
        rw (
          passes_live es s₀ m a o.thread o.live,
          ap not (m.segment b ∙ ap is_some o.segment),
          passes_key es s₀ m c k,
          is_own_lem es s₀ m a b o,
          by_user,
          ap (is_in (Defined c)) keys ∙ p,
          le-ltb 8 (suc (length (segment_at s₀ b).keys)) (omega arith),
        ),
  )

  pub take_free : (a b c : ℕ)
      → free (request.TakeKey a b c) ↔ ((o : OwnSegment es a b) × (c < accepted_of letters.K es) × (is_in (Defined c) o.entry.keys ≡ true))
  unfolding conditions
  take_free a b c = (
    λ h.
        let (l, r₁) = neither _ _ h in
        let (g, r₂) = neither _ _ r₁ in
        let (k, r₃) = neither _ _ r₂ in
        let (mine, r₄) = neither _ _ r₃ in
        let o = own es s₀ m a b (not-false _ l) (not-false _ g) (not-false _ mine) in (
          o,
          subst (λ (n : ℕ). c < n) (keys_as es s₀ m) (ltb-true c (length s₀.makers) (not-false _ k)),
          sym (ap (is_in (Defined c)) (m.keys b o.entry o.segment)) ∙ not-false _ (neither _ _ r₄).0,
        ),
    λ (o, k, p).
        rw (
          passes_live es s₀ m a o.thread o.live,
          ap not (m.segment b ∙ ap is_some o.segment),
          passes_key es s₀ m c k,
          is_own_lem es s₀ m a b o,
          ap (is_in (Defined c)) (m.keys b o.entry o.segment) ∙ p,
        ),
  )

  pub drop_free : (a b : ℕ)
      → free (request.DropLock a b) ↔ ((l : Lock) × Memᴰ l (history es).locks × (l.number ≡ b) × OwnSegment es a l.segment)
  unfolding conditions
  drop_free a b = (
    λ h.
        let (v, r₁) = neither _ _ h in
        let (n, r₂) = neither _ _ r₁ in
        let there : is_lock s₀ b ≡ true = not-false _ n in
        let (l, i, q) = any_found (λ k. eqb k.number b) (history es).locks (sym (m.lock b) ∙ there) in
        let number = eqb-true _ _ q in
        let at : lock_segment s₀ b ≡ l.segment = ap (lock_segment s₀) (sym number) ∙ m.segment_for l i in
        let inside : is_segment s₀ (lock_segment s₀ b) ≡ true = lt-ltb _ _ (index_of_lt (has_lock b) s₀.segments there) in (
          l,
          i,
          number,
          own es s₀ m a l.segment (not-false _ v) (sym (ap (is_segment s₀) at) ∙ inside) (sym (ap (owns s₀ (user_of s₀ a)) at) ∙ not-false _ (neither _ _ r₂).0),
        ),
    λ (l, i, number, w).
        rw (
          passes_live es s₀ m a w.thread w.live,
          ap not (m.lock b ∙ any_passes (λ k. eqb k.number b) l (history es).locks i (eq-eqb _ _ number)),
          ap (owns s₀ (user_of s₀ a)) (ap (lock_segment s₀) (sym number) ∙ m.segment_for l i) ∙ is_own_lem es s₀ m a l.segment w,
        ),
  )
