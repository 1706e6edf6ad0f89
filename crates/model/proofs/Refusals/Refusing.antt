-- Demand 1. One call answers by the first of its conditions that holds, so each part is a law of that first one over
-- any list of conditions; of the table itself only two facts are computed, for every request at once: no condition
-- refuses by 18, and the numbers rise.
use Rattle.std.specs.Prelude.{Err, Option, None, Some}
use mathlib.Core.Path.{◌≡◌, refl, sym, ap, ◌∙◌}
use mathlib.Core.Bool.{Bool, true, false, false≢true}
use mathlib.Core.List.{List, [], ◌∷◌, ◌++◌, Memᴰ}
use mathlib.Core.Logic.{◌↔◌}
use Prim.Native.Nat.{ℕ, ◌≤◌}
use native.Mathlib.Omega.{arith}
use lib.Dec.{eqb, ltb}
use borrow.Author.Tests.{ltb-true}
use Rattle.formula.specs.Compiler.{Compiler}
use Rattle.call.specs.declared.request.Request.{Request}
use Rattle.call.specs.Calls.{Decoded}
use Rattle.call.specs.Calls.{Call, decoded}
use Rattle.base.specs.Conditions.{Condition, when, first_refusal}
use Rattle.base.proofs.Conditions.{first_later, all_fail, none_first}
use Rattle.base.proofs.Truth.{and_left, neither}
use Rattle.model.specs.declared.answer.Refusal.{Refusal}
use Rattle.model.specs.declared.answer.Refusal.TheVariants.{Corrupt}
use Rattle.model.specs.Answers.{refusal_number, is_accepted}
use Rattle.base.specs.Lists.{any, rising}
use Rattle.model.specs.State.{State}
use Rattle.model.specs.Refusals.{conditions}
use Rattle.model.specs.Cells.{Cells, state_of}
use Rattle.model.specs.Stores.{judged_cells, step_cells_decoded, step_cells}
use Rattle.model.specs.Theorems.Refusing.{some_holds, FirstHolds, rank, ranks, Refusing, InOrder}
use Rattle.base.proofs.Lists.{some_inj, case_bool, clash, eqb_self, rising_tail}
use Rattle.call.proofs.EveryRequest.{every_request}

-- ---- the first condition that holds

pub none_refuses : (cs : List (Condition Refusal)) → some_holds cs ≡ false → first_refusal cs ≡ None
none_refuses [] h = refl
none_refuses (c ∷ cs) h = let (here, there) = neither c.holds (some_holds cs) h in rw here (none_refuses cs there)

pub none_holds : (cs : List (Condition Refusal)) → first_refusal cs ≡ None → some_holds cs ≡ false
none_holds [] h = refl
none_holds (c ∷ cs) h = let (here, there) = all_fail (c ∷ cs) h in rw here (none_holds cs (none_first cs there))

pub first_holds : (r : Refusal) (cs : List (Condition Refusal)) → first_refusal cs ≡ Some r → FirstHolds r cs
first_holds r [] h = let z : ◌≡◌ {A = ℕ} 0 1 = cc in absurd (omega arith)
first_holds r (c ∷ cs) h =
    case_bool c.holds
    (λ t. record { earlier = []; condition = c; later = cs; split = refl; none_earlier = refl; holds = t; refusal = some_inj (rw t at h) })
    (λ f. let k = first_holds r cs (rw f at h) in
    record {
      earlier = c ∷ k.earlier;
      condition = k.condition;
      later = k.later;
      split = ap (λ (l : List (Condition Refusal)). c ∷ l) k.split;
      none_earlier = simp f k.none_earlier;
      holds = k.holds;
      refusal = k.refusal;
    })

pub first_refuses : (r : Refusal) (cs : List (Condition Refusal)) → FirstHolds r cs → first_refusal cs ≡ Some r
first_refuses r cs k =
    ap first_refusal k.split ∙ first_later k.earlier (k.condition ∷ k.later) (none_refuses k.earlier k.none_earlier) ∙ rw (k.holds, k.refusal)

-- a refusal is one of those in the list: what is false of them all is false of it
pub refusal_in : (p : Refusal → Bool) (r : Refusal) (cs : List (Condition Refusal)) → any (λ c. p c.refusal) cs ≡ false → first_refusal cs ≡ Some r
    → p r ≡ false
refusal_in p r [] h e = cc
refusal_in p r (c ∷ cs) h e =
    let (here, there) = neither (p c.refusal) (any (λ c. p c.refusal) cs) h in
    case_bool c.holds (λ t. ap p (sym (some_inj (rw t at e))) ∙ here) (λ f. refusal_in p r cs there (rw f at e))

abbrev pub gives : Refusal → Refusal → Bool
gives r s = eqb (refusal_number r) (refusal_number s)

-- a refusal that one condition alone has is given exactly where that holds and none before it does
pub exactly_here : (r : Refusal) (earlier : List (Condition Refusal)) (b : Bool) (later : List (Condition Refusal))
    → any (λ c. gives r c.refusal) earlier ≡ false → any (λ c. gives r c.refusal) later ≡ false
    → (first_refusal (earlier ++ when b r ∷ later) ≡ Some r) ↔ ((some_holds earlier ≡ false) × (b ≡ true))
exactly_here r [] true later h k = (λ e. (refl, refl), λ p. refl)
exactly_here r [] false later h k =
    (λ e. clash (eqb_self (refusal_number r)) (refusal_in (gives r) r later k e), λ p. absurd (false≢true p.1))
exactly_here r (c ∷ cs) b later h k =
    let (here, there) = neither (gives r c.refusal) (any (λ x. gives r x.refusal) cs) h in
    let (to, from) = exactly_here r cs b later there k in
    case_bool c.holds
    (λ t. (
      λ e. clash (ap (gives r) (some_inj (rw t at e)) ∙ eqb_self (refusal_number r)) here,
      λ p. absurd (false≢true (sym p.0 ∙ rw t refl)),
    ))
    (λ f. (λ e. let (none_holds, holds) = to (rw f at e) in (rw f none_holds, holds), λ p. rw f (from (rw f at p.0, p.1))))

-- where the ranks rise, the first that holds has the least rank of those that do
rising_least : (m : ℕ) (c : Condition Refusal) (cs : List (Condition Refusal)) → rising (m ∷ ranks cs) ≡ true → Memᴰ c cs
    → m ≤ rank c.refusal
rising_least m c [] h x = elim x [ ]
rising_least m c (x ∷ xs) h (Memᴰ.head e) =
    let l = ltb-true m (rank x.refusal) (and_left (ltb m (rank x.refusal)) _ h) in
    let s : rank c.refusal ≡ rank x.refusal = ap (λ (y : Condition Refusal). rank y.refusal) e in
    omega arith
rising_least m c (x ∷ xs) h (Memᴰ.tail i) =
    let l = ltb-true m (rank x.refusal) (and_left (ltb m (rank x.refusal)) _ h) in
    let r : rank x.refusal ≤ rank c.refusal = rising_least (rank x.refusal) c xs (rising_tail m (ranks (x ∷ xs)) h) i in
    omega arith

pub first_least : (r : Refusal) (cs : List (Condition Refusal)) → rising (ranks cs) ≡ true → first_refusal cs ≡ Some r
    → (c : Condition Refusal) → Memᴰ c cs → c.holds ≡ true → rank r ≤ rank c.refusal
first_least r [] h e c m t = elim m [ ]
first_least r (x ∷ xs) h e c (Memᴰ.head p) t =
    let s : x.holds ≡ true = ap (λ (y : Condition Refusal). y.holds) (sym p) ∙ t in
    let q : rank r ≡ rank c.refusal = ap rank (sym (some_inj (rw s at e))) ∙ ap (λ (y : Condition Refusal). rank y.refusal) (sym p) in
    omega arith
first_least r (x ∷ xs) h e c (Memᴰ.tail i) t =
    case_bool x.holds
    (λ s. let q : rank r ≡ rank x.refusal = ap rank (sym (some_inj (rw s at e))) in
    let l : rank x.refusal ≤ rank c.refusal = rising_least (rank x.refusal) c xs h i in omega arith)
    (λ s. first_least r xs (rising_tail (rank x.refusal) (ranks xs) h) (rw s at e) c i t)

-- ---- the table

abbrev is_corrupt : Refusal → Bool
is_corrupt r = eqb (refusal_number r) 18

never_corrupt : (compile : Compiler) (d : State) (q : Request) (text : List ℕ)
    → any (λ c. is_corrupt c.refusal) (conditions compile d q text) ≡ false
unfolding conditions
never_corrupt compile d q text =
    every_request (λ r. any (λ c. is_corrupt c.refusal) (conditions compile d r text)) (λ r. false) (λ a b c. refl) q

pub in_order_lem : InOrder
unfolding conditions
in_order_lem compile d q text = every_request (λ r. rising (ranks (conditions compile d r text))) (λ r. true) (λ a b c. refl) q

-- ---- one call

module _ (compile : Compiler) (d : Cells) where
  judged_refused : (q : Request) (text : List ℕ) (o : Option Refusal) (r : Refusal) → ((judged_cells compile d q text o).answer ≡ Err r) ↔ (o ≡ Some r)
  judged_refused q text None r = (λ h. cc, λ h. cc)
  judged_refused q text (Some s) r = (λ h. cc, λ h. cc)

  pub judged_accepted : (q : Request) (text : List ℕ) (o : Option Refusal) → (is_accepted (judged_cells compile d q text o).answer ≡ true) ↔ (o ≡ None)
  judged_accepted q text None = (λ h. refl, λ h. refl)
  judged_accepted q text (Some s) = (λ h. cc, λ h. cc)

  judged_unchanged : (q : Request) (text : List ℕ) (o : Option Refusal) (r : Refusal) → (judged_cells compile d q text o).answer ≡ Err r
      → (judged_cells compile d q text o).cells ≡ d
  judged_unchanged q text None r h = cc
  judged_unchanged q text (Some s) r h = refl

  corrupt_call_lem : (k : Decoded) (text : List ℕ) → (step_cells_decoded compile d k text).answer ≡ Err Corrupt → k ≡ None
  corrupt_call_lem None text h = refl
  corrupt_call_lem (Some q) text h =
      let cs = conditions compile (state_of d) q text in
      clash refl (refusal_in is_corrupt Corrupt cs (never_corrupt compile (state_of d) q text) ((judged_refused q text (first_refusal cs) Corrupt).0 h))

  refusal_unchanged : (k : Decoded) (text : List ℕ) (r : Refusal) → (step_cells_decoded compile d k text).answer ≡ Err r
      → (step_cells_decoded compile d k text).cells ≡ d
  refusal_unchanged None text r h = refl
  refusal_unchanged (Some q) text r h = judged_unchanged q text (first_refusal (conditions compile (state_of d) q text)) r h

  pub answer_decoded : (x : Call) (k : Decoded) → decoded x ≡ k → (step_cells compile d x).answer ≡ (step_cells_decoded compile d k x.text).answer
  unfolding step_cells
  answer_decoded x k e = ap (λ (j : Decoded). (step_cells_decoded compile d j x.text).answer) e

  call_unchanged : (x : Call) (r : Refusal) → (step_cells compile d x).answer ≡ Err r → (step_cells compile d x).cells ≡ d
  unfolding step_cells
  call_unchanged x r h = refusal_unchanged (decoded x) x.text r h

  call_corrupt : (x : Call) → ((step_cells compile d x).answer ≡ Err Corrupt) ↔ (decoded x ≡ None)
  call_corrupt x = (λ h. corrupt_call_lem (decoded x) x.text (sym (answer_decoded x (decoded x) refl) ∙ h), answer_decoded x None)

  -- a well formed call is refused as its conditions say
  pub refused_as : (x : Call) (q : Request) → decoded x ≡ Some q → (r : Refusal)
      → ((step_cells compile d x).answer ≡ Err r) ↔ (first_refusal (conditions compile (state_of d) q x.text) ≡ Some r)
  refused_as x q e r =
      let (to, from) = judged_refused q x.text (first_refusal (conditions compile (state_of d) q x.text)) r in
      let same = answer_decoded x (Some q) e in
      (λ h. to (sym same ∙ h), λ h. same ∙ from h)

  call_refused : (x : Call) (q : Request) → decoded x ≡ Some q → (r : Refusal)
      → ((step_cells compile d x).answer ≡ Err r) ↔ FirstHolds r (conditions compile (state_of d) q x.text)
  call_refused x q e r =
      let cs = conditions compile (state_of d) q x.text in
      let (to, from) = refused_as x q e r in
      (λ h. first_holds r cs (to h), λ k. from (first_refuses r cs k))

  call_accepted : (x : Call) (q : Request) → decoded x ≡ Some q
      → (is_accepted (step_cells compile d x).answer ≡ true) ↔ (some_holds (conditions compile (state_of d) q x.text) ≡ false)
  call_accepted x q e =
      let cs = conditions compile (state_of d) q x.text in
      let (to, from) = judged_accepted q x.text (first_refusal cs) in
      let same = ap is_accepted (answer_decoded x (Some q) e) in
      (λ h. none_holds cs (to (sym same ∙ h)), λ k. same ∙ from (none_refuses cs k))

  call_earliest : (x : Call) (q : Request) → decoded x ≡ Some q → (r : Refusal) → (step_cells compile d x).answer ≡ Err r
      → (c : Condition Refusal) → Memᴰ c (conditions compile (state_of d) q x.text) → c.holds ≡ true → rank r ≤ rank c.refusal
  call_earliest x q e r h =
      let cs = conditions compile (state_of d) q x.text in
      first_least r cs (in_order_lem compile (state_of d) q x.text) ((refused_as x q e r).0 h)

pub refusing : Refusing
refusing compile d x =
    record {
      corrupt = call_corrupt compile d x;
      refused = call_refused compile d x;
      accepted = call_accepted compile d x;
      earliest = call_earliest compile d x;
      unchanged = call_unchanged compile d x;
    }
