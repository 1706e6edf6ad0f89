-- C and A ask the same questions in the same order: the thread, the segment, the operation, the deny locks and the
-- grant locks.
use Rattle.std.specs.Prelude.{Ok, Err, Option, Some}
use mathlib.Core.Path.{◌≡◌, sym, ◌∙◌}
use mathlib.Core.Bool.{Bool, true, false}
use mathlib.Core.List.{List, ◌∷◌}
use Prim.Native.Nat.{ℕ}
use native.Mathlib.Omega.{arith}
use Rattle.base.specs.Conditions.{Condition, first_refusal}
use Rattle.model.specs.declared.answer.Refusal.{Refusal}
use Rattle.model.specs.declared.answer.Refusal.TheVariants.{NoThread, NoSegment, Unfit}
use Rattle.model.specs.Answers.{Answer}
use Rattle.base.specs.Lists.{is_some}
use Rattle.model.specs.Operations.{denies, grants}
use Rattle.model.specs.State.{State, LockProduct, is_live, is_segment}
use Rattle.model.specs.Refusals.{lock_of, opening_product, tightest_product, unless, denied, not_granted}
use Rattle.base.proofs.Lists.{case_bool}
use Rattle.model.proofs.Agreement.HistoryAnswers.{granted_some}
use Rattle.checking.specs.Deciding.{decide, answer_of}

-- what the check answers, by the first deny product and the longest grant product that open
abbrev pub checked : Option LockProduct → Option LockProduct → Answer
checked d g = answer_of (decide d g)

refused_is : {r s : Refusal} → ◌≡◌ {A = Answer} (Err r) (Err s) → r ≡ s
refused_is e = cc

accepted_is : {m n : ℕ} → ◌≡◌ {A = Answer} (Ok m) (Ok n) → m ≡ n
accepted_is e = cc

apart : {A : Type 0} {n : ℕ} {r : Refusal} → ◌≡◌ {A = Answer} (Ok n) (Err r) → A
apart e = let z : ◌≡◌ {A = ℕ} 0 1 = cc in absurd (omega arith)

module _ (d : State) (a b n : ℕ) (fit : Bool) (rest : List (Condition Refusal)) where
  abbrev pub gates : List (Condition Refusal)
  gates = unless (is_live d a) NoThread ∷ unless (is_segment d b) NoSegment ∷ unless fit Unfit ∷ denied d a b n ∷ not_granted d a b n ∷ rest

  pub no_thread_lem : is_live d a ≡ false → first_refusal gates ≡ Some NoThread
  no_thread_lem e = rw e

  module _ (live : is_live d a ≡ true) where
    pub no_segment_lem : is_segment d b ≡ false → first_refusal gates ≡ Some NoSegment
    no_segment_lem e = rw (live, e)

    module _ (out : is_segment d b ≡ true) where
      pub unfit : fit ≡ false → first_refusal gates ≡ Some Unfit
      unfit e = rw (live, out, e)

      module _ (fits : fit ≡ true) where
        abbrev od : Option LockProduct
        od = opening_product d denies a b n

        abbrev og : Option LockProduct
        og = tightest_product d a b n

        -- there is one where the gates let through
        some_grant : {x : Bool} → is_some og ≡ x → is_some (opening_product d grants a b n) ≡ x
        some_grant k = granted_some d a b n ∙ k

        -- what the check refuses, the gates refuse; what it accepts, they let through
        pub as_refused : {r : Refusal} → checked od og ≡ Err r → first_refusal gates ≡ Some r
        as_refused e =
            case_bool (is_some od)
            (λ h. let k = refused_is (rw h at e) in rw (live, out, fits, h, k))
            (λ h. case_bool (is_some og)
            (λ k. apart (rw (h, k) at e))
            (λ k. let l = refused_is (rw (h, k) at e) in rw (live, out, fits, h, some_grant k, l)))

        pub as_accepted : {lock : ℕ} → checked od og ≡ Ok lock → (first_refusal gates ≡ first_refusal rest) × (lock ≡ lock_of og)
        as_accepted e =
            case_bool (is_some od)
            (λ h. apart (sym (rw h at e)))
            (λ h. case_bool (is_some og)
            (λ k. (rw (live, out, fits, h, some_grant k), sym (accepted_is (rw (h, k) at e))))
            (λ k. apart (sym (rw (h, k) at e))))
