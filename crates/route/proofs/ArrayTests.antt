-- What the code finds in the arrays, as the gates of C and A ask it of the state that they hold.
use Rattle.std.specs.Prelude.{Ok, Err, None, Some}
use mathlib.Core.Path.{◌≡◌, sym, ap, ◌∙◌}
use mathlib.Core.Bool.{Bool, true, false}
use mathlib.Core.List.{List}
use Prim.Native.Nat.{ℕ, ◌≤◌, ◌<◌}
use borrow.Author.Tests.{lt-ltb, le-ltb}
use Rattle.formula.specs.Outcome.{outcome_of}
use Rattle.call.specs.declared.request.Request.{Request}
use Rattle.base.specs.Conditions.{Condition, first_refusal}
use Rattle.model.specs.declared.answer.Refusal.{Refusal}
use Rattle.model.specs.declared.answer.Refusal.TheVariants.{NoThread, NoSegment, Unfit}
use Rattle.model.specs.Answers.{Answer}
use Rattle.model.specs.Operations.{denies, is_operation}
use Rattle.model.specs.State.{is_thread, is_segment}
use Rattle.model.specs.Refusals.{lock_of, opening_product, tightest_product, conditions}
use Rattle.model.specs.Cells.{Table, Cells, table_at, state_of}
use Rattle.model.specs.Serving.{Serves}
use Rattle.model.proofs.Refinement.ServedCalls.{segments_in, segment_at_lem, is_segment_lem, serves_refused}
use Rattle.threads.specs.Places.{Placed}
use Rattle.threads.proofs.FoundThread.{Standing, stands, not_live}
use Rattle.checking.specs.declared.Ungranted.{Ungranted}
use Rattle.checking.specs.Deciding.{Checked, first_opening, tightest_opening, check_of, refusal_of, answer_of}
use Rattle.route.proofs.AccessConditions.{gates, checked, no_thread_lem, no_segment_lem, unfit, as_refused, as_accepted}

-- what the check of the thread's rows by the segment's products answers
abbrev pub answered_by : Table → Table → ℕ → Answer
answered_by t w n = answer_of (check_of t w n)

module _ (t w : Table) (n : ℕ) {k : Checked} (is : k ≡ check_of t w n) where
  pub granted : (lock : ℕ) → k ≡ Ok lock → ◌≡◌ {A = Answer} (Ok lock) (answered_by t w n)
  granted lock e = ap answer_of (sym e ∙ is)

  pub ungranted : (u : Ungranted) → k ≡ Err u → ◌≡◌ {A = Answer} (Err (refusal_of u)) (answered_by t w n)
  ungranted u e = ap answer_of (sym e ∙ is)

-- a request that goes through the gates, of thread a
module _ (d : Cells) (q : Request) (text : List ℕ) (a b n : ℕ) (fit : Bool) (rest : List (Condition Refusal))
    (same : conditions outcome_of (state_of d) q text ≡ gates (state_of d) a b n fit rest) where
  refuses : {r : Refusal} → first_refusal (gates (state_of d) a b n fit rest) ≡ Some r → Serves d q text (Err r) d
  refuses e = serves_refused d q text (ap first_refusal same ∙ e)

  pub thread_missing : Placed d.threads a (is_thread a) None → Serves d q text (Err NoThread) d
  thread_missing missed = refuses (no_thread_lem (state_of d) a b n fit rest (not_live d missed))

  -- which stands at place i
  module _ (i : ℕ) (placed : Placed d.threads a (is_thread a) (Some i)) where
    standing : Standing d a i
    standing = stands d placed

    pub segment_missing : segments_in d ≤ b → Serves d q text (Err NoSegment) d
    segment_missing h = refuses (no_segment_lem (state_of d) a b n fit rest standing.live (is_segment_lem d b ∙ le-ltb b (segments_in d) h))

    module _ (low : b < segments_in d) where
      out : is_segment (state_of d) b ≡ true
      out = is_segment_lem d b ∙ lt-ltb b (segments_in d) low

      pub misfit : fit ≡ false → Serves d q text (Err Unfit) d
      misfit e = refuses (unfit (state_of d) a b n fit rest standing.live out e)

      -- the check on the thread's rows and the segment's products is the model's
      first_denying : opening_product (state_of d) denies a b n ≡ first_opening denies (table_at d.threads i) (table_at d.locks b) n
      unfolding opening_product
      first_denying = rw (standing.thread, standing.number, segment_at_lem d b low)

      tightest_granting : tightest_product (state_of d) a b n ≡ tightest_opening (table_at d.threads i) (table_at d.locks b) n
      unfolding tightest_product
      tightest_granting = rw (standing.thread, standing.number, segment_at_lem d b low)

      module _ (fits : fit ≡ true) (known : is_operation n ≡ true) where
        as_checked : checked (opening_product (state_of d) denies a b n) (tightest_product (state_of d) a b n) ≡ answered_by (table_at d.threads i) (table_at d.locks b) n
        unfolding check_of
        as_checked = rw (first_denying, tightest_granting, known)

        pub turned_away : {r : Refusal} → Err r ≡ answered_by (table_at d.threads i) (table_at d.locks b) n → Serves d q text (Err r) d
        turned_away e = refuses (as_refused (state_of d) a b n fit rest standing.live out fits (as_checked ∙ sym e))

        pub let_through : {lock : ℕ} → Ok lock ≡ answered_by (table_at d.threads i) (table_at d.locks b) n
            → (first_refusal (conditions outcome_of (state_of d) q text) ≡ first_refusal rest) × (lock ≡ lock_of (tightest_product (state_of d) a b n))
        let_through e =
            let (free, lock) = as_accepted (state_of d) a b n fit rest standing.live out fits (as_checked ∙ sym e) in
            (ap first_refusal same ∙ free, lock)
