-- What the model answers, read from a history that agrees with it. Of a fitting C or A of a live thread the conditions
-- before the check fail, and the check's two locks are the history's, the lowest deny lock and the tightest grant lock;
-- the numbers handed out are the counts.
use Rattle.std.specs.Prelude.{Ok, Err, Option, None, Some}
use mathlib.Core.Path.{◌≡◌, refl, sym, ap, ◌∙◌}
use mathlib.Core.Bool.{Bool, true, false, ◌||◌, not, cond, false≢true}
use mathlib.Core.List.{List}
use Prim.Native.Nat.{ℕ, suc}
use native.Mathlib.Omega.{arith}
use lib.Dec.{eqb, ltb}
use lib.ListN.{length}
use borrow.Author.Tests.{eqb-true, lt-ltb, ltb-true, ltb-false, le-ltb}
use Rattle.formula.specs.Compiler.{Compiler, Laws}
use Rattle.formula.specs.Meaning.{Meaning}
use Rattle.call.specs.declared.request.Request.{Request}
use Rattle.call.specs.Calls.{Decoded}
use Rattle.call.specs.Calls.{Call, decoded}
use Rattle.call.specs.Letters as letters
use Rattle.call.specs.Requests.{call_of}
use Rattle.base.specs.Conditions.{first_refusal}
use Rattle.model.specs.declared.answer.Refusal.{Refusal}
use Rattle.model.specs.declared.answer.Refusal.TheVariants.{Full, Denied, NotGranted}
use Rattle.model.specs.Answers.{Answer}
use Rattle.base.specs.Lists.{any, first, is_some, map_option}
use Rattle.model.specs.Limits.{most_frames, passes}
use Rattle.model.specs.Operations.{denies, grants, takes}
use Rattle.model.specs.Threads.{Thread, key_set}
use Rattle.model.specs.State.{State, LockProduct, segment_at, find_thread, thread_at, is_segment}
use Rattle.model.specs.Refusals.{lock_of, opens_for, literal_count, opening_product, tightest_product, conditions}
use Rattle.model.specs.Effects.{answer, update}
use Rattle.model.specs.Model.{judged, step_decoded, step}
use Rattle.model.specs.History.{History, Entry, Lock, numbering, hands_out}
use Rattle.model.specs.HistoryCheck.{Operation, calls, accesses, request_of, thread_of, target_of, operation_of, is_known, has_room, lock_opens, check_answer, tightest_lock, answer_from}
use Rattle.base.proofs.Lists.{case_bool, is_some_first, some_inj, some≢none}
use Rattle.base.proofs.Greatest.{is_some_greatest}
use Rattle.model.proofs.Agreement.Segments.{entry_low, entry_is}
use Rattle.model.proofs.Agreement.ReadLocks.{check_agrees}
use Rattle.model.proofs.Agreement.TightestProducts.{tightest_agrees}
use Rattle.model.proofs.Agreement.Agrees.{Agrees}
use Rattle.model.proofs.Agreement.EveryCall.{found_as, thread_as}
use Rattle.call.proofs.EveryRequest.{every_request}

-- an accepted call: no condition held, its answer is the model's, and the state is what it changes
pub record Taken (compile : Compiler) (d : State) (next : Call) (q : Request) (n : ℕ) : Type 0 where
  pub free : first_refusal (conditions compile d q next.text) ≡ None
  pub number : n ≡ answer compile d q next.text
  pub state : (step compile d next).state ≡ update compile d q next.text

pub taken : (compile : Compiler) (d : State) (next : Call) (q : Request) (n : ℕ) → decoded next ≡ Some q → (step compile d next).answer ≡ Ok n
    → Taken compile d next q n
unfolding step
taken compile d next q n e a = by (first_refusal (conditions compile d q next.text)) refl (sym (ap (λ (k : Decoded). (step_decoded compile d k next.text).answer) e) ∙ a)
  where
    by : (o : Option Refusal) → first_refusal (conditions compile d q next.text) ≡ o → (judged compile d q next.text (first_refusal (conditions compile d q next.text))).answer ≡ Ok n
        → Taken compile d next q n
    by None f h =
        record {
          free = f;
          number = let k : Ok (answer compile d q next.text) ≡ Ok n = sym (ap (λ (o : Option Refusal). (judged compile d q next.text o).answer) f) ∙ h in cc;
          state = ap (λ (k : Decoded). (step_decoded compile d k next.text).state) e ∙ ap (λ (o : Option Refusal). (judged compile d q next.text o).state) f;
        }
    by (Some r) f h =
        let k = sym (ap (λ (o : Option Refusal). (judged compile d q next.text o).answer) f) ∙ h in
        let z : ◌≡◌ {A = ℕ} 0 1 = cc in absurd (omega arith)

-- an answer, by the first refusal
abbrev pub answered : Option Refusal → ℕ → Answer
answered None n = Ok n
answered (Some r) n = Err r

pub judged_answer : (compile : Compiler) (d : State) (q : Request) (text : List ℕ) (o : Option Refusal)
    → (judged compile d q text o).answer ≡ answered o (answer compile d q text)
judged_answer compile d q text None = refl
judged_answer compile d q text (Some r) = refl

-- a grant lock opens exactly when there is a tightest
pub granted_some : (d : State) (a b n : ℕ) → is_some (opening_product d grants a b n) ≡ is_some (tightest_product d a b n)
unfolding opening_product tightest_product
granted_some d a b n =
    let p = opens_for grants n (key_set a (thread_at d a)) in
    is_some_first p (segment_at d b).products ∙ sym (is_some_greatest literal_count p (segment_at d b).products)

-- the check's conditions and the limit, by the two locks that open
check_answers : (od og : Option LockProduct) (ld lg : Option Lock) (room : Bool)
    → map_option (λ r. r.lock) od ≡ map_option (λ l. l.number) ld → map_option (λ r. r.lock) og ≡ map_option (λ l. l.number) lg
    → answered (cond (is_some od) (Some (Denied (lock_of od))) (cond (not (is_some og)) (Some NotGranted) (cond (not room) (Some Full) None))) (lock_of og)
    ≡ check_answer ld lg room
check_answers (Some r) og (Some l) lg room p q = ap (λ (n : ℕ). Err (Denied n)) (some_inj p)
check_answers (Some r) og None lg room p q = absurd (some≢none p)
check_answers None og (Some l) lg room p q = absurd (some≢none (sym p))
check_answers None (Some r) None (Some l) true p q = ap Ok (some_inj q)
check_answers None (Some r) None (Some l) false p q = refl
check_answers None (Some r) None None room p q = absurd (some≢none q)
check_answers None None None (Some l) room p q = absurd (some≢none (sym q))
check_answers None None None None room p q = refl

pub under_limit : (most n : ℕ) → passes most (suc n) ≡ not (ltb n most)
under_limit most n =
    case_bool (ltb n most)
    (λ e. simp e (let h = ltb-true n most e in le-ltb most (suc n) (omega arith)))
    (λ e. simp e (let h = ltb-false n most e in lt-ltb most (suc n) (omega arith)))

module _ (compile : Compiler) (holds : Meaning) (laws : Laws compile holds) (text : List ℕ) (d : State) (h : History) (count : ℕ → ℕ) (c : Agrees compile d h count) where
  module _ (o : Operation) (t : Thread) (live : h.threads (thread_of o) ≡ Some t) (entry : Entry) (out : h.segments (target_of o) ≡ Some entry) where
    found : find_thread (thread_of o) d.places ≡ Some t
    found = found_as compile d h count c (thread_of o) ∙ live

    out_test : is_segment d (target_of o) ≡ true
    out_test = lt-ltb (target_of o) (length d.segments) (entry_low d.segments h.segments c.segments (target_of o) entry out)

    kind_is : (segment_at d (target_of o)).kind ≡ entry.kind
    kind_is = ap (λ (e : Entry). e.kind) (entry_is d.segments h.segments c.segments (target_of o) entry out)

    check : (stands : ℕ → ℕ → Bool)
        → map_option (λ r. r.lock) (opening_product d stands (thread_of o) (target_of o) (operation_of o)) ≡ map_option (λ l. l.number) (first (lock_opens holds stands o t) h.locks)
    unfolding opening_product
    check stands =
        check_agrees compile holds laws d.segments d.lock_numbers h.locks c.locks stands (target_of o) (operation_of o) (key_set (thread_of o) (thread_at d (thread_of o)))
        ∙ rw (thread_as compile d h count c (thread_of o) t live)

    tight : map_option (λ r. r.lock) (tightest_product d (thread_of o) (target_of o) (operation_of o)) ≡ map_option (λ l. l.number) (tightest_lock compile holds h o t)
    unfolding tightest_product
    tight =
        tightest_agrees compile holds laws d.segments d.lock_numbers h.locks c.locks (key_set (thread_of o) (thread_at d (thread_of o))) (target_of o) (operation_of o)
        ∙ rw (thread_as compile d h count c (thread_of o) t live)

  -- with the grant product and the grant lock that the answer goes by, which are there exactly where a grant lock opens
  checked_from : (o : Operation) (t : Thread) → h.threads (thread_of o) ≡ Some t → (entry : Entry) → h.segments (target_of o) ≡ Some entry
      → is_known o ≡ true → takes entry.kind (operation_of o) ≡ true → (og : Option LockProduct) (lg : Option Lock)
      → is_some (opening_product d grants (thread_of o) (target_of o) (operation_of o)) ≡ is_some og → map_option (λ r. r.lock) og ≡ map_option (λ l. l.number) lg
      → answered (first_refusal (conditions compile d (request_of o) text)) (lock_of og) ≡ check_answer (first (lock_opens holds denies o t) h.locks) lg (has_room o t)
  unfolding conditions
  checked_from (calls a b) t live entry out number fits og lg some_grant same =
      let o = calls a b in
      simp (found o t live entry out, out_test o t live entry out, kind_is o t live entry out, fits, some_grant, under_limit most_frames (length t.frames))
      (check_answers (opening_product d denies a b 1) og (first (lock_opens holds denies o t) h.locks) lg (has_room o t) (check o t live entry out denies) same)
  checked_from (accesses a b n) t live entry out number fits og lg some_grant same =
      let o = accesses a b n in
      simp (found o t live entry out, out_test o t live entry out, kind_is o t live entry out, fits, some_grant)
      (simp number
      (check_answers (opening_product d denies a b n) og (first (lock_opens holds denies o t) h.locks) lg true (check o t live entry out denies) same))

  checks_answer : (o : Operation) → answer compile d (request_of o) text ≡ lock_of (tightest_product d (thread_of o) (target_of o) (operation_of o))
  unfolding answer
  checks_answer (calls a b) = refl
  checks_answer (accesses a b n) = refl

  pub answers_from : (o : Operation) (t : Thread) → h.threads (thread_of o) ≡ Some t → (entry : Entry) → h.segments (target_of o) ≡ Some entry
      → is_known o ≡ true → takes entry.kind (operation_of o) ≡ true
      → (judged compile d (request_of o) text (first_refusal (conditions compile d (request_of o) text))).answer ≡ answer_from compile holds h o t
  answers_from o t live entry out number fits =
      let refusal = first_refusal (conditions compile d (request_of o) text) in
      judged_answer compile d (request_of o) text refusal
      ∙ ap (answered refusal) (checks_answer o)
      ∙ checked_from o t live entry out number fits (tightest_product d (thread_of o) (target_of o) (operation_of o)) (tightest_lock compile holds h o t)
      (granted_some d (thread_of o) (target_of o) (operation_of o)) (tight o t live entry out)

  -- and as it was before request P6, with the first grant product
  pub lowest_from : (o : Operation) (t : Thread) → h.threads (thread_of o) ≡ Some t → (entry : Entry) → h.segments (target_of o) ≡ Some entry
      → is_known o ≡ true → takes entry.kind (operation_of o) ≡ true
      → answered (first_refusal (conditions compile d (request_of o) text)) (lock_of (opening_product d grants (thread_of o) (target_of o) (operation_of o)))
      ≡ check_answer (first (lock_opens holds denies o t) h.locks) (first (lock_opens holds grants o t) h.locks) (has_room o t)
  lowest_from o t live entry out number fits =
      checked_from o t live entry out number fits (opening_product d grants (thread_of o) (target_of o) (operation_of o)) (first (lock_opens holds grants o t) h.locks)
      refl (check o t live entry out grants)

-- ---- the numbers that U, S, N, K and L answer

-- what was handed out before, by the letter that hands it out
abbrev handed_by : State → ℕ → ℕ
handed_by d letter =
    cond (eqb letter letters.U) d.users
    (cond (eqb letter letters.S) d.thread_numbers
    (cond (eqb letter letters.N) (length d.segments)
    (cond (eqb letter letters.K) (length d.makers)
    (cond (eqb letter letters.L) d.lock_numbers 0))))

-- a letter that hands out numbers answers how many there were
answers_next : (compile : Compiler) (text : List ℕ) (d : State) (q : Request) → hands_out q ≡ true → answer compile d q text ≡ handed_by d (call_of q text).letter
unfolding answer
answers_next compile text d q e =
    ap (λ (b : Bool). cond b (answer compile d q text) 0) (sym e)
    ∙ every_request (λ r. cond (hands_out r) (answer compile d r text) 0) (λ r. cond (hands_out r) (handed_by d (call_of r text).letter) 0) (λ a b c. refl) q
    ∙ ap (λ (b : Bool). cond b (handed_by d (call_of q text).letter) 0) e

letter_handed : (text : List ℕ) (q : Request) → any (eqb (call_of q text).letter) numbering ≡ hands_out q
letter_handed text q = every_request (λ r. any (eqb (call_of r text).letter) numbering) hands_out (λ a b c. refl) q

-- and that is the count of the letter
handed_counted : (compile : Compiler) (d : State) (h : History) (count : ℕ → ℕ) → Agrees compile d h count
    → (letter : ℕ) → any (eqb letter) numbering ≡ true → handed_by d letter ≡ count letter
handed_counted compile d h count c letter e =
    by letters.U c.counts.0 (by letters.S c.counts.1 (by letters.N c.counts.2 (by letters.K c.counts.3 (by letters.L c.counts.4 none_left)))) e
  where
    by : {x y : ℕ} {rest : Bool} (l : ℕ) → x ≡ count l → (rest ≡ true → y ≡ count letter) → (eqb letter l || rest) ≡ true
        → cond (eqb letter l) x y ≡ count letter
    by l p k t = case_bool (eqb letter l) (λ u. simp u (p ∙ ap count (sym (eqb-true letter l u)))) (λ u. simp u (k (rw u at t)))

    none_left : false ≡ true → 0 ≡ count letter
    none_left t = absurd (false≢true t)

pub counted_as : (compile : Compiler) (text : List ℕ) (d : State) (h : History) (count : ℕ → ℕ) → Agrees compile d h count
    → (q : Request) → hands_out q ≡ true → answer compile d q text ≡ count (call_of q text).letter
counted_as compile text d h count c q e =
    answers_next compile text d q e ∙ handed_counted compile d h count c (call_of q text).letter (letter_handed text q ∙ e)
