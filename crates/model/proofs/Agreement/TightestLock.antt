-- The answer of the check, read from the history, is put in words: the greatest of the grant locks that open leads them
-- all, its tightness is the length of one of its products, and no opening product is longer than its lock is tight. Of
-- the deny locks the first of rising numbers is the lowest.
use Rattle.std.specs.Prelude.{Ok, Err, Option, None, Some}
use mathlib.Core.Path.{◌≡◌, refl, sym, ap, subst, ◌∙◌}
use mathlib.Core.Bool.{Bool, true, false, false≢true}
use mathlib.Core.List.{List, [], ◌∷◌, map, Memᴰ}
use Prim.Native.Nat.{ℕ, ◌≤◌}
use native.Mathlib.Omega.{arith}
use lib.Dec.{eqb, ltb}
use borrow.Author.Tests.{ltb-true}
use lib.ListN.{length}
use Rattle.formula.specs.Outcome.{outcome_of}
use Rattle.formula.specs.Meaning.{text_holds, Meaning}
use Rattle.formula.specs.Compiler.{Compiler, Laws}
use Rattle.formula.proofs.Opening.{laws}
use Rattle.call.specs.Calls.{Call}
use Rattle.base.specs.Lists.{keep, first, rising}
use Rattle.base.proofs.Truth.{and_left, and_last}
use Rattle.base.proofs.Lists.{case_bool, all_at, clash, some_inj, is_some_some, some≢none, is_some_first, any_passes, keep_members, keep_member, rising_keep, rising_tail, rising_skip}
use Rattle.base.proofs.Greatest.{Leads, greatest_has, greatest_leads}
use Rattle.model.specs.declared.answer.Refusal.TheVariants.{Denied}
use Rattle.model.specs.Answers.{Answer}
use Rattle.model.specs.Answers.{is_accepted}
use Rattle.model.specs.Operations.{denies, grants}
use Rattle.model.specs.Threads.{Thread, KeySet, key_set}
use Rattle.model.specs.History.{History, Lock, history}
use Rattle.model.specs.HistoryCheck.{Operation, thread_of, target_of, operation_of, has_room, lock_opens, check_answer, tightness, tightest_lock, answer_from}
use Rattle.model.specs.Replay.{events, answer_to}
use Rattle.model.specs.Theorems.TightestLock.{Tightest, LowestDeny, AnswersTightest, AnswersBy, TightestLockByLaws, TightestLock}
use Rattle.model.proofs.Agreement.TightestProducts.{Spelt, spelt_by_laws, product_short, product_long}
use Rattle.model.proofs.Agreement.StoredLocks.{stored_locks_by_laws}
use Rattle.model.proofs.Agreement.Numbering.{numbering_by_laws}
use Rattle.model.proofs.Agreement.Granting.{granting_by_laws}
use Rattle.model.proofs.Agreement.Fitting.{fitting_by_laws}

-- ---- an answer's lock

accepted_is : {m n : ℕ} → ◌≡◌ {A = Answer} (Ok m) (Ok n) → m ≡ n
accepted_is e = cc

denied_is : {m n : ℕ} → ◌≡◌ {A = Answer} (Err (Denied m)) (Err (Denied n)) → m ≡ n
denied_is e = cc

accepting : (d g : Option Lock) (room : Bool) (n : ℕ) → check_answer d g room ≡ Ok n → (l : Lock) × (g ≡ Some l) × (l.number ≡ n)
accepting (Some k) g room n e = let z : ◌≡◌ {A = ℕ} 0 1 = cc in absurd (omega arith)
accepting None None room n e = let z : ◌≡◌ {A = ℕ} 0 1 = cc in absurd (omega arith)
accepting None (Some l) false n e = let z : ◌≡◌ {A = ℕ} 0 1 = cc in absurd (omega arith)
accepting None (Some l) true n e = (l, refl, accepted_is e)

denying : (d g : Option Lock) (room : Bool) (n : ℕ) → check_answer d g room ≡ Err (Denied n) → (l : Lock) × (d ≡ Some l) × (l.number ≡ n)
denying (Some l) g room n e = (l, refl, denied_is e)
denying None None room n e = let z : ◌≡◌ {A = ℕ} 0 1 = cc in absurd (omega arith)
denying None (Some l) false n e = let z : ◌≡◌ {A = ℕ} 0 1 = cc in absurd (omega arith)
denying None (Some l) true n e = let z : ◌≡◌ {A = ℕ} 0 1 = cc in absurd (omega arith)

accepted_some : (r : Answer) → is_accepted r ≡ true → (n : ℕ) × (r ≡ Ok n)
accepted_some (Ok n) e = (n, refl)
accepted_some (Err r) e = absurd (false≢true e)

-- ---- the first of rising numbers that passes

rising_above : (m : ℕ) (ls : List Lock) → rising (m ∷ map (λ l. l.number) ls) ≡ true → (k : Lock) → Memᴰ k ls → m ≤ k.number
rising_above m [] r k x = elim x [ ]
rising_above m (x ∷ xs) r k (Memᴰ.head e) =
    let lt = ltb-true m x.number (and_left (ltb m x.number) _ r) in
    let same = ap (λ (l : Lock). l.number) e in omega arith
rising_above m (x ∷ xs) r k (Memᴰ.tail i) = rising_above m xs (rising_skip m x.number (map (λ (l : Lock). l.number) xs) r) k i

first_lowest : (p : Lock → Bool) (ls : List Lock) → rising (map (λ l. l.number) ls) ≡ true → (l : Lock) → first p ls ≡ Some l
    → Memᴰ l ls × (p l ≡ true) × ((k : Lock) → Memᴰ k ls → p k ≡ true → l.number ≤ k.number)
first_lowest p [] r l e = absurd (some≢none (sym e))
first_lowest p (x ∷ xs) r l e =
    case_bool (p x)
    (λ q. let same : x ≡ l = some_inj (sym (simp q) ∙ e) in
    (Memᴰ.head (sym same), ap p (sym same) ∙ q, λ k m u. subst (λ (j : Lock). j.number ≤ k.number) same (here k m)))
    (λ q. let (m, t, low) = first_lowest p xs (rising_tail x.number (map (λ (k : Lock). k.number) xs) r) l (sym (simp q) ∙ e) in
    (Memᴰ.tail m, t, λ k i u. later k i u q low))
  where
    here : (k : Lock) → Memᴰ k (x ∷ xs) → x.number ≤ k.number
    here k (Memᴰ.head i) = let same = ap (λ (j : Lock). j.number) i in omega arith
    here k (Memᴰ.tail i) = rising_above x.number xs r k i

    later : (k : Lock) → Memᴰ k (x ∷ xs) → p k ≡ true → p x ≡ false → ((j : Lock) → Memᴰ j xs → p j ≡ true → l.number ≤ j.number) → l.number ≤ k.number
    later k (Memᴰ.head i) u q low = clash (sym (ap p i) ∙ u) q
    later k (Memᴰ.tail i) u q low = low k i u

-- ---- in words

module _ (compile : Compiler) (holds : Meaning) (h : History) (o : Operation) (t : Thread)
    (in_order : rising (map (λ l. l.number) h.locks) ≡ true) (spelt : (l : Lock) → Memᴰ l h.locks → Spelt compile holds (key_set (thread_of o) t) l) where
  abbrev keys : KeySet
  keys = key_set (thread_of o) t

  abbrev giving : Lock → Bool
  giving = lock_opens holds grants o t

  abbrev barring : Lock → Bool
  barring = lock_opens holds denies o t

  abbrev size : Lock → ℕ
  size = tightness compile keys

  abbrev number_of : Lock → ℕ
  number_of l = l.number

  abbrev IsTightest : ℕ → Type 0
  IsTightest = Tightest compile holds h o t

  is_tightest : (l : Lock) → tightest_lock compile holds h o t ≡ Some l → (n : ℕ) → l.number ≡ n → IsTightest n
  is_tightest l is n number =
      let open-locks = keep giving h.locks in
      let (stands, gives) = greatest_has size (λ k. Memᴰ k h.locks × (giving k ≡ true)) open-locks (keep_members giving h.locks) l is in
      let leads = greatest_leads size number_of open-locks (rising_keep number_of giving h.locks in_order) l is in
      let led : (k : Lock) → Memᴰ k h.locks → giving k ≡ true → Leads size number_of l k =
      λ k m g. all_at (Leads size number_of l) open-locks leads k (keep_member giving k h.locks m g) in
      let holding : holds keys l.text ≡ true = and_last (eqb l.segment (target_of o)) (grants l.operations (operation_of o)) (holds keys l.text) gives in
      let (p, its, agrees, long) = product_long compile keys l (spelt l stands ∙ holding) in
      record {
        lock = l;
        number = number;
        product = p;
        opening = record { standing = stands; grants = gives; product = its; opens = agrees };
        longest = λ k q b.
            let short = product_short compile keys k q b.product b.opens in
            let least = (led k b.standing b.grants).least in omega arith;
        lowest = λ k q b s.
            let short = product_short compile keys k q b.product b.opens in
            let least = (led k b.standing b.grants).least in
            let same : size k ≡ size l = omega arith in
            let low = (led k b.standing b.grants).lower same in omega arith;
      }

  -- there is but one
  one_tightest : (m n : ℕ) → IsTightest m → IsTightest n → m ≡ n
  one_tightest m n x y =
      let below = x.longest y.lock y.product y.opening in
      let above = y.longest x.lock x.product x.opening in
      let same : length y.product ≡ length x.product = omega arith in
      let left = x.lowest y.lock y.product y.opening same in
      let right = y.lowest x.lock x.product x.opening (sym same) in
      let a = x.number in let b = y.number in omega arith

  answers : AnswersTightest compile holds h o t (answer_from compile holds h o t)
  answers =
      record {
        tightest = tight;
        only = λ n a w.
            let (m, e) = accepted_some (answer_from compile holds h o t) a in
            e ∙ ap Ok (one_tightest m n (tight m e) w);
        denied = λ n. (deny n, denied_by_lem n);
      }
    where
      d : Option Lock
      d = first barring h.locks

      g : Option Lock
      g = tightest_lock compile holds h o t

      tight : (n : ℕ) → answer_from compile holds h o t ≡ Ok n → IsTightest n
      tight n e = let (l, is, number) = accepting d g (has_room o t) n e in is_tightest l is n number

      deny : (n : ℕ) → answer_from compile holds h o t ≡ Err (Denied n) → LowestDeny compile holds h o t n
      deny n e =
          let (l, is, number) = denying d g (has_room o t) n e in
          let (stands, bars, low) = first_lowest barring h.locks in_order l is in
          record { lock = l; number = number; standing = stands; opens = bars; lowest = λ k m u. let least = low k m u in omega arith }

      denied_by_lem : (n : ℕ) → LowestDeny compile holds h o t n → answer_from compile holds h o t ≡ Err (Denied n)
      denied_by_lem n w =
          let (l, is) = is_some_some d (is_some_first barring h.locks ∙ any_passes barring w.lock h.locks w.standing w.opens) in
          let (stands, bars, low) = first_lowest barring h.locks in_order l is in
          let below = low w.lock w.standing w.opens in
          let above = w.lowest l stands bars in
          let number = w.number in
          let same : l.number ≡ n = omega arith in
          ap (λ (x : Option Lock). check_answer x g (has_room o t)) is ∙ ap (λ (k : ℕ). Err (Denied k)) same

-- ---- on the arrays

answers_by : (compile : Compiler) (holds : Meaning) → Laws compile holds → (xs : List Call) (next : Call)
    → AnswersBy compile holds (events compile xs) next (answer_to compile xs next)
answers_by compile holds law xs next o t fits live =
    let es = events compile xs in
    let stored = stored_locks_by_laws compile holds law xs in
    subst (AnswersTightest compile holds (history es) o t) (sym ((granting_by_laws compile holds law xs next).answer o t fits live))
    (answers compile holds (history es) o t (numbering_by_laws compile holds law xs next).in_order
    (λ l m. spelt_by_laws compile holds law (key_set (thread_of o) t) l (stored.text l m)))

pub tightest_lock_by_laws : TightestLockByLaws
tightest_lock_by_laws compile holds law xs next =
    record {
      fitting = answers_by compile holds law xs next;
      accepted = λ o n e a.
          let j = (fitting_by_laws compile holds law xs next).accepted o n e a in
          record { thread = j.thread; live = j.live; tightest = (answers_by compile holds law xs next o j.thread j.fits j.live).tightest n a };
    }

pub tightest_lock_lem : TightestLock
tightest_lock_lem = tightest_lock_by_laws outcome_of text_holds laws
