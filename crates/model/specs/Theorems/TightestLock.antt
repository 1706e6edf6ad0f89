-- Request P6: 'When several grant locks open .. the answer becomes the lock whose longest opening product has most
-- signed keys. Equal ones go to the lower lock number. The check now looks past the first grant lock that opens. Deny
-- locks keep their order.' From the list of calls and answers before a live thread's fitting C or A, and in words:
-- `greatest` and `tightness`, by which the answer is worked out, don't stand here. Which C and A fit is `Fitting`, and
-- that the grants are the same set as before is `SameGrants`. Proved in `proofs/Agreement/TightestLock.antt`.
use Rattle.std.specs.Prelude.{◌≡◌, true, ◌↔◌, ℕ, ◌≤◌, length, Ok, Err, Some}
use mathlib.Core.List.{List, Memᴰ}
use Rattle.product.specs.Product.{Product, opens}
use Rattle.formula.specs.Outcome.{outcome_of}
use Rattle.formula.specs.Meaning.{text_holds, Meaning}
use Rattle.formula.specs.Compiler.{Compiler, Laws}
use Rattle.call.specs.Calls.{Call, decoded}
use Rattle.model.specs.declared.answer.Refusal.TheVariants.{Denied}
use Rattle.model.specs.Answers.{Answer}
use Rattle.model.specs.Answers.{is_accepted}
use Rattle.model.specs.Operations.{denies, grants}
use Rattle.model.specs.Threads.{Thread, key_set}
use Rattle.model.specs.History.{Event, History, Lock, history}
use Rattle.model.specs.HistoryLocks.{products_of}
use Rattle.model.specs.HistoryCheck.{Operation, request_of, thread_of, Fits, lock_opens}
use Rattle.model.specs.Replay.{events, answer_to}

module _ (compile : Compiler) (holds : Meaning) (h : History) (o : Operation) (t : Thread) where
  -- A grant lock that stands for the operation and opens, and a product by which it opens: one of its text's, and the
  -- thread's key set opens it.
  pub record OpensBy (l : Lock) (p : Product) : Type 0 where
    pub standing : Memᴰ l h.locks
    pub grants : lock_opens holds grants o t l ≡ true
    pub product : Memᴰ p (products_of compile l.text)
    pub opens : opens (key_set (thread_of o) t) p ≡ true

  -- n is the tightest lock's number
  pub record Tightest (n : ℕ) : Type 0 where
    pub lock : Lock
    pub number : lock.number ≡ n
    pub product : Product
    pub opening : OpensBy lock product
    -- no grant lock that opens has a longer opening product; of equal ones it is the lowest
    pub longest : (l : Lock) (p : Product) → OpensBy l p → length p ≤ length product
    pub lowest : (l : Lock) (p : Product) → OpensBy l p → length p ≡ length product → n ≤ l.number

  -- n is the number of the lowest deny lock that stands for the operation and opens
  pub record LowestDeny (n : ℕ) : Type 0 where
    pub lock : Lock
    pub number : lock.number ≡ n
    pub standing : Memᴰ lock h.locks
    pub opens : lock_opens holds denies o t lock ≡ true
    pub lowest : (l : Lock) → Memᴰ l h.locks → lock_opens holds denies o t l ≡ true → n ≤ l.number

  -- The answer r. An accepted one is the tightest lock's number, and whatever number is the tightest lock's is the one
  -- answered. 14 comes with the lowest deny lock's, exactly where one opens.
  pub record AnswersTightest (r : Answer) : Type 0 where
    pub tightest : (n : ℕ) → r ≡ Ok n → Tightest n
    pub only : (n : ℕ) → is_accepted r ≡ true → Tightest n → r ≡ Ok n
    pub denied : (n : ℕ) → (r ≡ Err (Denied n)) ↔ LowestDeny n

-- What the events before the next call say of its answer r.
abbrev pub AnswersBy : Compiler → Meaning → List Event → Call → Answer → Type 0
AnswersBy compile holds es next r =
    (o : Operation) (t : Thread) → Fits (history es) next o → (history es).threads (thread_of o) ≡ Some t
    → AnswersTightest compile holds (history es) o t r

-- an accepted C or A, of whatever thread and segment: its answer is the tightest lock's number
pub record AcceptedTightest (compile : Compiler) (holds : Meaning) (h : History) (o : Operation) (n : ℕ) : Type 0 where
  pub thread : Thread
  pub live : h.threads (thread_of o) ≡ Some thread
  pub tightest : Tightest compile holds h o thread n

pub record AnswersAfter (compile : Compiler) (holds : Meaning) (xs : List Call) (next : Call) : Type 0 where
  pub fitting : AnswersBy compile holds (events compile xs) next (answer_to compile xs next)
  pub accepted : (o : Operation) (n : ℕ) → decoded next ≡ Some (request_of o)
      → answer_to compile xs next ≡ Ok n → AcceptedTightest compile holds (history (events compile xs)) o n

-- for whatever compiler keeps the laws
abbrev pub TightestLockByLaws : Type 0
TightestLockByLaws =
    (compile : Compiler) (holds : Meaning) → Laws compile holds → (xs : List Call) (next : Call)
    → AnswersAfter compile holds xs next

-- and so for the compiler that there is, whose products are those of the formula that the text spells: `list` of
-- `StoredFormula`
abbrev pub TightestLock : Type 0
TightestLock = (xs : List Call) (next : Call) → AnswersAfter outcome_of text_holds xs next
