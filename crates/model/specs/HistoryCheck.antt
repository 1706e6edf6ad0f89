-- Document 01, 'The history': the check of a C or an A, read from the history.
use Rattle.std.specs.Prelude.{◌≡◌, Bool, true, false, ◌&&◌, not, ℕ, eqb, ltb, length, Ok, Err, Option, None, Some}
use mathlib.Core.List.{map, Memᴰ}
use Rattle.product.specs.Product.{opens}
use Rattle.formula.specs.Meaning.{Meaning}
use Rattle.formula.specs.Compiler.{Compiler}
use Rattle.call.specs.declared.request.Request.{Request}
use Rattle.call.specs.declared.request.Request.TheVariants.{CallSegment, Access}
use Rattle.call.specs.Calls.{Call, decoded}
use Rattle.model.specs.declared.answer.Refusal.TheVariants.{Full, Denied, NotGranted}
use Rattle.model.specs.Answers.{Answer}
use Rattle.base.specs.Lists.{any, keep, first, greatest, maximum}
use Rattle.model.specs.Limits.{most_frames}
use Rattle.model.specs.Operations.{execute, denies, grants, takes, is_access}
use Rattle.model.specs.Threads.{Thread, KeySet, key_set}
use Rattle.model.specs.History.{History, Entry, Lock}
use Rattle.model.specs.HistoryLocks.{products_of}

-- what a C or an A asks for: thread a, segment b, and an A's operation c
pub data Operation : Type 0 where
  calls : ℕ → ℕ → Operation
  accesses : ℕ → ℕ → ℕ → Operation

abbrev pub request_of : Operation → Request
request_of (calls a b) = CallSegment a b
request_of (accesses a b c) = Access a b c

abbrev pub thread_of : Operation → ℕ
thread_of (calls a b) = a
thread_of (accesses a b c) = a

abbrev pub target_of : Operation → ℕ
target_of (calls a b) = b
target_of (accesses a b c) = b

-- 'A C's operation is execute, an A's is its c.'
abbrev pub operation_of : Operation → ℕ
operation_of (calls a b) = execute
operation_of (accesses a b c) = c

abbrev pub is_known : Operation → Bool
is_known (calls a b) = true
is_known (accesses a b c) = is_access c

-- 'An operation fits when its call isn't 18, an A's c is 2 or 4, and its segment is handed out and takes it.'
pub record Fits (h : History) (next : Call) (o : Operation) : Type 0 where
  pub well_formed : decoded next ≡ Some (request_of o)
  pub known : is_known o ≡ true
  pub entry : Entry
  pub handed_out : h.segments (target_of o) ≡ Some entry
  pub taken : takes entry.kind (operation_of o) ≡ true

-- 'for a C, fewer than sixteen of the run's calls are open'
abbrev pub has_room : Operation → Thread → Bool
has_room (calls a b) t = ltb (length t.frames) most_frames
has_room (accesses a b c) t = true

module _ (holds : Meaning) where
  -- 'A standing lock stands for it when the lock has that segment and its operations include that number', as a deny
  -- lock or as a grant lock. 'It opens when its formula holds for the run's key set.' What a text holds for is the
  -- formula that it spells: `HoldsSpelt` and `OpeningLaw` of crates/formula, `formula` of `Mirror`.
  abbrev pub lock_opens : (ℕ → ℕ → Bool) → Operation → Thread → Lock → Bool
  lock_opens stands o t l =
      eqb l.segment (target_of o)
      && (stands l.operations (operation_of o) && holds (key_set (thread_of o) t) l.text)

  -- no deny lock opens, some grant lock does, and there is room
  abbrev pub granted : History → Operation → Thread → Bool
  granted h o t = not (any (lock_opens denies o t) h.locks) && (any (lock_opens grants o t) h.locks && has_room o t)

-- the same in words
pub record Granted (holds : Meaning) (h : History) (o : Operation) (t : Thread) : Type 0 where
  pub undenied : (l : Lock) → Memᴰ l h.locks → lock_opens holds denies o t l ≡ false
  pub lock : Lock
  pub standing : Memᴰ lock h.locks
  pub opens : lock_opens holds grants o t lock ≡ true
  pub room : has_room o t ≡ true

-- a check's answer: 'If a deny lock opens, the lowest one's number goes with refusal 14. Otherwise' comes a grant
-- lock's that opens, 'and 15 if none opens.' Then comes 10.
abbrev pub check_answer : Option Lock → Option Lock → Bool → Answer
check_answer (Some l) g room = Err (Denied l.number)
check_answer None None room = Err NotGranted
check_answer None (Some l) false = Err Full
check_answer None (Some l) true = Ok l.number

module _ (compile : Compiler) where
  -- the signed keys of a lock's longest product that opens for a key set, 0 where none opens
  abbrev pub tightness : KeySet → Lock → ℕ
  tightness keys l = maximum (map length (keep (opens keys) (products_of compile l.text)))

  module _ (holds : Meaning) (h : History) (o : Operation) (t : Thread) where
    -- Request P6: 'The answer becomes the lock whose longest opening product has most signed keys. Equal ones go to
    -- the lower lock number.' The standing locks are in the order of their numbers (`Numbering`), so the first of
    -- equal ones is the lowest. In words: `Tightest` of `TightestLock`.
    abbrev pub tightest_lock : Option Lock
    tightest_lock = greatest (tightness (key_set (thread_of o) t)) (keep (lock_opens holds grants o t) h.locks)

    -- 'Deny locks keep their order.'
    abbrev pub answer_from : Answer
    answer_from = check_answer (first (lock_opens holds denies o t) h.locks) tightest_lock (has_room o t)
