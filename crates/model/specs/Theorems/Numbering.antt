-- Document 01, 'Twelve calls': what an accepted E, G, T, D or R answers, from the list of calls and answers before it.
-- What the others answer is in `Granting`. Proved in `proofs/Agreement/Numbering.antt`.
use Rattle.std.specs.Prelude.{◌≡◌, true, ℕ, length, Ok, Some}
use mathlib.Core.List.{List, ◌∷◌, map, Memᴰ}
use Rattle.formula.specs.Outcome.{outcome_of}
use Rattle.formula.specs.Compiler.{Compiler, Laws}
use Rattle.formula.specs.Meaning.{Meaning}
use Rattle.call.specs.declared.request.Request.TheVariants.{EndThread, GiveKey, TakeKey, DropLock, ReturnCall}
use Rattle.call.specs.Calls.{Call, decoded}
use Rattle.model.specs.Answers.{Answer}
use Rattle.base.specs.Lists.{rising}
use Rattle.model.specs.Threads.{Frame, Thread}
use Rattle.model.specs.History.{Event, Lock, event, advance, history, list_of}
use Rattle.model.specs.Replay.{events, answer_to}
use Rattle.model.specs.HistoryLocks.{products_of}

-- What the events before the next call say of its answer r. Where it is accepted, the history has the thread, frame or
-- lock that it names: that is `Mirror` with `Refusing`.
pub record Numbers (compile : Compiler) (es : List Event) (next : Call) (r : Answer) : Type 0 where
  -- E: open calls closed
  pub ended : (a n : ℕ) → decoded next ≡ Some (EndThread a) → r ≡ Ok n
      → (t : Thread) → (history es).threads a ≡ Some t → n ≡ length t.frames
  -- G and T: keys now in the list
  pub key_given : (a b c n : ℕ) → decoded next ≡ Some (GiveKey a b c) → r ≡ Ok n
      → n ≡ length (list_of (advance (history es) (event next r)) b)
  pub key_taken : (a b c n : ℕ) → decoded next ≡ Some (TakeKey a b c) → r ≡ Ok n
      → n ≡ length (list_of (advance (history es) (event next r)) b)
  -- D: products removed, those of the lock's text
  pub dropped : (a b n : ℕ) → decoded next ≡ Some (DropLock a b) → r ≡ Ok n
      → (l : Lock) → Memᴰ l (history es).locks → l.number ≡ b → n ≡ length (products_of compile l.text)
  -- R: the segment left
  pub left : (a n : ℕ) → decoded next ≡ Some (ReturnCall a) → r ≡ Ok n
      → (t : Thread) → (history es).threads a ≡ Some t → (f : Frame) (fs : List Frame) → t.frames ≡ f ∷ fs
      → n ≡ f.segment
  -- the standing locks are in the order of their numbers
  pub in_order : rising (map (λ l. l.number) (history es).locks) ≡ true

abbrev pub NumberingByLaws : Type 0
NumberingByLaws =
    (compile : Compiler) (holds : Meaning) → Laws compile holds → (xs : List Call) (next : Call)
    → Numbers compile (events compile xs) next (answer_to compile xs next)

abbrev pub Numbering : Type 0
Numbering =
    (xs : List Call) (next : Call) → Numbers outcome_of (events outcome_of xs) next (answer_to outcome_of xs next)
