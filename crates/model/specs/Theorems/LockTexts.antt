-- Demand 2: 'a text that fits, in a call that no earlier number refuses, is refused as void exactly when no key set
-- opens it.' And demand 1 of the other numbers that an L's text can get, 11, 12 and 10: each is given exactly where its
-- condition holds and no earlier one does, all read from the list of calls and answers before the L. Proved in
-- `proofs/Agreement/LockTexts.antt`.
use Rattle.std.specs.Prelude.{◌≡◌, true, false, List, ◌↔◌, ℕ, ◌+◌, ◌≤◌, ◌<◌, length, Err, Some}
use Rattle.formula.specs.declared.text.Issued.{Issued}
use Rattle.formula.specs.Tree.{ors, Tree, holds}
use Rattle.formula.specs.Text.{Text}
use Rattle.formula.specs.Nodes.{products, fits}
use Rattle.formula.specs.Outcome.{outcome_of}
use Rattle.formula.specs.Refusals.{Wide, Never}
use Rattle.call.specs.declared.request.Request.TheVariants.{AddLock}
use Rattle.call.specs.Calls.{Call, decoded}
use Rattle.call.specs.Letters as letters
use Rattle.model.specs.declared.answer.Refusal.TheVariants.{Full, Malformed, TooWide, Unsatisfiable}
use Rattle.model.specs.Answers.{Answer}
use Rattle.model.specs.Answers.{is_accepted}
use Rattle.model.specs.Operations.{takes_set}
use Rattle.model.specs.Threads.{Thread, KeySet}
use Rattle.model.specs.History.{Event, Entry, history, accepted_of, issued_by}
use Rattle.model.specs.Replay.{events, answer_to}
use Rattle.model.specs.HistoryLocks.{standing_products}

-- 'in a call that no earlier number refuses', of an L with fields a, b and c: thread a is live, segment b is handed out
-- and the thread's user's, and it takes the operations c
pub record Allowed (es : List Event) (a b c : ℕ) : Type 0 where
  pub thread : Thread
  pub live : (history es).threads a ≡ Some thread
  pub entry : Entry
  pub segment : (history es).segments b ≡ Some entry
  pub owner : entry.owner ≡ thread.user
  pub operations : takes_set entry.kind c ≡ true

-- the text is in the grammar as a formula of keys handed out, every node fits, and some key set makes the formula true
pub record Satisfiable (i : Issued) (s : List ℕ) : Type 0 where
  pub tree : Tree ors
  pub text : Text i s tree
  pub fit : fits false tree ≡ true
  pub true_for : (keys : KeySet) × (holds keys tree ≡ true)

-- '8 products in all standing locks of a segment', '65,536 .. lock numbers': there is room on segment b for a lock of n
-- products
pub record Room (es : List Event) (b n : ℕ) : Type 0 where
  pub products : standing_products outcome_of es b + n ≤ 8
  pub numbers : accepted_of letters.L es < 65536

-- What the events before an L with fields a, b and c and that text say of its answer r. Keys handed out are those of
-- the accepted U, S, N and K.
pub record TextJudged (es : List Event) (a b c : ℕ) (text : List ℕ) (r : Answer) : Type 0 where
  -- 11: the text is in the grammar as no formula of keys handed out
  pub malformed : (r ≡ Err Malformed) ↔ (Allowed es a b c × ((t : Tree ors) → Text (issued_by es) text t → ⊥))
  -- 12: it is in the grammar, and some node doesn't fit
  pub too_wide : (r ≡ Err TooWide) ↔ (Allowed es a b c × Wide (issued_by es) text)
  -- 13: it is in the grammar, every node fits, and no key set makes the formula true
  pub unsatisfiable : (r ≡ Err Unsatisfiable) ↔ (Allowed es a b c × Never (issued_by es) text)
  -- the same in demand 2's words
  pub unsatisfiable_exactly : Allowed es a b c → (t : Tree ors) → Text (issued_by es) text t → fits false t ≡ true
      → (r ≡ Err Unsatisfiable) ↔ ((keys : KeySet) → holds keys t ≡ false)
  -- 10 last, and accepted is all the rest
  pub full : (r ≡ Err Full)
      ↔ (Allowed es a b c × (f : Satisfiable (issued_by es) text) × (Room es b (length (products false f.tree)) → ⊥))
  pub made : (is_accepted r ≡ true)
      ↔ (Allowed es a b c × (f : Satisfiable (issued_by es) text) × Room es b (length (products false f.tree)))

abbrev pub LockTexts : Type 0
LockTexts =
    (xs : List Call) (next : Call) (a b c : ℕ) → decoded next ≡ Some (AddLock a b c)
    → TextJudged (events outcome_of xs) a b c next.text (answer_to outcome_of xs next)
