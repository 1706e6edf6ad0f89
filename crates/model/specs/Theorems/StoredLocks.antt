-- Demand 2: 'A stored lock opens for exactly the key sets for which its formula holds under the published scheme.'
-- After any list of calls from the empty state a segment stores the products of the history's standing locks on it, in
-- order, and no others. So what is stored for a standing lock opens for exactly the key sets for which the formula that
-- its text spells holds, whether some thread can have them or not; and how many products a segment has, which 10 asks
-- in L, the history tells. Proved in `proofs/Agreement/StoredLocks.antt`.
use Rattle.std.specs.Prelude.{◌≡◌, false, ℕ, eqb, length}
use mathlib.Core.List.{List, [], map, Memᴰ}
use Rattle.formula.specs.declared.text.Issued.{Issued}
use Rattle.formula.specs.Tree.{ors, Tree, holds}
use Rattle.formula.specs.Text.{Text}
use Rattle.formula.specs.Nodes.{products}
use Rattle.formula.specs.Outcome.{accepted, outcome_of}
use Rattle.formula.specs.Meaning.{text_holds, Meaning}
use Rattle.formula.specs.Compiler.{Compiler, Laws, everything}
use Rattle.call.specs.Calls.{Call}
use Rattle.base.specs.Lists.{any, concat_map}
use Rattle.model.specs.Threads.{KeySet}
use Rattle.model.specs.State.{State, segment_at}
use Rattle.model.specs.Effects.{lock_product}
use Rattle.model.specs.Cells.{state_of}
use Rattle.model.specs.History.{Event, Lock, history}
use Rattle.model.specs.Replay.{reached, events, history_of}
use Rattle.model.specs.HistoryLocks.{locks_on, products_of, stored_of, standing_products, stored_for, stored_opens}

pub record Stores (compile : Compiler) (meaning : Meaning) (es : List Event) (d : State) : Type 0 where
  -- a segment stores what the standing locks on it store, one lock after the other
  pub segment : (s : ℕ) → (segment_at d s).products ≡ concat_map (stored_of compile) (locks_on es s)
  pub count : (s : ℕ) → length (segment_at d s).products ≡ standing_products compile es s
  -- of a standing lock: its text is accepted, and all that is stored for it, on whatever segment, is what it stores
  pub text : (l : Lock) → Memᴰ l (history es).locks
      → compile everything l.text ≡ accepted (products_of compile l.text)
  pub lock : (l : Lock) → Memᴰ l (history es).locks → stored_for d l.number ≡ stored_of compile l
  -- of any other number, of a lock never made or dropped, nothing is stored
  pub gone : (n : ℕ) → any (λ l. eqb l.number n) (history es).locks ≡ false → stored_for d n ≡ []
  -- so a standing lock opens for every key set as its text holds
  pub opening : (l : Lock) → Memᴰ l (history es).locks → (keys : KeySet)
      → stored_opens d l.number keys ≡ meaning keys l.text

abbrev pub StoredLocksByLaws : Type 0
StoredLocksByLaws =
    (compile : Compiler) (meaning : Meaning) → Laws compile meaning → (xs : List Call)
    → Stores compile meaning (events compile xs) (state_of (reached compile xs))

-- The formula that a lock's text spells, and what is stored for the lock: the formula's products, which open for
-- exactly the key sets for which it holds. The text spells no other: one that it spells under whatever counts of keys
-- handed out holds for the same key sets.
pub record StoredFormula (d : State) (l : Lock) : Type 0 where
  pub tree : Tree ors
  pub text : Text everything l.text tree
  pub list : products_of outcome_of l.text ≡ products false tree
  pub stored : stored_for d l.number ≡ map (lock_product l.number l.operations) (products false tree)
  pub opening : (keys : KeySet) → stored_opens d l.number keys ≡ holds keys tree
  pub spelt : (i : Issued) (t : Tree ors) → Text i l.text t → (keys : KeySet)
      → stored_opens d l.number keys ≡ holds keys t

pub record StoredLocks : Type 0 where
  pub state : (xs : List Call) → Stores outcome_of text_holds (events outcome_of xs) (state_of (reached outcome_of xs))
  pub formula : (xs : List Call) (l : Lock) → Memᴰ l (history_of outcome_of xs).locks
      → StoredFormula (state_of (reached outcome_of xs)) l
