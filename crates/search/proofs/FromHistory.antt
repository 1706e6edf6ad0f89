-- The state is what the history says (`Mirror`): which threads are live, and their open calls.
use Rattle.std.specs.Prelude.{Option, None, Some, Ok, Err}
use mathlib.Core.Path.{◌≡◌, refl, sym, ap, ◌∙◌}
use mathlib.Core.List.{List}
use mathlib.Core.Logic.{◌↔◌}
use Prim.Native.Nat.{ℕ}
use Rattle.base.specs.Lists.{is_some, or_default}
use Rattle.base.proofs.Lists.{some≢none}
use Rattle.product.specs.declared.literal.Key.{Key}
use Rattle.formula.specs.Outcome.{outcome_of}
use Rattle.call.specs.Calls.{Call}
use Rattle.model.specs.declared.answer.Refusal.{Refusal}
use Rattle.model.specs.declared.answer.Refusal.TheVariants.{NoThread}
use Rattle.model.specs.Threads.{Thread}
use Rattle.model.specs.State.{State, is_live, thread_at}
use Rattle.model.specs.Cells.{state_of}
use Rattle.model.specs.Replay.{reached, events, history_of}
use Rattle.model.proofs.Agreement.Mirror.{mirror}
use Rattle.checking.specs.Newest.{newest_from}
use Rattle.search.specs.Searching.{Searched, searched}
use Rattle.search.specs.Theorems.Exactly.{NewestAt, NoneHandsOver}
use Rattle.search.specs.Theorems.FromHistory.{searched_after, searched_from, ExactAfter, FromHistory}
use Rattle.search.proofs.Exactly.{at_exactly, none_exactly, unrefused, refusal_is}

-- a state in which thread n is as the optional thread says
module _ (d : State) (n : ℕ) (k : Key) where
  abbrev from : Option Thread → Searched
  from o = or_default (Err NoThread) (λ t. Ok (newest_from k t.frames)) o

  searched_as : (o : Option Thread) → is_live d n ≡ is_some o → ((t : Thread) → o ≡ Some t → thread_at d n ≡ t) → searched d n k ≡ from o
  unfolding searched
  searched_as None live is = rw live refl
  searched_as (Some t) live is = rw (live, is t refl) refl

-- the answer by an optional thread, in words
module _ (k : Key) where
  abbrev answer : Option Thread → Searched
  answer o = or_default (Err NoThread) (λ t. Ok (newest_from k t.frames)) o

  from_at : (o : Option Thread) (p : ℕ) → (answer o ≡ Ok (Some p)) ↔ ((t : Thread) × (o ≡ Some t) × NewestAt k t.frames p)
  from_at None p = (λ e. unrefused (sym e), λ w. absurd (some≢none (sym w.1)))
  from_at (Some t) p = (
    λ e. (t, refl, (at_exactly k t.frames p).0 e),
    λ w. ap answer w.1 ∙ (at_exactly k w.0.frames p).1 w.2,
  )

  from_none : (o : Option Thread) → (answer o ≡ Ok None) ↔ ((t : Thread) × (o ≡ Some t) × NoneHandsOver k t.frames)
  from_none None = (λ e. unrefused (sym e), λ w. absurd (some≢none (sym w.1)))
  from_none (Some t) = (
    λ e. (t, refl, (none_exactly k t.frames).0 e),
    λ w. ap answer w.1 ∙ (none_exactly k w.0.frames).1 w.2,
  )

  from_refused : (o : Option Thread) (r : Refusal) → (answer o ≡ Err r) ↔ ((o ≡ None) × (r ≡ NoThread))
  from_refused None r = (λ e. (refl, sym (refusal_is e)), λ w. sym (ap Err w.1))
  from_refused (Some t) r = (λ e. unrefused e, λ w. absurd (some≢none w.0))

equation : (xs : List Call) (n : ℕ) (k : Key) → searched_after xs n k ≡ searched_from (events outcome_of xs) n k
equation xs n k =
    let mirrors = mirror.state xs in
    searched_as (state_of (reached outcome_of xs)) n k ((history_of outcome_of xs).threads n) (mirrors.live n) (mirrors.thread n)

-- what is equal is the same answer exactly when the other is
by_equal : {P : Type 0} {x y : Searched} (z : Searched) → x ≡ y → (y ≡ z) ↔ P → (x ≡ z) ↔ P
by_equal z e h = (λ q. h.0 (sym e ∙ q), λ p. e ∙ h.1 p)

exactly_after : (xs : List Call) (n : ℕ) (k : Key) → ExactAfter xs n k
exactly_after xs n k =
    let o = (history_of outcome_of xs).threads n in
    let e = equation xs n k in
    record {
      at = λ p. by_equal (Ok (Some p)) e (from_at k o p);
      nowhere = by_equal (Ok None) e (from_none k o);
      refused = λ r. by_equal (Err r) e (from_refused k o r);
    }

pub from_history : FromHistory
from_history = record { equation = equation; exactly = exactly_after }
