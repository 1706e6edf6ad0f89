-- The model and the history agree, in four parts: threads, segments, locks and counts. A law for each part in the place
-- of what was there; the records are written out here and nowhere else.
use mathlib.Core.Path.{◌≡◌, refl, ap, ◌∙◌}
use mathlib.Core.Bool.{cond}
use mathlib.Core.List.{List, [], ◌∷◌, ◌++◌}
use Prim.Native.Nat.{ℕ, zero, suc, ◌+◌}
use native.Mathlib.Omega.{arith}
use lib.Dec.{eqb}
use lib.ListN.{length, get_or, set, length-set, replicate}
use Rattle.formula.specs.Compiler.{Compiler}
use Rattle.model.specs.Threads.{Thread}
use Rattle.model.specs.State.{State, empty_state, free, taken, Segment, live_in, Place}
use Rattle.model.specs.History.{History, Entry, empty_history, with_entries, Lock, with_threads, with_locks}
use Rattle.base.proofs.Lists.{length_append_one}
use Rattle.model.proofs.Agreement.Places.{AgreeThreads}
use Rattle.model.proofs.Agreement.Segments.{AgreeSegments}
use Rattle.model.proofs.Agreement.StandingLocks.{AgreeLocks}
use Rattle.call.specs.Letters as letters
use Rattle.model.specs.Effects.{with_users, with_thread_numbers, with_lock_numbers, with_makers, with_segments, with_places}
use Rattle.base.specs.Lists.{Map}

-- the numbers handed out, as the letters U, S, N, K and L were counted; and the live threads, those that S started and
-- E did not end
abbrev pub AgreeCounts : State → (ℕ → ℕ) → Type 0
AgreeCounts d count =
    (d.users ≡ count letters.U) × (d.thread_numbers ≡ count letters.S) × (length d.segments ≡ count letters.N)
    × (length d.makers ≡ count letters.K) × (d.lock_numbers ≡ count letters.L)
    × (live_in d.places + count letters.E ≡ count letters.S)

pub record Agrees (compile : Compiler) (d : State) (h : History) (count : ℕ → ℕ) : Type 0 where
  pub threads : AgreeThreads d.places d.thread_numbers h.threads
  pub segments : AgreeSegments d.segments h.segments
  pub locks : AgreeLocks compile d.segments d.lock_numbers h.locks
  pub counts : AgreeCounts d count

-- one more accepted call of a letter
abbrev pub bump : ℕ → (ℕ → ℕ) → ℕ → ℕ
bump letter count = λ k. cond (eqb letter k) (suc (count k)) (count k)

-- ---- the parts

module _ {compile : Compiler} {d : State} {h : History} {count : ℕ → ℕ} (c : Agrees compile d h count) where
  pub recounted : (count' : ℕ → ℕ) → AgreeCounts d count' → Agrees compile d h count'
  recounted count' k = record { threads = c.threads; segments = c.segments; locks = c.locks; counts = k }

  -- users and defined keys: the history has counts of them alone
  pub with_counted : (users : ℕ) (makers : List ℕ) (count' : ℕ → ℕ) → AgreeCounts (with_makers (with_users d users) makers) count'
      → Agrees compile (with_makers (with_users d users) makers) h count'
  with_counted users makers count' k = record { threads = c.threads; segments = c.segments; locks = c.locks; counts = k }

  pub with_threads_lem : (places : List Place) (n : ℕ) (threads : Map Thread) (count' : ℕ → ℕ) → AgreeThreads places n threads
      → AgreeCounts (with_thread_numbers (with_places d places) n) count'
      → Agrees compile (with_thread_numbers (with_places d places) n) (with_threads h threads) count'
  with_threads_lem places n threads count' t k = record { threads = t; segments = c.segments; locks = c.locks; counts = k }

  pub with_segments_lem : (segments : List Segment) (n : ℕ) (entries : Map Entry) (locks : List Lock) (count' : ℕ → ℕ)
      → AgreeSegments segments entries → AgreeLocks compile segments n locks → AgreeCounts (with_lock_numbers (with_segments d segments) n) count'
      → Agrees compile (with_lock_numbers (with_segments d segments) n) (with_locks (with_entries h entries) locks) count'
  with_segments_lem segments n entries locks count' s l k = record { threads = c.threads; segments = s; locks = l; counts = k }

-- ---- the counts

module _ {compile : Compiler} {d : State} {h : History} {count : ℕ → ℕ} (c : Agrees compile d h count) where
  pub one_user : AgreeCounts (with_users d (suc d.users)) (bump letters.U count)
  one_user = let (u, t, s, k, l, v) = c.counts in (ap suc u, t, s, k, l, v)

  pub one_thread : (places : List Place) → live_in places + count letters.E ≡ suc (count letters.S)
      → AgreeCounts (with_thread_numbers (with_places d places) (suc d.thread_numbers)) (bump letters.S count)
  one_thread places started = let (u, t, s, k, l, v) = c.counts in (u, ap suc t, s, k, l, started)

  pub one_ended : (places : List Place) → live_in places + suc (count letters.E) ≡ count letters.S → AgreeCounts (with_places d places) (bump letters.E count)
  one_ended places ended = let (u, t, s, k, l, v) = c.counts in (u, t, s, k, l, ended)

  pub same_places : (places : List Place) → live_in places ≡ live_in d.places → AgreeCounts (with_places d places) count
  same_places places same = let (u, t, s, k, l, v) = c.counts in (u, t, s, k, l, ap (λ (n : ℕ). n + count letters.E) same ∙ v)

  pub one_segment : (g : Segment) → AgreeCounts (with_segments d (d.segments ++ g ∷ [])) (bump letters.N count)
  one_segment g = let (u, t, s, k, l, v) = c.counts in (u, t, length_append_one d.segments g ∙ ap suc s, k, l, v)

  pub one_key : (m : ℕ) → AgreeCounts (with_makers d (d.makers ++ m ∷ [])) (bump letters.K count)
  one_key m = let (u, t, s, k, l, v) = c.counts in (u, t, s, length_append_one d.makers m ∙ ap suc k, l, v)

  pub same_segments : (b : ℕ) (g : Segment) → AgreeCounts (with_segments d (set d.segments b g)) count
  same_segments b g = let (u, t, s, k, l, v) = c.counts in (u, t, length-set d.segments b g ∙ s, k, l, v)

  pub one_lock : (b : ℕ) (g : Segment) → AgreeCounts (with_lock_numbers (with_segments d (set d.segments b g)) (suc d.lock_numbers)) (bump letters.L count)
  one_lock b g = let (u, t, s, k, l, v) = c.counts in (u, t, length-set d.segments b g ∙ s, k, ap suc l, v)

-- ---- the empty state

all_free : (n i k : ℕ) (t : Thread) → get_or (replicate n free) i free ≡ taken k t → ⊥
all_free zero i k t e = let z : ◌≡◌ {A = ℕ} 0 1 = cc in omega arith
all_free (suc n) zero k t e = let z : ◌≡◌ {A = ℕ} 0 1 = cc in omega arith
all_free (suc n) (suc i) k t e = all_free n i k t e

pub empty_agrees : (compile : Compiler) → Agrees compile empty_state empty_history (λ k. 0)
empty_agrees compile =
    record {
      threads = record { count = refl; home = λ n. 0; written = λ n. refl; here = λ i k t e. absurd (none_taken i k t e); below = λ i k t e. absurd (none_taken i k t e) };
      segments = λ s. refl;
      locks = record { standing = []; segment_for = λ n. 0; written = refl; rows = λ s. refl; sound = tt; rising = tt };
      counts = (refl, refl, refl, refl, refl, refl);
    }
  where
    none_taken : (i k : ℕ) (t : Thread) → get_or empty_state.places i free ≡ taken k t → ⊥
    none_taken i k t e = all_free 64 i k t e
