-- The key set asks the frames in any order, the search the newest first: both find a key or neither does.
use Rattle.std.specs.Prelude.{Option, None, Some, Ok}
use mathlib.Core.Path.{◌≡◌, refl, sym, ap, ◌∙◌}
use mathlib.Core.Bool.{Bool, true, false, ◌&&◌, ◌||◌}
use mathlib.Core.List.{List, map}
use Prim.Native.Nat.{ℕ}
use lib.Dec.{eqb}
use Rattle.base.specs.Lists.{any, is_some, or_default}
use Rattle.base.proofs.Lists.{case_bool, clash}
use Rattle.product.specs.declared.literal.Key.{Key}
use Rattle.product.specs.declared.literal.Key.TheVariants.{User, Thread as ThreadKey}
use Rattle.formula.specs.Outcome.{outcome_of}
use Rattle.call.specs.Calls.{Call}
use Rattle.model.specs.Threads.{Thread, hands, same_key, key_set}
use Rattle.model.specs.State.{State, place_of, thread_in, is_live, blank_thread, thread_at}
use Rattle.model.specs.Cells.{Table, Cells, cell, row_at, table_at, live_cell, key_in, frames_of, depth_of, place_in, state_of}
use Rattle.model.specs.Replay.{reached, history_of}
use Rattle.model.proofs.Agreement.Mirror.{mirror}
use Rattle.threads.proofs.PlaceScan.{place_at}
use Rattle.checking.specs.Newest.{newest_from}
use Rattle.model.proofs.Keys.{same_key_lem}
use Rattle.checking.proofs.KeyCells.{not_listed, user_not_listed, thread_not_listed}
use Rattle.checking.proofs.NewestFrames.{some_hands}
use Rattle.search.specs.Searching.{searched, is_found}
use Rattle.search.specs.Theorems.FromHistory.{searched_after}
use Rattle.search.specs.Theorems.KeySets.{is_own_key, KeySets}

found_some : (o : Option ℕ) → is_found (Ok o) ≡ is_some o
found_some None = refl
found_some (Some p) = refl

or_or : (a b c : Bool) → (a || (b || c)) ≡ ((a || b) || c)
or_or true b c = refl
or_or false b c = refl

-- ---- a live thread's key set

held : (d : State) (n : ℕ) (k : Key) → is_live d n ≡ true
    → key_set n (thread_at d n) k ≡ (is_own_key n (thread_at d n) k || is_found (searched d n k))
unfolding searched
held d n k live =
    let t = thread_at d n in
    rw live
    (or_or (same_key k (User t.user)) (same_key k (ThreadKey n)) (any (λ f. hands f k) t.frames)
    ∙ ap (λ (b : Bool). is_own_key n t k || b) (sym (found_some (newest_from k t.frames) ∙ some_hands k t.frames)))

held_after : (xs : List Call) (n : ℕ) (t : Thread) (k : Key) → (history_of outcome_of xs).threads n ≡ Some t
    → key_set n t k ≡ (is_own_key n t k || is_found (searched_after xs n k))
held_after xs n t k h =
    let d = state_of (reached outcome_of xs) in
    let mirrors = mirror.state xs in
    let is : thread_at d n ≡ t = mirrors.thread n t h in
    rw (← is) (held d n k (mirrors.live n ∙ ap is_some h))

-- ---- a key that no list has

none_some : (o : Option ℕ) → is_some o ≡ false → o ≡ None
none_some None e = refl
none_some (Some p) e = clash refl e

module _ (k : Key) (unlisted : (x : ℕ) → same_key k (key_in x) ≡ false) where
  in_table : (t : Table) → newest_from k (or_default blank_thread (λ t. t) (thread_in (place_in t))).frames ≡ None
  in_table t =
      case_bool (eqb (cell (row_at t 0) live_cell) 0)
      (λ e. rw e refl)
      (λ e. rw e (none_some (newest_from k (frames_of t (depth_of t))) (some_hands k (frames_of t (depth_of t)) ∙ not_listed k unlisted t (depth_of t))))

  in_cells : (d : Cells) (n : ℕ) → newest_from k (thread_at (state_of d) n).frames ≡ None
  unfolding state_of
  in_cells d n =
      let i = place_of n (map place_in d.threads) in
      rw (place_at d.threads i) (in_table (table_at d.threads i))

  nowhere : (d : Cells) (n : ℕ) → is_live (state_of d) n ≡ true → searched (state_of d) n k ≡ Ok None
  unfolding searched
  nowhere d n live = rw (live, in_cells d n) refl

-- an own key is a U or an R key
own_nowhere : (d : Cells) (n : ℕ) (k : Key) → is_live (state_of d) n ≡ true → is_own_key n (thread_at (state_of d) n) k ≡ true
    → searched (state_of d) n k ≡ Ok None
own_nowhere d n k live own =
    let u = (thread_at (state_of d) n).user in
    case_bool (same_key k (User u))
    (λ e. ap (searched (state_of d) n) (same_key_lem k (User u) e) ∙ nowhere (User u) (λ x. user_not_listed x u) d n live)
    (λ e.
    let is : same_key k (ThreadKey n) ≡ true = rw e at own in
    ap (searched (state_of d) n) (same_key_lem k (ThreadKey n) is) ∙ nowhere (ThreadKey n) (λ x. thread_not_listed x n) d n live)

not_both : (d : Cells) (n : ℕ) (k : Key) → is_live (state_of d) n ≡ true
    → (is_own_key n (thread_at (state_of d) n) k && is_found (searched (state_of d) n k)) ≡ false
not_both d n k live =
    case_bool (is_own_key n (thread_at (state_of d) n) k)
    (λ own. rw (own, own_nowhere d n k live own) refl)
    (λ other. rw other refl)

pub key_sets : KeySets
key_sets =
    record {
      held = held;
      held_after = held_after;
      not_both = not_both;
      users = λ d n u. nowhere (User u) (λ x. user_not_listed x u) d n;
      threads = λ d n m. nowhere (ThreadKey m) (λ x. thread_not_listed x m) d n;
    }
