-- There is room for a thread where a free place is found.
use Rattle.std.specs.Prelude.{None, Some}
use mathlib.Core.Path.{◌≡◌, refl, ◌∙◌}
use mathlib.Core.Bool.{true, false, not}
use mathlib.Core.List.{List, map}
use Prim.Native.Nat.{ℕ, suc, ◌≤◌, ◌<◌}
use native.Mathlib.Omega.{arith}
use lib.ListN.{length, get_or, set, length-map, length-set}
use borrow.Author.Tests.{le-ltb}
use Rattle.model.specs.Limits.{most_threads, passes}
use Rattle.model.specs.State.{Place, free, taken, is_free, live_in, place_for, blank_thread}
use Rattle.model.specs.Cells.{Table, place_in}
use Rattle.base.proofs.Lists.{case_bool, clash, length_keep}
use Rattle.model.proofs.Agreement.Places.{spare, one, live_change}
use Rattle.threads.specs.Places.{Placed}
use Rattle.threads.proofs.PlaceScan.{below_some, below_none}
use Rattle.threads.proofs.FoundThread.{place_hits}

-- take the free place, and no more threads live than there are places
free_live : (places : List Place) (i : ℕ) → i < length places → is_free (get_or places i free) ≡ true → live_in places < length places
free_live places i low open-place =
    let full : List Place = set places i (taken 0 blank_thread) in
    let more = live_change places i (taken 0 blank_thread) low in
    let none = counts_none (get_or places i free) open-place in
    let most : live_in full ≤ length full = length_keep (λ p. not (is_free p)) full in
    let same : length full ≡ length places = length-set places i (taken 0 blank_thread) in
    omega arith
  where
    counts_none : (x : Place) → is_free x ≡ true → one x ≡ 0
    counts_none free e = refl
    counts_none (taken k t) e = clash e refl

module _ {threads : List Table} {n : ℕ} where
  -- the free place is the definitions', and there is room
  pub at_free : {i : ℕ} → Placed threads n is_free (Some i) → i ≡ place_for n is_free (map place_in threads)
  at_free found = (below_some found.place).0

  pub room : {i : ℕ} → Placed threads n is_free (Some i) → passes most_threads (suc (live_in (map place_in threads))) ≡ false
  room found =
      let (is, low) = below_some found.place in
      let places : List Place = map place_in threads in
      let size : length places ≡ most_threads = length-map threads place_in ∙ found.count in
      let live = free_live places (place_for n is_free places) (omega arith) (place_hits n is_free places size low) in
      le-ltb most_threads (suc (live_in places)) (omega arith)

  pub no_room : Placed threads n is_free None → passes most_threads (suc (live_in (map place_in threads))) ≡ true
  no_room missed =
      let high = below_none missed.place in
      let places : List Place = map place_in threads in
      let size : length places ≡ most_threads = length-map threads place_in ∙ missed.count in
      case_bool (passes most_threads (suc (live_in places)))
      (λ e. e)
      (λ e. let low = (spare n places size e).low in absurd (omega arith))
