-- The look at a thread's own place, and the scan for the first place that passes a test.
use Rattle.std.specs.Prelude.{Option, None, Some}
use Rattle.std.specs.List.{position, position_or_len}
use Rattle.std.specs.Option.{IfSome}
use mathlib.Core.Path.{◌≡◌, refl, sym, ap, ◌∙◌}
use mathlib.Core.Bool.{Bool, true, false}
use mathlib.Core.List.{List, [], ◌∷◌, map}
use Prim.Native.Nat.{ℕ, ◌%◌, ◌≤◌, ◌<◌}
use native.Mathlib.Omega.{arith}
use borrow.Author.Tests.{lt-ltb, ltb-true, ltb-false}
use lib.Dec.{ltb}
use lib.ListN.{length, get_or, get_or-map}
use Rattle.base.specs.Lists.{index_of}
use Rattle.base.proofs.Lists.{case_bool, some_inj, some≢none}
use Rattle.model.specs.Limits.{most_threads}
use Rattle.model.specs.State.{Place, free, place_for}
use Rattle.model.specs.Cells.{Table, table_at, place_in}
use Rattle.threads.specs.Places.{place_below, Placed}

pub place_at : (threads : List Table) (i : ℕ) → get_or (map place_in threads) i free ≡ place_in (table_at threads i)
place_at threads i = get_or-map place_in threads i []

-- the library's scan is the definitions'
position_is : {A B : Type 0} (p : B → Bool) (f : A → B) (xs : List A) → position_or_len (λ x. p (f x)) xs ≡ index_of p (map f xs)
position_is p f [] = refl
position_is p f (x ∷ xs) = case_bool (p (f x)) (λ e. rw e refl) (λ e. let rest = position_is p f xs in rw e (omega arith))

-- what a place below the limit, and none, says
module _ {most i : ℕ} where
  pub below_some : {j : ℕ} → Some j ≡ place_below most i → (j ≡ i) × (i < most)
  below_some e =
      case_bool (ltb i most)
      (λ l. (some_inj (rw l at e), ltb-true i most l))
      (λ l. absurd (some≢none (rw l at e)))

  pub below_none : None ≡ place_below most i → most ≤ i
  below_none e =
      case_bool (ltb i most)
      (λ l. absurd (some≢none (sym (rw l at e))))
      (λ l. ltb-false i most l)

low_below : (most i : ℕ) → IfSome (place_below most i) (λ j. j < most)
low_below most i = case_bool (ltb i most) (λ l. rw l (ltb-true i most l)) (λ l. rw l tt)

module _ (threads : List Table) (p : Place → Bool) (n m : ℕ) (size : m ≡ most_threads) (count : length threads ≡ most_threads) where
  placed : {r : Option ℕ} → r ≡ place_below most_threads (place_for n p (map place_in threads)) → Placed threads n p r
  placed e = record { place = e; low = rw e (low_below most_threads (place_for n p (map place_in threads))); count = count }

  home : p (place_in (table_at threads (n % m))) ≡ p (get_or (map place_in threads) (n % most_threads) free)
  home = rw size (sym (ap p (place_at threads (n % most_threads))))

  pub home_hit : {r : Option ℕ} → p (place_in (table_at threads (n % m))) ≡ true → r ≡ Some (n % m) → Placed threads n p r
  home_hit hit e =
      let here : p (get_or (map place_in threads) (n % most_threads) free) ≡ true = sym home ∙ hit in
      let low : ltb (n % most_threads) most_threads ≡ true = lt-ltb (n % most_threads) most_threads (omega arith) in
      placed (simp (here, low) (rw size at e))

  pub home_miss : {r : Option ℕ} → p (place_in (table_at threads (n % m))) ≡ false → r ≡ position (λ t. p (place_in t)) threads → Placed threads n p r
  home_miss miss e =
      let gone : p (get_or (map place_in threads) (n % most_threads) free) ≡ false = sym home ∙ miss in
      placed (simp gone (rw (position_is p place_in threads, count) at e))
