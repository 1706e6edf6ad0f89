-- The state as thread n sees it: the frames of all other threads are erased. Which place is free, which is a thread's
-- and what stands at n's own is the same as before; and a place that is changed looks the same, whether it was erased
-- before or not.
use mathlib.Core.Path.{◌≡◌, refl, sym, ap, ap₂, ◌∙◌}
use mathlib.Core.Bool.{Bool, true, false}
use mathlib.Core.List.{List, [], ◌∷◌, map}
use Prim.Native.Nat.{ℕ, suc, ◌%◌}
use lib.Dec.{eqb}
use lib.ListN.{get_or, set, get_or-map}
use lib.Seq.{set-get_or}
use borrow.Author.Tests.{eqb-false, ne_eqb}
use Rattle.base.specs.Lists.{is_some, map_option, index_of}
use Rattle.base.proofs.Lists.{case_bool, map_map, map_same, map_set}
use Rattle.model.specs.Limits.{most_threads}
use Rattle.model.specs.Threads.{Thread}
use Rattle.model.specs.State.{State, Place, free, taken, is_free, is_thread, live_in, fresh_thread, place_for, place_of, find_thread}
use Rattle.model.specs.Effects.{on_thread, with_places}
use Rattle.model.proofs.Agreement.Places.{standing, found_stands, Lives}

-- another thread's place, as if it had just begun
abbrev erase_if : Bool → ℕ → Thread → Place
erase_if true k t = taken k t
erase_if false k t = taken k (fresh_thread t.user)

abbrev pub erase : ℕ → Place → Place
erase n free = free
erase n (taken k t) = erase_if (eqb k n) k t

abbrev pub view : ℕ → State → State
view n d = with_places d (map (erase n) d.places)

-- ---- one place

pub free_kept : (n : ℕ) (x : Place) → is_free (erase n x) ≡ is_free x
free_kept n free = refl
free_kept n (taken k t) = case_bool (eqb k n) (λ e. simp e) (λ e. simp e)

thread_kept : (n m : ℕ) (x : Place) → is_thread m (erase n x) ≡ is_thread m x
thread_kept n m free = refl
thread_kept n m (taken k t) = case_bool (eqb k n) (λ e. simp e) (λ e. simp e)

erase_twice : (n : ℕ) (x : Place) → erase n (erase n x) ≡ erase n x
erase_twice n free = refl
erase_twice n (taken k t) = case_bool (eqb k n) (λ e. simp e) (λ e. simp e)

stands_own : (n : ℕ) (x : Place) → standing n (erase n x) ≡ standing n x
stands_own n free = refl
stands_own n (taken k t) =
    case_bool (eqb k n)
    (λ e. simp e)
    (λ e. let f : eqb n k ≡ false = ne_eqb n k (λ q. eqb-false k n e (sym q)) in simp (e, f))

stands_some : (n m : ℕ) (x : Place) → is_some (standing m (erase n x)) ≡ is_some (standing m x)
stands_some n m free = refl
stands_some n m (taken k t) =
    case_bool (eqb k n)
    (λ e. simp e)
    (λ e. case_bool (eqb m k) (λ f. simp (e, f)) (λ f. simp (e, f)))

stands_user : (n m : ℕ) (x : Place) → map_option (λ t. t.user) (standing m (erase n x)) ≡ map_option (λ t. t.user) (standing m x)
stands_user n m free = refl
stands_user n m (taken k t) =
    case_bool (eqb k n)
    (λ e. simp e)
    (λ e. case_bool (eqb m k) (λ f. simp (e, f)) (λ f. simp (e, f)))

-- a change of a thread that leaves its user
abbrev pub KeepsUser : (Thread → Thread) → Type 0
KeepsUser f = (t : Thread) → (f t).user ≡ t.user

-- looks the same, whether its frames were erased before or not
pub change_kept : (n : ℕ) (f : Thread → Thread) → KeepsUser f → (x : Place) → erase n (on_thread f (erase n x)) ≡ erase n (on_thread f x)
change_kept n f h free = refl
change_kept n f h (taken k t) =
    case_bool (eqb k n)
    (λ e. simp e)
    (λ e. simp e (ap (λ (u : ℕ). taken k (fresh_thread u)) (h (fresh_thread t.user) ∙ sym (h t))))

-- and isn't seen of another thread
change_hidden : (n k : ℕ) (f : Thread → Thread) → KeepsUser f → eqb k n ≡ false → (t : Thread) → erase n (on_thread f (taken k t)) ≡ erase n (taken k t)
change_hidden n k f h e t = simp e (ap (λ (u : ℕ). taken k (fresh_thread u)) (h t))

-- ---- all places

pub all_twice : (n : ℕ) (xs : List Place) → map (erase n) (map (erase n) xs) ≡ map (erase n) xs
all_twice n xs = map_map (erase n) (erase n) xs ∙ map_same _ (erase n) (erase_twice n) xs

-- every thread changed: it looks the same
pub each_seen : (n : ℕ) (f : Thread → Thread) → KeepsUser f → (xs : List Place)
    → map (erase n) (map (on_thread f) xs) ≡ map (erase n) (map (on_thread f) (map (erase n) xs))
each_seen n f h xs =
    map_map (erase n) (on_thread f) xs
    ∙ map_same _ _ (λ x. sym (change_kept n f h x)) xs
    ∙ sym (map_map (λ x. erase n (on_thread f x)) (erase n) xs)
    ∙ sym (map_map (erase n) (on_thread f) (map (erase n) xs))

at_erased : (n : ℕ) (xs : List Place) (i : ℕ) → get_or (map (erase n) xs) i free ≡ erase n (get_or xs i free)
at_erased n xs i = get_or-map (erase n) xs i free

pub live_kept : (n : ℕ) (xs : List Place) → live_in (map (erase n) xs) ≡ live_in xs
live_kept n [] = refl
live_kept n (x ∷ xs) =
    case_bool (is_free x)
    (λ e. simp (free_kept n x, e) (live_kept n xs))
    (λ e. simp (free_kept n x, e) (ap suc (live_kept n xs)))

module _ (n : ℕ) (p : Place → Bool) (blind : (x : Place) → p (erase n x) ≡ p x) where
  index_kept : (xs : List Place) → index_of p (map (erase n) xs) ≡ index_of p xs
  index_kept [] = refl
  index_kept (x ∷ xs) = simp (blind x, index_kept xs)

  pub place_kept : (m : ℕ) (xs : List Place) → place_for m p (map (erase n) xs) ≡ place_for m p xs
  place_kept m xs = simp (at_erased n xs (m % most_threads), blind (get_or xs (m % most_threads) free), index_kept xs)

module _ (n : ℕ) (xs : List Place) where
  pub home_kept : (m : ℕ) → place_of m (map (erase n) xs) ≡ place_of m xs
  home_kept m = place_kept n (is_thread m) (thread_kept n m) m xs

  stands_as : (m : ℕ) → find_thread m (map (erase n) xs) ≡ standing m (erase n (get_or xs (place_of m xs) free))
  stands_as m =
      found_stands m (map (erase n) xs)
      ∙ ap (λ (i : ℕ). standing m (get_or (map (erase n) xs) i free)) (home_kept m)
      ∙ ap (standing m) (at_erased n xs (place_of m xs))

  -- thread n is found as it is, and of every other whether it lives and whose it is
  pub own_kept : find_thread n (map (erase n) xs) ≡ find_thread n xs
  own_kept = stands_as n ∙ stands_own n (get_or xs (place_of n xs) free) ∙ sym (found_stands n xs)

  pub alive_kept : (m : ℕ) → is_some (find_thread m (map (erase n) xs)) ≡ is_some (find_thread m xs)
  alive_kept m =
      ap is_some (stands_as m) ∙ stands_some n m (get_or xs (place_of m xs) free) ∙ ap is_some (sym (found_stands m xs))

  pub user_kept : (m : ℕ) → map_option (λ t. t.user) (find_thread m (map (erase n) xs)) ≡ map_option (λ t. t.user) (find_thread m xs)
  user_kept m =
      ap (map_option (λ t. t.user)) (stands_as m) ∙ stands_user n m (get_or xs (place_of m xs) free) ∙ ap (map_option (λ t. t.user)) (sym (found_stands m xs))

  -- a place changed: seen through the erased places it is the same
  pub change_seen : (i j : ℕ) (f : Place → Place) → j ≡ i → ((x : Place) → erase n (f (erase n x)) ≡ erase n (f x))
      → map (erase n) (set xs i (f (get_or xs i free))) ≡ map (erase n) (set (map (erase n) xs) j (f (get_or (map (erase n) xs) j free)))
  change_seen i j f e h =
      map_set (erase n) xs i _
      ∙ ap₂ (λ (ys : List Place) (y : Place). set ys i y) (sym (all_twice n xs)) (sym (h (get_or xs i free)) ∙ ap (λ (x : Place). erase n (f x)) (sym (at_erased n xs i)))
      ∙ sym (map_set (erase n) (map (erase n) xs) i _)
      ∙ ap (λ (k : ℕ). map (erase n) (set (map (erase n) xs) k (f (get_or (map (erase n) xs) k free)))) (sym e)

  -- another live thread changed: it isn't seen
  pub change_unseen : (a : ℕ) (f : Thread → Thread) → KeepsUser f → eqb a n ≡ false → Lives a xs
      → map (erase n) (set xs (place_of a xs) (on_thread f (get_or xs (place_of a xs) free))) ≡ map (erase n) xs
  change_unseen a f h other p =
      let i = place_of a xs in
      map_set (erase n) xs i _
      ∙ ap (set (map (erase n) xs) i)
      (ap (λ (x : Place). erase n (on_thread f x)) p.taken_by
      ∙ change_hidden n a f h other p.thread
      ∙ ap (erase n) (sym p.taken_by)
      ∙ sym (at_erased n xs i))
      ∙ set-get_or (map (erase n) xs) i free
