-- The places and the history's live threads. A ghost map tells the place of each thread number: what the history has of
-- thread n is what stands at n's place, and a place that is taken is its number's. So no number stands twice, and to
-- take, change or free a place is one equation.
use Rattle.std.specs.Prelude.{Option, None, Some}
use mathlib.Core.Path.{◌≡◌, refl, sym, ap, ◌∙◌}
use mathlib.Core.Bool.{Bool, true, false, cond, false≢true}
use mathlib.Core.List.{List, [], ◌∷◌, map}
use Prim.Native.Nat.{ℕ, zero, suc, ◌+◌, ◌%◌, ◌<◌}
use native.Mathlib.Omega.{arith}
use lib.Dec.{eqb}
use lib.ListN.{length, get_or, set, length-set, length-map, get_or-map}
use lib.Seq.{get_or-set_same, get_or-set_other}
use borrow.Author.Tests.{eqb-true, eqb-false, eq-eqb, ne_eqb, ltb-false}
use Rattle.base.proofs.Truth.{neither}
use Rattle.base.specs.Lists.{any, is_some, index_of, put, remove, adjust, Map, map_option}
use Rattle.model.specs.Limits.{most_threads, passes}
use Rattle.model.specs.Threads.{Thread}
use Rattle.model.specs.State.{Place, free, taken, is_free, live_in, is_thread, thread_in, place_for, place_of, find_thread}
use Rattle.model.specs.Effects.{on_thread}
use Rattle.base.proofs.Lists.{case_bool, clash, eqb_self, index_of_lt, index_of_passes}

-- ---- the place that passes a test

module _ (p : Place → Bool) where
  -- the first place that passes, if any does
  pub index_passes : (places : List Place) (i : ℕ) → p (get_or places i free) ≡ true → p free ≡ false → p (get_or places (index_of p places) free) ≡ true
  index_passes [] i t f = clash t f
  index_passes (x ∷ xs) zero t f = simp t
  index_passes (x ∷ xs) (suc i) t f = case_bool (p x) (λ e. simp e) (λ e. simp e (index_passes xs i t f))

  -- and if none does, there is nothing
  pub index_none : (places : List Place) → p (get_or places (index_of p places) free) ≡ false → get_or places (index_of p places) free ≡ free
  index_none [] h = refl
  index_none (x ∷ xs) h = case_bool (p x) (λ e. clash e (rw e at h)) (λ e. simp e (index_none xs (rw e at h)))

  module _ (n : ℕ) (places : List Place) where
    pub place_passes : (i : ℕ) → p (get_or places i free) ≡ true → p free ≡ false → p (get_or places (place_for n p places) free) ≡ true
    place_passes i t f =
        case_bool (p (get_or places (n % most_threads) free)) (λ e. simp e) (λ e. simp e (index_passes places i t f))

    pub place_none : p (get_or places (place_for n p places) free) ≡ false → get_or places (place_for n p places) free ≡ free
    place_none h =
        case_bool (p (get_or places (n % most_threads) free)) (λ e. clash e (rw e at h)) (λ e. simp e (index_none places (rw e at h)))

-- ---- the place of a thread

-- what stands at a place, if it is thread n
abbrev pub standing : ℕ → Place → Option Thread
standing n free = None
standing n (taken k t) = cond (eqb n k) (Some t) None

stands_not : (m n : ℕ) (t : Thread) → eqb m n ≡ false → standing m (taken n t) ≡ None
stands_not m n t e = simp e

-- the thread that is found is what stands at its place
pub found_stands : (n : ℕ) (places : List Place) → find_thread n places ≡ standing n (get_or places (place_of n places) free)
found_stands n places = go (get_or places (place_of n places) free) refl
  where
    go : (x : Place) → get_or places (place_of n places) free ≡ x → thread_in x ≡ standing n x
    go free e = refl
    go (taken k t) e =
        case_bool (eqb n k)
        (λ q. simp q)
        (λ q. let z : ◌≡◌ {A = Place} (taken k t) free = sym e ∙ place_none (is_thread n) n places (ap (is_thread n) e ∙ q) in absurd (let o : ◌≡◌ {A = ℕ} 0 1 = cc in omega arith))

-- a live thread's place
pub record Lives (n : ℕ) (places : List Place) : Type 0 where
  pub thread : Thread
  pub taken_by : get_or places (place_of n places) free ≡ taken n thread
  pub low : place_of n places < length places
  pub is_found_lem : find_thread n places ≡ Some thread

taken_low : (places : List Place) (i k : ℕ) (t : Thread) → get_or places i free ≡ taken k t → i < length places
taken_low [] i k t e = let z : ◌≡◌ {A = ℕ} 0 1 = cc in absurd (omega arith)
taken_low (x ∷ xs) zero k t e = omega arith
taken_low (x ∷ xs) (suc i) k t e = let h = taken_low xs i k t e in omega arith

pub lives : (n : ℕ) (places : List Place) → is_some (find_thread n places) ≡ true → Lives n places
lives n places h = go (get_or places (place_of n places) free) refl (sym (ap is_some (found_stands n places)) ∙ h)
  where
    go : (x : Place) → get_or places (place_of n places) free ≡ x → is_some (standing n (get_or places (place_of n places) free)) ≡ true → Lives n places
    go free e s = absurd (false≢true (sym (ap (λ (y : Place). is_some (standing n y)) e) ∙ s))
    go (taken k t) e s =
        case_bool (eqb n k)
        (λ q. record {
          thread = t;
          taken_by = e ∙ ap (λ (m : ℕ). taken m t) (sym (eqb-true n k q));
          low = taken_low places (place_of n places) k t e;
          is_found_lem = ap thread_in e;
        })
        (λ q. absurd (false≢true (sym (ap (λ (y : Place). is_some (standing n y)) e ∙ ap is_some (stands_not n k t q)) ∙ s)))

-- a free place, where there is one among the 64
pub record Spare (n : ℕ) (places : List Place) : Type 0 where
  pub is_free_lem : get_or places (place_for n is_free places) free ≡ free
  pub low : place_for n is_free places < length places

-- where no place is free, all of them are taken
none_free : (places : List Place) → any is_free places ≡ false → live_in places ≡ length places
none_free [] h = refl
none_free (x ∷ xs) h = let (here, there) = neither (is_free x) (any is_free xs) h in simp here (ap suc (none_free xs there))

some_free : (places : List Place) → length places ≡ most_threads → passes most_threads (suc (live_in places)) ≡ false → any is_free places ≡ true
some_free places l h =
    case_bool (any is_free places)
    (λ e. e)
    (λ e. let n = none_free places e in let m = ltb-false most_threads (suc (live_in places)) h in absurd (omega arith))

pub spare : (n : ℕ) (places : List Place) → length places ≡ most_threads → passes most_threads (suc (live_in places)) ≡ false → Spare n places
spare n places l room =
    let h = some_free places l room in
    case_bool (is_free (get_or places (n % most_threads) free))
    (λ e. let lt : n % most_threads < length places = omega arith in record { is_free_lem = simp e (really _ e); low = simp e lt })
    (λ e. record { is_free_lem = simp e (really _ (index_of_passes is_free free places h)); low = simp e (index_of_lt is_free places h) })
  where
    really : (x : Place) → is_free x ≡ true → x ≡ free
    really free e = refl
    really (taken k t) e = absurd (false≢true e)

-- ---- how many threads live

abbrev pub one : Place → ℕ
one free = 0
one (taken k t) = 1

live_cons : (x : Place) (xs : List Place) → live_in (x ∷ xs) ≡ one x + live_in xs
live_cons free xs = omega arith
live_cons (taken k t) xs = omega arith

-- a place changed counts as what stands there now, and no more as what stood there
pub live_change : (places : List Place) (i : ℕ) (x : Place) → i < length places → one (get_or places i free) + live_in (set places i x) ≡ one x + live_in places
live_change [] i x h = absurd (omega arith)
live_change (y ∷ ys) zero x h = let a = live_cons x ys in let b = live_cons y ys in omega arith
live_change (y ∷ ys) (suc i) x h =
    let a = live_cons y (set ys i x) in
    let b = live_cons y ys in
    let c = live_change ys i x (omega arith) in
    omega arith

pub one_on_thread : (f : Thread → Thread) (x : Place) → one (on_thread f x) ≡ one x
one_on_thread f free = refl
one_on_thread f (taken k t) = refl

pub live_each : (f : Thread → Thread) (places : List Place) → live_in (map (on_thread f) places) ≡ live_in places
live_each f [] = refl
live_each f (free ∷ xs) = live_each f xs
live_each f (taken k t ∷ xs) = ap suc (live_each f xs)

-- ---- the relation

pub record AgreeThreads (places : List Place) (numbers : ℕ) (threads : Map Thread) : Type 0 where
  pub count : length places ≡ most_threads
  pub home : ℕ → ℕ
  pub written : (n : ℕ) → threads n ≡ standing n (get_or places (home n) free)
  pub here : (i k : ℕ) (t : Thread) → get_or places i free ≡ taken k t → home k ≡ i
  -- a number not yet handed out is no thread's
  pub below : (i k : ℕ) (t : Thread) → get_or places i free ≡ taken k t → k < numbers

free≢taken : {k : ℕ} {t : Thread} → ◌≡◌ {A = Place} free (taken k t) → ⊥
free≢taken e = let z : ◌≡◌ {A = ℕ} 0 1 = cc in omega arith

taken_number : {j k : ℕ} {s t : Thread} → ◌≡◌ {A = Place} (taken j s) (taken k t) → j ≡ k
taken_number e = cc

module _ (places : List Place) (numbers : ℕ) (threads : Map Thread) (c : AgreeThreads places numbers threads) where
  -- whatever place holds thread n, the history has it
  stands_home : (n i : ℕ) (t : Thread) → get_or places i free ≡ taken n t → threads n ≡ Some t
  stands_home n i t e =
      c.written n ∙ ap (λ (j : ℕ). standing n (get_or places j free)) (c.here i n t e) ∙ ap (standing n) e ∙ simp (eqb_self n)

  pub look : (n : ℕ) → threads n ≡ find_thread n places
  look n = go (get_or places (place_of n places) free) refl ∙ sym (found_stands n places)
    where
      -- no place passes: then n's own doesn't
      blank_segment : is_thread n (get_or places (place_of n places) free) ≡ false → (x : Place) → get_or places (c.home n) free ≡ x → standing n x ≡ None
      blank_segment h free e = refl
      blank_segment h (taken k t) e =
          case_bool (eqb n k)
          (λ q. clash (place_passes (is_thread n) n places (c.home n) (ap (is_thread n) e ∙ q) refl) h)
          (λ q. simp q)

      go : (x : Place) → get_or places (place_of n places) free ≡ x → threads n ≡ standing n (get_or places (place_of n places) free)
      go free e = c.written n ∙ blank_segment (ap (is_thread n) e) _ refl ∙ sym (ap (standing n) e)
      go (taken k t) e =
          case_bool (eqb n k)
          (λ q. let f : get_or places (place_of n places) free ≡ taken n t = e ∙ ap (λ (m : ℕ). taken m t) (sym (eqb-true n k q)) in
          stands_home n (place_of n places) t f ∙ sym (ap (standing n) f ∙ simp (eqb_self n)))
          (λ q. c.written n ∙ blank_segment (ap (is_thread n) e ∙ q) _ refl ∙ sym (ap (standing n) e ∙ simp q))

  -- a place changed, whose thread n the ghost map tells: the relation is kept where the history changes alike
  module _ (i : ℕ) (x : Place) (low : i < length places) where
    other : (j : ℕ) → eqb j i ≡ false → get_or (set places i x) j free ≡ get_or places j free
    other j e = get_or-set_other places i j x free (eqb-false j i e)

    same : get_or (set places i x) i free ≡ x
    same = get_or-set_same places i x free low

    at : (j : ℕ) → get_or (set places i x) j free ≡ cond (eqb j i) x (get_or places j free)
    at j = case_bool (eqb j i) (λ e. simp e (ap (λ (k : ℕ). get_or (set places i x) k free) (eqb-true j i e) ∙ same)) (λ e. simp e (other j e))

  -- S: a free place is taken by the number to be handed out
  pub agree_start : (i : ℕ) (t : Thread) → i < length places → get_or places i free ≡ free
      → AgreeThreads (set places i (taken numbers t)) (suc numbers) (put threads numbers t)
  agree_start i t low is_free_lem = record { count = length-set places i _ ∙ c.count; home = home'; written = written'; here = here'; below = below' }
    where
      x : Place
      x = taken numbers t

      home' : ℕ → ℕ
      home' n = cond (eqb n numbers) i (c.home n)

      new : (k : ℕ) → k < numbers → eqb k numbers ≡ false
      new k h = ne_eqb k numbers (λ p. omega arith)

      written' : (n : ℕ) → put threads numbers t n ≡ standing n (get_or (set places i (taken numbers t)) (home' n) free)
      written' n =
          case_bool (eqb n numbers)
          (λ e. simp e (sym (ap (standing n) (same i (taken numbers t) low) ∙ simp e)))
          (λ e. simp e (c.written n ∙ case_bool (eqb (c.home n) i)
          (λ q. ap (λ (j : ℕ). standing n (get_or places j free)) (eqb-true (c.home n) i q) ∙ ap (standing n) is_free_lem ∙ sym (ap (standing n) (at i (taken numbers t) low (c.home n)) ∙ simp (q, e)))
          (λ q. ap (standing n) (sym (other i (taken numbers t) low (c.home n) q)))))

      here' : (j k : ℕ) (s : Thread) → get_or (set places i (taken numbers t)) j free ≡ taken k s → home' k ≡ j
      here' j k s e =
          case_bool (eqb j i)
          (λ q. let w : ◌≡◌ {A = Place} (taken numbers t) (taken k s) = sym (at i (taken numbers t) low j ∙ simp q) ∙ e in
          simp (eq-eqb k numbers (sym (taken_number w))) (sym (eqb-true j i q)))
          (λ q. let w = sym (other i (taken numbers t) low j q) ∙ e in simp (new k (c.below j k s w)) (c.here j k s w))

      below' : (j k : ℕ) (s : Thread) → get_or (set places i (taken numbers t)) j free ≡ taken k s → k < suc numbers
      below' j k s e =
          case_bool (eqb j i)
          (λ q. let w : ◌≡◌ {A = Place} (taken numbers t) (taken k s) = sym (at i (taken numbers t) low j ∙ simp q) ∙ e in
          let m = taken_number w in omega arith)
          (λ q. let w = c.below j k s (sym (other i (taken numbers t) low j q) ∙ e) in omega arith)

  -- C and R: the thread at its place changes
  pub agree_change : (n i : ℕ) (t : Thread) (f : Thread → Thread) → i < length places → get_or places i free ≡ taken n t
      → AgreeThreads (set places i (taken n (f t))) numbers (adjust threads n f)
  agree_change n i t f low e = record { count = length-set places i _ ∙ c.count; home = c.home; written = written'; here = here'; below = below' }
    where
      at_home : c.home n ≡ i
      at_home = c.here i n t e

      written' : (m : ℕ) → adjust threads n f m ≡ standing m (get_or (set places i (taken n (f t))) (c.home m) free)
      written' m =
          case_bool (eqb m n)
          (λ q. let p = eqb-true m n q in
          simp q (ap (map_option f) (ap threads p ∙ stands_home n i t e)
          ∙ sym (ap (λ (j : ℕ). standing m (get_or (set places i (taken n (f t))) j free)) (ap c.home p ∙ at_home) ∙ ap (standing m) (same i (taken n (f t)) low) ∙ simp q)))
          (λ q. simp q (c.written m ∙ case_bool (eqb (c.home m) i)
          (λ r. ap (λ (j : ℕ). standing m (get_or places j free)) (eqb-true (c.home m) i r) ∙ ap (standing m) e ∙ stands_not m n t q ∙ sym (ap (standing m) (at i (taken n (f t)) low (c.home m)) ∙ simp (r, q)))
          (λ r. ap (standing m) (sym (other i (taken n (f t)) low (c.home m) r)))))

      -- at its place the same number stands as before
      was : (j k : ℕ) (s : Thread) → get_or (set places i (taken n (f t))) j free ≡ taken k s → (r : Thread) × (get_or places j free ≡ taken k r)
      was j k s h =
          case_bool (eqb j i)
          (λ q. let w : ◌≡◌ {A = Place} (taken n (f t)) (taken k s) = sym (at i (taken n (f t)) low j ∙ simp q) ∙ h in
          (t, ap (λ (m : ℕ). get_or places m free) (eqb-true j i q) ∙ e ∙ ap (λ (m : ℕ). taken m t) (taken_number w)))
          (λ q. (s, sym (other i (taken n (f t)) low j q) ∙ h))

      here' : (j k : ℕ) (s : Thread) → get_or (set places i (taken n (f t))) j free ≡ taken k s → c.home k ≡ j
      here' j k s h = let (r, w) = was j k s h in c.here j k r w

      below' : (j k : ℕ) (s : Thread) → get_or (set places i (taken n (f t))) j free ≡ taken k s → k < numbers
      below' j k s h = let (r, w) = was j k s h in c.below j k r w

  -- T: every thread changes, and the history changes all of them alike
  pub agree_each : (f F : Thread → Thread) → ((t : Thread) → F t ≡ f t) → AgreeThreads (map (on_thread f) places) numbers (λ n. map_option F (threads n))
  agree_each f F same =
      record { count = length-map places (on_thread f) ∙ c.count; home = c.home; written = written'; here = λ i k t h. c.here i k _ (was i k t h).1; below = λ i k t h. c.below i k _ (was i k t h).1 }
    where
      at_each : (i : ℕ) → get_or (map (on_thread f) places) i free ≡ on_thread f (get_or places i free)
      at_each i = get_or-map (on_thread f) places i free

      stands : (n : ℕ) (x : Place) → map_option F (standing n x) ≡ standing n (on_thread f x)
      stands n free = refl
      stands n (taken k t) = case_bool (eqb n k) (λ e. simp (e, same t)) (λ e. simp e)

      written' : (n : ℕ) → map_option F (threads n) ≡ standing n (get_or (map (on_thread f) places) (c.home n) free)
      written' n = ap (map_option F) (c.written n) ∙ stands n (get_or places (c.home n) free) ∙ sym (ap (standing n) (at_each (c.home n)))

      -- the same number stands there as before
      was : (i k : ℕ) (t : Thread) → get_or (map (on_thread f) places) i free ≡ taken k t → (r : Thread) × (get_or places i free ≡ taken k r)
      was i k t h = go (get_or places i free) refl (sym (at_each i) ∙ h)
        where
          go : (x : Place) → get_or places i free ≡ x → on_thread f (get_or places i free) ≡ taken k t → (r : Thread) × (get_or places i free ≡ taken k r)
          go free e w = absurd (free≢taken (sym (ap (on_thread f) e) ∙ w))
          go (taken j r) e w = (r, e ∙ ap (λ (m : ℕ). taken m r) (taken_number (sym (ap (on_thread f) e) ∙ w)))

  -- E: it is freed
  pub agree_end : (n i : ℕ) (t : Thread) → i < length places → get_or places i free ≡ taken n t
      → AgreeThreads (set places i free) numbers (remove threads n)
  agree_end n i t low e = record { count = length-set places i _ ∙ c.count; home = c.home; written = written'; here = here'; below = below' }
    where
      at_home : c.home n ≡ i
      at_home = c.here i n t e

      written' : (m : ℕ) → remove threads n m ≡ standing m (get_or (set places i free) (c.home m) free)
      written' m =
          case_bool (eqb m n)
          (λ q. simp q (sym (ap (λ (j : ℕ). standing m (get_or (set places i free) j free)) (ap c.home (eqb-true m n q) ∙ at_home) ∙ ap (standing m) (same i free low))))
          (λ q. simp q (c.written m ∙ case_bool (eqb (c.home m) i)
          (λ r. ap (λ (j : ℕ). standing m (get_or places j free)) (eqb-true (c.home m) i r) ∙ ap (standing m) e ∙ stands_not m n t q ∙ sym (ap (standing m) (at i free low (c.home m)) ∙ simp r))
          (λ r. ap (standing m) (sym (other i free low (c.home m) r)))))

      was : (j k : ℕ) (s : Thread) → get_or (set places i free) j free ≡ taken k s → get_or places j free ≡ taken k s
      was j k s h =
          case_bool (eqb j i)
          (λ q. absurd (free≢taken (sym (at i free low j ∙ simp q) ∙ h)))
          (λ q. sym (other i free low j q) ∙ h)

      here' : (j k : ℕ) (s : Thread) → get_or (set places i free) j free ≡ taken k s → c.home k ≡ j
      here' j k s h = c.here j k s (was j k s h)

      below' : (j k : ℕ) (s : Thread) → get_or (set places i free) j free ≡ taken k s → k < numbers
      below' j k s h = c.below j k s (was j k s h)
