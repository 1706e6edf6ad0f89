-- The first frame that hands the key over, in words: by the frames, one after the other.
use Rattle.std.specs.Prelude.{Option, None, Some, Ok, Err}
use mathlib.Core.Path.{◌≡◌, refl, sym, ap, ◌∙◌}
use mathlib.Core.Bool.{Bool, true, false, cond}
use mathlib.Core.List.{List, [], ◌∷◌, map}
use mathlib.Core.Logic.{◌↔◌}
use Prim.Native.Nat.{ℕ, zero, suc, ◌≤◌, ◌<◌}
use native.Mathlib.Omega.{arith}
use lib.Dec.{eqb}
use lib.ListN.{length}
use Rattle.base.specs.Lists.{map_option, or_default}
use Rattle.base.proofs.Lists.{case_bool, clash, some_inj, some≢none}
use Rattle.product.specs.declared.literal.Key.{Key}
use Rattle.model.specs.declared.answer.Refusal.{Refusal}
use Rattle.model.specs.declared.answer.Refusal.TheVariants.{NoThread}
use Rattle.model.specs.Limits.{most_frames}
use Rattle.model.specs.Threads.{Frame, hands}
use Rattle.model.specs.State.{place_of, thread_in, is_live, blank_thread, thread_at}
use Rattle.model.specs.Cells.{Table, cell, row_at, table_at, live_cell, depth_of, place_in, state_of}
use Rattle.model.proofs.Refinement.ThreadTables.{length_frames}
use Rattle.threads.proofs.PlaceScan.{place_at}
use Rattle.checking.specs.Newest.{newest_from}
use Rattle.search.specs.Searching.{Searched, searched}
use Rattle.search.specs.Theorems.Exactly.{call_at, NewestAt, NoneHandsOver, Exactly, LowPlaces}

-- ---- frames

mapped_some : (o : Option ℕ) (p : ℕ) → map_option suc o ≡ Some p → (q : ℕ) × (o ≡ Some q) × (p ≡ suc q)
mapped_some None p e = absurd (some≢none (sym e))
mapped_some (Some q) p e = (q, refl, sym (some_inj e))

mapped_none : (o : Option ℕ) → map_option suc o ≡ None → o ≡ None
mapped_none None e = refl
mapped_none (Some q) e = absurd (some≢none e)

module _ (k : Key) where
  pub is_newest : (fs : List Frame) (p : ℕ) → newest_from k fs ≡ Some p → NewestAt k fs p
  is_newest [] p e = absurd (some≢none (sym e))
  is_newest (f ∷ fs) p e =
      case_bool (hands f k)
      (λ h.
      let here : 0 ≡ p = some_inj (sym (rw h refl) ∙ e) in
      rw (← here) (record { inside = omega arith; hands_over = h; newer = λ q l. absurd (omega arith) }))
      (λ h.
      let (q, found, is) = mapped_some (newest_from k fs) p (rw h at e) in
      let older = is_newest fs q found in
      rw is (record { inside = let l = older.inside in omega arith; hands_over = older.hands_over; newer = newer_all h older }))
    where
      newer_all : {q : ℕ} → hands f k ≡ false → NewestAt k fs q → (r : ℕ) → r < suc q → hands (call_at (f ∷ fs) r) k ≡ false
      newer_all h older zero l = h
      newer_all h older (suc r) l = older.newer r (omega arith)

  newest_is : (fs : List Frame) (p : ℕ) → NewestAt k fs p → newest_from k fs ≡ Some p
  newest_is [] p w = let l = w.inside in absurd (omega arith)
  newest_is (f ∷ fs) zero w = rw w.hands_over refl
  newest_is (f ∷ fs) (suc p) w =
      rw (w.newer 0 (omega arith))
      (ap (map_option suc)
      (newest_is fs p (record { inside = let l = w.inside in omega arith; hands_over = w.hands_over; newer = λ q l. w.newer (suc q) (omega arith) })))

  is_none : (fs : List Frame) → newest_from k fs ≡ None → NoneHandsOver k fs
  is_none [] e p l = absurd (omega arith)
  is_none (f ∷ fs) e zero l = case_bool (hands f k) (λ h. absurd (some≢none (rw h at e))) (λ h. h)
  is_none (f ∷ fs) e (suc p) l =
      case_bool (hands f k)
      (λ h. absurd (some≢none (rw h at e)))
      (λ h. is_none fs (mapped_none (newest_from k fs) (rw h at e)) p (omega arith))

  none_is : (fs : List Frame) → NoneHandsOver k fs → newest_from k fs ≡ None
  none_is [] h = refl
  none_is (f ∷ fs) h = rw (h 0 (omega arith)) (ap (map_option suc) (none_is fs (λ p l. h (suc p) (omega arith))))

-- ---- answers

-- an answer that isn't refused
abbrev pub found : Option ℕ → Searched
found o = Ok o

found_is : {o p : Option ℕ} → ◌≡◌ {A = Searched} (Ok o) (Ok p) → o ≡ p
found_is e = cc

pub refusal_is : {r s : Refusal} → ◌≡◌ {A = Searched} (Err r) (Err s) → r ≡ s
refusal_is e = cc

abbrev is_refused : Searched → Bool
is_refused (Ok o) = false
is_refused (Err r) = true

pub unrefused : {A : Type 0} {o : Option ℕ} {r : Refusal} → ◌≡◌ {A = Searched} (Ok o) (Err r) → A
unrefused e = clash refl (sym (ap is_refused e))

-- the search of frames, in words
module _ (k : Key) (fs : List Frame) where
  pub at_exactly : (p : ℕ) → (found (newest_from k fs) ≡ Ok (Some p)) ↔ NewestAt k fs p
  at_exactly p = (λ e. is_newest k fs p (found_is e), λ w. ap found (newest_is k fs p w))

  pub none_exactly : (found (newest_from k fs) ≡ Ok None) ↔ NoneHandsOver k fs
  none_exactly = (λ e. is_none k fs (found_is e), λ h. ap found (none_is k fs h))

-- of a thread that is live or not
module _ (k : Key) (fs : List Frame) where
  abbrev judged : Bool → Searched
  judged live = cond live (Ok (newest_from k fs)) (Err NoThread)

  judged_at : (live : Bool) (p : ℕ) → (judged live ≡ Ok (Some p)) ↔ ((live ≡ true) × NewestAt k fs p)
  judged_at true p = (λ e. (refl, (at_exactly k fs p).0 e), λ w. (at_exactly k fs p).1 w.1)
  judged_at false p = (λ e. unrefused (sym e), λ w. clash w.0 refl)

  judged_none : (live : Bool) → (judged live ≡ Ok None) ↔ ((live ≡ true) × NoneHandsOver k fs)
  judged_none true = (λ e. (refl, (none_exactly k fs).0 e), λ w. (none_exactly k fs).1 w.1)
  judged_none false = (λ e. unrefused (sym e), λ w. clash w.0 refl)

  judged_refused : (live : Bool) (r : Refusal) → (judged live ≡ Err r) ↔ ((live ≡ false) × (r ≡ NoThread))
  judged_refused true r = (λ e. unrefused e, λ w. clash refl w.0)
  judged_refused false r = (λ e. (refl, sym (refusal_is e)), λ w. sym (ap Err w.1))

pub exactly : Exactly
unfolding searched
exactly d n k =
    let fs = (thread_at d n).frames in
    record { at = judged_at k fs (is_live d n); nowhere = judged_none k fs (is_live d n); refused = judged_refused k fs (is_live d n) }

-- ---- a place of any arrays

few_frames : (t : Table) → length (or_default blank_thread (λ t. t) (thread_in (place_in t))).frames ≤ most_frames
few_frames t =
    case_bool (eqb (cell (row_at t 0) live_cell) 0)
    (λ e. rw e (omega arith))
    (λ e. rw e (let l = length_frames t (depth_of t) in omega (arith, l)))

pub low_places : LowPlaces
unfolding state_of
low_places d n k p e =
    let i = place_of n (map place_in d.threads) in
    let few : length (thread_at (state_of d) n).frames ≤ most_frames = rw (place_at d.threads i) (few_frames (table_at d.threads i)) in
    let inside = (((exactly (state_of d) n k).at p).0 e).1.inside in
    omega (arith, few, inside)
