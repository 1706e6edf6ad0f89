-- Request P5: its parts put together. What an event writes to a segment's list is read off it, what an accepted T
-- leaves of an open call by whether a key is in a list without one (`Keys`); the rest is in `OpenCalls` and
-- `CurrentKeys`.
use Rattle.std.specs.Prelude.{Ok, Err, Option, None, Some}
use mathlib.Core.Path.{◌≡◌, refl, sym, ap, subst, ◌∙◌}
use mathlib.Core.Bool.{true, false, ◌&&◌, not, cond, false≢true, true≢false}
use mathlib.Core.List.{List, [], ◌∷◌, ◌++◌, map, Memᴰ}
use Prim.Native.Nat.{ℕ, zero, suc, ◌≤◌, ◌%◌}
use native.Mathlib.Omega.{arith}
use lib.Dec.{eqb, ltb, eqb-suc-zero}
use lib.ListN.{length, get_or, get_or-map}
use borrow.Author.Tests.{eqb-true, eq-eqb, ltb-false, not-false}
use Rattle.product.specs.declared.literal.Key.{Key}
use Rattle.product.specs.declared.literal.Key.TheVariants.{Segment as SegmentKey, Defined}
use Rattle.formula.specs.Outcome.{outcome_of}
use Rattle.call.specs.declared.request.Request.{Request}
use Rattle.call.specs.declared.request.Request.TheVariants as request
use Rattle.call.specs.Calls.{Decoded}
use Rattle.call.specs.Calls.{Call, decoded}
use Rattle.call.specs.Requests.{call_of}
use Rattle.call.specs.Letters as letters
use Rattle.call.proofs.Requests.{requests_exactly}
use Rattle.base.specs.Lists.{index_of, is_some, map_option, or_default, keep, adjust}
use Rattle.model.specs.Refusals.{conditions}
use Rattle.base.proofs.Lists.{All, case_bool, any_found, any_passes, map_same}
use Rattle.base.proofs.Truth.{never_true, neither}
use mathlib.Core.Logic.{◌↔◌}
use Rattle.model.specs.Answers.{Answer}
use Rattle.model.specs.Answers.{is_accepted, answer_value}
use Rattle.model.specs.Threads.{Frame, Thread, same_key, is_in}
use Rattle.model.specs.State.{State, Segment, Place, free, taken, blank_thread, is_thread, place_of, thread_in, find_thread, blank_segment, segment_at, is_live, thread_at}
use Rattle.model.specs.Limits.{most_threads}
use Rattle.model.specs.Model.{step}
use Rattle.model.specs.Effects.{on_thread, revoke_frame, revoke_thread, update}
use Rattle.model.proofs.Agreement.HistoryAnswers.{taken as taken_as}
use Rattle.model.specs.Cells.{Cells, Sized, state_of, empty_cells}
use Rattle.model.specs.Stores.{step_cells}
use Rattle.model.specs.History.{History, Event, Entry, Lock, event, empty_history, on_keys, on_frames, strike_key, strike_from, list_of, note, note_answer, advance, history, counts}
use Rattle.model.specs.Replay.{reached, events, events_in, answer_to}
use Rattle.model.specs.Theorems.Mirror.{Mirrors}
use Rattle.model.specs.Theorems.Revocation.{Withdrawn, AllWithdrawn, frames_at, lock_made, Revokes, Revocation}
use Rattle.model.proofs.Keys.{same_key_lem, key_same, in_without}
use Rattle.model.proofs.Refusals.Refusing.{refusing}
use Rattle.model.proofs.Refinement.EveryCall.{refinement}
use Rattle.model.proofs.Agreement.Mirror.{mirror}
use Rattle.model.proofs.Agreement.Editing.{editing}
use Rattle.model.proofs.Agreement.EditsWritten.{history_one}
use Rattle.model.proofs.Agreement.OpenCalls.{Formed, handed_over_lem}
use Rattle.model.proofs.Agreement.CurrentKeys.{Current, current_after, frame_listed}

-- ---- lists

list_on : (f : List Key → List Key) (o : Option Entry) → (is_some o ≡ true) → or_default [] (λ e. e.keys) (map_option (on_keys f) o) ≡ f (or_default [] (λ e. e.keys) o)
list_on f None h = absurd (false≢true h)
list_on f (Some e) h = refl

list_struck : (c : ℕ) (o : Option Entry) → or_default [] (λ e. e.keys) (map_option (on_keys (strike_key c)) o) ≡ strike_key c (or_default [] (λ e. e.keys) o)
list_struck c None = refl
list_struck c (Some e) = refl

-- a G names a segment that is handed out
abbrev Given : History → Request → Type 0
Given h q = (a b c : ℕ) → q ≡ request.GiveKey a b c → is_some (h.segments b) ≡ true

-- what the list of segment s is after call x with that answer
abbrev list_after : History → Call → Answer → ℕ → List Key
list_after h x y s =
    cond (counts letters.N (event x y) && eqb s (answer_value y)) (SegmentKey s ∷ [])
    (cond (counts letters.G (event x y) && eqb s x.b) (list_of h s ++ Defined x.c ∷ [])
    (cond (counts letters.T (event x y) && eqb s x.b) (strike_key x.c (list_of h s)) (list_of h s)))

module _ (h : History) (k : ℕ) where
  note_list : (q : Request) (text : List ℕ) → Given h q → (s : ℕ) → list_of (note h q text k) s ≡ list_after h (call_of q text) (Ok k) s
  unfolding note
  note_list request.NewUser text g s = refl
  note_list (request.StartThread a) text g s = refl
  note_list (request.EndThread a) text g s = refl
  note_list (request.NewSegment a b) text g s =
      case_bool (eqb s k) (λ e. simp e (ap (λ (n : ℕ). SegmentKey n ∷ []) (sym (eqb-true s k e)))) (λ e. simp e)
  note_list (request.NewKey a) text g s = refl
  note_list (request.GiveKey a b c) text g s =
      case_bool (eqb s b)
      (λ e. simp e (list_on (λ keys. keys ++ Defined c ∷ []) (h.segments s) (ap (λ (n : ℕ). is_some (h.segments n)) (eqb-true s b e) ∙ g a b c refl)))
      (λ e. simp e)
  note_list (request.TakeKey a b c) text g s = case_bool (eqb s b) (λ e. simp e (list_struck c (h.segments s))) (λ e. simp e)
  note_list (request.AddLock a b c) text g s = refl
  note_list (request.DropLock a b) text g s = refl
  note_list (request.CallSegment a b) text g s = refl
  note_list (request.ReturnCall a) text g s = refl
  note_list (request.Access a b c) text g s = refl

-- ---- kinds and locks

abbrev kind_after : History → Call → Answer → ℕ → Option ℕ
kind_after h x y s = cond (counts letters.N (event x y) && eqb s (answer_value y)) (Some x.b) (map_option (λ e. e.kind) (h.segments s))

abbrev locks_after : History → Call → Answer → List Lock
locks_after h x y =
    cond (counts letters.L (event x y)) (h.locks ++ lock_made x (answer_value y) ∷ [])
    (cond (counts letters.D (event x y)) (keep (λ l. not (eqb l.number x.b)) h.locks) h.locks)

kind_kept : (f : List Key → List Key) (o : Option Entry) → map_option (λ e. e.kind) (map_option (on_keys f) o) ≡ map_option (λ e. e.kind) o
kind_kept f None = refl
kind_kept f (Some e) = refl

module _ (h : History) (k : ℕ) where
  kind_listed : (b s : ℕ) (f : List Key → List Key) → map_option (λ e. e.kind) (adjust h.segments b (on_keys f) s) ≡ map_option (λ e. e.kind) (h.segments s)
  kind_listed b s f = case_bool (eqb s b) (λ p. simp p (kind_kept f (h.segments s))) (λ p. simp p)

  note_kind : (q : Request) (text : List ℕ) (s : ℕ) → map_option (λ e. e.kind) ((note h q text k).segments s) ≡ kind_after h (call_of q text) (Ok k) s
  unfolding note
  note_kind request.NewUser text s = refl
  note_kind (request.StartThread a) text s = refl
  note_kind (request.EndThread a) text s = refl
  note_kind (request.NewSegment a b) text s = case_bool (eqb s k) (λ e. simp e) (λ e. simp e)
  note_kind (request.NewKey a) text s = refl
  note_kind (request.GiveKey a b c) text s = kind_listed b s _
  note_kind (request.TakeKey a b c) text s = kind_listed b s _
  note_kind (request.AddLock a b c) text s = refl
  note_kind (request.DropLock a b) text s = refl
  note_kind (request.CallSegment a b) text s = refl
  note_kind (request.ReturnCall a) text s = refl
  note_kind (request.Access a b c) text s = refl

  note_locks : (q : Request) (text : List ℕ) → (note h q text k).locks ≡ locks_after h (call_of q text) (Ok k)
  unfolding note
  note_locks request.NewUser text = refl
  note_locks (request.StartThread a) text = refl
  note_locks (request.EndThread a) text = refl
  note_locks (request.NewSegment a b) text = refl
  note_locks (request.NewKey a) text = refl
  note_locks (request.GiveKey a b c) text = refl
  note_locks (request.TakeKey a b c) text = refl
  note_locks (request.AddLock a b c) text = refl
  note_locks (request.DropLock a b) text = refl
  note_locks (request.CallSegment a b) text = refl
  note_locks (request.ReturnCall a) text = refl
  note_locks (request.Access a b c) text = refl

-- ---- what a T leaves of an open call

beyond : (gs : List Segment) (s : ℕ) → length gs ≤ s → get_or gs s blank_segment ≡ blank_segment
beyond [] s h = refl
beyond (g ∷ gs) zero h = absurd (omega arith)
beyond (g ∷ gs) (suc s) h = beyond gs s (omega arith)

-- ---- what a T leaves of an open call

withdrawn : (b c : ℕ) (f : Frame) → Withdrawn b c f (strike_from b c f)
withdrawn b c f =
    record {
      segment = refl;
      gone = λ e. simp (eq-eqb f.segment b e) (in_without (Defined c) c f.keys ∙ simp (key_same (Defined c) (Defined c) refl));
      other_keys = λ k ne.
          let other : same_key (Defined c) k ≡ false = never_true _ (λ e. ne (sym (same_key_lem (Defined c) k e))) in
          case_bool (eqb f.segment b) (λ e. simp e (in_without k c f.keys ∙ simp other)) (λ e. simp e);
      other_calls = λ ne. case_bool (eqb f.segment b) (λ e. absurd (ne (eqb-true f.segment b e))) (λ e. simp e);
    }

all_withdrawn : (b c : ℕ) (fs : List Frame) → AllWithdrawn b c fs (map (strike_from b c) fs)
all_withdrawn b c [] = tt
all_withdrawn b c (f ∷ fs) = (withdrawn b c f, all_withdrawn b c fs)

-- ---- on the arrays

module _ (n : ℕ) (f : Thread → Thread) where
  same_test : (x : Place) → is_thread n (on_thread f x) ≡ is_thread n x
  same_test free = refl
  same_test (taken k t) = refl

  index_each : (xs : List Place) → index_of (is_thread n) (map (on_thread f) xs) ≡ index_of (is_thread n) xs
  index_each [] = refl
  index_each (free ∷ xs) = ap suc (index_each xs)
  index_each (taken k t ∷ xs) = ap (λ (m : ℕ). cond (eqb n k) 0 (suc m)) (index_each xs)

  place_each : (xs : List Place) → place_of n (map (on_thread f) xs) ≡ place_of n xs
  place_each xs =
      simp (get_or-map (on_thread f) xs (n % most_threads) free, same_test (get_or xs (n % most_threads) free), index_each xs)

  find_each : (xs : List Place) → find_thread n (map (on_thread f) xs) ≡ map_option f (find_thread n xs)
  find_each xs =
      ap (λ (i : ℕ). thread_in (get_or (map (on_thread f) xs) i free)) (place_each xs)
      ∙ ap thread_in (get_or-map (on_thread f) xs (place_of n xs) free) ∙ by (get_or xs (place_of n xs) free)
    where
      by : (x : Place) → thread_in (on_thread f x) ≡ map_option f (thread_in x)
      by free = refl
      by (taken k t) = refl

all_revoked : (b c : ℕ) (fs : List Frame) → AllWithdrawn b c fs (map (revoke_frame b c) fs)
all_revoked b c fs =
    subst (AllWithdrawn b c fs) (map_same (strike_from b c) (revoke_frame b c) (λ f. case_bool (eqb f.segment b) (λ e. simp e) (λ e. simp e)) fs) (all_withdrawn b c fs)

of_thread : (b c : ℕ) (o : Option Thread)
    → AllWithdrawn b c (or_default blank_thread (λ t. t) o).frames (or_default blank_thread (λ t. t) (map_option (revoke_thread b c) o)).frames
of_thread b c None = tt
of_thread b c (Some t) = all_revoked b c t.frames

on_arrays : (d : Cells) → Sized d → (next : Call) (a b c : ℕ) → decoded next ≡ Some (request.TakeKey a b c) → is_accepted (step_cells outcome_of d next).answer ≡ true
    → (n : ℕ) → AllWithdrawn b c (frames_at d n) (frames_at (step_cells outcome_of d next).cells n)
unfolding update
on_arrays d z next a b c e y n = by (step outcome_of (state_of d) next).answer refl (ap is_accepted (sym (refinement.call d z next).answer) ∙ y)
  where
    by : (r : Answer) → (step outcome_of (state_of d) next).answer ≡ r → is_accepted (step outcome_of (state_of d) next).answer ≡ true
        → AllWithdrawn b c (frames_at d n) (frames_at (step_cells outcome_of d next).cells n)
    by (Ok k) p q =
        let t = taken_as outcome_of (state_of d) next (request.TakeKey a b c) k e p in
        let same : (state_of (step_cells outcome_of d next).cells).places ≡ map (on_thread (revoke_thread b c)) (state_of d).places =
        ap (λ (s : State). s.places) ((refinement.call d z next).state ∙ t.state) in
        let found : thread_at (state_of (step_cells outcome_of d next).cells) n ≡ or_default blank_thread (λ t. t) (map_option (revoke_thread b c) (find_thread n (state_of d).places)) =
        ap (λ (ps : List Place). or_default blank_thread (λ t. t) (find_thread n ps)) same ∙ ap (or_default blank_thread (λ t. t)) (find_each n (revoke_thread b c) (state_of d).places) in
        subst (λ (u : Thread). AllWithdrawn b c (frames_at d n) u.frames) (sym found) (of_thread b c (find_thread n (state_of d).places))
    by (Err x) p q = absurd (false≢true (sym (ap is_accepted p) ∙ q))

-- ---- one call

module _ (xs : List Call) (next : Call) where
  abbrev es : List Event
  es = events outcome_of xs

  abbrev h : History
  h = history es

  abbrev r : Answer
  r = answer_to outcome_of xs next

  abbrev e : Event
  e = event next r

  one : history (es ++ e ∷ []) ≡ advance h e
  one = history_one e empty_history es

  formed : decoded next ≡ None → is_accepted r ≡ false
  formed d = ap is_accepted ((refusing outcome_of (reached outcome_of xs) next).corrupt.1 d)

  unmoved : is_accepted r ≡ false → advance h e ≡ h
  unfolding advance
  unmoved f = by (decoded next) r f
    where
      by : (d : Decoded) (y : Answer) → is_accepted y ≡ false → note_answer h d next.text y ≡ h
      by None y f = refl
      by (Some q) (Ok k) f = absurd (true≢false f)
      by (Some q) (Err z) f = refl

  accepted_as : is_accepted r ≡ true → (q : Request) → decoded next ≡ Some q → advance h e ≡ note h q next.text (answer_value r)
  unfolding advance
  accepted_as t q d = ap (λ (k : Decoded). note_answer h k next.text r) d ∙ by r t
    where
      by : (y : Answer) → is_accepted y ≡ true → note_answer h (Some q) next.text y ≡ note h q next.text (answer_value y)
      by (Ok k) t = refl
      by (Err z) t = absurd (false≢true t)

  given : is_accepted r ≡ true → (q : Request) → decoded next ≡ Some q → Given h q
  given t q d a b c s =
      ap is_some (((editing.edits xs next).key_given a b c (d ∙ ap Some s)).0 t).0.segment

  lists_after : (s : ℕ) → list_of (advance h e) s ≡ list_after h next r s
  unfolding advance
  lists_after s = by (decoded next) refl r refl
    where
      by : (d : Decoded) → decoded next ≡ d → (y : Answer) → r ≡ y → list_of (note_answer h d next.text y) s ≡ list_after h next y s
      by None d (Ok k) p = absurd (true≢false (sym (ap is_accepted p) ∙ formed d))
      by None d (Err z) p = refl
      by (Some q) d (Ok k) p =
          subst (λ (x : Call). list_of (note h q next.text k) s ≡ list_after h x (Ok k) s) (sym ((requests_exactly next q).0 d))
          (note_list h k q next.text (given (ap is_accepted p) q d) s)
      by (Some q) d (Err z) p = refl

  kinds_after : (s : ℕ) → map_option (λ e. e.kind) ((advance h e).segments s) ≡ kind_after h next r s
  unfolding advance
  kinds_after s = by (decoded next) refl r refl
    where
      by : (d : Decoded) → decoded next ≡ d → (y : Answer) → r ≡ y → map_option (λ e. e.kind) ((note_answer h d next.text y).segments s) ≡ kind_after h next y s
      by None d (Ok k) p = absurd (true≢false (sym (ap is_accepted p) ∙ formed d))
      by None d (Err z) p = refl
      by (Some q) d (Ok k) p =
          subst (λ (x : Call). map_option (λ e. e.kind) ((note h q next.text k).segments s) ≡ kind_after h x (Ok k) s) (sym ((requests_exactly next q).0 d))
          (note_kind h k q next.text s)
      by (Some q) d (Err z) p = refl

  locks_after_lem : (advance h e).locks ≡ locks_after h next r
  unfolding advance
  locks_after_lem = by (decoded next) refl r refl
    where
      by : (d : Decoded) → decoded next ≡ d → (y : Answer) → r ≡ y → (note_answer h d next.text y).locks ≡ locks_after h next y
      by None d (Ok k) p = absurd (true≢false (sym (ap is_accepted p) ∙ formed d))
      by None d (Err z) p = refl
      by (Some q) d (Ok k) p =
          subst (λ (x : Call). (note h q next.text k).locks ≡ locks_after h x (Ok k)) (sym ((requests_exactly next q).0 d))
          (note_locks h k q next.text)
      by (Some q) d (Err z) p = refl

  abbrev s₀ : State
  s₀ = state_of (reached outcome_of xs)

  m₀ : Mirrors es s₀
  m₀ = mirror.state xs

  abbrev Open : ℕ → Type 0
  Open a = (t : Thread) × (f : Frame) × (fs : List Frame) × (h.threads a ≡ Some t) × (t.frames ≡ f ∷ fs)

  returned_after : (a : ℕ) → decoded next ≡ Some (request.ReturnCall a) → (is_accepted r ≡ true) ↔ Open a
  unfolding conditions
  returned_after a d =
      let (to, from) = (refusing outcome_of (reached outcome_of xs) next).accepted (request.ReturnCall a) d in (
        λ y.
            let (l, rest) = neither _ _ (to y) in
            let (z, none_left) = neither _ _ rest in
            by (h.threads a) refl (sym (m₀.live a) ∙ not-false _ l) z,
        λ (t, f, fs, p, q).
            let live : is_live s₀ a ≡ true = m₀.live a ∙ ap is_some p in
            let some_left : eqb (length (thread_at s₀ a).frames) 0 ≡ false =
            ap (λ (u : Thread). eqb (length u.frames) 0) (m₀.thread a t p) ∙ ap (λ (gs : List Frame). eqb (length gs) 0) q ∙ eqb-suc-zero (length fs) in
            from (rw (live, some_left)),
      )
    where
      first : (t : Thread) (fs : List Frame) → t.frames ≡ fs → h.threads a ≡ Some t → eqb (length fs) 0 ≡ false → Open a
      first t [] q p z = absurd (true≢false z)
      first t (f ∷ fs) q p z = (t, f, fs, p, q)

      by : (o : Option Thread) → h.threads a ≡ o → is_some (h.threads a) ≡ true → eqb (length (thread_at s₀ a).frames) 0 ≡ false → Open a
      by None p l z = absurd (false≢true (sym (ap is_some p) ∙ l))
      by (Some t) p l z = first t t.frames refl p (ap (λ (u : Thread). eqb (length u.frames) 0) (sym (m₀.thread a t p)) ∙ z)

  taken_after : (a b c : ℕ) → decoded next ≡ Some (request.TakeKey a b c) → is_accepted r ≡ true → (n : ℕ) (t : Thread) → h.threads n ≡ Some t
      → (history (es ++ e ∷ [])).threads n ≡ Some (on_frames (map (strike_from b c)) t)
  unfolding note
  taken_after a b c d y n t live =
      ap (λ (g : History). g.threads n) (one ∙ accepted_as y (request.TakeKey a b c) d) ∙ ap (map_option (on_frames (map (strike_from b c)))) live

  revokes_after : Revokes es next r
  revokes_after =
      record {
        taken = λ a b c d y n t live. (on_frames (map (strike_from b c)) t, taken_after a b c d y n t live, refl, all_withdrawn b c t.frames);
        refused = λ f. one ∙ unmoved f;
        lists = λ s. ap (λ (g : History). list_of g s) one ∙ lists_after s;
        kinds = λ s. ap (λ (g : History). map_option (λ (x : Entry). x.kind) (g.segments s)) one ∙ kinds_after s;
        locks = ap (λ (g : History). g.locks) one ∙ locks_after_lem;
        returned = returned_after;
      }

-- ---- every list of calls

-- the guard accepts well formed calls alone
all_formed : (n : ℕ) (d : Cells) (xs : List Call) → All (Formed n) (events_in outcome_of d xs)
all_formed n d [] = tt
all_formed n d (x ∷ xs) = (λ k. ap is_accepted ((refusing outcome_of d x).corrupt.1 k), all_formed n (step_cells outcome_of d x).cells xs)

module _ (xs : List Call) where
  abbrev state : State
  state = state_of (reached outcome_of xs)

  is_current : Current state
  is_current = rw (refinement.list xs).state (current_after outcome_of xs)

  -- the list that the history has is the state's
  same_list : (s k : ℕ) → is_in (Defined k) (segment_at state s).keys ≡ true → is_in (Defined k) (list_of (history (events outcome_of xs)) s) ≡ true
  same_list s k l = by ((history (events outcome_of xs)).segments s) refl
    where
      m : Mirrors (events outcome_of xs) (state_of (reached outcome_of xs))
      m = mirror.state xs

      by : (o : Option Entry) → (history (events outcome_of xs)).segments s ≡ o → is_in (Defined k) (or_default [] (λ x. x.keys) ((history (events outcome_of xs)).segments s)) ≡ true
      by None p =
          let out : ltb s (length state.segments) ≡ false = m.segment s ∙ ap is_some p in
          let blank : segment_at state s ≡ blank_segment = beyond state.segments s (ltb-false s _ out) in
          absurd (false≢true (ap (λ g. is_in (Defined k) g.keys) (sym blank) ∙ l))
      by (Some x) p = rw p (ap (is_in (Defined k)) (sym (m.keys s x p)) ∙ l)

pub revocation : Revocation
revocation =
    record {
      hands_exactly = λ f k. (
        λ e. let (j, m, s) = any_found (same_key k) f.keys e in subst (λ (x : Key). Memᴰ x f.keys) (sym (same_key_lem k j s)) m,
        λ m. any_passes (same_key k) k f.keys m (key_same k k refl),
      );
      revokes = revokes_after;
      withdrawn = on_arrays;
      handed = λ xs n t live. handed_over_lem n (events outcome_of xs) (all_formed n empty_cells xs) t.frames (ap (map_option (λ u. u.frames)) live);
      current = λ xs n t live f m k l.
          let there : Memᴰ f (thread_at (state xs) n).frames = subst (λ (u : Thread). Memᴰ f u.frames) (sym ((mirror.state xs).thread n t live)) m in
          same_list xs f.segment k (frame_listed (state xs) (is_current xs) n f there k l);
      stored = λ xs. frame_listed (state xs) (is_current xs);
    }
