-- Every accepted request keeps the agreement of model and history.
use Rattle.std.specs.Prelude.{Option, None, Some}
use mathlib.Core.Path.{◌≡◌, refl, sym, ap, ◌∙◌}
use mathlib.Core.Bool.{true, false, not}
use mathlib.Core.List.{List, ◌∷◌, map}
use Prim.Native.Nat.{ℕ, suc, ◌+◌, ◌<◌}
use native.Mathlib.Omega.{arith}
use lib.Dec.{eqb}
use lib.ListN.{length, get_or, set}
use borrow.Author.Tests.{ltb-true, not-false}
use Rattle.product.specs.declared.literal.Key.{Key}
use Rattle.formula.specs.Outcome.{sum_in}
use Rattle.formula.specs.Compiler.{Compiler, Laws}
use Rattle.formula.specs.Meaning.{Meaning}
use Rattle.call.specs.declared.request.Request.{Request}
use Rattle.call.specs.declared.request.Request.TheVariants as request
use Rattle.call.specs.Requests.{call_of}
use Rattle.base.specs.Conditions.{first_refusal}
use Rattle.base.proofs.Conditions.{all_fail}
use Rattle.base.proofs.Truth.{neither}
use Rattle.base.specs.Lists.{adjust, map_option, or_default, tail_of}
use Rattle.model.specs.Limits.{most_threads, passes}
use Rattle.model.specs.State.{fresh_thread, find_thread, fresh_segment, State, is_free, place_for, free, taken, Segment, blank_segment, segment_at, live_in, issued, is_live, is_lock, lock_segment, place_of, Place, user_of}
use Rattle.model.specs.Effects.{on_thread, with_frames, push_frame, pop_frame, give_key, take_key, revoke_frame, revoke_thread, revoke_key, add_products, drop_products, on_segment, update, answer, at_place, with_places}
use Rattle.model.specs.Threads.{Frame, Thread}
use Rattle.model.specs.Refusals.{conditions}
use Rattle.model.specs.History.{History, Entry, with_entries, on_frames, strike_from, list_of, editor_in, note, with_threads}
use Rattle.base.proofs.Lists.{case_bool, at_lt, map_same}
use Rattle.model.proofs.Agreement.Places.{AgreeThreads, look, Lives, lives, spare, one, live_change, live_each, one_on_thread, agree_start, agree_change, agree_each, agree_end}
use Rattle.model.proofs.Agreement.Segments.{entry_of, agree_new, agree_adjust, agree_unseen, products_append_one, products_same}
use Rattle.model.proofs.Refusals.AcceptedTexts.{compiled}
use Rattle.model.proofs.Agreement.Locks.{agree_rows, agree_add, agree_drop}
use Rattle.call.specs.Letters as letters
use Rattle.model.proofs.Agreement.Agrees.{AgreeCounts, Agrees, bump, recounted, with_counted, with_threads_lem, with_segments_lem, one_user, one_thread, one_ended, same_places, one_segment, one_key, same_segments, one_lock}

user_found : (o : Option Thread) → or_default 0 (λ t. t.user) o ≡ or_default 0 (λ (u : ℕ). u) (map_option (λ t. t.user) o)
user_found None = refl
user_found (Some t) = refl

-- the history strikes the key as the model does
frame_struck : (b k : ℕ) (f : Frame) → strike_from b k f ≡ revoke_frame b k f
frame_struck b k f = case_bool (eqb f.segment b) (λ e. simp e) (λ e. simp e)

struck_as : (b k : ℕ) (t : Thread) → on_frames (map (strike_from b k)) t ≡ revoke_thread b k t
struck_as b k t = ap (with_frames t) (map_same (strike_from b k) (revoke_frame b k) (frame_struck b k) t.frames)

module _ (compile : Compiler) (d : State) (h : History) (count : ℕ → ℕ) (c : Agrees compile d h count) where
  pub editors_agree : (a : ℕ) → editor_in h a ≡ user_of d a
  editors_agree a =
      ap (or_default 0 (λ t. t.user)) (look d.places d.thread_numbers h.threads c.threads a) ∙ user_found (find_thread a d.places)

  alive : (a : ℕ) → not (is_live d a) ≡ false → Lives a d.places
  alive a e = lives a d.places (not-false _ e)

  -- a change of a live thread: what the model makes of it, the history makes too
  keep_thread : (a : ℕ) → Lives a d.places → (f F : Thread → Thread) → ((t : Thread) → f t ≡ F t)
      → AgreeThreads (set d.places (place_of a d.places) (on_thread f (get_or d.places (place_of a d.places) free))) d.thread_numbers (adjust h.threads a F)
  keep_thread a p f F same =
      rw (p.taken_by, same p.thread)
      (agree_change d.places d.thread_numbers h.threads c.threads a (place_of a d.places) p.thread F p.low p.taken_by)

  -- and as many live as before
  same_live : (a : ℕ) → Lives a d.places → (f : Thread → Thread)
      → live_in (set d.places (place_of a d.places) (on_thread f (get_or d.places (place_of a d.places) free))) ≡ live_in d.places
  same_live a p f =
      let x = get_or d.places (place_of a d.places) free in
      let h = live_change d.places (place_of a d.places) (on_thread f x) p.low in
      let e = one_on_thread f x in
      omega arith

  pub keys_agree : (b : ℕ) → b < length d.segments → list_of h b ≡ (segment_at d b).keys
  keys_agree b lt = simp (c.segments b, at_lt d.segments b blank_segment lt)

  -- a change of a live thread, by a letter that is not counted
  kept_thread : (a : ℕ) → Lives a d.places → (f F : Thread → Thread) → ((t : Thread) → f t ≡ F t) → (count' : ℕ → ℕ)
      → ((places : List Place) → live_in places ≡ live_in d.places → AgreeCounts (with_places d places) count')
      → Agrees compile (at_place d a (on_thread f)) (with_threads h (adjust h.threads a F)) count'
  kept_thread a p f F same count' k =
      let places : List Place = set d.places (place_of a d.places) (on_thread f (get_or d.places (place_of a d.places) free)) in
      with_threads_lem c places d.thread_numbers (adjust h.threads a F) count' (keep_thread a p f F same) (k places (same_live a p f))

  -- a change of a segment that leaves its products alone
  kept_list : (b : ℕ) (f : Segment → Segment) (F : Entry → Entry) → ((g : Segment) → entry_of (f g) ≡ F (entry_of g))
      → ((g : Segment) → (f g).products ≡ g.products) → (count' : ℕ → ℕ) → AgreeCounts (on_segment d b f) count'
      → Agrees compile (on_segment d b f) (with_entries h (adjust h.segments b F)) count'
  kept_list b f F same products count' k =
      with_segments_lem c _ d.lock_numbers (adjust h.segments b F) h.locks count' (agree_adjust d.segments h.segments c.segments b f F same)
      (agree_rows compile d.segments d.lock_numbers h.locks c.locks _ (products_same d.segments b f products)) k

-- ---- each request

module _ (compile : Compiler) (holds : Meaning) (laws : Laws compile holds) (text : List ℕ) (d : State) (h : History) (count : ℕ → ℕ) (c : Agrees compile d h count) where
  abbrev Kept : Request → Type 0
  Kept q =
      first_refusal (conditions compile d q text) ≡ None
      → Agrees compile (update compile d q text) (note h q text (answer compile d q text)) (bump (call_of q text).letter count)

  pub keep_accepted : (q : Request) → Kept q
  unfolding conditions update answer note
  keep_accepted request.NewUser e = with_counted c (suc d.users) d.makers (bump letters.U count) (one_user c)
  keep_accepted (request.StartThread a) e =
      let f = all_fail (conditions compile d (request.StartThread a) text) e in
      let n : ℕ = d.thread_numbers in
      let p = spare n d.places c.threads.count (neither (passes most_threads (suc (live_in d.places))) _ f.1.0).0 in
      let i : ℕ = place_for n is_free d.places in
      let x : Place = taken n (fresh_thread a) in
      let was : one (get_or d.places i free) ≡ 0 = ap one p.is_free_lem in
      let v = c.counts.5 in
      let started : live_in (set d.places i x) + count letters.E ≡ suc (count letters.S) = let m = live_change d.places i x p.low in omega arith in
      with_threads_lem c (set d.places i x) (suc n) _ (bump letters.S count)
      (agree_start d.places n h.threads c.threads i (fresh_thread a) p.low p.is_free_lem)
      (one_thread c (set d.places i x) started)
  keep_accepted (request.EndThread a) e =
      let p = alive compile d h count c a (all_fail (conditions compile d (request.EndThread a) text) e).0 in
      let i : ℕ = place_of a d.places in
      let was : one (get_or d.places i free) ≡ 1 = ap one p.taken_by in
      let v = c.counts.5 in
      let ended : live_in (set d.places i free) + suc (count letters.E) ≡ count letters.S = let m = live_change d.places i free p.low in omega arith in
      with_threads_lem c (set d.places i free) d.thread_numbers _ (bump letters.E count)
      (agree_end d.places d.thread_numbers h.threads c.threads a i p.thread p.low p.taken_by)
      (one_ended c (set d.places i free) ended)
  keep_accepted (request.NewSegment a b) e =
      rw (editors_agree compile d h count c a)
      (with_segments_lem c _ d.lock_numbers _ h.locks (bump letters.N count) (agree_new d.segments h.segments c.segments (fresh_segment (length d.segments) (user_of d a) b))
      (agree_rows compile d.segments d.lock_numbers h.locks c.locks _ (products_append_one d.segments _ refl)) (one_segment c _))
  keep_accepted (request.NewKey a) e = with_counted c d.users _ (bump letters.K count) (one_key c (user_of d a))
  keep_accepted (request.GiveKey a b k) e =
      kept_list compile d h count c b (give_key k) _ (λ g. refl) (λ g. refl) (bump letters.G count) (same_segments c b _)
  keep_accepted (request.TakeKey a b k) e =
      let listed = kept_list compile d h count c b (take_key k) _ (λ g. refl) (λ g. refl) (bump letters.T count) (same_segments c b _) in
      with_threads_lem listed (revoke_key b k d.places) d.thread_numbers _ (bump letters.T count)
      (agree_each d.places d.thread_numbers h.threads c.threads (revoke_thread b k) (on_frames (map (strike_from b k))) (struck_as b k))
      (same_places listed (revoke_key b k d.places) (live_each (revoke_thread b k) d.places))
  keep_accepted (request.AddLock a b o) e =
      let f = all_fail (conditions compile d (request.AddLock a b o) text) e in
      let lt = ltb-true b (length d.segments) (not-false _ f.1.0) in
      let x = compile (issued d) text in
      let ps = compiled x f.1.1.1.1.0 f.1.1.1.1.1.0 f.1.1.1.1.1.1.0 in
      with_segments_lem c _ (suc d.lock_numbers) h.segments _ (bump letters.L count)
      (agree_unseen d.segments h.segments c.segments b (add_products d.lock_numbers o (sum_in x)) (λ g. refl))
      (agree_add compile d.segments d.lock_numbers h.locks c.locks b o text (sum_in x) lt (laws.bounds (issued d) text _ ps).filled (issued d) ps)
      (one_lock c b _)
  keep_accepted (request.DropLock a n) e =
      let there : is_lock d n ≡ true = not-false _ (all_fail (conditions compile d (request.DropLock a n) text) e).1.0 in
      with_segments_lem c _ d.lock_numbers h.segments _ (bump letters.D count)
      (agree_unseen d.segments h.segments c.segments (lock_segment d n) (drop_products n) (λ g. refl))
      (agree_drop compile d.segments d.lock_numbers h.locks c.locks n there) (same_segments c (lock_segment d n) _)
  keep_accepted (request.CallSegment a b) e =
      let f = all_fail (conditions compile d (request.CallSegment a b) text) e in
      let lt = ltb-true b (length d.segments) (not-false _ f.1.0) in
      kept_thread compile d h count c a (alive compile d h count c a f.0) (push_frame b (segment_at d b).keys)
      (on_frames (λ frames. record { segment = b; keys = list_of h b } ∷ frames))
      (λ t. ap (λ (keys : List Key). push_frame b keys t) (sym (keys_agree compile d h count c b lt))) (bump letters.C count) (same_places c)
  keep_accepted (request.ReturnCall a) e =
      kept_thread compile d h count c a (alive compile d h count c a (all_fail (conditions compile d (request.ReturnCall a) text) e).0) pop_frame (on_frames tail_of)
      (λ t. refl) (bump letters.R count) (same_places c)
  keep_accepted (request.Access a b o) e = recounted c (bump letters.A count) c.counts
