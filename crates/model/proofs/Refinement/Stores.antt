-- The arrays hold the model: for each request, what is stored is read back as what the model changes, and the sizes
-- stay.
use Rattle.std.specs.Prelude.{Option, None}
use mathlib.Core.Path.{◌≡◌, refl, ap}
use mathlib.Core.List.{List, map}
use Prim.Native.Nat.{ℕ, suc, ◌+◌, ◌≤◌, ◌<◌}
use native.Mathlib.Omega.{arith}
use lib.ListN.{length}
use borrow.Author.Tests.{ltb-true, not-false}
use Rattle.formula.specs.Outcome.{sum_in}
use Rattle.formula.specs.Meaning.{Meaning}
use Rattle.formula.specs.Compiler.{Compiler, Laws}
use Rattle.call.specs.declared.request.Request.{Request}
use Rattle.call.specs.declared.request.Request.TheVariants as request
use Rattle.base.specs.Conditions.{first_refusal}
use Rattle.base.proofs.Conditions.{all_fail}
use Rattle.base.proofs.Truth.{neither}
use Rattle.base.specs.Lists.{or_default}
use Rattle.model.specs.Limits.{most_listed, most_threads, most_segments, most_defined, most_standing, most_frames, passes}
use Rattle.model.specs.Threads.{Thread}
use Rattle.model.specs.State.{user_of, Place, is_free, live_in, blank_thread, thread_at, place_for, issued, segment_at}
use Rattle.model.specs.Refusals.{conditions}
use Rattle.model.specs.Effects.{update}
use Rattle.model.specs.Cells.{Cells, Sized, cell, table_at, segment_count, place_in, depth_of, list_row, state_of, thread_count, lock_count}
use Rattle.model.specs.Stores.{store}
use Rattle.model.proofs.Agreement.Places.{spare}
use Rattle.model.proofs.Refusals.AcceptedTexts.{compiled}
use Rattle.product.specs.Sum.{Sum}
use Rattle.model.proofs.Refinement.Counts.{within, Holds, as_held, next_user, next_thread, next_lock}
use Rattle.model.proofs.Refinement.ThreadStores.{alive, length_places, start_held, mine, mine_depth, end_held, pop_held, push_held, revoke_held}
use Rattle.model.proofs.Refinement.SegmentStores.{handed, listed_row, own_cell, keys_read, key_held, segment_held, give_held, take_held}
use Rattle.model.proofs.Refinement.LockStores.{drop_held, add_held}

module _ (compile : Compiler) (holds : Meaning) (law : Laws compile holds) (text : List ℕ) (d : Cells) (c : Sized d) where
  -- an accepted request
  abbrev pub Stored : Request → Type 0
  Stored q = first_refusal (conditions compile (state_of d) q text) ≡ None → Holds (store compile d q text) (update compile (state_of d) q text)

  pub store_accepted : (q : Request) → Stored q
  unfolding conditions update store state_of
  store_accepted request.NewUser e = next_user (as_held d c)
  store_accepted (request.StartThread a) e =
      let f = all_fail (conditions compile (state_of d) (request.StartThread a) text) e in
      let places : List Place = map place_in d.threads in
      let n : ℕ = cell d.registry thread_count in
      let room = (neither (passes most_threads (suc (live_in places))) _ f.1.0).0 in
      let low = (spare n places (length_places d c) room).low in
      next_thread (start_held d c (place_for n is_free places) n a (let l = length_places d c in omega arith))
  store_accepted (request.EndThread a) e = end_held d c a (alive d a (all_fail (conditions compile (state_of d) (request.EndThread a) text) e).0)
  store_accepted (request.NewSegment a b) e =
      let f = all_fail (conditions compile (state_of d) (request.NewSegment a b) text) e in
      segment_held d c (user_of (state_of d) a) b (within most_segments _ f.1.1.0) (cell d.registry segment_count) refl
  store_accepted (request.NewKey a) e =
      let f = all_fail (conditions compile (state_of d) (request.NewKey a) text) e in
      key_held d c (user_of (state_of d) a) (within most_defined _ f.1.0)
  store_accepted (request.GiveKey a b k) e =
      let f = all_fail (conditions compile (state_of d) (request.GiveKey a b k) text) e in
      give_held d c b k (handed d b f.1.0) (ltb-true k _ (not-false _ f.1.1.0)) (within most_listed _ f.1.1.1.1.1.0)
  store_accepted (request.TakeKey a b k) e =
      let f = all_fail (conditions compile (state_of d) (request.TakeKey a b k) text) e in
      let lt = handed d b f.1.0 in
      revoke_held b k (omega arith) (take_held d c b k lt)
  store_accepted (request.AddLock a b o) e =
      let f = all_fail (conditions compile (state_of d) (request.AddLock a b o) text) e in
      let i = issued (state_of d) in
      let ps : Sum = sum_in (compile i text) in
      let is = compiled (compile i text) f.1.1.1.1.0 f.1.1.1.1.1.0 f.1.1.1.1.1.1.0 in
      let standing : ℕ = length (segment_at (state_of d) b).products + length ps in
      next_lock
      (add_held d c ps b (cell d.registry lock_count) o (segment_at (state_of d) b).kind (handed d b f.1.0) (not-false _ f.1.1.1.0)
      (law.bounds i text ps is).each (law.issued i text ps is)
      (within most_standing standing (neither (passes most_standing standing) _ f.1.1.1.1.1.1.1.0).0))
  store_accepted (request.DropLock a b) e = drop_held d c b (not-false _ (all_fail (conditions compile (state_of d) (request.DropLock a b) text) e).1.0)
  store_accepted (request.CallSegment a b) e =
      let f = all_fail (conditions compile (state_of d) (request.CallSegment a b) text) e in
      let p = alive d a f.0 in
      let lt = handed d b f.1.0 in
      let full : ℕ = length (thread_at (state_of d) a).frames in
      let thread : full ≡ length p.thread.frames = ap (λ (o : Option Thread). length (or_default blank_thread (λ t. t) o).frames) p.is_found_lem in
      let room : suc full ≤ 16 = within most_frames (suc full) f.1.1.1.1.1.0 in
      let deep : depth_of (mine d c a p) < 16 = let q = mine_depth d c a p in omega arith in
      push_held d c a p b _ (list_row b (table_at d.segments b)) (listed_row d c b lt) deep (own_cell d c b lt) (keys_read d c b lt)
  store_accepted (request.ReturnCall a) e = pop_held d c a (alive d a (all_fail (conditions compile (state_of d) (request.ReturnCall a) text) e).0)
  store_accepted (request.Access a b o) e = as_held d c
