-- What is stored fits its cell: an accepted call stores fields of the call, numbers that its limits bound, codes of
-- keys and literals with numbers of 16 bits, and cells that were there; and a cell that is not stored stays. What it
-- answers is such a number, or a count of a list that the arrays bound; a refusal's second number is a lock's.
use Rattle.std.specs.Prelude.{None, Some}
use mathlib.Core.Path.{◌≡◌, refl, sym, subst}
use mathlib.Core.Bool.{Bool, true, not, false, cond}
use mathlib.Core.List.{List, [], ◌∷◌, ◌++◌, map}
use Prim.Native.Nat.{ℕ, suc, ◌+◌, ◌≤◌, ◌<◌, min}
use native.Mathlib.Omega.{arith}
use lib.Dec.{eqb, ltb}
use lib.ListN.{length, set, take, length-take}
use borrow.Author.Tests.{ltb-true, not-false, eqb-true}
use Rattle.product.specs.declared.literal.Key.{Key}
use Rattle.product.specs.declared.literal.Key.TheVariants.{Defined}
use Rattle.product.specs.Sum.{Sum}
use Rattle.formula.specs.Outcome.{sum_in}
use Rattle.formula.specs.Meaning.{Meaning}
use Rattle.formula.specs.Compiler.{Compiler, Laws}
use Rattle.call.specs.declared.request.Request.{Request}
use Rattle.call.specs.declared.request.Request.TheVariants as request
use Rattle.call.specs.Calls.{Call}
use Rattle.base.specs.Conditions.{Condition, first_refusal}
use Rattle.call.specs.Requests.{call_of}
use Rattle.base.proofs.Conditions.{all_fail}
use Rattle.base.proofs.Truth.{and_left, neither}
use Rattle.model.specs.declared.answer.Refusal.{Refusal}
use Rattle.model.specs.Answers.{second_number}
use Rattle.base.specs.Lists.{keep_if, keep}
use Rattle.model.specs.Limits.{most_users, most_threads, most_segments, most_defined, most_listed, most_standing, most_numbers, passes}
use Rattle.model.specs.Operations.{denies, execute}
use Rattle.model.specs.Threads.{same_key}
use Rattle.model.specs.State.{LockProduct, segment_at, user_of, Place, is_free, live_in, place_for, place_of, is_of_lock, has_lock, is_lock, lock_segment, issued}
use Rattle.model.specs.Refusals.{opening_product, lock_of, conditions}
use Rattle.model.specs.Effects.{answer}
use Rattle.model.specs.Cells.{Table, Cells, Sized, cell, table_at, user_count, thread_count, segment_count, defined_count, lock_count, live_cell, defined_cell, place_in, depth_of, list_row, state_of, segments_are}
use Rattle.model.specs.Stores.{on_table, start_thread, end_thread, new_segment, give_code, take_code, end_rows, add_rows, drop_rows, push_row, pop_row, revoke_code, at_thread, store}
use Rattle.model.specs.Theorems.Widths.{word, double_word, Fitting, Fields}
use Rattle.base.proofs.Lists.{All, case_bool, some_inj, All-keep, length_keep, length_append_one, index_of_lt, everywhere_map}
use Rattle.model.proofs.Refusals.AcceptedTexts.{compiled}
use Rattle.model.proofs.Refinement.ServedCalls.{segments_in}
use Rattle.model.proofs.Refinement.Counts.{within}
use Rattle.model.proofs.Refinement.SegmentStores.{length_segments, handed}
use Rattle.call.proofs.EveryRequest.{every_request}
use Rattle.call.specs.Letters as letters
use Rattle.model.proofs.Limits.FittingCells.{LowRows, LowTables, low_set, low_table, low_cell, fitting_makers, fitting_segments, fitting_locks, fitting_threads, fitting_count}
use Rattle.model.proofs.Limits.ThreadWidths.{start_low, push_low, pop_low, revoke_low}
use Rattle.model.proofs.Limits.SegmentWidths.{list_low, new_low, give_low, take_low}
use Rattle.model.proofs.Limits.LockWidths.{end_low, add_low, drop_low}
use Rattle.model.proofs.Limits.AnsweredWidths.{thread_fits, user_fits, segment_fits, opening_low, tightest_low}

-- a table in its array
module _ (d : Cells) (k : Fitting d) where
  low_threads : (i : ℕ) (f : Table → Table) → LowRows word (f (table_at d.threads i)) → LowTables word (on_table d.threads i f)
  low_threads i f h = low_table word d.threads k.threads i _ h

  low_segments : (i : ℕ) (t : Table) → LowRows word t → LowTables word (set d.segments i t)
  low_segments i t h = low_table word d.segments k.segments i t h

  low_locks : (i : ℕ) (f : Table → Table) → LowRows double_word (f (table_at d.locks i)) → LowTables double_word (on_table d.locks i f)
  low_locks i f h = low_table double_word d.locks k.locks i _ h

  -- a change of a thread's table
  at_thread_lem : (a : ℕ) (f : Table → Table) → ((t : Table) → LowRows word t → LowRows word (f t)) → Fitting (at_thread d a f)
  at_thread_lem a f h =
      let i : ℕ = place_of a (state_of d).places in
      fitting_threads k _ (low_threads i f (h (table_at d.threads i) (k.threads i)))

  -- a change of a segment's table
  at_segment : (s : ℕ) (f : Table → Table) → LowRows word (f (table_at d.segments s)) → Fitting (segments_are (on_table d.segments s f) d)
  at_segment s f h = fitting_segments k _ (low_segments s _ h)

-- ---- an accepted request

module _ (compile : Compiler) (holds : Meaning) (law : Laws compile holds) (d : Cells) (c : Sized d) (k : Fitting d) (text : List ℕ) where
  pub record AcceptedFits (q : Request) : Type 0 where
    pub stored : Fitting (store compile d q text)
    pub answered : answer compile (state_of d) q text < word

  abbrev Holds : Request → Type 0
  Holds q = Fields (call_of q text) → first_refusal (conditions compile (state_of d) q text) ≡ None → AcceptedFits q

  pub fit_accepted : (q : Request) → Holds q
  unfolding conditions store answer state_of
  fit_accepted request.NewUser l e =
      let n : ℕ = cell d.registry user_count in
      let room : suc n ≤ most_users = within most_users (suc n) (all_fail (conditions compile (state_of d) request.NewUser text) e).0 in
      record {
        stored = fitting_count k user_count (omega arith);
        answered = omega arith;
      }
  fit_accepted (request.StartThread a) l e =
      let n : ℕ = cell d.registry thread_count in
      let full = (all_fail (conditions compile (state_of d) (request.StartThread a) text) e).1.0 in
      let places : List Place = map place_in d.threads in
      let room : suc n ≤ most_numbers = within most_numbers (suc n) (neither (passes most_threads (suc (live_in places))) _ full).1 in
      let i : ℕ = place_for n is_free places in
      record {
        stored =
            fitting_count
            (fitting_threads k _ (low_threads d k i (start_thread n a) (start_low n a (table_at d.threads i) (omega arith) l.a (k.threads i))))
            thread_count room;
        answered = omega arith;
      }
  fit_accepted (request.EndThread a) l e =
      let deep = (thread_fits d c k a).depth in
      record { stored = at_thread_lem d k a end_thread (λ t h. low_cell word t h 0 live_cell 0 (omega arith)); answered = omega arith }
  fit_accepted (request.NewSegment a b) l e =
      let s : ℕ = cell d.registry segment_count in
      let u : ℕ = user_of (state_of d) a in
      let f = all_fail (conditions compile (state_of d) (request.NewSegment a b) text) e in
      let many : length (state_of d).segments ≡ segments_in d = length_segments d in
      let room : suc (length (state_of d).segments) ≤ most_segments = within most_segments (suc (length (state_of d).segments)) f.1.1.0 in
      record {
        stored =
            fitting_count
            (fitting_segments
            (fitting_locks k _ (low_locks d k s (λ t. end_rows t 0) (end_low 0 (table_at d.locks s) (k.locks s))))
            _ (low_segments d k s (new_segment s u b) (new_low s u b (omega arith) (user_fits d c k a) l.b)))
            segment_count (omega arith);
        answered = omega arith;
      }
  fit_accepted (request.NewKey a) l e =
      let n : ℕ = cell d.registry defined_count in
      let made : List ℕ = take (min n most_defined) d.makers in
      let many : length made ≡ min (min n most_defined) (length d.makers) = length-take (min n most_defined) d.makers in
      let size : length d.makers ≡ most_defined = c.makers in
      let room : suc (length made) ≤ most_defined = within most_defined (suc (length made)) (all_fail (conditions compile (state_of d) (request.NewKey a) text) e).1.0 in
      record {
        stored = fitting_count (fitting_makers k _ (low_set word d.makers k.makers n (user_of (state_of d) a) (user_fits d c k a))) defined_count (omega arith);
        answered = omega arith;
      }
  fit_accepted (request.GiveKey a b n) l e =
      let f = all_fail (conditions compile (state_of d) (request.GiveKey a b n) text) e in
      let made : List ℕ = take (min (cell d.registry defined_count) most_defined) d.makers in
      let many : length made ≡ min (min (cell d.registry defined_count) most_defined) (length d.makers) = length-take (min (cell d.registry defined_count) most_defined) d.makers in
      let low : n < length made = ltb-true n (length made) (not-false _ f.1.1.0) in
      let keys : List Key = (segment_at (state_of d) b).keys in
      let room : suc (length keys) ≤ most_listed = within most_listed (suc (length keys)) f.1.1.1.1.1.0 in
      let more : length (keys ++ Defined n ∷ []) ≡ suc (length keys) = length_append_one keys (Defined n) in
      record {
        stored = at_segment d k b (give_code b (defined_cell n)) (give_low b (defined_cell n) (table_at d.segments b) l.b (omega arith) (k.segments b));
        answered = omega arith;
      }
  fit_accepted (request.TakeKey a b n) l e =
      let f = all_fail (conditions compile (state_of d) (request.TakeKey a b n) text) e in
      let keys : List Key = (segment_at (state_of d) b).keys in
      let few : length keys ≤ most_listed = (segment_fits d c k b (handed d b f.1.0)).listed in
      let fewer : length (keep (λ j. not (same_key (Defined n) j)) keys) ≤ length keys = length_keep (λ j. not (same_key (Defined n) j)) keys in
      record {
        stored =
            fitting_threads
            (at_segment d k b (take_code b (defined_cell n)) (take_low b (defined_cell n) (table_at d.segments b) l.b (k.segments b)))
            _ (everywhere_map (LowRows word) (LowRows word) [] (revoke_code b (defined_cell n)) (λ t. revoke_low b (defined_cell n) (depth_of t) t) (λ i j. omega arith) d.threads k.threads);
        answered = omega arith;
      }
  fit_accepted (request.AddLock a b o) l e =
      let n : ℕ = cell d.registry lock_count in
      let f = all_fail (conditions compile (state_of d) (request.AddLock a b o) text) e in
      let i = issued (state_of d) in
      let ps : Sum = sum_in (compile i text) in
      let is = compiled (compile i text) f.1.1.1.1.0 f.1.1.1.1.1.0 f.1.1.1.1.1.1.0 in
      let few : o < 16 = ltb-true o 16 (and_left (ltb o 16) _ (not-false _ f.1.1.1.0)) in
      let standing : ℕ = length (segment_at (state_of d) b).products + length ps in
      let room : suc n ≤ most_numbers = within most_numbers (suc n) (neither (passes most_standing standing) _ f.1.1.1.1.1.1.1.0).1 in
      record {
        stored =
            fitting_count
            (fitting_locks k _ (low_locks d k b (add_rows n o ps) (add_low n o ps (table_at d.locks b) (omega arith) few (law.bounds i text ps is).each (k.locks b))))
            lock_count room;
        answered = omega arith;
      }
  fit_accepted (request.DropLock a n) l e =
      let there : is_lock (state_of d) n ≡ true = not-false _ (all_fail (conditions compile (state_of d) (request.DropLock a n) text) e).1.0 in
      let s : ℕ = lock_segment (state_of d) n in
      let many : length (state_of d).segments ≡ segments_in d = length_segments d in
      let inside : s < length (state_of d).segments = index_of_lt (has_lock n) (state_of d).segments there in
      let rows : List LockProduct = (segment_at (state_of d) s).products in
      let few : length rows ≤ most_standing = (segment_fits d c k s (omega arith)).products in
      let fewer : length (keep (is_of_lock n) rows) ≤ length rows = length_keep (is_of_lock n) rows in
      record {
        stored = fitting_locks k _ (low_locks d k s (drop_rows n) (drop_low n (table_at d.locks s) (k.locks s)));
        answered = omega arith;
      }
  fit_accepted (request.CallSegment a b) l e =
      let f = all_fail (conditions compile (state_of d) (request.CallSegment a b) text) e in
      let lt : b < segments_in d = handed d b f.1.0 in
      let g : Table = table_at d.segments b in
      record {
        stored = at_thread_lem d k a (push_row (list_row b g)) (λ t h. push_low (list_row b g) t (list_low b g l.b (k.segments b)) h);
        answered = tightest_low d c k a b execute;
      }
  fit_accepted (request.ReturnCall a) l e = record { stored = at_thread_lem d k a pop_row pop_low; answered = (thread_fits d c k a).last }
  fit_accepted (request.Access a b o) l e =
      let f = all_fail (conditions compile (state_of d) (request.Access a b o) text) e in
      record { stored = k; answered = tightest_low d c k a b o }

-- ---- a refused request

-- what is below the bound, or 0
abbrev nonzero : ℕ → Bool
nonzero n = not (eqb n 0)

kept_low : (n : ℕ) (ns : List ℕ) → All (λ x. x < word) (keep nonzero (n ∷ ns)) → (n < word) × All (λ x. x < word) (keep nonzero ns)
kept_low n ns h = by (eqb n 0) refl h
  where
    by : (b : Bool) → eqb n 0 ≡ b → All (λ x. x < word) (keep_if (not b) n (keep nonzero ns)) → (n < word) × All (λ x. x < word) (keep nonzero ns)
    by true e h = (let z = eqb-true n 0 e in omega arith, h)
    by false e h = h

abbrev seconds_of : List (Condition Refusal) → List ℕ
seconds_of cs = map (λ x. second_number x.refusal) cs

first_second : (cs : List (Condition Refusal)) → All (λ x. x < word) (keep nonzero (seconds_of cs)) → (r : Refusal) → first_refusal cs ≡ Some r → second_number r < word
first_second [] h r e = let z : ◌≡◌ {A = ℕ} 0 1 = cc in absurd (omega arith)
first_second (x ∷ xs) h r e =
    let (here, there) = kept_low (second_number x.refusal) (seconds_of xs) h in
    case_bool x.holds (λ t. subst (λ (y : Refusal). second_number y < word) (some_inj (rw t at e)) here) (λ t. first_second xs there r (rw t at e))

module _ (compile : Compiler) (d : Cells) (c : Sized d) (k : Fitting d) (text : List ℕ) where
  -- second numbers of a call's refusals: C and A alone have one, the deny lock's
  abbrev denied_by : Call → List ℕ
  denied_by x =
      cond (eqb x.letter letters.C) (lock_of (opening_product (state_of d) denies x.a x.b execute) ∷ [])
      (cond (eqb x.letter letters.A) (lock_of (opening_product (state_of d) denies x.a x.b x.c) ∷ []) [])

  denied_low : (x : Call) → All (λ n. n < word) (denied_by x)
  denied_low x =
      case_bool (eqb x.letter letters.C) (λ t. simp t (opening_low d c k denies x.a x.b execute, tt))
      (λ t. case_bool (eqb x.letter letters.A) (λ u. simp (t, u) (opening_low d c k denies x.a x.b x.c, tt)) (λ u. simp (t, u) tt))

  no_other : (q : Request) → keep nonzero (seconds_of (conditions compile (state_of d) q text)) ≡ keep nonzero (denied_by (call_of q text))
  unfolding conditions
  no_other q =
      every_request (λ r. keep nonzero (seconds_of (conditions compile (state_of d) r text))) (λ r. keep nonzero (denied_by (call_of r text))) (λ a b e. refl) q

  pub fit_refused : (q : Request) (r : Refusal) → first_refusal (conditions compile (state_of d) q text) ≡ Some r → second_number r < word
  fit_refused q =
      first_second (conditions compile (state_of d) q text)
      (subst (λ (ns : List ℕ). All (λ n. n < word) ns) (sym (no_other q)) (All-keep (λ n. n < word) nonzero (denied_by (call_of q text)) (denied_low (call_of q text))))
