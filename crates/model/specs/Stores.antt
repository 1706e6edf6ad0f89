-- What an accepted call stores in the arrays, and one call on them. Conditions and answers are those of the state that
-- the arrays hold, so that the table of refusals stands once.
use Rattle.std.specs.Prelude.{not, cond, List, [], ◌∷◌, ◌++◌, map, ℕ, zero, suc, ◌+◌, ◌-◌, eqb, length, set, replicate, Ok, Err, Option, None, Some}
use Rattle.std.proofs.lemmas.List.Edits.{sets}
use Rattle.product.specs.Product.{Product}
use Rattle.product.specs.Sum.{Sum}
use Rattle.formula.specs.Outcome.{sum_in}
use Rattle.formula.specs.Compiler.{Compiler}
use Rattle.call.specs.declared.request.Request.{Request}
use Rattle.call.specs.declared.request.Request.TheVariants as request
use Rattle.call.specs.Calls.{Decoded}
use Rattle.call.specs.Calls.{Call, decoded}
use Rattle.base.specs.Conditions.{first_refusal}
use Rattle.model.specs.declared.answer.Refusal.{Refusal}
use Rattle.model.specs.declared.answer.Refusal.TheVariants.{Corrupt}
use Rattle.model.specs.Answers.{Answer}
use Rattle.base.specs.Lists.{keep}
use Rattle.model.specs.State.{user_of, is_free, place_for, place_of, lock_segment, issued}
use Rattle.model.specs.Refusals.{conditions}
use Rattle.model.specs.Effects.{answer}
use Rattle.model.specs.Cells.{Row, Table, Cells, registry_is, makers_are, segments_are, locks_are, threads_are, cell, row_at, table_at, user_count, thread_count, segment_count, defined_count, lock_count, frame_count, live_cell, defined_cell, no_key, has_key, key_row, literal_cell, head, literal_cells, used_rows, depth_of, product_in, list_row, state_of}

-- ---- what an accepted call stores

-- a cell of a table, and a table
abbrev pub set_cell : Table → ℕ → ℕ → ℕ → Table
set_cell t i j x = set t i (set (row_at t i) j x)

abbrev pub on_table : List Table → ℕ → (Table → Table) → List Table
on_table ts i f = set ts i (f (table_at ts i))

abbrev pub count_up : Row → ℕ → Row
count_up w j = set w j (suc (cell w j))

-- S
abbrev pub start_thread : ℕ → ℕ → Table → Table
start_thread n u t = set t 0 (n ∷ u ∷ 0 ∷ 1 ∷ 0 ∷ 0 ∷ 0 ∷ 0 ∷ [])

-- E
abbrev pub end_thread : Table → Table
end_thread t = set_cell t 0 live_cell 0

-- N
abbrev pub new_segment : ℕ → ℕ → ℕ → Table
new_segment s u kind = (u ∷ kind ∷ 0 ∷ 0 ∷ 0 ∷ 0 ∷ 0 ∷ 0 ∷ []) ∷ key_row (s ∷ []) ∷ []

-- G and T
abbrev pub give_code : ℕ → ℕ → Table → Table
give_code s x g = set g 1 (key_row (keep has_key (list_row s g) ++ x ∷ []))

abbrev pub take_code : ℕ → ℕ → Table → Table
take_code s x g = set g 1 (key_row (keep (λ y. not (eqb x y)) (keep has_key (list_row s g))))

-- T, in a frame of segment s: the cells with that code have no key any more
abbrev pub revoke_row : ℕ → ℕ → Row → Row
revoke_row s x w = cond (eqb (cell w 0) s) (map (λ y. cond (eqb x y) no_key y) w) w

-- the oldest n frames
abbrev pub revoke_rows : ℕ → ℕ → Table → ℕ → Table
revoke_rows s x t zero = t
revoke_rows s x t (suc n) = revoke_rows s x (set t (suc n) (revoke_row s x (row_at t (suc n)))) n

-- of a thread, live or ended
abbrev pub revoke_code : ℕ → ℕ → Table → Table
revoke_code s x t = revoke_rows s x t (depth_of t)

-- L and D: rows from row n on, and the end of the rows after them; eight rows need none, and beyond the last row
-- nothing is stored
abbrev pub end_rows : Table → ℕ → Table
end_rows t n = set_cell t n 0 0

abbrev pub store_rows : ℕ → Table → Table → Table
store_rows n ws t = end_rows (sets t n ws) (n + length ws)

abbrev pub product_row : ℕ → ℕ → Product → Row
product_row lock operations p =
    head lock (length p) operations ∷ map literal_cell p ++ replicate (literal_cells - length p) 0

abbrev pub add_rows : ℕ → ℕ → Sum → Table → Table
add_rows lock operations ps t = store_rows (length (used_rows t)) (map (product_row lock operations) ps) t

abbrev pub drop_rows : ℕ → Table → Table
drop_rows lock t = store_rows 0 (keep (λ w. not (eqb (product_in w).lock lock)) (used_rows t)) t

-- C and R
abbrev pub push_row : Row → Table → Table
push_row w t = set_cell (set t (suc (depth_of t)) w) 0 frame_count (suc (depth_of t))

abbrev pub pop_row : Table → Table
pop_row t = set_cell t 0 frame_count (depth_of t - 1)

-- the table of thread n
abbrev pub at_thread : Cells → ℕ → (Table → Table) → Cells
at_thread d n f = threads_are (on_table d.threads (place_of n (state_of d).places) f) d

-- one more handed out
abbrev pub hand_out : ℕ → Cells → Cells
hand_out j d = registry_is (count_up d.registry j) d

module _ (compile : Compiler) where
  unfoldable pub store : Cells → Request → List ℕ → Cells
  store d request.NewUser text = hand_out user_count d
  store d (request.StartThread a) text =
      let n = cell d.registry thread_count in
      let place = place_for n is_free (state_of d).places in
      hand_out thread_count (threads_are (on_table d.threads place (start_thread n a)) d)
  store d (request.EndThread a) text = at_thread d a end_thread
  store d (request.NewSegment a b) text =
      let s = cell d.registry segment_count in
      hand_out segment_count
      (segments_are (set d.segments s (new_segment s (user_of (state_of d) a) b))
      (locks_are (on_table d.locks s (λ t. end_rows t 0)) d))
  store d (request.NewKey a) text =
      let k = cell d.registry defined_count in
      hand_out defined_count (makers_are (set d.makers k (user_of (state_of d) a)) d)
  store d (request.GiveKey a b c) text = segments_are (on_table d.segments b (give_code b (defined_cell c))) d
  store d (request.TakeKey a b c) text =
      threads_are (map (revoke_code b (defined_cell c)) d.threads)
      (segments_are (on_table d.segments b (take_code b (defined_cell c))) d)
  store d (request.AddLock a b c) text =
      let n = cell d.registry lock_count in
      let ps = sum_in (compile (issued (state_of d)) text) in
      hand_out lock_count (locks_are (on_table d.locks b (add_rows n c ps)) d)
  store d (request.DropLock a b) text = locks_are (on_table d.locks (lock_segment (state_of d) b) (drop_rows b)) d
  store d (request.CallSegment a b) text = at_thread d a (push_row (list_row b (table_at d.segments b)))
  store d (request.ReturnCall a) text = at_thread d a pop_row
  store d (request.Access a b c) text = d

  -- ---- one call

  abbrev pub judged_cells : Cells → Request → List ℕ → Option Refusal → record { cells : Cells; answer : Answer }
  judged_cells d q text None = record { cells = store d q text; answer = Ok (answer compile (state_of d) q text) }
  judged_cells d q text (Some r) = record { cells = d; answer = Err r }

  abbrev pub step_cells_decoded : Cells → Decoded → List ℕ → record { cells : Cells; answer : Answer }
  step_cells_decoded d None text = record { cells = d; answer = Err Corrupt }
  step_cells_decoded d (Some q) text =
      judged_cells d q text (first_refusal (conditions compile (state_of d) q text))

  unfoldable pub step_cells : Cells → Call → record { cells : Cells; answer : Answer }
  step_cells d x = step_cells_decoded d (decoded x) x.text
