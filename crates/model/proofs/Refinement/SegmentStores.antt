-- A segment's tables changed: what is stored is read back as the model's change of the segment, and the sizes stay.
use mathlib.Core.Path.{◌≡◌, refl, sym, ap, ap₂, ◌∙◌}
use mathlib.Core.Bool.{false, not}
use mathlib.Core.List.{List, [], ◌∷◌, ◌++◌}
use Prim.Native.Nat.{ℕ, zero, suc, ◌+◌, ◌≤◌, ◌<◌, min}
use native.Mathlib.Omega.{arith}
use native.Mathlib.Nat.{min-eq_left}
use lib.Dec.{ltb}
use lib.ListN.{length, set, take, length-set, length-map, length-take}
use lib.Seq.{get_or-set_same, get_or-set_other, take-suc-set}
use borrow.Author.Tests.{ltb-true, not-false}
use Rattle.base.specs.Lists.{keep, each}
use Rattle.model.specs.Limits.{most_listed, most_segments, most_defined}
use Rattle.model.specs.State.{fresh_segment, Segment, blank_segment, segment_at}
use Rattle.model.specs.Effects.{with_segments, on_segment, give_key, take_key, with_makers}
use Rattle.model.specs.Cells.{Row, Table, Cells, Sized, cell, row_at, table_at, segment_count, defined_cell, key_in, has_key, keys_in, list_row, segment_of, segment_in, state_of, makers_are, segments_are, locks_are, defined_count}
use Rattle.model.specs.Stores.{on_table, hand_out, new_segment, give_code, take_code, end_rows}
use Rattle.base.proofs.Lists.{length_each, each_same, each_set, each_snoc}
use Rattle.model.proofs.Refinement.SegmentTables.{new_table, give_table, take_table, give_sizes, take_sizes}
use Rattle.model.proofs.Refinement.ServedCalls.{segments_in, is_segment_lem, segment_at_lem}
use Rattle.model.proofs.Refinement.Sizes.{Shaped, shaped, tables_set, shaped_row, shaped_cell, sized_segments, sized_locks, sized_makers}
use Rattle.model.proofs.Refinement.Counts.{Holds, next_segment, next_key}

-- a segment handed out
pub handed : (d : Cells) (s : ℕ) → not (ltb s (length (state_of d).segments)) ≡ false → s < segments_in d
handed d s h = ltb-true s (segments_in d) (sym (is_segment_lem d s) ∙ not-false _ h)

pub length_segments : (d : Cells) → length (state_of d).segments ≡ segments_in d
unfolding state_of
length_segments d = length_each (segment_in d) 0 (segments_in d)

pub table_other : (ts : List Table) (s : ℕ) (t : Table) (j : ℕ) → (j ≡ s → ⊥) → table_at (set ts s t) j ≡ table_at ts j
table_other ts s t j ne = get_or-set_other ts s j t [] ne

-- the tables of segment s changed, as the segment is
pub segments_set : (d d' : Cells) (s : ℕ) → s < segments_in d → (F : Segment → Segment) → ((j : ℕ) → (j ≡ s → ⊥) → segment_in d' j ≡ segment_in d j)
    → segment_in d' s ≡ F (segment_in d s) → each (segment_in d') 0 (segments_in d) ≡ set (state_of d).segments s (F (segment_at (state_of d) s))
unfolding state_of
segments_set d d' s lt F other same =
    each_set (segment_in d') (segment_in d) (segments_in d) s blank_segment lt other ∙ ap (set (state_of d).segments s) (same ∙ ap F (sym (segment_at_lem d s lt)))

two_rows : (s u kind j : ℕ) → j < 2 → length (row_at (new_segment s u kind) j) ≡ 8
two_rows s u kind zero lt = refl
two_rows s u kind (suc zero) lt = refl
two_rows s u kind (suc (suc j)) lt = absurd (omega arith)

module _ (d : Cells) (c : Sized d) where
  pub segment_shaped : (s : ℕ) → s < segments_in d → Shaped 2 (table_at d.segments s)
  segment_shaped s lt = shaped 64 2 d.segments c.segments s (omega arith)

  pub locks_shaped : (s : ℕ) → s < segments_in d → Shaped 8 (table_at d.locks s)
  locks_shaped s lt = shaped 64 8 d.locks c.locks s (omega arith)

  pub listed_row : (b : ℕ) → b < segments_in d → length (list_row b (table_at d.segments b)) ≡ 8
  listed_row b lt = length-set (row_at (table_at d.segments b) 1) 0 b ∙ (segment_shaped b lt).cells 1 (omega arith)

  -- its own key, in the first cell
  pub own_cell : (b : ℕ) → b < segments_in d → cell (list_row b (table_at d.segments b)) 0 ≡ b
  own_cell b lt = get_or-set_same (row_at (table_at d.segments b) 1) 0 b 0 (let q = (segment_shaped b lt).cells 1 (omega arith) in omega arith)

  pub keys_read : (b : ℕ) → b < segments_in d → keys_in (list_row b (table_at d.segments b)) ≡ (segment_at (state_of d) b).keys
  keys_read b lt = ap (λ (x : Segment). x.keys) (sym (segment_at_lem d b lt))

  -- K: one more maker
  pub key_held : (u : ℕ) → suc (length (state_of d).makers) ≤ most_defined
      → Holds (hand_out defined_count (makers_are (set d.makers (cell d.registry defined_count) u) d)) (with_makers (state_of d) ((state_of d).makers ++ u ∷ []))
  unfolding state_of
  key_held u room =
      let k : ℕ = cell d.registry defined_count in
      let m : List ℕ = take (min k most_defined) d.makers in
      let l : length m ≡ min k most_defined = length-take (min k most_defined) d.makers ∙ min-eq_left (let q = c.makers in omega arith) in
      let old : min k most_defined ≡ k = omega arith in
      let more : min (suc k) most_defined ≡ suc k = omega arith in
      next_key (makers_are (set d.makers k u) d) (state_of d) (sized_makers c _ (length-set d.makers k u ∙ c.makers)) (m ++ u ∷ [])
      (ap (λ (x : ℕ). take x (set d.makers k u)) more
      ∙ take-suc-set d.makers k u (let q = c.makers in omega arith)
      ∙ ap (λ (x : ℕ). take x d.makers ++ u ∷ []) (sym old))
      refl

  -- N: one more segment, without locks
  pub segment_held : (u kind : ℕ) → suc (length (state_of d).segments) ≤ most_segments → (s : ℕ) → s ≡ cell d.registry segment_count
      → Holds (hand_out segment_count (segments_are (set d.segments s (new_segment s u kind)) (locks_are (on_table d.locks s (λ t. end_rows t 0)) d)))
      (with_segments (state_of d) ((state_of d).segments ++ fresh_segment (length (state_of d).segments) u kind ∷ []))
  unfolding state_of
  segment_held u kind room s is =
      let many : length (state_of d).segments ≡ segments_in d = length_segments d in
      let low : s < 64 = omega arith in
      let old : segments_in d ≡ s = omega arith in
      let more : min (suc (cell d.registry segment_count)) 64 ≡ suc s = omega arith in
      let g : Table = table_at d.segments s in
      let t : Table = table_at d.locks s in
      let d' : Cells = segments_are (set d.segments s (new_segment s u kind)) (locks_are (on_table d.locks s (λ t. end_rows t 0)) d) in
      let zero_on : 0 + s ≡ s = omega arith in
      let tables : table_at d'.segments s ≡ new_segment s u kind = get_or-set_same d.segments s _ [] (let q = c.segments.count in omega arith) in
      let rows : table_at d'.locks s ≡ end_rows t 0 = get_or-set_same d.locks s _ [] (let q = c.locks.count in omega arith) in
      let new : segment_in d' s ≡ fresh_segment s u kind = ap₂ (segment_of s) tables rows ∙ new_table s u kind g t low in
      let same : (j : ℕ) → 0 ≤ j → j < 0 + s → segment_in d' j ≡ segment_in d j =
      λ j l b. ap₂ (segment_of j) (table_other d.segments s _ j (λ p. omega arith)) (table_other d.locks s _ j (λ p. omega arith)) in
      next_segment d' (state_of d)
      (sized_segments
      (sized_locks c _ (tables_set 64 8 d.locks c.locks s _ (λ b. shaped_cell 8 t (shaped 64 8 d.locks c.locks s b) 0 0 0 (omega arith))))
      _ (tables_set 64 2 d.segments c.segments s _ (λ b. record { rows = refl; cells = two_rows s u kind })))
      _
      (ap (each (segment_in d') 0) more
      ∙ each_snoc (segment_in d') 0 s
      ∙ ap₂ (λ (xs : List Segment) (x : Segment). xs ++ x ∷ []) (each_same (segment_in d') (segment_in d) 0 s same) (ap (segment_in d') zero_on ∙ new)
      ∙ ap₂ (λ (x y : ℕ). each (segment_in d) 0 x ++ fresh_segment y u kind ∷ []) (sym old) (sym (many ∙ old)))
      refl

  -- a change of one segment's key list
  list_held : (s : ℕ) → s < segments_in d → (f : Table → Table) (F : Segment → Segment)
      → segment_of s (f (table_at d.segments s)) (table_at d.locks s) ≡ F (segment_in d s) → Shaped 2 (f (table_at d.segments s))
      → Holds (segments_are (on_table d.segments s f) d) (on_segment (state_of d) s F)
  unfolding state_of
  list_held s lt f F h sh =
      record {
        state =
            ap (with_segments (state_of d))
            (segments_set d (segments_are (on_table d.segments s f) d) s lt F
            (λ j ne. ap (λ (g : Table). segment_of j g (table_at d.locks j)) (table_other d.segments s _ j ne))
            (ap (λ (g : Table). segment_of s g (table_at d.locks s)) (get_or-set_same d.segments s _ [] (let q = c.segments.count in omega arith)) ∙ h));
        sized = sized_segments c _ (tables_set 64 2 d.segments c.segments s _ (λ u. sh));
      }

  -- row 1 of a segment's table replaced by 8 cells
  relisted : (s : ℕ) → s < segments_in d → (w : Row) → length (row_at (set (table_at d.segments s) 1 w) 1) ≡ 8 → Shaped 2 (set (table_at d.segments s) 1 w)
  relisted s lt w l =
      let sh = segment_shaped s lt in
      shaped_row 2 (table_at d.segments s) sh 1 w (ap length (sym (get_or-set_same (table_at d.segments s) 1 w [] (let q = sh.rows in omega arith))) ∙ l)

  -- G and T
  pub give_held : (b k : ℕ) → b < segments_in d → k < length (state_of d).makers → suc (length (segment_at (state_of d) b).keys) ≤ most_listed
      → Holds (segments_are (on_table d.segments b (give_code b (defined_cell k))) d) (on_segment (state_of d) b (give_key k))
  unfolding state_of
  give_held b k lt made room =
      let g : Table = table_at d.segments b in
      let sh = segment_shaped b lt in
      let few : k < 1024 = let l = length-take (min (cell d.registry defined_count) most_defined) d.makers in omega arith in
      let keys : length (segment_at (state_of d) b).keys ≡ length (keep has_key (list_row b g)) =
      ap (λ (x : Segment). length x.keys) (segment_at_lem d b lt) ∙ length-map (keep has_key (list_row b g)) key_in in
      list_held b lt (give_code b (defined_cell k)) (give_key k)
      (give_table b k g (table_at d.locks b) (omega arith) few sh.rows (sh.cells 1 (omega arith)))
      (relisted b lt _ (give_sizes b k g (sh.cells 1 (omega arith)) (omega arith)))

  pub take_held : (b k : ℕ) → b < segments_in d
      → Holds (segments_are (on_table d.segments b (take_code b (defined_cell k))) d) (on_segment (state_of d) b (take_key k))
  take_held b k lt =
      let g : Table = table_at d.segments b in
      let sh = segment_shaped b lt in
      list_held b lt (take_code b (defined_cell k)) (take_key k)
      (take_table b k g (table_at d.locks b) (omega arith) sh.rows (sh.cells 1 (omega arith)))
      (relisted b lt _ (take_sizes b k g (sh.cells 1 (omega arith))))
