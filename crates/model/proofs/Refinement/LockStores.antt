-- A segment's product rows changed: what is stored is read back as the model's change of its products, and the sizes
-- stay.
use mathlib.Core.Path.{◌≡◌, ap, ◌∙◌}
use mathlib.Core.Bool.{true, ◌||◌, false≢true}
use mathlib.Core.List.{[]}
use Prim.Native.Nat.{ℕ, zero, suc, ◌+◌, ◌≤◌, ◌<◌, min}
use native.Mathlib.Omega.{arith}
use lib.Dec.{ltb}
use lib.ListN.{length, length-take}
use lib.Seq.{get_or-set_same}
use borrow.Author.Tests.{ltb-true}
use Rattle.base.proofs.Truth.{and_left, and_right}
use Rattle.model.specs.Limits.{most_segments, most_defined, most_standing}
use Rattle.model.specs.Operations.{execute, read, write, includes, takes_set}
use Rattle.product.specs.Product.{All as Each}
use Rattle.product.specs.Atom.{atom_of}
use Rattle.formula.specs.Text.{issued_to}
use Rattle.model.specs.State.{lock_segment, Segment, has_lock, is_lock, issued, segment_at}
use Rattle.model.specs.Effects.{with_segments, on_segment, add_products, drop_products}
use Rattle.model.specs.Cells.{Table, Cells, Sized, cell, table_at, segment_of, segment_in, state_of, locks_are, defined_count}
use Rattle.model.specs.Stores.{on_table, add_rows, drop_rows}
use Rattle.base.proofs.Lists.{index_of_lt}
use Rattle.model.proofs.Refinement.SegmentTables.{add_table, drop_table, add_sizes, drop_sizes, length_add_rows, length_drop_rows}
use Rattle.product.specs.Sum.{Sum}
use Rattle.model.proofs.Refinement.ServedCalls.{segments_in, segment_at_lem}
use Rattle.model.proofs.Refinement.Sizes.{Shaped, tables_set, sized_locks}
use Rattle.model.proofs.Refinement.Counts.{Holds}
use Rattle.model.proofs.Refinement.SegmentStores.{length_segments, table_other, segments_set, locks_shaped}
use Rattle.formula.specs.Compiler.{Kept}

-- a lock's set has an operation, so it is not 0
pub operations_some : (o : ℕ) → (includes o execute || includes o read || includes o write) ≡ true → 0 < o
operations_some zero h = absurd (false≢true h)
operations_some (suc o) h = omega arith

module _ (d : Cells) (c : Sized d) where
  rows_held : (s : ℕ) → s < segments_in d → (f : Table → Table) (F : Segment → Segment)
      → segment_of s (table_at d.segments s) (f (table_at d.locks s)) ≡ F (segment_in d s) → Shaped 8 (f (table_at d.locks s))
      → Holds (locks_are (on_table d.locks s f) d) (on_segment (state_of d) s F)
  unfolding state_of
  rows_held s lt f F h sh =
      record {
        state =
            ap (with_segments (state_of d))
            (segments_set d (locks_are (on_table d.locks s f) d) s lt F
            (λ j ne. ap (segment_of j (table_at d.segments j)) (table_other d.locks s _ j ne))
            (ap (segment_of s (table_at d.segments s)) (get_or-set_same d.locks s _ [] (let q = c.locks.count in omega arith)) ∙ h));
        sized = sized_locks c _ (tables_set 64 8 d.locks c.locks s _ (λ u. sh));
      }

  -- D: the segment of a lock that stands
  pub drop_held : (n : ℕ) → is_lock (state_of d) n ≡ true
      → Holds (locks_are (on_table d.locks (lock_segment (state_of d) n) (drop_rows n)) d) (on_segment (state_of d) (lock_segment (state_of d) n) (drop_products n))
  drop_held n there =
      let s : ℕ = lock_segment (state_of d) n in
      let lt : s < segments_in d = let l = length_segments d in let i = index_of_lt (has_lock n) (state_of d).segments there in omega arith in
      let t : Table = table_at d.locks s in
      let sh = locks_shaped d c s lt in
      rows_held s lt (drop_rows n) (drop_products n) (drop_table n s (table_at d.segments s) t)
      (record { rows = length_drop_rows n t ∙ sh.rows; cells = λ j l. drop_sizes j n t sh.rows sh.cells l })

  -- L: products of keys handed out, with room for them
  pub add_held : (ps : Sum) (b n o kind : ℕ) → b < segments_in d → takes_set kind o ≡ true → Each Kept ps
      → Each (λ p. Each (λ x. issued_to (issued (state_of d)) (atom_of x) ≡ true) p) ps → length (segment_at (state_of d) b).products + length ps ≤ most_standing
      → Holds (locks_are (on_table d.locks b (add_rows n o ps)) d) (on_segment (state_of d) b (add_products n o ps))
  unfolding state_of
  add_held ps b n o kind lt set-fits kept handed room =
      let g : Table = table_at d.segments b in
      let t : Table = table_at d.locks b in
      let sh = locks_shaped d c b lt in
      let few : o < 16 = ltb-true o 16 (and_left (ltb o 16) _ set-fits) in
      let some : 0 < o = operations_some o (and_left _ _ (and_right (ltb o 16) _ set-fits)) in
      let had : length (segment_at (state_of d) b).products ≡ length (segment_of b g t).products = ap (λ (y : Segment). length y.products) (segment_at_lem d b lt) in
      let makers : length (state_of d).makers ≤ most_defined = let l = length-take (min (cell d.registry defined_count) most_defined) d.makers in omega arith in
      let many : length (state_of d).segments ≤ most_segments = let l = length_segments d in omega arith in
      rows_held b lt (add_rows n o ps) (add_products n o ps)
      (add_table (issued (state_of d)) ps b n o g t kept handed many makers some few sh.rows (omega arith))
      (record { rows = length_add_rows n o ps t ∙ sh.rows; cells = λ j l. add_sizes j n o ps t kept sh.rows sh.cells l })
