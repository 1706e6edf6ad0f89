-- What the crate's private functions promise each other. Nothing here is part of what a reader must believe.
use Rattle.std.specs.Prelude.{◌≡◌, not, List, ℕ, ◌≤◌, ◌<◌, eqb, length, Result, Ok, Err, ⊤}
use Rattle.base.specs.Lists.{keep}
use Rattle.base.specs.Counts.{Counted}
use Rattle.registry.specs.Counts.{Handed}
use Rattle.model.specs.declared.answer.Refusal.{Refusal}
use Rattle.model.specs.declared.answer.Refusal.TheVariants.{NoSegment, NoKey}
use Rattle.model.specs.Limits.{most_listed, most_segments}
use Rattle.model.specs.Cells.{Row, cell, segment_count, defined_count, has_key, key_row}
use Rattle.segments.specs.declared.list.Kept.{Kept}

-- the cells of a key list that have a key, but for those that are that cell
abbrev pub without : ℕ → Row → List ℕ
without code list = keep (λ y. not (eqb code y)) (keep has_key list)

-- a key list's keys but for a key's cell: closed up, and how many they are
pub record Without (list : Row) (code : ℕ) (kept : Kept) : Type 0 where
  pub closed : kept.cells ≡ key_row (without code list)
  pub counted : kept.count ≡ length (without code list)
  pub low : kept.count ≤ most_listed

-- the segment and the key that a call names, tested in that order: they are handed out, or the first that is not
-- refuses
pub data NamesTested (registry makers : Row) (s k : ℕ) : Result ⊤ Refusal → Type 0 where
  no_segment_lem : (n : ℕ) → Counted (cell registry segment_count) most_segments n → n ≤ s
      → NamesTested registry makers s k (Err NoSegment)
  no_key_lem : (n : ℕ) → Counted (cell registry segment_count) most_segments n → s < n
      → (m : ℕ) → Handed (cell registry defined_count) makers m → m ≤ k
      → NamesTested registry makers s k (Err NoKey)
  handed_out_lem : (n : ℕ) → Counted (cell registry segment_count) most_segments n → s < n
      → (m : ℕ) → Handed (cell registry defined_count) makers m → k < m
      → NamesTested registry makers s k (Ok tt)
