-- A file is refused exactly by the listed conditions, in their order (demand 1; document 01: 'Desk file'). Of the way
-- in which records are read nothing is said here: a file is broken where no records write it. With `ReadableExactly`
-- (WritesBack) the verdict on every file is fixed. Proved in `proofs/Refuses.antt`.
use Rattle.std.specs.Prelude.{◌≡◌, List, ◌∷◌, ◌↔◌, ◌≢◌, ℕ, ◌<◌, ◌≤◌, length, Err}
use Rattle.journal.specs.declared.file.Refusal.{Refusal}
use Rattle.journal.specs.declared.file.Refusal.TheVariants.{NotJournal, OtherVersion, Corrupt}
use Rattle.journal.specs.Format.{Bytes, mark_k, mark_l, mark_d, file_head_size, file_version, version_at, most_bytes, Written}
use Rattle.journal.specs.Reading.{word, verdict_of}

-- the mark: it starts with `KLD`
pub record Marked (s : List ℕ) : Type 0 where
  pub rest : List ℕ
  pub mark : s ≡ mark_k ∷ mark_l ∷ mark_d ∷ rest

-- each condition stands where those before it do not hold. Broken: an unknown letter, an unnamed field that is not 0, a
-- wrong text length, records cut short or bytes left over, that is, no records that a file can hold write it.
pub data RefusedBy (s : List ℕ) : Refusal → Type 0 where
  unmarked : (Marked s → ⊥) → RefusedBy s NotJournal
  short : Marked s → length s < file_head_size → RefusedBy s Corrupt
  version : Marked s → file_head_size ≤ length s → word s version_at ≢ file_version → RefusedBy s OtherVersion
  long : Marked s → file_head_size ≤ length s → word s version_at ≡ file_version → most_bytes < length s
      → RefusedBy s Corrupt
  broken : Marked s → file_head_size ≤ length s → word s version_at ≡ file_version → length s ≤ most_bytes
      → (Written s → ⊥) → RefusedBy s Corrupt

abbrev pub RefusedExactly : Type 0
RefusedExactly = (s : List ℕ) → Bytes s → (f : Refusal) → (verdict_of s ≡ Err f) ↔ RefusedBy s f
