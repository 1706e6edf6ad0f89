-- Appending is refused exactly by the listed conditions, in their order, and is accepted in all the rest (demand 1;
-- document 01: 'Desk file'). Proved in `proofs/Declines.antt`.
use Rattle.std.specs.Prelude.{◌≡◌, true, false, List, ◌↔◌, ◌⊎◌, ℕ, ◌<◌, ◌≤◌, length, take, Ok, Err}
use Rattle.call.specs.Calls.{Call}
use Rattle.journal.specs.declared.file.Refusal.{Refusal}
use Rattle.journal.specs.declared.file.Refusal.TheVariants.{Full, Corrupt}
use Rattle.journal.specs.Format.{most_bytes, is_fit}
use Rattle.journal.specs.Reading.{verdict_of}
use Rattle.journal.specs.Appending.{length_with, append_answer}

-- each condition stands where those before it do not hold
pub data DeclinedBy (d : List ℕ) (len : ℕ) (r : Call) : Refusal → Type 0 where
  beyond : length d < len → DeclinedBy d len r Corrupt
  file : (f : Refusal) → len ≤ length d → verdict_of (take len d) ≡ Err f → DeclinedBy d len r f
  unfit : len ≤ length d → verdict_of (take len d) ≡ Ok tt → is_fit r ≡ false → DeclinedBy d len r Corrupt
  full : len ≤ length d → verdict_of (take len d) ≡ Ok tt → is_fit r ≡ true
      → (length d < length_with len r) ⊎ (most_bytes < length_with len r) → DeclinedBy d len r Full

abbrev pub DeclinedExactly : Type 0
DeclinedExactly =
    (d : List ℕ) (len : ℕ) (r : Call) (f : Refusal) → (append_answer d len r ≡ Err f) ↔ DeclinedBy d len r f

-- none of them holds, and n is the new length
pub record Takes (d : List ℕ) (len : ℕ) (r : Call) (n : ℕ) : Type 0 where
  pub inside : len ≤ length d
  pub readable : verdict_of (take len d) ≡ Ok tt
  pub fit : is_fit r ≡ true
  pub room : length_with len r ≤ length d
  pub most : length_with len r ≤ most_bytes
  pub size : n ≡ length_with len r

abbrev pub AcceptedExactly : Type 0
AcceptedExactly = (d : List ℕ) (len : ℕ) (r : Call) (n : ℕ) → (append_answer d len r ≡ Ok n) ↔ Takes d len r n
