-- Some records are answered and their lines put, and the rest are left: what is put, and the lines of the rest, are all
-- lines.
use Rattle.std.specs.Prelude.{Ok, Some}
use mathlib.Core.Path.{◌≡◌, refl, sym, ap, ◌∙◌}
use mathlib.Core.Bool.{true}
use mathlib.Core.List.{List, [], ◌++◌, append_assoc, append-nil}
use Prim.Native.Nat.{ℕ, zero, suc, ◌+◌, ◌*◌, ◌≤◌, ◌<◌}
use native.Mathlib.Nat.{zero-add}
use native.Mathlib.Numerals.{add-one}
use native.Mathlib.Omega.{arith}
use lib.Dec.{ltb}
use lib.ListN.{length, length-append}
use lib.Seq.{sets, length-sets}
use borrow.Author.Tests.{eqb-true, ltb-true, ltb-false}
use Rattle.formula.specs.Outcome.{outcome_of}
use Rattle.base.proofs.Truth.{and_both}
use Rattle.base.proofs.Lists.{case_bool}
use Rattle.journal.specs.Reading.{Found, word, record_of, next_of, whole_at, entry_of, found_at, records_from, records_of, whole_from, verdict_of}
use Rattle.journal.specs.declared.record.Entry.{Entry}
use Rattle.journal.proofs.RecordSizes.{found_record}
use Rattle.journal.proofs.Files.{whole, open_file, count_small}
use Rattle.journal.proofs.StoredBytes.{sets_append}
use Rattle.model.specs.Cells.{Cells}
use Rattle.model.specs.Stores.{step_cells}
use Rattle.model.specs.Replay.{events_in}
use Rattle.transcript.specs.Lines.{lines_from, most_line}
use Rattle.transcript.specs.Printing.{most_printed}
use Rattle.transcript.proofs.AnsweredRecord.{Answered}
use Rattle.transcript.specs.Internal.{line_at, Replayed}

abbrev pub lines_of : List ℕ → Cells → ℕ → ℕ → ℕ → List ℕ
lines_of s d left i place = lines_from place (events_in outcome_of d (records_from left s i))

pub record ReplayLoop (s : List ℕ) (d₀ : Cells) (b₀ : List ℕ) (d : Cells) (b : List ℕ) (i place used : ℕ) : Type 0 where
  pub left : ℕ
  pub done : List ℕ
  pub counted : place + left ≡ word s 5
  pub fill : whole_from left s i ≡ true
  pub stored : b ≡ sets b₀ 0 done
  pub ends : used ≡ length done
  pub short : used ≤ most_line * place
  pub rest : done ++ lines_of s d left i place ≡ lines_from 0 (events_in outcome_of d₀ (records_of s))

module _ (s : List ℕ) (d₀ : Cells) (b₀ : List ℕ) where
  pub loop_start : verdict_of s ≡ Ok tt → ReplayLoop s d₀ b₀ d₀ b₀ 7 0 0
  unfolding records_of
  loop_start h =
      record {
        left = word s 5;
        done = [];
        counted = omega arith;
        fill = (open_file s h).records;
        stored = refl;
        ends = refl;
        short = omega arith;
        rest = refl;
      }

-- a record is left
record More (s : List ℕ) (left i : ℕ) : Type 0 where
  pub fewer : ℕ
  pub one : left ≡ suc fewer
  pub first : whole_at s i ≡ true
  pub others : whole_from fewer s (next_of s i) ≡ true

more : (s : List ℕ) (left i : ℕ) → whole_from left s i ≡ true → i < length s → More s left i
unfolding whole_from
more s zero i h k = let e = eqb-true i (length s) h in let z : ⊥ = omega arith in absurd z
more s (suc n) i h k = let b = and_both (whole_at s i) (whole_from n s (next_of s i)) h in record { fewer = n; one = refl; first = b.0; others = b.1 }

none_left : (s : List ℕ) (left i : ℕ) → whole_from left s i ≡ true → length s ≤ i → left ≡ 0
unfolding whole_from
none_left s zero i h k = refl
none_left s (suc n) i h k = let b = and_both (whole_at s i) (whole_from n s (next_of s i)) h in let w = (whole s i b.0).head in let z : ⊥ = omega arith in absurd z

-- the lines of the records that are left: the first, and those of the others
lines_more : (s : List ℕ) (d d' : Cells) (n i place j p : ℕ) → d' ≡ (step_cells outcome_of d (record_of s i)).cells → j ≡ next_of s i → p ≡ suc place
    → lines_of s d (suc n) i place ≡ line_at s i place d ++ lines_of s d' n j p
unfolding records_from
lines_more s d d' n i place j p e f g = rw (e, f, g)

lines_none : (s : List ℕ) (d : Cells) (i place : ℕ) → lines_of s d 0 i place ≡ []
unfolding records_from
lines_none s d i place = refl

module _ {s : List ℕ} {d₀ : Cells} {b₀ : List ℕ} {d : Cells} {b : List ℕ} {i place used : ℕ} (g : ReplayLoop s d₀ b₀ d b i place used) where
  pub loop_length : length b ≡ length b₀
  loop_length = ap length g.stored ∙ length-sets b₀ 0 g.done

  -- no place is beyond a file's last, and there is room for one more line
  pub loop_room : verdict_of s ≡ Ok tt → i < length s → (place < 7280) × (used + most_line ≤ most_printed)
  loop_room h k =
      let m = more s g.left i g.fill k in
      let c = count_small s (open_file s h) in
      let e = m.one in
      let a = g.counted in
      let u = g.short in
      let p : place < 7280 = omega arith in
      (p, omega arith)

  -- no record is found: none is left
  pub loop_ended : {f : Found} → f ≡ found_at s i → ((e : Entry) → f ≡ Ok (Some e) → ⊥) → length s ≤ i
  loop_ended p none =
      case_bool (ltb i (length s))
      (λ e. absurd (none (entry_of s i) (p ∙ found_record s i (more s g.left i g.fill (ltb-true i (length s) e)).first)))
      (λ e. ltb-false i (length s) e)

  pub loop_end : verdict_of s ≡ Ok tt → length s ≤ i → Replayed s d₀ b₀ b used
  loop_end h k =
      let z = none_left s g.left i g.fill k in
      let c = count_small s (open_file s h) in
      let a = g.counted in
      let u = g.short in
      let e = sym (append-nil g.done) ∙ ap (λ (x : List ℕ). g.done ++ x) (sym (lines_none s d i place) ∙ ap (λ (n : ℕ). lines_of s d n i place) (sym z)) ∙ g.rest in
      record { stored = g.stored ∙ ap (λ (x : List ℕ). sets b₀ 0 x) e; ends = g.ends ∙ ap length e; short = omega arith }

  pub loop_step : {d' : Cells} {b' : List ℕ} {next r : ℕ} → i < length s → Answered s i place d b used d' b' next r → ReplayLoop s d₀ b₀ d' b' next (place + 1) r
  loop_step {d'} {b'} {next} {r} k a =
      let m = more s g.left i g.fill k in
      let one = m.one in
      let before = g.counted in
      let short = a.short in
      let small = g.short in
      let l = line_at s i place d in
      let n = length-append g.done l in
      let now = a.ends in
      let then = g.ends in
      record {
        left = m.fewer;
        done = g.done ++ l;
        counted = omega arith;
        fill = rw a.next m.others;
        stored = a.stored ∙ rw (g.stored, g.ends) (sym (sets_append g.done l b₀ 0 ∙ rw (zero-add (length g.done))));
        ends = omega arith;
        short = omega arith;
        rest =
            append_assoc g.done l (lines_of s d' m.fewer next (place + 1))
            ∙ ap (λ (x : List ℕ). g.done ++ x)
            (sym (lines_more s d d' m.fewer i place next (place + 1) a.cells a.next (add-one place)) ∙ ap (λ (x : ℕ). lines_of s d x i place) (sym m.one))
            ∙ g.rest;
      }
