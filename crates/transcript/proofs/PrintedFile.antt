-- What is printed, by the file's verdict.
use Rattle.std.specs.Prelude.{Ok, Err}
use mathlib.Core.Path.{◌≡◌, ap, ◌∙◌}
use mathlib.Core.Bool.{true}
use mathlib.Core.List.{List}
use Prim.Native.Nat.{ℕ, ◌+◌, ◌≤◌}
use native.Mathlib.Nat.{zero-add}
use native.Mathlib.Omega.{arith}
use lib.ListN.{length}
use lib.Seq.{sets, length-sets}
use borrow.Author.Tests.{le-leb}
use Rattle.journal.specs.declared.file.Refusal.{Refusal}
use Rattle.journal.specs.Reading.{verdict_of}
use Rattle.model.specs.Cells.{empty_cells}
use Rattle.transcript.specs.Lines.{file_line, printed, has_room, LinePut, most_file_line}
use Rattle.transcript.specs.Printing.{most_printed, Prints}
use Rattle.transcript.specs.Internal.{Replayed}

module _ {s b b' : List ℕ} {r : ℕ} (k : most_printed ≤ length b) where
  prints : b' ≡ sets b 0 (printed s) → r ≡ length (printed s) → r ≤ most_printed → Prints s b b' r
  prints p q h = let l : length b' ≡ length b = ap length p ∙ length-sets b 0 (printed s) in record { stored = p; ends = q; inside = omega arith }

  pub refused_prints : (f : Refusal) → verdict_of s ≡ Err f → LinePut most_file_line b 0 (file_line f) b' r → Prints s b b' r
  unfolding printed
  refused_prints f h w =
      let e : has_room most_file_line b 0 ≡ true = le-leb (0 + most_file_line) (length b) (omega arith) in
      let short = w.short in
      prints (w.stored ∙ rw (e, h)) (w.ends ∙ rw (e, h) (zero-add (length (file_line f)))) (omega arith)

  pub readable_prints : verdict_of s ≡ Ok tt → Replayed s empty_cells b b' r → Prints s b b' r
  unfolding printed
  readable_prints h p = prints (p.stored ∙ rw h) (p.ends ∙ rw h) p.short
