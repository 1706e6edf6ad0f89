-- A line is put whole where there is room for the longest; else nothing is.
use Rattle.std.specs.Prelude.{Ok, Err}
use mathlib.Core.Path.{◌≡◌, sym, ◌∙◌}
use mathlib.Core.Bool.{true}
use mathlib.Core.List.{List, [], ◌∷◌}
use Prim.Native.Nat.{ℕ, ◌+◌, ◌≤◌, ◌<◌}
use native.Mathlib.Omega.{arith}
use lib.ListN.{length}
use borrow.Author.Tests.{le-leb}
use Rattle.base.specs.Bytes.{bytes}
use Rattle.formula.specs.Spelling.{decimal}
use Rattle.journal.specs.declared.file.Refusal.{Refusal as FileRefusal}
use Rattle.journal.specs.declared.file.Refusal.TheVariants.{Full as FileFull, NotJournal, OtherVersion, Corrupt as FileCorrupt}
use Rattle.journal.specs.Verdicts.{refusal_number as file_refusal}
use Rattle.model.specs.Answers.{Answer}
use Rattle.model.specs.declared.answer.Refusal.{Refusal}
use Rattle.model.specs.declared.answer.Refusal.TheVariants.{UnknownUser, NoThread, NoSegment, NoKey, NoLock, NotOwner, Unfit, AlreadyPresent, NotPresent, Full, Malformed, TooWide, Unsatisfiable, Denied, NotGranted, Corrupt, TooFewRows}
use Rattle.model.specs.Answers.{refusal_number, second_number}
use Rattle.transcript.specs.Lines.{outcome, line, file_line, has_room, LinePut}
use Rattle.transcript.specs.declared.bytes.Output.{Output}
use Rattle.transcript.specs.Internal.{Put, Room}
use Rattle.transcript.proofs.Decimals.{two_digits}
use Rattle.transcript.proofs.PutBytes.{put_then}

pub room : (most : ℕ) {b s e : List ℕ} {d f : Output} → d.buffer.now ≡ b → f.buffer.now ≡ e → Room d most → f.at ≤ d.at + most → Put d s f → LinePut most b d.at s e f.at
room most {b} {s} {e} {d} {f} p q r k put =
    let l : has_room most b d.at ≡ true = le-leb (d.at + most) (length b) (rw (← p) r) in
    record { stored = sym q ∙ put.stored ∙ rw (l, p); ends = put.ends ∙ rw l; short = k }

-- the pieces of a line

pub line_put : (place : ℕ) {letter : ℕ} (answer : Answer) {d d₁ d₂ d₃ d₄ : Output} → Put d (decimal place) d₁ → Put d₁ (32 ∷ letter ∷ 32 ∷ []) d₂
    → Put d₂ (outcome answer) d₃ → Put d₃ (10 ∷ []) d₄ → Put d (line place letter answer) d₄
unfolding line
line_put place answer p q r s = put_then (put_then (put_then p q) r) s

pub file_line_put : (f : FileRefusal) (n : ℕ) {d d₁ d₂ d₃ : Output} → n ≡ file_refusal f → Put d (102 ∷ 105 ∷ 108 ∷ 101 ∷ 32 ∷ 110 ∷ 111 ∷ 32 ∷ []) d₁
    → Put d₁ (decimal n) d₂ → Put d₂ (10 ∷ []) d₃ → Put d (file_line f) d₃
unfolding file_line bytes
file_line_put f n e p q r = rw (← e) (put_then (put_then p q) r)

pub accepted_put : {n : ℕ} {answer : Answer} {d d₁ d₂ : Output} → answer ≡ Ok n → Put d (111 ∷ 107 ∷ 32 ∷ []) d₁ → Put d₁ (decimal n) d₂ → Put d (outcome answer) d₂
unfolding bytes
accepted_put e p q = rw e (put_then p q)

pub refused_put : {f : Refusal} {m n : ℕ} {answer : Answer} {d d₁ d₂ d₃ d₄ : Output} → answer ≡ Err f → m ≡ refusal_number f → n ≡ second_number f
    → Put d (110 ∷ 111 ∷ 32 ∷ []) d₁ → Put d₁ (decimal m) d₂ → Put d₂ (32 ∷ []) d₃ → Put d₃ (decimal n) d₄ → Put d (outcome answer) d₄
unfolding bytes
refused_put e u v p q r s = rw (e, ← u, ← v) (put_then (put_then (put_then p q) r) s)

-- a refusal's number has two digits at most

small : (r : Refusal) → refusal_number r < 100
small UnknownUser = omega arith
small NoThread = omega arith
small NoSegment = omega arith
small NoKey = omega arith
small NoLock = omega arith
small NotOwner = omega arith
small Unfit = omega arith
small AlreadyPresent = omega arith
small NotPresent = omega arith
small Full = omega arith
small Malformed = omega arith
small TooWide = omega arith
small Unsatisfiable = omega arith
small (Denied lock) = omega arith
small NotGranted = omega arith
small Corrupt = omega arith
small TooFewRows = omega arith

file_small : (r : FileRefusal) → file_refusal r < 100
file_small FileFull = omega arith
file_small NotJournal = omega arith
file_small OtherVersion = omega arith
file_small FileCorrupt = omega arith

pub refusal_digits : {m : ℕ} (r : Refusal) → m ≡ refusal_number r → length (decimal m) ≤ 2
refusal_digits {m} r e = two_digits m (rw e (small r))

pub file_digits : {m : ℕ} (r : FileRefusal) → m ≡ file_refusal r → length (decimal m) ≤ 2
file_digits {m} r e = two_digits m (rw e (file_small r))
