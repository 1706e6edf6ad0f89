-- Bytes that are put one after the other are put as one run.
use mathlib.Core.Path.{◌≡◌, sym, ap, ◌∙◌}
use mathlib.Core.List.{List, [], ◌∷◌, ◌++◌}
use Prim.Native.Nat.{ℕ, ◌+◌, ◌/◌, ◌%◌, ◌≤◌, ◌<◌}
use native.Mathlib.Omega.{arith}
use lib.ListN.{length, length-append}
use lib.Seq.{length-sets}
use Rattle.formula.specs.Spelling.{decimal}
use Rattle.journal.proofs.StoredBytes.{sets_append}
use Rattle.transcript.specs.declared.bytes.Output.{Output}
use Rattle.transcript.specs.Internal.{Put, Room}
use Rattle.formula.proofs.Decimals.{decimal_one, decimal_more}

pub put_then : {d e f : Output} {xs ys : List ℕ} → Put d xs e → Put e ys f → Put d (xs ++ ys) f
put_then {d} {e} {f} {xs} {ys} p q =
    record {
      stored = q.stored ∙ rw (p.stored, p.ends) (sym (sets_append xs ys d.buffer.now d.at));
      ends = let l = length-append xs ys in let a = p.ends in let b = q.ends in omega arith;
      same = q.same ∙ p.same;
    }

-- the room that is left
pub room_left : {d e : Output} {xs : List ℕ} (m n : ℕ) → Put d xs e → Room d m → length xs + n ≤ m → Room e n
room_left {d} {e} {xs} m n p r h =
    let l : length e.buffer.now ≡ length d.buffer.now = ap length p.stored ∙ length-sets d.buffer.now d.at xs in
    omega (arith, p.ends)

-- a number of one digit; the last digit of a longer one
pub put_digit : {d e : Output} (n : ℕ) → n < 10 → Put d ((48 + n % 10) ∷ []) e → Put d (decimal n) e
put_digit n h p = let same : n % 10 ≡ n = omega arith in rw (decimal_one n h, ← same) p

pub put_last : {d e f : Output} (n : ℕ) → 10 ≤ n → Put d (decimal (n / 10)) e → Put e ((48 + n % 10) ∷ []) f → Put d (decimal n) f
put_last n h p q = rw (decimal_more n h) (put_then p q)
