-- What is found where a whole record stands, and at the end; and a turn of the loop over a file's records.
use Prim.Native.Nat.{ℕ, suc, ◌+◌, ◌-◌, ◌<◌, ◌≤◌}
use mathlib.Core.Path.{◌≡◌}
use mathlib.Core.Bool.{Bool, true, false, cond, ◌&&◌}
use mathlib.Core.List.{List}
use native.Mathlib.Omega.{arith}
use lib.ListN.{length}
use borrow.Author.Tests.{lt-leb, le-leb}
use Rattle.std.specs.Prelude.{None, Some, Ok}
use Rattle.journal.specs.Reading.{word, next_of, whole_at, entry_of, found_at, whole_from}
use Rattle.journal.specs.Internal.{size_at}
use Rattle.journal.proofs.Files.{whole}

module _ (s : List ℕ) (at : ℕ) where
  -- ---- what is found

  pub found_record : whole_at s at ≡ true → found_at s at ≡ Ok (Some (entry_of s at))
  unfolding found_at
  found_record w = rw (lt-leb (length s) at (omega (arith, (whole s at w).head)), w)

  pub found_end : length s ≤ at → Ok None ≡ found_at s at
  unfolding found_at
  found_end h = rw (le-leb (length s) at h)

  -- ---- a turn over a file's records: i of n are read, and w is what all of them do

  pub turn : (n i : ℕ) (w : Bool) → whole_from (n - i) s at ≡ w → i < n → (k : ℕ) → Some k ≡ size_at s at
      → whole_from (n - (i + 1)) s (at + k) ≡ w
  unfolding whole_from size_at
  turn n i w left h k e =
      let m : n - i ≡ suc (n - (i + 1)) = omega arith in
      go (whole_at s at) e (rw m at left)
    where
      go : (p : Bool) → Some k ≡ cond p (Some (9 + word s (at + 7))) None
          → p && whole_from (n - (i + 1)) s (next_of s at) ≡ w → whole_from (n - (i + 1)) s (at + k) ≡ w
      go true o all =
          let size : k ≡ 9 + word s (at + 7) = cc in
          let next : at + k ≡ next_of s at = omega arith in rw next all
      go false o all = cc
