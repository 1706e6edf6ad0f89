-- A grant lock's number is below the deny locks'.
use mathlib.Core.Path.{◌≡◌}
use Prim.Native.Nat.{ℕ, ◌/◌, ◌<◌}
use native.Mathlib.Omega.{arith}
use borrow.Author.Rules.{rules}
use borrow.Author.Tests.{ne_eqb, lt-ltb}
use Rattle.checking.specs.Internal.{GrantHead, head_checked, code_checked}
use Rattle.checking.proofs.head.granted.Goals as goal

is_granted : (head : ℕ) → head < 4294967296 → GrantHead head → code_checked (head / 65536) ≡ head_checked head
unfolding code_checked head_checked
is_granted head low g =
    let lock_low : head / 65536 < 65536 = omega arith in
    rw (ne_eqb head 0 g.used, g.grants, lt-ltb (head / 65536) 65536 lock_low)

pub returns : goal.returns
returns c = is_granted _ (omega arith) (search rules)
