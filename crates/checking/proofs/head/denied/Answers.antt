-- A deny lock's number stands above the grant locks'.
use mathlib.Core.Path.{◌≡◌, ap}
use mathlib.Core.Bool.{true}
use Prim.Native.Nat.{ℕ, ◌+◌, ◌-◌, ◌/◌, ◌<◌, ◌≤◌}
use native.Mathlib.Omega.{arith}
use lib.Dec.{eqb}
use borrow.Author.Rules.{rules}
use borrow.Author.Tests.{eqb-true, lt-ltb, le-ltb}
use Rattle.base.proofs.Lists.{case_bool, clash}
use Rattle.model.specs.Operations.{shares, deny}
use Rattle.std.specs.Prelude.{Err}
use Rattle.checking.specs.declared.Ungranted.TheVariants.{Denied}
use Rattle.checking.specs.Deciding.{Checked}
use Rattle.checking.specs.Internal.{head_checked, code_checked}
use Rattle.checking.proofs.head.denied.Goals as goal

abbrev the_denied : ℕ → Checked
the_denied k = Err (Denied k)

module _ (head : ℕ) (low : head < 4294967296) (d : shares head deny ≡ true) where
  lock_low : head / 65536 < 65536
  lock_low = omega arith

  is_denied : code_checked (65536 + head / 65536) ≡ head_checked head
  unfolding code_checked head_checked
  is_denied =
      let high : 65536 ≤ 65536 + head / 65536 = omega arith in
      let below : 65536 + head / 65536 < 131072 = omega (arith, lock_low) in
      let is : 65536 + head / 65536 - 65536 ≡ head / 65536 = omega arith in
      case_bool (eqb head 0)
      (λ z. clash d (ap (λ (k : ℕ). shares k deny) (eqb-true head 0 z)))
      (λ z. rw (z, d, le-ltb (65536 + head / 65536) 65536 high, lt-ltb (65536 + head / 65536) 131072 below) (ap (λ (k : ℕ). the_denied k) is))

pub returns : goal.returns
returns c = is_denied _ (omega arith) (search rules)
