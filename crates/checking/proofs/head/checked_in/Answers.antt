-- The ranges of `code_checked`.
use mathlib.Core.Path.{◌≡◌}
use Prim.Native.Nat.{ℕ, ◌-◌, ◌≤◌, ◌<◌}
use native.Mathlib.Omega.{arith}
use borrow.Author.Tests.{lt-ltb, le-ltb}
use Rattle.std.specs.Prelude.{Ok, Err}
use Rattle.checking.specs.declared.Ungranted.TheVariants.{Denied, NotGranted}
use Rattle.checking.specs.Deciding.{Checked}
use Rattle.checking.specs.Internal.{code_checked}
use Rattle.checking.proofs.head.checked_in.Goals as goal

module _ (code : ℕ) where
  granted : code < 65536 → ◌≡◌ {A = Checked} (Ok code) (code_checked code)
  unfolding code_checked
  granted h = rw (lt-ltb code 65536 h)

  module _ (high : 65536 ≤ code) where
    denied : code < 131072 → ◌≡◌ {A = Checked} (Err (Denied (code - 65536))) (code_checked code)
    unfolding code_checked
    denied h = rw (le-ltb code 65536 high, lt-ltb code 131072 h)

    none : 131072 ≤ code → ◌≡◌ {A = Checked} (Err NotGranted) (code_checked code)
    unfolding code_checked
    none h = rw (le-ltb code 65536 high, le-ltb code 131072 h)

pub returns-then-code-lt-DENIED : goal.returns-then-code-lt-DENIED
returns-then-code-lt-DENIED c = granted _ (omega arith)

pub returns-then-code-ge-NOT_GRANTED : goal.returns-then-code-ge-NOT_GRANTED
returns-then-code-ge-NOT_GRANTED c = none _ (omega arith) (omega arith)

pub returns : goal.returns
returns c = denied _ (omega arith) (omega arith)
