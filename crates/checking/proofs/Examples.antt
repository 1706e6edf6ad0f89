-- By computing.
use mathlib.Core.Path.{refl}
use Rattle.product.specs.Atom.{compare_atoms}
use Rattle.product.specs.Product.{opens}
use Rattle.checking.specs.Deciding.{check_of}
use Rattle.checking.specs.Theorems.Examples.{Examples}

pub examples : Examples
unfolding compare_atoms opens check_of
examples =
    record {
      reads = refl;
      writes = refl;
      executes = refl;
      another_thread = refl;
      zero = refl;
      execute_and_read = refl;
      read_and_write = refl;
      deny = refl;
      sixteen = refl;
      lock_unit = refl;
      tightest = refl;
      lowest_deny = refl;
      no_literal = refl;
    }
