-- By computing.
use mathlib.Core.Path.{refl}
use mathlib.Core.List.{◌++◌}
use Rattle.model.specs.Notation.{Happens}
use Rattle.model.proofs.Unfoldings.{computing}
use Rattle.search.specs.Searching.{searched}
use Rattle.search.specs.Theorems.Examples.{office, route, return, deep, desk, after_return, at_depth, Examples}

return_happens : Happens (office ++ route ++ return)
unfolding computing
return_happens = refl

deep_happens : Happens (office ++ route ++ deep)
unfolding computing
deep_happens = refl

pub examples : Examples
unfolding computing searched desk after_return at_depth
examples =
    record {
      return_happens = return_happens;
      deep_happens = deep_happens;
      newest = refl;
      second = refl;
      shared = refl;
      oldest = refl;
      oldest_only = refl;
      taken = refl;
      given = refl;
      own_user = refl;
      own_thread = refl;
      other_user = refl;
      no_segment = refl;
      no_key = refl;
      segment64 = refl;
      segment65 = refl;
      segment65535 = refl;
      defined65471 = refl;
      defined65472 = refl;
      defined65473 = refl;
      another = refl;
      another_lacks = refl;
      ended = refl;
      ended_own = refl;
      unknown = refl;
      returned = refl;
      returned_first = refl;
      returned_last = refl;
      deep_first = refl;
      deep_shared = refl;
      deep_last = refl;
      place = refl;
      none = refl;
      no_thread = refl;
      found = refl;
      own = refl;
      of_another = refl;
      of_three = refl;
      of_four = refl;
      identity = refl;
      listed_segments = refl;
      listed_keys = refl;
    }
