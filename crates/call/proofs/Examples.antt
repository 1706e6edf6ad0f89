-- Every example is computed.
use mathlib.Core.Path.{refl}
use Rattle.call.proofs.Unfoldings.{computing}
use Rattle.call.specs.Theorems.Examples.{Examples}

pub examples : Examples
unfolding computing
examples =
    record {
      every_letter_lem = refl;
      requests = refl;
      values = refl;
      unnamed_count = refl;
      unnamed_fields = refl;
      unknown_letter = refl;
      small_letter = refl;
      text_in_new_user = refl;
      text_in_access = refl;
      lock_without_text = refl;
      text_of_none = refl;
      text_of_one = refl;
      text_of_96 = refl;
      text_of_97 = refl;
      text_outside_lock = refl;
      corrupt_number = refl;
      corrupt_values = refl;
      well_formed_number = λ q. refl;
    }
