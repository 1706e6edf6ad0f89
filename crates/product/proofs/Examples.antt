-- Each answer is computed.
use mathlib.Core.Path.{refl}
use Rattle.product.proofs.Unfoldings.{computing}
use Rattle.product.specs.Theorems.Examples.{Examples}

pub examples : Examples
unfolding computing
examples =
    record {
      kinds = refl;
      numbers = refl;
      once = refl;
      clash = refl;
      other_kind = refl;
      other_number = refl;
      sign_matters = refl;
      kind_matters = refl;
      held = refl;
      order_free = refl;
      no_user = refl;
      no_thread_lem = refl;
      no_segment_lem = refl;
      no_defined = refl;
      first_barred = refl;
      last_barred = refl;
      others = refl;
      barred_user = refl;
      barred_thread = refl;
      barred_segment = refl;
      barred_defined = refl;
      barred_alone = refl;
      plain_alone = refl;
      second_opens = refl;
      none_opens = refl;
      wide_opens = refl;
      either = refl;
      both = refl;
      eight = refl;
      nine = refl;
      six = refl;
      seven = refl;
      wide_left = refl;
      wide_right = refl;
      codes = refl;
      read = refl;
      row = refl;
      long_row = refl;
      rows = refl;
      first_rows = refl;
      too_many_rows = refl;
    }
