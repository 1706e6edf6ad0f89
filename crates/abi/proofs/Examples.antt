-- By computing, and by what division leaves.
use mathlib.Core.Path.{refl}
use Rattle.product.specs.Atom.{compare_atoms}
use Rattle.product.specs.Code.{key_at}
use Rattle.model.specs.Answers.{answer_number, answer_value}
use Rattle.search.specs.Searching.{searched}
use Rattle.abi.proofs.AnswerCodes.{taken_apart}
use Rattle.abi.specs.Theorems.Examples.{CodeTakenApart, Examples}

pub code_taken_apart : CodeTakenApart
code_taken_apart r h = taken_apart (answer_number r) (answer_value r) h

pub examples : Examples
unfolding key_at searched compare_atoms
examples =
    record {
      lock_seven = refl;
      unknown_user = refl;
      full = refl;
      denied = refl;
      corrupt = refl;
      last_place = refl;
      no_place = refl;
      no_thread_lem = refl;
      finds_segment = refl;
      finds_defined = refl;
      lacks_user = refl;
      lacks_thread = refl;
      lacks_segment = refl;
      lacks_defined = refl;
      no_key_lem = refl;
      no_key_again = refl;
      no_key_of_none = refl;
      two_products = refl;
      malformed_number = refl;
      wide_number = refl;
      unsatisfiable_number = refl;
      malformed_rows = refl;
      wide_rows = refl;
      unsatisfiable_rows = refl;
      users = refl;
      threads = refl;
      segments = refl;
      defined = refl;
      opens = refl;
      shut = refl;
      record_number = refl;
      record_values = refl;
      end_number = refl;
      end_values = refl;
      damaged_number = refl;
      damaged_values = refl;
      left_all = refl;
      left_some = refl;
      left_none = refl;
      version_number_lem = refl;
    }
