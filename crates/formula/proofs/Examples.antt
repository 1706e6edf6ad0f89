-- Each answer is computed.
use mathlib.Core.Path.{refl}
use Rattle.formula.proofs.Unfoldings.{computing}
use Rattle.formula.specs.Theorems.Examples.{Examples, FurtherExamples}

pub examples : Examples
unfolding computing
examples =
    record {
      contradiction = refl;
      one = refl;
      two = refl;
      neither = refl;
      padded = refl;
      four = refl;
      eight = refl;
      nine = refl;
      six = refl;
      seven = refl;
      rows = refl;
      blank = refl;
    }

pub further_examples : FurtherExamples
unfolding computing
further_examples =
    record {
      empty = refl;
      longest_length = refl;
      longest_fits = refl;
      too_long_length = refl;
      too_long_lem = refl;
      eight_deep = refl;
      nine_deep = refl;
      nine_deep_right = refl;
      nine_brackets = refl;
      unclosed = refl;
      unopened = refl;
      empty_bracket = refl;
      blank_inside = refl;
      blank_before = refl;
      blank_after = refl;
      lower_case = refl;
      other_letter = refl;
      two_zeros = refl;
      no_number = refl;
      no_letter = refl;
      two_digits = refl;
      largest = refl;
      beyond_last = refl;
      beyond_none = refl;
      last_user = refl;
      next_user = refl;
      last_thread_lem = refl;
      next_thread = refl;
      last_segment = refl;
      next_segment = refl;
      last_defined = refl;
      next_defined = refl;
      no_right_and = refl;
      no_left_and = refl;
      no_right_or = refl;
      no_left_or = refl;
      two_ands = refl;
      no_join = refl;
      not_alone = refl;
      not_after = refl;
      not_one = refl;
      not_twice = refl;
      not_and = refl;
      not_or = refl;
      and_first = refl;
      bracket_first = refl;
      grouped_left = refl;
      changed_places = refl;
      ordered_keys = refl;
      key_twice = refl;
      product_twice = refl;
      always_true = refl;
      seven_contradict = refl;
      nine_repeat = refl;
      inner_wide = refl;
      inner_right = refl;
      inner_nine = refl;
      not_wide = refl;
      not_seven = refl;
      malformed_first = refl;
      not_without = refl;
      not_with = refl;
      not_other = refl;
      not_opens = refl;
      not_shut = refl;
      or_alone = refl;
      bracket_alone = refl;
      bracket_both = refl;
      no_formula = refl;
    }
