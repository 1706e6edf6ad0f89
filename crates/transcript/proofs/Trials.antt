-- The worked examples, by computing.
use mathlib.Core.Path.{refl}
use Rattle.formula.specs.Spelling.{digits, decimal}
use Rattle.journal.proofs.Unfoldings.{computing as journal-computing}
use Rattle.model.proofs.Unfoldings.{computing as model-computing}
use Rattle.formula.proofs.Examples.{examples as formula-examples}
use Rattle.transcript.specs.Lines.{line, file_line, printed}
use Rattle.transcript.specs.Theorems.Trials.{StarredTrials, Trials}

pub starred_trials : StarredTrials
unfolding model-computing journal-computing digits decimal line file_line printed
starred_trials =
    record {
      route = refl;
      empty_desk = refl;
      empty_file = refl;
      texts_as_locks = refl;
      contradiction = formula-examples.contradiction;
      one_left = formula-examples.one;
      two = formula-examples.two;
      neither = formula-examples.neither;
      leading_zero = formula-examples.padded;
      four = formula-examples.four;
      twice = refl;
    }

pub trials : Trials
unfolding journal-computing digits decimal line file_line printed
trials =
    record {
      mark_missing = refl;
      version_one = refl;
      left_over = refl;
      deny_lock = refl;
      largest = refl;
    }
