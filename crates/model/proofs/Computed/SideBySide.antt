-- Two recalculations side by side, by computing. Each long list is a declaration of its own, so that the prover never
-- holds two of them.
use mathlib.Core.Path.{◌≡◌, refl}
use mathlib.Core.List.{map}
use Rattle.base.specs.Lists.{keep}
use Rattle.formula.specs.Outcome.{outcome_of}
use Rattle.call.specs.Calls.{table}
use Rattle.model.specs.Replay.{events}
use Rattle.model.specs.Notation.{Happens, calls_of, got}
use Rattle.model.specs.Theorems.Neighbours.{thread_letters, answers_to, answers_left}
use Rattle.model.specs.Theorems.SideBySide.{names_thread, busy, quiet, own, what_is_left, SideBySide}
use Rattle.model.proofs.Unfoldings.{computing}

every_letter_lem : map (λ r. r.letter) (keep names_thread (table 0 0 0)) ≡ thread_letters
unfolding computing
every_letter_lem = refl

busy_happens_lem : Happens busy
unfolding computing
busy_happens_lem = refl

quiet_happens_lem : Happens quiet
unfolding computing
quiet_happens_lem = refl

busy_own_lem : map got (answers_to 1 (events outcome_of (calls_of busy))) ≡ own
unfolding computing
busy_own_lem = refl

quiet_own_lem : map got (answers_to 1 (events outcome_of (calls_of quiet))) ≡ own
unfolding computing
quiet_own_lem = refl

busy_left_lem : map got (answers_left 1 (events outcome_of (calls_of busy))) ≡ what_is_left
unfolding computing
busy_left_lem = refl

quiet_left_lem : map got (answers_left 1 (events outcome_of (calls_of quiet))) ≡ what_is_left
unfolding computing
quiet_left_lem = refl

pub side_by_side : SideBySide
side_by_side =
    record {
      every_thread_letter = every_letter_lem;
      every_edit_letter = refl;
      busy_happens = busy_happens_lem;
      quiet_happens = quiet_happens_lem;
      busy_struck = refl;
      quiet_struck = refl;
      busy_own = busy_own_lem;
      quiet_own = quiet_own_lem;
      busy_left = busy_left_lem;
      quiet_left = quiet_left_lem;
    }
