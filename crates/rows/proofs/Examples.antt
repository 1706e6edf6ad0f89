-- By computing.
use Rattle.std.specs.Prelude.{Ok}
use mathlib.Core.Path.{◌≡◌, refl}
use mathlib.Core.List.{List, ◌++◌, map}
use Rattle.formula.specs.Outcome.{outcome_of}
use Rattle.model.specs.History.{Event, event}
use Rattle.model.specs.Replay.{events}
use Rattle.model.specs.Notation.{Expected, calls_of, Happens}
use Rattle.model.proofs.Unfoldings.{computing}
use Rattle.rows.specs.Rows.{rows_for}
use Rattle.rows.specs.Listing.{listed}
use Rattle.rows.specs.Theorems.Discretion.{SameButTexts}
use Rattle.rows.specs.Theorems.Examples.{office, branch, other_formulas, desk, other_desk, Examples}

office_happens : Happens (office ++ branch)
unfolding computing
office_happens = refl

other_happens_lem : Happens other_formulas
unfolding computing
other_happens_lem = refl

-- the events of lists whose calls are all accepted, so that their histories are read without computing the answers
-- again
abbrev accepted_all : List Expected → List Event
accepted_all es = map (λ e. event e.call (Ok e.value)) es

office_events : events outcome_of (calls_of office) ≡ accepted_all office
unfolding computing
office_events = refl

other_events : events outcome_of (calls_of other_formulas) ≡ accepted_all other_formulas
unfolding computing
other_events = refl

same_accepted : SameButTexts (accepted_all office) (accepted_all other_formulas)
unfolding computing
same_accepted = record { users = refl; segments = λ s. refl; locks = refl }

same_but_texts_lem : SameButTexts (events outcome_of (calls_of office)) (events outcome_of (calls_of other_formulas))
same_but_texts_lem = rw (office_events, other_events) same_accepted

pub examples : Examples
unfolding computing listed rows_for desk other_desk
examples =
    record {
      happens = office_happens;
      other_happens = other_happens_lem;
      same_but_texts = same_but_texts_lem;
      standing = refl;
      owner = refl;
      owner_exactly = refl;
      owner_short = (refl, refl, refl);
      colleague = refl;
      colleague_exactly = refl;
      colleague_short = (refl, refl, refl);
      code = refl;
      code_for_others = refl;
      no_locks = refl;
      no_locks_for_others = refl;
      six_keys = refl;
      six_keys_for_others = refl;
      stranger = (refl, refl, refl);
      stranger_nowhere = (refl, refl, refl);
      nowhere = (refl, refl, refl);
      other_owner = (refl, refl, refl);
      other_colleague = refl;
    }
