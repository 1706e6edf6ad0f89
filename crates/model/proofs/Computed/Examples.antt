-- The worked examples, by computing.
use mathlib.Core.Path.{refl}
use Rattle.model.proofs.Unfoldings.{computing}
use Rattle.model.specs.Theorems.Examples.{Examples}

pub examples : Examples
unfolding computing
examples =
    record {
      route_happens = refl;
      empty_desk_happens = refl;
      texts_happen = refl;
      twice_happens = refl;
      twice_held = refl;
      twice_stored = refl;
      back_happens = refl;
      deep_happens = refl;
      edits_happen = refl;
      standing_happens = refl;
      standing_code = refl;
      standing_sheet = refl;
      call_fits = record { well_formed = refl; known = refl; entry = _; handed_out = refl; taken = refl };
      call_live = refl;
      access_fits = record { well_formed = refl; known = refl; entry = _; handed_out = refl; taken = refl };
      access_live = refl;
      last_fits = record { well_formed = refl; known = refl; entry = _; handed_out = refl; taken = refl };
      last_live = refl;
    }
