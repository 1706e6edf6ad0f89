-- What the tests that the row maker makes on the arrays say: a refusal is the first condition that holds, and else the
-- rows of the segment's table are those for the user.
use Rattle.std.specs.Prelude.{Ok, Err, None, Some}
use mathlib.Core.Path.{◌≡◌, sym, ap, ◌∙◌}
use mathlib.Core.Bool.{true, false}
use Prim.Native.Nat.{ℕ, ◌≤◌, ◌<◌}
use native.Mathlib.Omega.{arith}
use lib.Dec.{eqb, ltb}
use lib.ListN.{length}
use borrow.Author.Tests.{lt-ltb, le-ltb}
use Rattle.base.specs.Conditions.{first_refusal}
use Rattle.model.specs.declared.answer.Refusal.{Refusal}
use Rattle.model.specs.declared.answer.Refusal.TheVariants.{UnknownUser, NoSegment, TooFewRows}
use Rattle.model.specs.Limits.{most_standing}
use Rattle.model.specs.State.{is_segment}
use Rattle.model.specs.Cells.{Cells, cell, row_at, table_at, user_count, owner_cell, state_of}
use Rattle.model.proofs.Refinement.ServedCalls.{segments_in, is_segment_lem, segment_at_lem}
use Rattle.rows.specs.declared.list.Listing.{Listing}
use Rattle.rows.specs.Rows.{rows_for}
use Rattle.rows.specs.Listing.{list_conditions}
use Rattle.rows.specs.Making.{listing_of, made_by, made_for, Makes}
use Rattle.rows.specs.Internal.{gathered, Gathered}

pub makes_refused : {arrays : Cells → Cells} {u s lent : ℕ} {r : Refusal} → ((d : Cells) → Err r ≡ made_for (state_of (arrays d)) u s lent)
    → Makes arrays u s lent (Err r)
makes_refused h = record { made = h; few = tt; fit = tt }

pub makes_accepted : {arrays : Cells → Cells} {u s lent : ℕ} {l : Listing} → l.count ≤ most_standing → l.count ≤ lent
    → ((d : Cells) → Ok l ≡ made_for (state_of (arrays d)) u s lent) → Makes arrays u s lent (Ok l)
makes_accepted few fit h = record { made = h; few = few; fit = fit }

module _ (d : Cells) (u s lent : ℕ) where
  by_first : (r : Refusal) → first_refusal (list_conditions (state_of d) u s lent) ≡ Some r → Err r ≡ made_for (state_of d) u s lent
  unfolding made_for
  by_first r e = sym (ap (made_by (rows_for (state_of d) u s)) e)

  pub unknown_user : ltb u (cell d.registry user_count) ≡ false → Err UnknownUser ≡ made_for (state_of d) u s lent
  unfolding state_of
  unknown_user h = by_first UnknownUser (rw h)

  module _ (known : ltb u (cell d.registry user_count) ≡ true) {n : ℕ} (count : n ≡ segments_in d) where
    pub no_segment_lem : n ≤ s → Err NoSegment ≡ made_for (state_of d) u s lent
    unfolding state_of
    no_segment_lem h = let None = is_segment_lem d s ∙ le-ltb s (segments_in d) (omega (arith, count)) in by_first NoSegment (rw (known, None))

    module _ (here : s < n) {l : Listing} (made : Gathered (eqb (cell (row_at (table_at d.segments s) 0) owner_cell) u) (table_at d.locks s) l) where
      rows_are : rows_for (state_of d) u s ≡ gathered (eqb (cell (row_at (table_at d.segments s) 0) owner_cell) u) (table_at d.locks s)
      unfolding rows_for gathered
      rows_are = rw (segment_at_lem d s (omega (arith, count)))

      listing_is : l ≡ listing_of (rows_for (state_of d) u s)
      listing_is = made.listing ∙ ap listing_of (sym rows_are)

      stands : is_segment (state_of d) s ≡ true
      stands = is_segment_lem d s ∙ lt-ltb s (segments_in d) (omega (arith, count))

      pub too_few : lent < l.count → Err TooFewRows ≡ made_for (state_of d) u s lent
      unfolding state_of
      too_few h =
          let short = lt-ltb lent (length (rows_for (state_of d) u s)) (omega (arith, ap (λ (k : Listing). k.count) listing_is)) in
          by_first TooFewRows (rw (known, stands, short))

      pub enough : l.count ≤ lent → Ok l ≡ made_for (state_of d) u s lent
      unfolding made_for state_of
      enough h =
          let room = le-ltb lent (length (rows_for (state_of d) u s)) (omega (arith, ap (λ (k : Listing). k.count) listing_is)) in
          let e : first_refusal (list_conditions (state_of d) u s lent) ≡ None = rw (known, stands, room) in
          ap Ok listing_is ∙ sym (ap (made_by (rows_for (state_of d) u s)) e)
