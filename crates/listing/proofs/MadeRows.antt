-- What the maker gives is what a listing gives: its answer, and the lent rows afterwards once the maker's are told in
-- the first of them.
use Rattle.std.specs.Prelude.{Ok, Err, Option, None, Some}
use mathlib.Core.Path.{◌≡◌, refl, sym, ap, ◌∙◌}
use mathlib.Core.List.{List, ◌++◌, map}
use Prim.Native.Nat.{ℕ, ◌-◌}
use native.Mathlib.Omega.{arith}
use lib.ListN.{length, take, drop, replicate, length-map}
use lib.Seq.{take_all, take-append_seam}
use Rattle.std.proofs.lemmas.List.{map-id}
use Rattle.base.specs.Conditions.{first_refusal}
use Rattle.model.specs.declared.answer.Refusal.{Refusal}
use Rattle.model.specs.Answers.{Answer}
use Rattle.model.specs.Limits.{most_standing}
use Rattle.model.specs.Cells.{Cells, state_of}
use Rattle.rows.specs.declared.row.Row.{Row}
use Rattle.rows.specs.declared.list.Listing.{Listing}
use Rattle.rows.specs.Rows.{rows_for}
use Rattle.rows.specs.Listing.{list_conditions, filled, listed_by, listed, Lists, ListsLent}
use Rattle.rows.specs.Making.{spare_row, listing_of, made_by, made_for, Makes}
use Rattle.listing.specs.Internal.{midway, ListsTold}

-- the rows that count
abbrev counted : Listing → List Row
counted l = take l.count l.rows

module _ {X : Type 0} (told : Row → X) where
  -- a list is written whole
  midway_whole : (xs : List Row) (lent : List X) → midway (map told xs) lent (length xs) ≡ filled (map told xs) lent
  midway_whole xs lent =
      let n = length-map xs told in
      ap (λ (l : List X). l ++ drop (length xs) lent) (take_all (length xs) (map told xs) (omega (arith, n)))
      ∙ ap (λ (k : ℕ). map told xs ++ drop k lent) (sym n)

  by_err : (rows : List Row) (lent : List X) (o : Option Refusal) (r : Refusal) → Err r ≡ made_by rows o → Lists (listed_by (map told rows) lent o) (Err r) lent
  by_err rows lent None r e = cc
  by_err rows lent (Some r') r e = record { answer = cc; rows = refl }

  by_ok : (rows : List Row) (lent : List X) (o : Option Refusal) (l : Listing) → Ok l ≡ made_by rows o
      → Lists (listed_by (map told rows) lent o) (Ok l.count) (midway (map told (counted l)) lent (length (counted l)))
  by_ok rows lent None l e =
      let is : l ≡ listing_of rows = cc in
      let whole : counted l ≡ rows = ap counted is ∙ take-append_seam rows (replicate (most_standing - length rows) spare_row) in
      record {
        answer = ap (λ (k : Listing). Ok k.count) is ∙ ap Ok (sym (length-map rows told));
        rows = ap (λ (xs : List Row). midway (map told xs) lent (length xs)) whole ∙ midway_whole rows lent;
      }
  by_ok rows lent (Some r) l e = cc

  pub lists_refused : (arrays : Cells → Cells) (u s : ℕ) (lent : List X) {r : Refusal} {a : Answer} → Makes arrays u s (length lent) (Err r) → a ≡ Err r
      → ListsTold told arrays u s lent a lent
  unfolding made_for
  lists_refused arrays u s lent {r} k e d =
      let c = state_of (arrays d) in
      let g = by_err (rows_for c u s) lent (first_refusal (list_conditions c u s (length lent))) r (k.made d) in
      record { answer = e ∙ g.answer; rows = g.rows }

  pub lists_made : (arrays : Cells → Cells) (u s : ℕ) (lent : List X) {l : Listing} {rows' : List X} → Makes arrays u s (length lent) (Ok l)
      → rows' ≡ midway (map told (counted l)) lent (length (counted l)) → ListsTold told arrays u s lent (Ok l.count) rows'
  unfolding made_for
  lists_made arrays u s lent {l} k e d =
      let c = state_of (arrays d) in
      let g = by_ok (rows_for c u s) lent (first_refusal (list_conditions c u s (length lent))) l (k.made d) in
      record { answer = g.answer; rows = e ∙ g.rows }

-- rows that are told as they are
pub lists_as_they_are : (arrays : Cells → Cells) (u s : ℕ) (lent : List Row) {rows' : List Row} {a : Answer} → ListsTold (λ r. r) arrays u s lent a rows' → ListsLent arrays u s lent a rows'
unfolding listed
lists_as_they_are arrays u s lent h d = rw (map-id (rows_for (state_of (arrays d)) u s)) at (h d)
