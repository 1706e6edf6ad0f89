-- A listing that is being made: the rows so far and those that the rest of the table gives are all.
use Rattle.std.specs.Prelude.{Option, None, Some}
use Rattle.std.specs.Option.{option_eq}
use mathlib.Core.Path.{◌≡◌, refl, sym, ap, ◌∙◌}
use mathlib.Core.Bool.{Bool, true, false, not, cond, ◌||◌}
use mathlib.Core.List.{List, [], ◌∷◌, ◌++◌, map, append-nil, append_assoc}
use Prim.Native.Nat.{ℕ, suc, ◌+◌, ◌-◌, ◌/◌, ◌≤◌, ◌<◌}
use native.Mathlib.Numerals.{add-one}
use native.Mathlib.Omega.{arith}
use lib.Dec.{eqb}
use lib.ListN.{length, set, drop, replicate, drop_of_length-le}
use lib.Seq.{drop-cons, set-append_seam}
use borrow.Author.Tests.{eq-eqb, ne_eqb}
use Rattle.base.specs.Lists.{keep_if}
use Rattle.base.proofs.Lists.{length_append_one, map_keep_if}
use Rattle.model.specs.Limits.{most_standing}
use Rattle.model.specs.State.{LockProduct, is_of_lock}
use Rattle.model.specs.Cells.{Row as CellsRow, Table, cell, row_at, lock_unit, is_used, used_rows, product_in}
use Rattle.rows.specs.declared.row.Row.{Row}
use Rattle.rows.specs.declared.list.Listing.{Listing}
use Rattle.rows.specs.Rows.{row_with_keys, row_without_keys, firsts_after, firsts_of}
use Rattle.rows.specs.Making.{spare_row, listing_of}
use Rattle.rows.specs.Internal.{row_in, gathered, with_row, Gathered}

-- ---- a listing with a row more

one_spare : (n : ℕ) → n < most_standing → replicate (most_standing - n) spare_row ≡ spare_row ∷ replicate (most_standing - suc n) spare_row
one_spare n h = let e : most_standing - n ≡ suc (most_standing - suc n) = omega arith in ap (λ (k : ℕ). replicate k spare_row) e

rows_more : (so : List Row) (r : Row) → length so < most_standing → set (listing_of so).rows (length so) r ≡ (listing_of (so ++ r ∷ [])).rows
rows_more so r h =
    ap (λ (l : List Row). set (so ++ l) (length so) r) (one_spare (length so) h)
    ∙ set-append_seam so spare_row (replicate (most_standing - suc (length so)) spare_row) r
    ∙ sym (append_assoc so (r ∷ []) (replicate (most_standing - length (so ++ r ∷ [])) spare_row)
    ∙ ap (λ (n : ℕ). so ++ r ∷ replicate (most_standing - n) spare_row) (length_append_one so r))

pub listing_more : (so : List Row) (r : Row) (l : Listing) → l ≡ listing_of so → length so < most_standing
    → with_row l r ≡ listing_of (so ++ r ∷ [])
listing_more so r l e h =
    let n : length so + 1 ≡ length (so ++ r ∷ []) = rw add-one (sym (length_append_one so r)) in
    rw e (λ i. record { count = n i; rows = rows_more so r h i })

-- ---- the rows that the rest of a table gives, from row p on, after a row of the lock `last`

abbrev firsts_from : Option ℕ → List LockProduct → List LockProduct
firsts_from None ps = firsts_of ps
firsts_from (Some n) ps = firsts_after n ps

abbrev rest_rows : Bool → Option ℕ → Table → List Row
rest_rows shown last t =
    let ps = map product_in (used_rows t) in
    cond shown (map row_with_keys ps) (map row_without_keys (firsts_from last ps))

-- the row is shown, or its lock is not that of the row before
abbrev pub adds : Bool → Option ℕ → CellsRow → Bool
adds shown last w = shown || not (option_eq eqb (Some (cell w 0 / lock_unit)) last)

rest_next : (shown : Bool) (last : Option ℕ) (w : CellsRow) (t : Table) → is_used w ≡ true
    → rest_rows shown last (w ∷ t) ≡ keep_if (adds shown last w) (row_in shown (product_in w)) (rest_rows shown (Some (cell w 0 / lock_unit)) t)
unfolding row_in
rest_next true last w t u = rw u
rest_next false None w t u = rw u
rest_next false (Some n) w t u = rw u (map_keep_if row_without_keys (not (is_of_lock n (product_in w))) (product_in w) (firsts_after (product_in w).lock (map product_in (used_rows t))))

rest_none : (shown : Bool) (last : Option ℕ) (t : Table) → used_rows t ≡ [] → rest_rows shown last t ≡ []
rest_none true last t e = rw e
rest_none false None t e = rw e
rest_none false (Some n) t e = rw e

-- ---- the loop

pub record Gathering (shown : Bool) (t : Table) (l : Listing) (last : Option ℕ) (p : ℕ) : Type 0 where
  pub so : List Row
  pub listing : l ≡ listing_of so
  pub few : length so ≤ p
  -- follows from these, and is said so that the loop finds the bound
  pub count : l.count ≤ p
  pub all : so ++ rest_rows shown last (drop p t) ≡ gathered shown t

pub gathering_start : (shown : Bool) (t : Table) (l : Listing) → l ≡ listing_of [] → Gathering shown t l None 0
unfolding gathered
gathering_start true t l e = record { so = []; listing = e; few = omega arith; count = rw e (omega arith); all = refl }
gathering_start false t l e = record { so = []; listing = e; few = omega arith; count = rw e (omega arith); all = refl }

module _ {shown : Bool} {t : Table} {l : Listing} {last : Option ℕ} {p : ℕ} (inv : Gathering shown t l last p) where
  ends : p ≤ most_standing → used_rows (drop p t) ≡ [] → Gathered shown t l
  ends m e =
      record {
        listing = inv.listing ∙ ap listing_of (sym (append-nil inv.so) ∙ ap (λ (rs : List Row). inv.so ++ rs) (sym (rest_none shown last (drop p t) e)) ∙ inv.all);
        few = omega (arith, inv.count);
      }

  pub gathered_all : p ≤ most_standing → length t ≤ p → Gathered shown t l
  gathered_all m h = ends m (ap used_rows (drop_of_length-le t h))

  pub gathered_early : p ≤ most_standing → p < length t → cell (row_at t p) 0 ≡ 0 → Gathered shown t l
  gathered_early m h z = let u = eq-eqb (cell (row_at t p) 0) 0 z in ends m (ap used_rows (drop-cons t p [] h) ∙ rw u)

  module _ (h : p < length t) (z : cell (row_at t p) 0 ≡ 0 → ⊥) where
    used : is_used (row_at t p) ≡ true
    used = ap not (ne_eqb (cell (row_at t p) 0) 0 z)

    abbrev lock : ℕ
    lock = cell (row_at t p) 0 / lock_unit

    step : inv.so ++ keep_if (adds shown last (row_at t p)) (row_in shown (product_in (row_at t p))) (rest_rows shown (Some lock) (drop (suc p) t)) ≡ gathered shown t
    step = ap (λ (rs : List Row). inv.so ++ rs) (sym (ap (rest_rows shown last) (drop-cons t p [] h) ∙ rest_next shown last (row_at t p) (drop (suc p) t) used)) ∙ inv.all

    pub gathering_skip : adds shown last (row_at t p) ≡ false → Gathering shown t l (Some lock) (p + 1)
    gathering_skip a = rw (add-one p) (record { so = inv.so; listing = inv.listing; few = omega (arith, inv.few); count = omega (arith, inv.count); all = rw a at step })

    pub gathering_keep : {r : Row} → length t ≤ most_standing → adds shown last (row_at t p) ≡ true → r ≡ row_in shown (product_in (row_at t p))
        → Gathering shown t (with_row l r) (Some lock) (p + 1)
    gathering_keep {r} m a e =
        rw (add-one p)
        (record {
          so = inv.so ++ r ∷ [];
          listing = listing_more inv.so r l inv.listing (omega (arith, inv.few));
          few = omega (arith, inv.few, length_append_one inv.so r);
          count = omega (arith, inv.count);
          all = append_assoc inv.so (r ∷ []) (rest_rows shown (Some lock) (drop (suc p) t)) ∙ rw e (rw a at step);
        })

-- where two ways meet, the invariant of what one of them left
pub gathering_same : {shown : Bool} {t : Table} {l l' : Listing} {last last' : Option ℕ} {p : ℕ} → l ≡ l' → last ≡ last' → Gathering shown t l' last' p → Gathering shown t l last p
gathering_same e o inv = rw (e, o) inv
