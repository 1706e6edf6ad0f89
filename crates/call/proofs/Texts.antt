-- A record's text is short; and once the text has the right length, the fields are judged as without one.
use mathlib.Core.Path.{◌≡◌, refl, sym, ◌∙◌}
use mathlib.Core.Bool.{Bool, true, false, cond, ◌&&◌, ◌||◌, or-true, and-false}
use mathlib.Core.List.{List, [], ◌∷◌}
use Prim.Native.Nat.{ℕ, ◌≤◌}
use native.Mathlib.Omega.{arith}
use lib.Dec.{eqb, leb}
use borrow.Author.Tests.{eqb-true, leb-true}
use Rattle.std.specs.Option.{is_some}
use Rattle.base.proofs.Truth.{and_right}
use Rattle.call.specs.Calls.{Decoded, TableRow, table, text_named, decoded_in, is_well_formed, decoded_of, text_fits, record_fits}

short : (lock : Bool) (n : ℕ) → cond lock (leb 1 n && leb n 96) (eqb n 0) ≡ true → n ≤ 96
short true n h = leb-true n 96 (and_right (leb 1 n) (leb n 96) h)
short false n h = omega (arith, eqb-true n 0 h)

pub text_short : (l a b c n : ℕ) → record_fits l a b c n ≡ true → n ≤ 96
unfolding record_fits
text_short l a b c n h = short (eqb l 76) n (and_right (is_well_formed (decoded_of l a b c n)) (text_fits l n) h)

-- ---- the fields alone

-- a text that fits is one that the letter names
named : (lock : Bool) (n : ℕ) → cond lock (leb 1 n && leb n 96) (eqb n 0) ≡ true → lock || eqb n 0 ≡ true
named true n h = refl
named false n h = h

module _ (l a b c n : ℕ) (h : text_named l n ≡ true) where
  as_without : (rs : List TableRow) → decoded_in rs l a b c n ≡ decoded_in rs l a b c 0
  as_without [] = refl
  as_without (r ∷ rs) = rw (h, or-true (eqb l 76), as_without rs)

fields_alone : (l a b c n : ℕ) → is_well_formed (decoded_of l a b c 0) && text_fits l n ≡ record_fits l a b c n
unfolding record_fits decoded_of
fields_alone l a b c n = go (text_fits l n) refl
  where
    go : (f : Bool) → text_fits l n ≡ f → is_well_formed (decoded_in (table a b c) l a b c 0) && f ≡ is_well_formed (decoded_in (table a b c) l a b c n) && f
    go true e = rw (as_without l a b c n (named (eqb l 76) n e) (table a b c))
    go false e = and-false (is_well_formed (decoded_in (table a b c) l a b c 0)) ∙ sym (and-false (is_well_formed (decoded_in (table a b c) l a b c n)))

pub judged_alone : (l a b c n : ℕ) (d : Decoded) → d ≡ decoded_of l a b c 0 → is_some d && text_fits l n ≡ record_fits l a b c n
judged_alone l a b c n d e = rw e (fields_alone l a b c n)
