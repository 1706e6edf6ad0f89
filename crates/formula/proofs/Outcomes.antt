-- How the outcome of a text comes about: the text is in the grammar as some formula, whose list is judged, or as none,
-- and then it is malformed. Each of the theorems reads this off one way and the other.
use Rattle.std.specs.Prelude.{Option, None, Some}
use mathlib.Core.Path.{◌≡◌, refl, sym, ap, ◌∙◌}
use mathlib.Core.Bool.{Bool, true, false, cond}
use mathlib.Core.List.{List, [], ◌∷◌}
use Prim.Native.Nat.{ℕ, ◌≤◌, ◌<◌}
use native.Mathlib.Omega.{arith}
use lib.Dec.{leb}
use lib.ListN.{length}
use borrow.Author.Tests.{leb-true, leb-false, le-leb}
use Rattle.product.specs.Sum.{Sum, Sum?}
use Rattle.base.proofs.Truth.{never_true, never_false}
use Rattle.formula.specs.declared.text.Issued.{Issued}
use Rattle.formula.specs.Tree.{ors, Tree}
use Rattle.formula.specs.Text.{issued_to, most_bytes, Text}
use Rattle.formula.specs.Nodes.{products, fits, list_of}
use Rattle.formula.specs.Internal.Reader.{read_text}
use Rattle.formula.specs.Outcome.{Outcome, accepted, malformed, too_wide, unsatisfiable, judge_list, judge, outcome_of}
use Rattle.formula.proofs.ReaderCorrect.{Spells, spell_size, reader_sound, reader_complete}

module _ (i : Issued) (s : List ℕ) where
  pub text_spells : {t : Tree ors} → Text i s t → Spells (issued_to i) s t
  text_spells h = record { spelt = h.spelt; shallow = h.shallow; known_atoms = h.issued }

  spells_text : (t : Tree ors) → Spells (issued_to i) s t → length s ≤ most_bytes → Text i s t
  spells_text t h l =
      record {
        spelt = h.spelt;
        size = omega (arith, ap length h.spelt, spell_size t);
        short = l;
        shallow = h.shallow;
        issued = h.known_atoms;
      }

  pub outcome_text : {t : Tree ors} → Text i s t → outcome_of i s ≡ judge_list (list_of false t)
  unfolding outcome_of
  outcome_text {t} h = rw (le-leb (length s) most_bytes h.short, reader_complete (issued_to i) s t (text_spells h))

  pub data Judged : Outcome → Type 0 where
    formula : (t : Tree ors) → Text i s t → Judged (judge_list (list_of false t))
    none_such : ((t : Tree ors) → Text i s t → ⊥) → Judged malformed

  pub judged : Judged (outcome_of i s)
  unfolding outcome_of
  judged = sized (leb (length s) most_bytes) refl
    where
      read : length s ≤ most_bytes → (o : Option (Tree ors)) → read_text (issued_to i) s ≡ o → Judged (judge o)
      read l None e =
          none_such (λ t h.
          let r = reader_complete (issued_to i) s t (text_spells h) in
          let z : ◌≡◌ {A = ℕ} 0 1 = cc in
          omega arith)
      read l (Some t) e = formula t (spells_text t (reader_sound (issued_to i) s t e) l)

      sized : (b : Bool) → leb (length s) most_bytes ≡ b → Judged (cond b (judge (read_text (issued_to i) s)) malformed)
      sized true e = read (leb-true (length s) most_bytes e) (read_text (issued_to i) s) refl
      sized false e = none_such (λ t h. let l : most_bytes < length s = leb-false (length s) most_bytes e in omega (arith, h.short))

-- what an outcome says of the list that was judged

pub judged_formed : (x : Sum?) → judge_list x ≡ malformed → ⊥
judged_formed None e = let z : ◌≡◌ {A = ℕ} 0 1 = cc in omega arith
judged_formed (Some []) e = let z : ◌≡◌ {A = ℕ} 0 1 = cc in omega arith
judged_formed (Some (p ∷ ps)) e = let z : ◌≡◌ {A = ℕ} 0 1 = cc in omega arith

module _ (t : Tree ors) where
  pub list_fits : fits false t ≡ true → list_of false t ≡ Some (products false t)
  unfolding list_of
  list_fits h = rw h

  pub list_wide : fits false t ≡ false → list_of false t ≡ None
  unfolding list_of
  list_wide h = rw h

  pub judged_wide : judge_list (list_of false t) ≡ too_wide → fits false t ≡ false
  judged_wide j = never_true (fits false t) (λ f. fitting (products false t) (rw (list_fits f) at j))
    where
      fitting : (ps : Sum) → judge_list (Some ps) ≡ too_wide → ⊥
      fitting [] e = let z : ◌≡◌ {A = ℕ} 0 1 = cc in omega arith
      fitting (p ∷ ps) e = let z : ◌≡◌ {A = ℕ} 0 1 = cc in omega arith

  pub judged_fits : (o : Outcome) → judge_list (list_of false t) ≡ o → (o ≡ too_wide → ⊥) → fits false t ≡ true
  judged_fits o j n = never_false (fits false t) (λ f. n (sym j ∙ rw (list_wide f)))

  pub judged_unsatisfiable : judge_list (list_of false t) ≡ unsatisfiable → fits false t ≡ true → products false t ≡ []
  judged_unsatisfiable j f = go (products false t) (rw (list_fits f) at j)
    where
      go : (ps : Sum) → judge_list (Some ps) ≡ unsatisfiable → ps ≡ []
      go [] e = refl
      go (p ∷ ps) e = cc

  pub judged_accepted : (ps : Sum) → judge_list (list_of false t) ≡ accepted ps → fits false t ≡ true
      → (ps ≡ products false t) × (1 ≤ length ps)
  judged_accepted ps j f = go (products false t) (rw (list_fits f) at j)
    where
      go : (qs : Sum) → judge_list (Some qs) ≡ accepted ps → (ps ≡ qs) × (1 ≤ length ps)
      go [] e = let z : ◌≡◌ {A = ℕ} 0 1 = cc in absurd (omega arith)
      go (q ∷ qs) e = let i : ps ≡ q ∷ qs = cc in (i, rw i (omega arith))
