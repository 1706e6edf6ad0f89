-- The opening law of an accepted text, its bounds, and with them the laws of the compiler.
use Rattle.std.specs.Prelude.{Some}
use mathlib.Core.Path.{◌≡◌, refl, sym, ap, ◌∙◌}
use mathlib.Core.Bool.{true, false}
use mathlib.Core.List.{List, [], ◌∷◌}
use Prim.Native.Nat.{ℕ, ◌≤◌}
use native.Mathlib.Omega.{arith}
use lib.Dec.{leb, ltb}
use lib.ListN.{length}
use borrow.Author.Tests.{leb-true, ltb-true}
use Rattle.product.specs.declared.literal.Literal.{Literal}
use Rattle.product.specs.declared.literal.Key.TheVariants.{User, Thread, Segment, Defined}
use Rattle.product.specs.Atom.{Atom, number_of, atom_of}
use Rattle.product.specs.Product.{All, no_more, and_more}
use Rattle.product.specs.Sum.{Sum, opens_any, most_products, most_literals, narrow, fits_node}
use Rattle.product.specs.Code.{number_limit, Numbered}
use Rattle.product.specs.Held.{opens_sum}
use Rattle.base.proofs.Truth.{and_both}
use Rattle.product.proofs.EveryLiteral.{all_mapped}
use Rattle.product.proofs.StoredSums.{sum_back}
use Rattle.product.proofs.OrderedProducts.{Ordered, ordered_once}
use Rattle.formula.specs.declared.text.Issued.{Issued}
use Rattle.formula.specs.Tree.{ors, Tree}
use Rattle.formula.specs.Text.{Text, issued_of, issued_to, all_issued}
use Rattle.formula.specs.Nodes.{products, fits}
use Rattle.formula.specs.Outcome.{Outcome, accepted, too_wide, judge_list, outcome_of}
use Rattle.formula.specs.Compiler.{Kept, Bounded, everything, Laws}
use Rattle.formula.specs.Theorems.Opening.{Opened, OpeningLaw, AcceptedWhere, HoldsSpelt, StoredLaw, StoredOpens}
use Rattle.formula.specs.Meaning.{text_holds}
use Rattle.formula.proofs.ReaderCorrect.{reader_complete}
use Rattle.formula.proofs.Nodes.{opening, every_atom_lem, every_more, products_ordered, products_atoms, products_witness, fits_node_lem}
use Rattle.formula.proofs.Outcomes.{outcome_text, Judged, formula, none_such, judged, list_fits, judged_fits, judged_accepted}

-- the bounds

narrow_short : (ps : Sum) → narrow ps ≡ true → All (λ p. length p ≤ most_literals) ps
unfolding narrow
narrow_short [] h = no_more
narrow_short (p ∷ ps) h =
    let b = and_both (leb (length p) most_literals) (narrow ps) h in
    and_more (leb-true (length p) most_literals b.0) (narrow_short ps b.1)

issued_numbered : (i : Issued) (x : Literal) → issued_to i (atom_of x) ≡ true → Numbered x
unfolding issued_to
issued_numbered i x h =
    let b = and_both (ltb (number_of (atom_of x)) number_limit) (ltb (number_of (atom_of x)) (issued_of i (atom_of x))) h in
    ltb-true (number_of (atom_of x)) number_limit b.0

all_kept : (i : Issued) {ps : Sum} → All (λ p. length p ≤ most_literals) ps → All Ordered ps
    → All (λ p. All (λ x. issued_to i (atom_of x) ≡ true) p) ps → All Kept ps
all_kept i no_more no_more no_more = no_more
all_kept i (and_more {x = p} s r) (and_more o q) (and_more a t) =
    and_more
    (record { short = s; rising = o; single = ordered_once p o; numbers = all_mapped (issued_numbered i) a })
    (all_kept i r q t)

products_bounded : (i : Issued) (t : Tree ors) → all_issued i t ≡ true → fits false t ≡ true → 1 ≤ length (products false t)
    → Bounded (products false t)
unfolding fits_node
products_bounded i t h f l =
    let ps = products false t in
    let b = and_both (leb (length ps) most_products) (narrow ps) (fits_node_lem false t f) in
    record {
      filled = l;
      few = leb-true (length ps) most_products b.0;
      each = all_kept i (narrow_short ps b.1) (products_ordered false t) (products_atoms (issued_to i) false t h);
    }

-- the law

pub opening_law : OpeningLaw
opening_law i s ps e = go (judged i s) e
  where
    other : accepted ps ≡ too_wide → ⊥
    other h = let z : ◌≡◌ {A = ℕ} 0 1 = cc in omega arith

    go : {o : Outcome} → Judged i s o → o ≡ accepted ps → Opened i s ps
    go (formula t h) j =
        let f = judged_fits t (accepted ps) j other in
        let a = judged_accepted t ps j f in
        record {
          tree = t;
          text = h;
          fit = f;
          list = a.0;
          witness = products_witness t (rw a.0 at a.1);
          law = λ ρ. rw a.0 (opening ρ false t);
          bounds = rw a.0 (products_bounded i t h.issued f (rw a.0 at a.1));
        }
    go (none_such n) j = let z : ◌≡◌ {A = ℕ} 0 1 = cc in absurd (omega arith)

pub accepted_where : AcceptedWhere
unfolding opens_any
accepted_where i s t h f ρ e = outcome_text i s h ∙ rw (list_fits t f) (go (products false t) (opening ρ false t ∙ e))
  where
    go : (ps : Sum) → opens_any ρ ps ≡ true → judge_list (Some ps) ≡ accepted ps
    go [] o = cc
    go (p ∷ ps) o = refl

-- the formula of a text

pub holds_spelt : HoldsSpelt
unfolding text_holds
holds_spelt i s t h ρ =
    rw (reader_complete (λ a. true) s t (record { spelt = h.spelt; shallow = h.shallow; known_atoms = every_atom_lem t }))

-- a text under some counts is one under the greatest

issued_everywhere : (i : Issued) (a : Atom) → issued_to i a ≡ true → issued_to everything a ≡ true
unfolding issued_to
issued_everywhere i (User n) h = let b = and_both (ltb n number_limit) (ltb n i.users) h in simp b.0
issued_everywhere i (Thread n) h = let b = and_both (ltb n number_limit) (ltb n i.threads) h in simp b.0
issued_everywhere i (Segment n) h = let b = and_both (ltb n number_limit) (ltb n i.segments) h in simp b.0
issued_everywhere i (Defined n) h = let b = and_both (ltb n number_limit) (ltb n i.defined) h in simp b.0

text_everywhere : (i : Issued) (s : List ℕ) (t : Tree ors) → Text i s t → Text everything s t
text_everywhere i s t h =
    record { spelt = h.spelt; size = h.size; short = h.short; shallow = h.shallow; issued = every_more (issued_to i) (issued_to everything) (issued_everywhere i) t h.issued }

compiled_everywhere : (i : Issued) (s : List ℕ) (ps : Sum) → outcome_of i s ≡ accepted ps → outcome_of everything s ≡ accepted ps
compiled_everywhere i s ps e =
    let o = opening_law i s ps e in
    accepted_where everything s o.tree (text_everywhere i s o.tree o.text) o.fit o.witness.0 o.witness.1 ∙ ap accepted (sym o.list)

-- the laws of the compiler, of that formula
pub laws : Laws outcome_of text_holds
laws =
    record {
      opening = λ i s ps e ρ. let o = opening_law i s ps e in o.law ρ ∙ sym (holds_spelt i s o.tree o.text ρ);
      bounds = λ i s ps e. (opening_law i s ps e).bounds;
      issued = λ i s ps e. let o = opening_law i s ps e in rw o.list (products_atoms (issued_to i) false o.tree o.text.issued);
      everywhere = compiled_everywhere;
    }

-- what is stored

pub stored_law : StoredLaw
stored_law i s ps e =
    let b = (opening_law i s ps e).bounds in
    sum_back ps b.few (all_mapped (λ p k. record { short = k.short; numbers = k.numbers }) b.each)

pub stored_opens_lem : StoredOpens
stored_opens_lem i s ps e ρ = ap (opens_sum ρ) (stored_law i s ps e) ∙ laws.opening i s ps e ρ
