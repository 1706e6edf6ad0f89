-- From what the reader of a whole formula found to the answer, a law for each way that `compile` returns.
use Rattle.std.specs.Prelude.{Option, None, Some, Result, Ok, Err}
use mathlib.Core.Path.{◌≡◌, refl, sym, ap, ◌∙◌}
use mathlib.Core.Bool.{false}
use mathlib.Core.List.{List, [], ◌∷◌}
use Prim.Native.Nat.{ℕ, ◌+◌, ◌*◌, ◌≤◌, ◌<◌}
use native.Mathlib.Omega.{arith}
use lib.ListN.{length, length-drop}
use borrow.Author.Tests.{le-leb, lt-leb, eq-eqb, ne_eqb}
use Rattle.product.specs.Sum.{Sum?}
use Rattle.product.specs.Cells.{HoldsSum}
use Rattle.product.proofs.FilledRows.{sum_wide}
use Rattle.formula.specs.declared.text.Issued.{Issued}
use Rattle.formula.specs.declared.text.Refusal.{Refusal}
use Rattle.formula.specs.declared.text.Refusal.TheVariants.{Malformed, TooWide, Unsatisfiable}
use Rattle.formula.specs.declared.text.Compiled.{Compiled}
use Rattle.formula.specs.declared.reader.Node.{Node}
use Rattle.formula.specs.Tree.{ors}
use Rattle.formula.specs.Text.{most_bytes, most_deep}
use Rattle.formula.specs.Nodes.{list_of}
use Rattle.formula.specs.Internal.Reader.{Found, whole_of, read_text}
use Rattle.formula.specs.Outcome.{too_wide, unsatisfiable, judge_list, judge, outcome_of, answer_of, compiled_of}
use Rattle.formula.specs.Internal.Readers.{node, Reads, failed, parsed, OrAt}

-- the answer of a list of products that is written in rows

wide_list : (x : Sum?) {rows : List (List ℕ)} {k : ℕ} → HoldsSum x rows k → 8 < k → judge_list x ≡ too_wide
wide_list x {rows} w h = ap judge_list (sym w.reads ∙ sum_wide rows h)

unsatisfiable_list : (x : Sum?) {rows : List (List ℕ)} {k : ℕ} → HoldsSum x rows k → k ≡ 0 → judge_list x ≡ unsatisfiable
unsatisfiable_list None w h = absurd (omega (arith, w.count))
unsatisfiable_list (Some []) w h = refl
unsatisfiable_list (Some (p ∷ ps)) w h = absurd (omega (arith, w.count))

filled_list : (x : Sum?) {rows : List (List ℕ)} {k : ℕ} → HoldsSum x rows k → (k ≡ 0 → ⊥) → k ≤ 8 → Ok (record { count = k; rows = rows }) ≡ answer_of (judge_list x)
filled_list None w h l = absurd (omega (arith, w.count))
filled_list (Some []) w h l = absurd (h w.count)
filled_list (Some (p ∷ ps)) w h l = rw (w.cells, w.count)

-- the answer

pub long_text : (i : Issued) (s : List ℕ) → most_bytes < length s → Err Malformed ≡ compiled_of i s
unfolding outcome_of
long_text i s h = rw (lt-leb (length s) most_bytes h)

module _ (i : Issued) (s : List ℕ) (h : length s ≤ most_bytes) where
  short_text : {q : Option Node} {rows : List (List ℕ)} {c : Result Compiled Refusal} → OrAt i s most_deep false q rows 0
      → ((x : Found ors) → Reads false s rows q x → c ≡ answer_of (judge (whole_of x))) → c ≡ compiled_of i s
  unfolding outcome_of read_text
  short_text p f = rw (le-leb (length s) most_bytes h) (f _ (p (4 * length s + 3) (omega arith)))

  -- not spelt right, or not up to its end
  pub text_unread : {rows : List (List ℕ)} → OrAt i s most_deep false None rows 0 → Err Malformed ≡ compiled_of i s
  text_unread {rows} p = short_text p (λ x q. go q)
    where
      go : {x : Found ors} → Reads false s rows None x → Err Malformed ≡ answer_of (judge (whole_of x))
      go failed = refl

  module _ {a n : ℕ} {rows : List (List ℕ)} (p : OrAt i s most_deep false (node a n) rows 0) where
    pub text_longer : a < length s → Err Malformed ≡ compiled_of i s
    text_longer l = short_text p (λ x q. go q)
      where
        go : {x : Found ors} → Reads false s rows (node a n) x → Err Malformed ≡ answer_of (judge (whole_of x))
        go (parsed {rest} w k) = rw (ne_eqb (length rest) 0 (λ z. omega (arith, ap length w, length-drop a s)))

    module _ (l : length s ≤ a) where
      found : {c : Result Compiled Refusal} → ((x : Sum?) → HoldsSum x rows n → c ≡ answer_of (judge_list x)) → c ≡ compiled_of i s
      found {c} f = short_text p (λ x q. go q)
        where
          go : {x : Found ors} → Reads false s rows (node a n) x → c ≡ answer_of (judge (whole_of x))
          go (parsed {t} {rest} w k) = rw (eq-eqb (length rest) 0 (omega (arith, ap length w, length-drop a s))) (f (list_of false t) k)

      pub text_wide : 8 < n → Err TooWide ≡ compiled_of i s
      text_wide b = found (λ x w. ap answer_of (sym (wide_list x w b)))

      pub text_unsatisfiable : n ≡ 0 → Err Unsatisfiable ≡ compiled_of i s
      text_unsatisfiable b = found (λ x w. ap answer_of (sym (unsatisfiable_list x w b)))

      pub text_accepted : (n ≡ 0 → ⊥) → n ≤ 8 → Ok (record { count = n; rows = rows }) ≡ compiled_of i s
      text_accepted b d = found (λ x w. filled_list x w b d)
