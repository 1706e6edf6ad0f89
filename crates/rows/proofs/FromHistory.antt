-- A listing after a list of calls: what the state has of users, segments and products is what the history says
-- (`Mirror`, `StoredLocks`), and the standing locks' numbers rise (`Numbering`), so each has its row.
use Rattle.std.specs.Prelude.{Some}
use mathlib.Core.Path.{◌≡◌, refl, sym, ap, ◌∙◌}
use mathlib.Core.Bool.{true, false}
use mathlib.Core.List.{List, [], ◌∷◌, map, Memᴰ}
use Prim.Native.Nat.{ℕ, ◌≤◌}
use native.Mathlib.Omega.{arith}
use lib.Dec.{eqb, ltb}
use lib.ListN.{length}
use Rattle.product.specs.Product.{Product}
use Rattle.product.specs.Sum.{Sum}
use Rattle.formula.specs.Nodes.{products}
use Rattle.formula.specs.Outcome.{outcome_of}
use Rattle.formula.specs.Meaning.{text_holds}
use Rattle.formula.specs.Compiler.{everything}
use Rattle.formula.proofs.Opening.{laws}
use Rattle.call.specs.Calls.{Call, call_with}
use Rattle.base.specs.Lists.{concat_map, rising}
use Rattle.base.proofs.Lists.{All, All-keep, all_members, is_some_some, map_map, map_concat_map, rising_keep}
use Rattle.formula.specs.declared.text.Issued.{Issued}
use Rattle.model.specs.State.{State, LockProduct, owns, segment_at}
use Rattle.model.specs.Effects.{lock_product}
use Rattle.model.specs.Cells.{state_of}
use Rattle.model.specs.History.{Event, Entry, Lock, history}
use Rattle.model.specs.HistoryLocks.{stands_on, locks_on, products_of, stored_of}
use Rattle.model.specs.Replay.{reached, events}
use Rattle.model.specs.Theorems.Mirror.{Mirrors}
use Rattle.model.specs.Theorems.StoredLocks.{Stores}
use Rattle.model.proofs.Agreement.Mirror.{mirror}
use Rattle.model.proofs.Agreement.StoredLocks.{stored_locks}
use Rattle.model.proofs.Agreement.Numbering.{numbering}
use Rattle.rows.specs.declared.row.Row.{Row}
use Rattle.rows.specs.Rows.{list_row, row_with_keys, row_without_keys, firsts_of, rows_for}
use Rattle.rows.specs.Listing.{listed}
use Rattle.rows.specs.Theorems.FromHistory.{shown_rows, rows_from, listed_from, SpeltProducts, FromHistory}
use Rattle.rows.specs.Theorems.FromHistory.{lock_blank}
use Rattle.rows.proofs.BlankRows.{Filled, head, blanks_of_lem, rising_blanks}
use Rattle.rows.proofs.SameListings.{same_listing}

-- ---- after a list of calls

module _ (xs : List Call) where
  abbrev d : State
  d = state_of (reached outcome_of xs)

  abbrev es : List Event
  es = events outcome_of xs

  mirrors : Mirrors es d
  mirrors = mirror.state xs

  stores : Stores outcome_of text_holds es d
  stores = stored_locks.state xs

  in_order_lem : (s : ℕ) → rising (map (λ l. l.number) (locks_on es s)) ≡ true
  in_order_lem s = rising_keep (λ l. l.number) (stands_on s) (history es).locks (numbering xs (call_with 0 0 0 0 [])).in_order

  abbrev number : Lock → ℕ
  number l = l.number

  abbrev operations : Lock → ℕ
  operations l = l.operations

  abbrev sum : Lock → Sum
  sum l = products_of outcome_of l.text

  some_product : (ps : Sum) → 1 ≤ length ps → (p : Product) × (qs : Sum) × (ps ≡ p ∷ qs)
  some_product [] h = absurd (omega arith)
  some_product (p ∷ ps) h = (p, ps, refl)

  filled : (s : ℕ) → All (Filled number operations sum) (locks_on es s)
  filled s =
      All-keep (Filled number operations sum) (stands_on s) (history es).locks
      (all_members (Filled number operations sum) (history es).locks
      (λ l m. some_product (sum l) (laws.bounds everything l.text (sum l) (stores.text l m)).filled))

  blank_as : (s : ℕ) → map row_without_keys (firsts_of (segment_at d s).products) ≡ map lock_blank (locks_on es s)
  blank_as s =
      let ls = locks_on es s in
      let rise : rising (map (λ h. h.0) (map (head number operations sum) ls)) ≡ true = ap rising (map_map (λ h. h.0) (head number operations sum) ls) ∙ in_order_lem s in
      ap (λ (ps : List LockProduct). map row_without_keys (firsts_of ps)) (stores.segment s)
      ∙ blanks_of_lem number operations sum ls (filled s)
      ∙ rising_blanks (map (head number operations sum) ls) rise
      ∙ map_map (λ h. list_row h.0 h.1 []) (head number operations sum) ls

  shown_as : (s : ℕ) → map row_with_keys (segment_at d s).products ≡ concat_map shown_rows (locks_on es s)
  shown_as s =
      ap (map row_with_keys) (stores.segment s)
      ∙ map_concat_map row_with_keys (stored_of outcome_of) (locks_on es s)
      ∙ concat_same (locks_on es s)
    where
      concat_same : (ls : List Lock) → concat_map (λ l. map row_with_keys (stored_of outcome_of l)) ls ≡ concat_map shown_rows ls
      concat_same [] = refl
      concat_same (l ∷ ls) = rw (map_map row_with_keys (lock_product l.number l.operations) (products_of outcome_of l.text), concat_same ls) refl

  rows_as : (u s : ℕ) (e : Entry) → (history es).segments s ≡ Some e → rows_for d u s ≡ rows_from es u s
  unfolding rows_for
  rows_as u s e h =
      let mine : owns d u s ≡ eqb e.owner u = ap (λ (n : ℕ). eqb n u) (mirrors.owner s e h) in
      rw (mine, h, shown_as s, blank_as s) refl

  listing_as : (u s : ℕ) (lent : List Row) → listed d u s lent ≡ listed_from es u s lent
  unfolding listed
  listing_as u s lent =
      same_listing lent (ap (λ (i : Issued). ltb u i.users) mirrors.handed_out) (mirrors.segment s)
      (λ t. let (e, h) = is_some_some ((history es).segments s) t in rows_as u s e h)

  formula_as : (l : Lock) → Memᴰ l (history es).locks → SpeltProducts l.text
  formula_as l m =
      let f = stored_locks.formula xs l m in
      record {
        tree = f.tree;
        spelt = f.text;
        made =
            sym (products_back (products_of outcome_of l.text))
            ∙ ap (map (λ (r : LockProduct). r.product)) (sym (stores.lock l m) ∙ f.stored)
            ∙ products_back (products false f.tree);
      }
    where
      products_back : (ps : Sum) → map (λ (r : LockProduct). r.product) (map (lock_product l.number l.operations) ps) ≡ ps
      products_back [] = refl
      products_back (p ∷ ps) = ap (λ (qs : Sum). p ∷ qs) (products_back ps)

pub from_history : FromHistory
from_history = record { listing = listing_as; in_order = in_order_lem; formula = formula_as }
