-- A key list that is closed up without one key, cell by cell: what was kept of the first i cells.
use mathlib.Core.Path.{◌≡◌, refl, sym, ap, ap₂, ◌∙◌}
use mathlib.Core.Bool.{not}
use mathlib.Core.List.{List, [], ◌∷◌, ◌++◌, append-nil, append_assoc}
use Prim.Native.Nat.{ℕ, zero, suc, ◌+◌, ◌-◌, ◌≤◌, ◌<◌}
use native.Mathlib.Numerals.{add-one}
use native.Mathlib.Omega.{arith}
use lib.Dec.{eqb}
use lib.ListN.{length, get_or, set, take, replicate}
use lib.Seq.{take_all, take-suc, set-append_seam}
use borrow.Author.Tests.{eq-eqb, ne_eqb}
use Rattle.base.specs.Lists.{keep}
use Rattle.model.specs.Limits.{most_listed}
use Rattle.model.specs.Cells.{Row, no_key, has_key, key_row}
use Rattle.base.proofs.Lists.{keep_append, length_append_one}
use Rattle.segments.specs.Internal.{without, Without}

fill_more : (n : ℕ) → 0 < n → replicate n no_key ≡ no_key ∷ replicate (n - 1) no_key
fill_more zero h = absurd (omega arith)
fill_more (suc n) h = let e : n ≡ suc n - 1 = omega arith in ap (λ (k : ℕ). no_key ∷ replicate k no_key) e

-- a key stored after those of a list that is closed up
pub key_row_snoc : (xs : List ℕ) (x : ℕ) → length xs < most_listed → set (key_row xs) (length xs) x ≡ key_row (xs ++ x ∷ [])
key_row_snoc xs x h =
    let n : ℕ = most_listed - length xs in
    let l = length_append_one xs x in
    let e : n - 1 ≡ most_listed - length (xs ++ x ∷ []) = omega arith in
    ap (λ (r : List ℕ). set (xs ++ r) (length xs) x) (fill_more n (omega arith))
    ∙ set-append_seam xs no_key (replicate (n - 1) no_key) x ∙ sym (append_assoc xs (x ∷ []) (replicate (n - 1) no_key))
    ∙ ap (λ (k : ℕ). (xs ++ x ∷ []) ++ replicate k no_key) e

pub record Removing (list : Row) (code : ℕ) (cells : Row) (count i : ℕ) : Type 0 where
  pub few : count ≤ i
  pub closed : cells ≡ key_row (without code (take i list))
  pub counted : count ≡ length (without code (take i list))

pub removing_start : {list : Row} {code : ℕ} → Removing list code (replicate 8 no_key) 0 0
removing_start = record { few = omega arith; closed = refl; counted = refl }

-- one cell more, with the keys but for the code that it adds
module _ {list : Row} {code : ℕ} {cells : Row} {count i : ℕ} (v : Removing list code cells count i) (low : i < length list) where
  kept : without code (take (i + 1) list) ≡ without code (take i list) ++ without code (get_or list i 0 ∷ [])
  kept =
      ap (without code) (ap (λ (n : ℕ). take n list) (add-one i) ∙ take-suc list i 0 low)
      ∙ ap (keep (λ y. not (eqb code y))) (keep_append has_key (take i list) (get_or list i 0 ∷ []))
      ∙ keep_append (λ y. not (eqb code y)) (keep has_key (take i list)) (keep has_key (get_or list i 0 ∷ []))

  -- nothing is kept
  skip : without code (get_or list i 0 ∷ []) ≡ [] → Removing list code cells count (i + 1)
  skip w =
      let same : without code (take (i + 1) list) ≡ without code (take i list) =
      kept ∙ ap (λ (r : List ℕ). without code (take i list) ++ r) w ∙ append-nil (without code (take i list)) in
      let few = v.few in
      record { few = omega arith; closed = v.closed ∙ sym (ap key_row same); counted = v.counted ∙ sym (ap length same) }

  pub removing_none : get_or list i 0 ≡ no_key → Removing list code cells count (i + 1)
  removing_none e = let n = eq-eqb (get_or list i 0) no_key e in skip (simp n)

  pub removing_hit : (get_or list i 0 ≡ no_key → ⊥) → get_or list i 0 ≡ code → Removing list code cells count (i + 1)
  removing_hit f e =
      let n = ne_eqb (get_or list i 0) no_key f in
      let h = eq-eqb code (get_or list i 0) (sym e) in
      skip (simp (n, h))

  pub removing_miss : length list ≤ most_listed → (get_or list i 0 ≡ no_key → ⊥) → (get_or list i 0 ≡ code → ⊥)
      → Removing list code (set cells count (get_or list i 0)) (count + 1) (i + 1)
  removing_miss eight f e =
      let n = ne_eqb (get_or list i 0) no_key f in
      let h = ne_eqb code (get_or list i 0) (λ q. e (sym q)) in
      let one : without code (get_or list i 0 ∷ []) ≡ get_or list i 0 ∷ [] = simp (n, h) in
      let grown : without code (take (i + 1) list) ≡ without code (take i list) ++ get_or list i 0 ∷ [] =
      kept ∙ ap (λ (r : List ℕ). without code (take i list) ++ r) one in
      let few = v.few in
      let counted = v.counted in
      let l = length_append_one (without code (take i list)) (get_or list i 0) in
      let longer : count + 1 ≡ length (without code (take i list) ++ get_or list i 0 ∷ []) = omega arith in
      record {
        few = omega arith;
        closed =
            ap₂ (λ (w : Row) (k : ℕ). set w k (get_or list i 0)) v.closed counted
            ∙ key_row_snoc (without code (take i list)) (get_or list i 0) (omega arith) ∙ sym (ap key_row grown);
        counted = longer ∙ sym (ap length grown);
      }

pub removing_end : {list : Row} {code : ℕ} {cells : Row} {count i : ℕ} → Removing list code cells count i → i ≡ length list → length list ≤ most_listed
    → Without list code (record { cells = cells; count = count })
removing_end {list} {code} {count = count} {i = i} v h eight =
    let whole : take i list ≡ list = take_all i list (omega arith) in
    let few = v.few in
    record {
      closed = v.closed ∙ ap (λ (w : Row). key_row (without code w)) whole;
      counted = v.counted ∙ ap (λ (w : Row). length (without code w)) whole;
      low = omega arith;
    }
