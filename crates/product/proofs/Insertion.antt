-- One literal put among those of sixteen cells. The loop carries a literal upwards: at place i the cells below i are
-- final, and the whole is they, then the carried literal put among the rest.
use mathlib.Core.Path.{◌≡◌, refl, sym, ap, subst, ◌∙◌}
use mathlib.Core.Bool.{Bool, true, false, cond}
use mathlib.Core.List.{List, [], ◌∷◌, ◌++◌, append_assoc}
use Prim.Native.Nat.{ℕ, ◌+◌, ◌-◌, ◌≤◌, ◌<◌}
use native.Mathlib.Omega.{arith}
use lib.Dec.{eqb}
use lib.ListN.{length, get_or, set, drop, replicate, length-set, length-drop, length-replicate}
use lib.Seq.{drop-set-lt, get_or-set_same, get_or-set_other}
use borrow.Author.Tests.{eqb-true, eqb-false}
use Rattle.product.specs.declared.literal.Literal.{Literal}
use Rattle.product.specs.Product.{Product, same, before, insert}
use Rattle.product.specs.Code.{literal_of, Encoded}
use Rattle.product.specs.Internal.{wide_of, Blank}
use Rattle.product.proofs.Codes.{encoded_read}
use Rattle.base.proofs.Parts.{blank_next, length_part, part_cons, part_past, part_snoc, part_step, part_after, part_cut}

-- cells with 0 beyond n are sixteen
pub blank_length : {cells : List ℕ} {n : ℕ} → Blank cells n → length cells ≡ 16
blank_length {cells} {n} b = omega (arith, b.most, length-drop n cells, ap length b.rest, length-replicate {A = ℕ} (16 - n) 0)

-- a loop over the literals: what is left at i, and at the end
pub wide_cons : {cells : List ℕ} {n : ℕ} → Blank cells n → (i : ℕ) → i < n → drop i (wide_of n cells) ≡ literal_of (get_or cells i 0) ∷ drop (i + 1) (wide_of n cells)
wide_cons {cells} {n} b i h = part_cons literal_of cells n (omega (arith, b.most, blank_length b)) i 0 h

pub wide_past : {cells : List ℕ} {n : ℕ} → Blank cells n → (i : ℕ) → n ≤ i → drop i (wide_of n cells) ≡ []
wide_past {cells} {n} b i h = part_past literal_of cells n (omega (arith, b.most, blank_length b)) i h

pub wide_length : {cells : List ℕ} {n : ℕ} → Blank cells n → length (wide_of n cells) ≡ n
wide_length {cells} {n} b = length_part literal_of cells n (omega (arith, b.most, blank_length b))

-- x put among n literals of sixteen cells
pub record Inserted (x : Literal) (n : ℕ) (old cells : List ℕ) (r : ℕ) : Type 0 where
  pub product : wide_of r cells ≡ insert x (wide_of n old)
  pub blank : Blank cells r
  pub few : r ≤ n + 1

-- of the product that they are

module _ {cells : List ℕ} {n : ℕ} {p : Product} (b : Blank cells n) (v : wide_of n cells ≡ p) where
  pub view_length : length p ≡ n
  view_length = ap length (sym v) ∙ wide_length b

  pub room_left : length p < 12 → n < 12
  room_left h = omega (arith, view_length)

  pub inserted : {x : Literal} {new : List ℕ} {r k : ℕ} → k ≡ r → Inserted x n cells new r
      → (wide_of k new ≡ insert x p) × (length (wide_of k new) ≤ length p + 1) × Blank new k
  inserted {x} e t = rw e (t.product ∙ ap (insert x) v, omega (arith, t.few, wide_length t.blank, view_length), t.blank)

pub record Placing (x : Literal) (n : ℕ) (old cells : List ℕ) (carried : Literal) (i : ℕ) : Type 0 where
  pub below : i ≤ n
  pub size : length cells ≡ 16
  pub past : drop n cells ≡ replicate (16 - n) 0
  pub coded : (j : ℕ) → j < n → get_or cells j 0 < 524288
  pub whole : insert x (wide_of n old) ≡ wide_of i cells ++ insert carried (drop i (wide_of n cells))

-- a number of a literal, stored
stored : (cells : List ℕ) (n i v : ℕ) → i < length cells → v < 524288 → ((j : ℕ) → j < n → (j ≡ i → ⊥) → get_or cells j 0 < 524288)
    → (j : ℕ) → j < n → get_or (set cells i v) j 0 < 524288
stored cells n i v l h other j k = go (eqb j i) refl
  where
    go : (b : Bool) → eqb j i ≡ b → get_or (set cells i v) j 0 < 524288
    go true e =
        let s : get_or (set cells i v) j 0 ≡ v = ap (λ (z : ℕ). get_or (set cells i v) z 0) (eqb-true j i e) ∙ get_or-set_same cells i v 0 l in
        omega (arith, s, h)
    go false e =
        let d = eqb-false j i e in
        let s : get_or (set cells i v) j 0 ≡ get_or cells j 0 = get_or-set_other cells i j v 0 d in
        omega (arith, s, other j k d)

module _ {x : Literal} {n : ℕ} {old cells : List ℕ} {carried : Literal} {i : ℕ} (s : n < 12) (p : Placing x n old cells carried i) where
  abbrev ahead_of : Literal → Product
  ahead_of y =
      cond (same carried y) (drop i (wide_of n cells)) (cond (before carried y) carried y ∷ insert (cond (before carried y) y carried) (drop (i + 1) (wide_of n cells)))

  ahead : i < n → insert carried (drop i (wide_of n cells)) ≡ ahead_of (literal_of (get_or cells i 0))
  unfolding insert
  ahead h = rw (part_cons literal_of cells n (omega (arith, p.size)) i 0 h)

  module _ (h : i < n) (y : Literal) (r : y ≡ literal_of (get_or cells i 0)) where
    ahead_y : insert x (wide_of n old) ≡ wide_of i cells ++ ahead_of y
    ahead_y = p.whole ∙ ap (λ (q : Product). wide_of i cells ++ q) (ahead h ∙ ap ahead_of (sym r))

    pub placing_same : {b : Bool} → b ≡ same carried y → b ≡ true → Inserted x n old cells n
    placing_same e t =
        let w : same carried y ≡ true = sym e ∙ t in
        record {
          product = part_cut literal_of cells n i p.below ∙ sym (ahead_y ∙ rw w);
          blank = record { most = omega arith; rest = p.past; coded = p.coded };
          few = omega arith;
        }

    module _ {b : Bool} (e : b ≡ same carried y) (f : b ≡ false) {c : Bool} (g : c ≡ before carried y) where
      pub placing_put : c ≡ true → {v : ℕ} → Encoded carried v → Placing x n old (set cells i v) y (i + 1)
      placing_put t {v} k =
          let w : same carried y ≡ false = sym e ∙ f in
          let z : before carried y ≡ true = sym g ∙ t in
          record {
            below = omega arith;
            size = length-set cells i v ∙ p.size;
            past = drop-set-lt n cells i v h ∙ p.past;
            coded = stored cells n i v (omega (arith, p.size)) k.low (λ j a d. p.coded j a);
            whole =
                ahead_y ∙ rw (w, z, part_after literal_of cells n i v h, part_snoc literal_of cells i v (omega (arith, p.size)), encoded_read k)
                (sym (append_assoc (wide_of i cells) (carried ∷ []) (insert y (drop (i + 1) (wide_of n cells)))));
          }

      pub placing_keep : c ≡ false → Placing x n old cells carried (i + 1)
      placing_keep t =
          let w : same carried y ≡ false = sym e ∙ f in
          let z : before carried y ≡ false = sym g ∙ t in
          record {
            below = omega arith;
            size = p.size;
            past = p.past;
            coded = p.coded;
            whole =
                ahead_y ∙ rw (w, z, part_step literal_of cells i 0 (omega (arith, p.size)), r)
                (sym (append_assoc (wide_of i cells) (literal_of (get_or cells i 0) ∷ []) (insert carried (drop (i + 1) (wide_of n cells)))));
          }

  pub placing_end : n ≤ i → {v : ℕ} → Encoded carried v → Inserted x n old (set cells n v) (n + 1)
  unfolding insert
  placing_end h {v} k =
      let e : i ≡ n = omega (arith, p.below) in
      record {
        product = part_snoc literal_of cells n v (omega (arith, p.size)) ∙ rw (encoded_read k) (sym (p.whole ∙ rw (part_past literal_of cells n (omega (arith, p.size)) i h, e)));
        blank =
            record {
              most = omega arith;
              rest = drop-set-lt (n + 1) cells n v (omega arith) ∙ blank_next 0 cells 16 n p.past;
              coded = stored cells (n + 1) n v (omega (arith, p.size)) k.low (λ j a d. p.coded j (omega (arith, a, d)));
            };
        few = omega arith;
      }

-- the same where the count is said in another way
pub placing_last : {x : Literal} {n : ℕ} {old cells : List ℕ} {carried : Literal} {i : ℕ} → n < 12 → Placing x n old cells carried i → n ≤ i
    → {k v : ℕ} → k ≡ n → Encoded carried v → Inserted x n old (set cells k v) (n + 1)
placing_last s p h e d = rw e (placing_end s p h d)

pub placing_as : {x : Literal} {n : ℕ} {old cells cells' : List ℕ} {carried carried' : Literal} {i : ℕ} → cells' ≡ cells → carried' ≡ carried → Placing x n old cells carried i → Placing x n old cells' carried' i
placing_as {x} {n} {old} {cells} {cells'} {carried} {carried'} {i} e f p =
    subst (λ (k : Literal). Placing x n old cells' k i) (sym f) (subst (λ (s : List ℕ). Placing x n old s carried i) (sym e) p)
