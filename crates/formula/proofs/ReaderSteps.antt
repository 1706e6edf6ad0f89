-- The steps of the readers in code: what a reader promises follows from what its callees promise, a law for each way
-- through a reader.
use Rattle.std.specs.Prelude.{Option, None, Some}
use mathlib.Core.Path.{◌≡◌, refl, sym, ap}
use mathlib.Core.Bool.{Bool, true, false, not, cond}
use mathlib.Core.List.{List, [], ◌∷◌}
use Prim.Native.Nat.{ℕ, zero, suc, ◌+◌, ◌*◌, ◌-◌, ◌≤◌, ◌<◌}
use native.Mathlib.Omega.{arith}
use lib.Dec.{eqb}
use lib.ListN.{length, get_or, drop, length-drop, length-append, drop_of_length-le}
use lib.Seq.{drop-drop}
use borrow.Author.Tests.{eq-eqb, ne_eqb, le-ltb}
use Rattle.product.specs.declared.literal.Key.TheVariants.{User, Thread, Segment, Defined}
use Rattle.product.specs.declared.literal.Literal.{Literal}
use Rattle.product.specs.Atom.{Atom, number_of}
use Rattle.product.specs.Sum.{Sum, Sum?, joined}
use Rattle.product.specs.Cells.{sum_of, HoldsSum}
use Rattle.base.proofs.Parts.{head_drop}
use Rattle.formula.specs.declared.text.Issued.{Issued}
use Rattle.formula.specs.declared.reader.Node.{Node}
use Rattle.formula.specs.Tree.{Level, nots, ands, ors, Tree, atom, negate, bracket, factor, and, term, or}
use Rattle.formula.specs.Spelling.{spell}
use Rattle.formula.specs.Text.{issued_to}
use Rattle.formula.specs.Nodes.{literal, join_and, list_of}
use Rattle.formula.specs.Internal.Reader.{Found, found, next, close, key_named, keep, named, read_number, read_atom, read_nots, read_ands, more_ands, read_ors, more_ors}
use Rattle.formula.specs.Internal.Readers.{NumberReads, no_digits, too_large, number, node, Reads, failed, parsed, AtomAt, NotAt, BracketAt, OrAt}
use Rattle.formula.proofs.ReaderCorrect.{Sound, nothing, reads, sound_nots, sound_ands, spell_size}
use Rattle.formula.proofs.Nodes.{list_atom, list_negate, list_bracket, list_factor, list_and, list_term, list_or}

-- places of the text

pub inside : (s : List ℕ) (at b : ℕ) → 1 ≤ b → get_or s at 0 ≡ b → at < length s
inside [] at b h e = omega arith
inside (x ∷ s) zero b h e = omega arith
inside (x ∷ s) (suc at) b h e = let i = inside s at b h e in omega arith

-- the same rows of the same list
list_at : {x y : Sum?} {rows : List (List ℕ)} {n : ℕ} → y ≡ x → HoldsSum x rows n → HoldsSum y rows n
list_at e w = rw e w

-- what was read is not empty, so what is left of a text is shorter
abbrev pub Shorter : {l : Level} → List ℕ → Found l → Type 0
Shorter s None = Unit {0}
Shorter s (Some p) = length p.1 < length s

pub shorter : {known : Atom → Bool} {k : ℕ} {l : Level} {s : List ℕ} {x : Found l} → Sound known k s x → Shorter s x
shorter nothing = tt
shorter (reads {t} {r} p d n) = omega (arith, ap length p, length-append (spell t) r, spell_size t)

-- what was read

module _ (odd : Bool) (s : List ℕ) where
  next_failed : {l m : Level} {rows new : List (List ℕ)} {x : Found l} (g : Tree l → List ℕ → Found m) → Reads odd s rows None x → Reads odd s new None (next x g)
  next_failed g failed = failed

  negated : {r : Option Node} {rows : List (List ℕ)} {x : Found nots} → Reads (not odd) s rows r x → Reads odd s rows r (next x (λ t u. found (negate t) u))
  negated failed = failed
  negated (parsed {t} w h) = parsed w (list_at (list_negate odd t) h)

  closed : {a n : ℕ} {rows : List (List ℕ)} {x : Found ors} → get_or s a 0 ≡ 41 → Reads odd s rows (node a n) x → Reads odd s rows (node (a + 1) n) (next x close)
  closed {a} b (parsed {t} u h) = rw (u, head_drop a s 0, b) (parsed {t = bracket t} (drop-drop 1 a s) (list_at (list_bracket odd t) h))

  unclosed : {a n : ℕ} {rows new : List (List ℕ)} {x : Found ors} → (get_or s a 0 ≡ 41 → ⊥) → Reads odd s rows (node a n) x → Reads odd s new None (next x close)
  unclosed {a} b (parsed u h) = rw (u, head_drop a s 0, ne_eqb (get_or s a 0) 41 b) failed

  further : {l : Level} {a n : ℕ} {rows : List (List ℕ)} {x : Found l} (at : ℕ) → Reads odd s rows (node a n) x → Shorter (drop at s) x → length s - a < length s - at
  further {a = a} at (parsed w h) g = omega (arith, ap length w, g, length-drop at s, length-drop a s)

-- NOT

module _ (i : Issued) (s : List ℕ) (level : ℕ) (odd : Bool) (at : ℕ) {r : Option Node} {rows : List (List ℕ)} where
  pub not_negated : get_or s at 0 ≡ 33 → NotAt i s level (not odd) r rows (at + 1) → NotAt i s level odd r rows at
  unfolding read_nots
  not_negated b p zero h = absurd (omega arith)
  not_negated b p (suc f) h =
      let j = inside s at 33 (omega arith) b in
      rw (head_drop at s 0, b, drop-drop 1 at s) (negated odd s (p f (omega arith)))

  pub not_bracketed : get_or s at 0 ≡ 40 → BracketAt i s level odd r rows (at + 1) → NotAt i s level odd r rows at
  unfolding read_nots
  not_bracketed b p zero h = absurd (omega arith)
  not_bracketed b p (suc f) h =
      let j = inside s at 40 (omega arith) b in
      rw (head_drop at s 0, b, drop-drop 1 at s) (p f (omega arith))

  pub not_atom : (get_or s at 0 ≡ 33 → ⊥) → (get_or s at 0 ≡ 40 → ⊥) → AtomAt i s odd r rows at → NotAt i s level odd r rows at
  unfolding read_nots
  not_atom b d p zero h = absurd (omega arith)
  not_atom b d p (suc f) h = rw (head_drop at s 0, ne_eqb (get_or s at 0) 33 b, ne_eqb (get_or s at 0) 40 d) p

-- Brackets: `level` may still be opened.

module _ (i : Issued) (s : List ℕ) (odd : Bool) (at : ℕ) {new : List (List ℕ)} where
  pub bracket_deep : (level : ℕ) → level ≡ 0 → BracketAt i s level odd None new at
  unfolding read_nots
  bracket_deep level e zero h = absurd (omega arith)
  bracket_deep level e (suc f) h = rw e failed

  module _ {level below : ℕ} (e : level ≡ suc below) where
    -- what was read inside, and what follows it
    inner : {q u : Option Node} {rows : List (List ℕ)} → OrAt i s below odd q rows at
        → ((x : Found ors) → Reads odd s rows q x → Reads odd s new u (next x close)) → BracketAt i s level odd u new at
    unfolding read_nots
    inner p g zero h = absurd (omega arith)
    inner p g (suc f) h = rw e (g _ (p f (omega arith)))

    pub bracket_failed : {rows : List (List ℕ)} → OrAt i s below odd None rows at → BracketAt i s level odd None new at
    bracket_failed p = inner p (λ x q. next_failed odd s close q)

    pub bracket_unclosed : {a n : ℕ} {rows : List (List ℕ)} → OrAt i s below odd (node a n) rows at → (get_or s a 0 ≡ 41 → ⊥) → BracketAt i s level odd None new at
    bracket_unclosed p b = inner p (λ x q. unclosed odd s b q)

    pub bracket_closed : {a n : ℕ} → OrAt i s below odd (node a n) new at → get_or s a 0 ≡ 41 → BracketAt i s level odd (node (a + 1) n) new at
    bracket_closed p b = inner p (λ x q. closed odd s b q)

-- AND and OR: parts joined by a byte, read one after the other. Both readers are one chain, at different levels.

pub record Chain (odd : Bool) (part whole : Level) (cost byte : ℕ) (join : Sum → Sum → Sum) : Type 0 where
  pub one : Tree part → Tree whole
  pub two : Tree whole → Tree part → Tree whole
  pub parts : ℕ → List ℕ → Found part
  pub wholes : ℕ → List ℕ → Found whole
  pub more : ℕ → Tree whole → List ℕ → Found whole
  pub printable : 1 ≤ byte
  pub wholes_suc : (f : ℕ) (s : List ℕ) → wholes (suc f) s ≡ next (parts f s) (λ t r. more f (one t) r)
  pub more_suc : (f : ℕ) (t : Tree whole) (s : List ℕ) → more (suc f) t s ≡ cond (eqb (get_or s 0 0) byte) (next (parts f (drop 1 s)) (λ u r. more f (two t u) r)) (found t s)
  pub list_one : (t : Tree part) → list_of odd (one t) ≡ list_of odd t
  pub list_two : (t : Tree whole) (u : Tree part) → list_of odd (two t u) ≡ joined join (list_of odd t) (list_of odd u)
  pub parts_shorter : (f : ℕ) (s : List ℕ) → Shorter s (parts f s)

module _ {odd : Bool} {part whole : Level} {cost byte : ℕ} {join : Sum → Sum → Sum} (c : Chain odd part whole cost byte join) (s : List ℕ) where
  abbrev pub PartAt : Option Node → List (List ℕ) → ℕ → Type 0
  PartAt r rows at = (f : ℕ) → 4 * (length s - at) + cost ≤ f → Reads odd s rows r (c.parts f (drop at s))

  abbrev pub WholeAt : Option Node → List (List ℕ) → ℕ → Type 0
  WholeAt r rows at = (f : ℕ) → 4 * (length s - at) + (cost + 1) ≤ f → Reads odd s rows r (c.wholes f (drop at s))

  abbrev pub MoreAt : Option Node → List (List ℕ) → ℕ → ℕ → List (List ℕ) → Type 0
  MoreAt r rows at n old = (t : Tree whole) → HoldsSum (list_of odd t) old n → (f : ℕ) → 4 * (length s - at) + (cost + 1) ≤ f → Reads odd s rows r (c.more f t (drop at s))

  pub chain_further : (at : ℕ) {a n : ℕ} {rows : List (List ℕ)} → PartAt (node a n) rows at → length s - a < length s - at
  chain_further at p = further odd s at (p (4 * (length s - at) + cost) (omega arith)) (c.parts_shorter (4 * (length s - at) + cost) (drop at s))

  -- a first part that fails
  pub chain_failed : (at : ℕ) {rows new : List (List ℕ)} → PartAt None rows at → WholeAt None new at
  chain_failed at p zero h = absurd (omega arith)
  chain_failed at p (suc f) h = rw (c.wholes_suc f (drop at s)) (next_failed odd s _ (p f (omega arith)))

  -- parts that were read and joined: what is promised of what follows them makes the promise of the whole
  pub record Joined (at : ℕ) (left : Node) (rows : List (List ℕ)) : Type 0 where
    pub shorter : length s - left.end < length s - at
    pub rest : {r : Option Node} {new : List (List ℕ)} → MoreAt r new left.end left.count rows → WholeAt r new at

  -- the first part, and what follows it
  begun : {a n : ℕ} {r : Option Node} {rows new : List (List ℕ)} {x : Found part} (f : ℕ) → 4 * (length s - a) + (cost + 1) ≤ f → Reads odd s rows (node a n) x → MoreAt r new a n rows
      → Reads odd s new r (next x (λ t u. c.more f (c.one t) u))
  begun f h (parsed {t} w k) m = rw w (m (c.one t) (list_at (c.list_one t) k) f h)

  pub chain_begun : (at : ℕ) {left : Node} {rows : List (List ℕ)} → PartAt (Some left) rows at → Joined at left rows
  chain_begun at {left} {rows} p = record { shorter = chain_further at p; rest = λ m. go m }
    where
      go : {r : Option Node} {new : List (List ℕ)} → MoreAt r new left.end left.count rows → WholeAt r new at
      go m zero h = absurd (omega arith)
      go m (suc f) h =
          let g = chain_further at p in
          rw (c.wholes_suc f (drop at s)) (begun f (omega arith) (p f (omega arith)) m)

  module _ {at : ℕ} {left : Node} {rows : List (List ℕ)} (j : Joined at left rows) where
    -- no further part
    pub chain_ended : (get_or s left.end 0 ≡ byte → ⊥) → WholeAt (Some left) rows at
    chain_ended b = j.rest (λ t k f h. go t k f h)
      where
        go : MoreAt (Some left) rows left.end left.count rows
        go t k zero h = absurd (omega arith)
        go t k (suc f) h = rw (c.more_suc f t (drop left.end s), head_drop left.end s 0, ne_eqb (get_or s left.end 0) byte b) (parsed refl k)

    module _ (b : get_or s left.end 0 ≡ byte) {right : List (List ℕ)} where
      -- a further part that fails
      pub chain_broken : {new : List (List ℕ)} → PartAt None right (left.end + 1) → WholeAt None new at
      chain_broken {new} p = j.rest (λ t k f h. go t k f h)
        where
          go : MoreAt None new left.end left.count rows
          go t k zero h = absurd (omega arith)
          go t k (suc f) h =
              let i = inside s left.end byte c.printable b in
              rw (c.more_suc f t (drop left.end s), head_drop left.end s 0, eq-eqb (get_or s left.end 0) byte b, drop-drop 1 left.end s) (next_failed odd s _ (p f (omega arith)))

      -- a further part, joined to what stands to its left
      grown : {a n m : ℕ} {r : Option Node} {both new : List (List ℕ)} {x : Found part} (t : Tree whole) (f : ℕ) → 4 * (length s - a) + (cost + 1) ≤ f → HoldsSum (list_of odd t) rows left.count
          → Reads odd s right (node a m) x → HoldsSum (joined join (sum_of left.count rows) (sum_of m right)) both n → MoreAt r new a n both → Reads odd s new r (next x (λ u v. c.more f (c.two t u) v))
      grown {n = n} {both = both} t f h k (parsed {t = u} d v) w m =
          let z : HoldsSum (joined join (list_of odd t) (list_of odd u)) both n = rw (k.reads, v.reads) at w in
          rw d (m (c.two t u) (list_at (c.list_two t u) z) f h)

      pub chain_grown : {one longer : Node} {both : List (List ℕ)} → PartAt (Some one) right (left.end + 1) → longer.end ≡ one.end
          → HoldsSum (joined join (sum_of left.count rows) (sum_of one.count right)) both longer.count → Joined at longer both
      chain_grown {one} {longer} {both} p e w = record { shorter = omega (arith, e, j.shorter, chain_further (left.end + 1) p); rest = λ m. j.rest (λ t k f h. go m t k f h) }
        where
          go : {r : Option Node} {new : List (List ℕ)} → MoreAt r new longer.end longer.count both → MoreAt r new left.end left.count rows
          go m t k zero h = absurd (omega arith)
          go {r} {new} m t k (suc f) h =
              let i = inside s left.end byte c.printable b in
              let g = chain_further (left.end + 1) p in
              let n : MoreAt r new one.end longer.count both = rw e at m in
              rw (c.more_suc f t (drop left.end s), head_drop left.end s 0, eq-eqb (get_or s left.end 0) byte b, drop-drop 1 left.end s) (grown t f (omega arith) k (p f (omega arith)) w n)

-- the chains of AND and of OR

module _ (known : Atom → Bool) (f k : ℕ) where
  pub ands_suc : (s : List ℕ) → read_ands known (suc f) k s ≡ next (read_nots known f k s) (λ t r. more_ands known f k (factor t) r)
  unfolding read_nots
  ands_suc s = refl

  pub more_ands_suc : (t : Tree ands) (s : List ℕ) → more_ands known (suc f) k t s ≡ cond (eqb (get_or s 0 0) 38) (next (read_nots known f k (drop 1 s)) (λ u r. more_ands known f k (and t u) r)) (found t s)
  unfolding read_nots
  more_ands_suc t s = refl

  pub ors_suc : (s : List ℕ) → read_ors known (suc f) k s ≡ next (read_ands known f k s) (λ t r. more_ors known f k (term t) r)
  unfolding read_nots
  ors_suc s = refl

  pub more_ors_suc : (t : Tree ors) (s : List ℕ) → more_ors known (suc f) k t s ≡ cond (eqb (get_or s 0 0) 124) (next (read_ands known f k (drop 1 s)) (λ u r. more_ors known f k (or t u) r)) (found t s)
  unfolding read_nots
  more_ors_suc t s = refl

pub list_or_under : (odd : Bool) (t : Tree ors) (u : Tree ands) → list_of odd (or t u) ≡ joined (join_and (not odd)) (list_of odd t) (list_of odd u)
list_or_under true t u = list_or true t u
list_or_under false t u = list_or false t u

module _ (i : Issued) (level : ℕ) (odd : Bool) where
  abbrev pub and_chain : Chain odd nots ands 1 38 (join_and odd)
  and_chain = record {
    one = factor;
    two = and;
    parts = λ f s. read_nots (issued_to i) f level s;
    wholes = λ f s. read_ands (issued_to i) f level s;
    more = λ f t s. more_ands (issued_to i) f level t s;
    printable = omega arith;
    wholes_suc = λ f s. ands_suc (issued_to i) f level s;
    more_suc = λ f t s. more_ands_suc (issued_to i) f level t s;
    list_one = λ t. list_factor odd t;
    list_two = λ t u. list_and odd t u;
    parts_shorter = λ f s. shorter (sound_nots (issued_to i) f level s);
  }

  abbrev pub or_chain : Chain odd ands ors 2 124 (join_and (not odd))
  or_chain = record {
    one = term;
    two = or;
    parts = λ f s. read_ands (issued_to i) f level s;
    wholes = λ f s. read_ors (issued_to i) f level s;
    more = λ f t s. more_ors (issued_to i) f level t s;
    printable = omega arith;
    wholes_suc = λ f s. ors_suc (issued_to i) f level s;
    more_suc = λ f t s. more_ors_suc (issued_to i) f level t s;
    list_one = λ t. list_term odd t;
    list_two = λ t u. list_or_under odd t u;
    parts_shorter = λ f s. shorter (sound_ands (issued_to i) f level s);
  }

-- keys

module _ (i : Issued) where
  large : (k : Atom) (r : List ℕ) → 65535 < number_of k → keep (issued_to i) (Some k) r ≡ None
  unfolding issued_to
  large k r h = rw (le-ltb (number_of k) 65536 (omega arith))

  large_named : (b n : ℕ) (r : List ℕ) → 65535 < n → keep (issued_to i) (key_named b n) r ≡ None
  large_named b n r h = go (eqb b 85) (eqb b 82) (eqb b 83) (eqb b 68)
    where
      go : (u v w x : Bool) → keep (issued_to i) (cond u (Some (User n)) (cond v (Some (Thread n)) (cond w (Some (Segment n)) (cond x (Some (Defined n)) None)))) r ≡ None
      go true v w x = large (User n) r h
      go false true w x = large (Thread n) r h
      go false false true x = large (Segment n) r h
      go false false false true = large (Defined n) r h
      go false false false false = refl

  atom_at : (s : List ℕ) (at : ℕ) → named (issued_to i) (get_or s at 0) (read_number (drop (at + 1) s)) ≡ read_atom (issued_to i) (drop at s)
  unfolding read_atom
  atom_at s at = rw (head_drop at s 0, drop-drop 1 at s)

  module _ (s : List ℕ) (odd : Bool) (at : ℕ) {rows : List (List ℕ)} where
    pub atom_past : length s ≤ at → AtomAt i s odd None rows at
    unfolding read_atom read_number
    atom_past h = rw (drop_of_length-le s h) failed

    no_key_lem : {x : Option (ℕ × List ℕ)} (b : ℕ) → NumberReads s None x → Reads odd s rows None (named (issued_to i) b x)
    no_key_lem b no_digits = failed
    no_key_lem b (too_large {p} h) = rw (large_named b p.0 p.1 h) failed

    pub atom_unread : NumberReads s None (read_number (drop (at + 1) s)) → AtomAt i s odd None rows at
    atom_unread p = rw (← atom_at s at) (no_key_lem (get_or s at 0) p)

    with_key : {v a : ℕ} {r : Option Node} {x : Option (ℕ × List ℕ)} (b : ℕ) {o : Option Atom} → NumberReads s (Some (v, a)) x → key_named b v ≡ o
        → Reads odd s rows r (keep (issued_to i) o (drop a s)) → Reads odd s rows r (named (issued_to i) b x)
    with_key b number q k = rw q k

    module _ {b v a : ℕ} (l : b ≡ get_or s at 0) (p : NumberReads s (Some (v, a)) (read_number (drop (at + 1) s))) where
      atom_keep : {o : Option Atom} {r : Option Node} → o ≡ key_named b v → Reads odd s rows r (keep (issued_to i) o (drop a s)) → AtomAt i s odd r rows at
      atom_keep n k = rw (← atom_at s at, ← l) (with_key b p (sym n) k)

      pub atom_unnamed : None ≡ key_named b v → AtomAt i s odd None rows at
      atom_unnamed n = atom_keep n failed

      module _ (k : Atom) (n : Some k ≡ key_named b v) where
        pub atom_unknown : issued_to i k ≡ false → AtomAt i s odd None rows at
        atom_unknown h = atom_keep n (rw h failed)

        pub atom_known : {j : ℕ} → issued_to i k ≡ true → HoldsSum (list_of odd (atom k)) rows j → AtomAt i s odd (node a j) rows at
        atom_known h w = atom_keep n (rw h (parsed refl w))

pub atom_list : (odd : Bool) (k : Atom) {l : Literal} {rows : List (List ℕ)} {n : ℕ} → l ≡ literal odd k → HoldsSum (Some ((l ∷ []) ∷ [])) rows n → HoldsSum (list_of odd (atom k)) rows n
atom_list odd k e w = rw (list_atom odd k, ← e) w
