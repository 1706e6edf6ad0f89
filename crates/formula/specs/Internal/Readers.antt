-- What the crate's private functions promise each other. Nothing here is part of what a reader must believe. The
-- readers' promise: their answer is that of the reader of lists, with the tree's products in the rows in place of the
-- tree.
use Rattle.std.specs.Prelude.{List, ℕ, Bool, ◌≡◌, ◌+◌, ◌*◌, ◌-◌, ◌≤◌, ◌<◌, length, drop, Option, None, Some}
use Rattle.product.specs.Cells.{HoldsSum}
use Rattle.formula.specs.declared.text.Issued.{Issued}
use Rattle.formula.specs.declared.reader.Node.{Node}
use Rattle.formula.specs.Tree.{Level, Tree}
use Rattle.formula.specs.Text.{issued_to}
use Rattle.formula.specs.Nodes.{list_of}
use Rattle.formula.specs.Internal.Reader.{Found, read_atom, read_nots, read_bracket, read_ands, read_ors}

-- the largest number of 16 bits
abbrev pub most_number : ℕ
most_number = 65535

-- a number, of what was read: nothing, one of more than 16 bits, or one and the place after it
pub data NumberReads (s : List ℕ) : Option (ℕ × ℕ) → Option (ℕ × List ℕ) → Type 0 where
  no_digits : NumberReads s None None
  too_large : {p : ℕ × List ℕ} → most_number < p.0 → NumberReads s None (Some p)
  number : {n at : ℕ} → NumberReads s (Some (n, at)) (Some (n, drop at s))

-- a formula that was read
abbrev pub node : ℕ → ℕ → Option Node
node at n = Some (record { end = at; count = n })

-- an answer and rows, of what was read: nothing, or a tree's products and the place after it
pub data Reads (odd : Bool) (s : List ℕ) {l : Level} (rows : List (List ℕ)) : Option Node → Found l → Type 0 where
  failed : Reads odd s rows None None
  parsed : {t : Tree l} {rest : List ℕ} {at n : ℕ} → rest ≡ drop at s → HoldsSum (list_of odd t) rows n
      → Reads odd s rows (node at n) (Some (t, rest))

-- Each promise holds at any fuel that is enough for the bytes that remain.
module _ (i : Issued) (s : List ℕ) (level : ℕ) (odd : Bool) (r : Option Node) (rows : List (List ℕ)) where
  abbrev pub NotAt : ℕ → Type 0
  NotAt at = (f : ℕ) → 4 * (length s - at) + 1 ≤ f → Reads odd s rows r (read_nots (issued_to i) f level (drop at s))

  abbrev pub BracketAt : ℕ → Type 0
  BracketAt at =
      (f : ℕ) → 4 * (length s - at) + 4 ≤ f → Reads odd s rows r (read_bracket (issued_to i) f level (drop at s))

  abbrev pub AndAt : ℕ → Type 0
  AndAt at = (f : ℕ) → 4 * (length s - at) + 2 ≤ f → Reads odd s rows r (read_ands (issued_to i) f level (drop at s))

  abbrev pub OrAt : ℕ → Type 0
  OrAt at = (f : ℕ) → 4 * (length s - at) + 3 ≤ f → Reads odd s rows r (read_ors (issued_to i) f level (drop at s))

abbrev pub AtomAt : Issued → List ℕ → Bool → Option Node → List (List ℕ) → ℕ → Type 0
AtomAt i s odd r rows at = Reads odd s rows r (read_atom (issued_to i) (drop at s))
