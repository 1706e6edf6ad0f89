-- What stands at the cursor of a whole record is its entry; it is answered as its call, and its line is put.
use Rattle.std.specs.Prelude.{Option, Ok, Err, Some, None}
use mathlib.Core.Path.{◌≡◌, refl, sym, ap, subst, ◌∙◌}
use mathlib.Core.Bool.{Bool, true, false, cond, true≢false}
use mathlib.Core.List.{List}
use Prim.Native.Nat.{ℕ, ◌+◌, ◌-◌, ◌≤◌, ◌<◌}
use native.Mathlib.Omega.{arith}
use lib.ListN.{length, take, drop}
use borrow.Author.Tests.{le-leb, leb-false}
use lib.Dec.{leb}
use lib.Seq.{sets}
use Rattle.formula.specs.Outcome.{outcome_of}
use Rattle.model.specs.Stores.{step_cells}
use Rattle.journal.specs.declared.file.Refusal.TheVariants.{Corrupt}
use Rattle.call.specs.Calls.{Call, call_from}
use Rattle.journal.specs.declared.record.Entry.{Entry}
use Rattle.journal.specs.Reading.{Found, word, record_of, next_of, entry_of, whole_at, found_at}
use Rattle.journal.proofs.Files.{whole}
use Rattle.model.specs.Answers.{Answer}
use Rattle.model.specs.Cells.{Cells}
use Rattle.model.specs.Serving.{Answers}
use Rattle.transcript.specs.Lines.{line, has_room, LinePut, most_line}
use Rattle.transcript.specs.Internal.{line_at}

-- the record at a cursor was answered, and its line put
pub record Answered (s : List ℕ) (at place : ℕ) (d : Cells) (before : List ℕ) (used : ℕ) (d' : Cells)
    (after : List ℕ) (to r : ℕ) : Type 0 where
  pub cells : d' ≡ (step_cells outcome_of d (record_of s at)).cells
  pub stored : after ≡ sets before used (line_at s at place d)
  pub ends : r ≡ used + length (line_at s at place d)
  pub short : r ≤ used + most_line
  pub next : to ≡ next_of s at

module _ (s : List ℕ) (i : ℕ) where
  found_by : (l w : Bool) {e : Entry} → ◌≡◌ {A = Found} (cond l (Ok None) (cond w (Ok (Some (entry_of s i))) (Err Corrupt))) (Ok (Some e))
      → (l ≡ false) × (w ≡ true) × (e ≡ entry_of s i)
  found_by true w h = let z : ◌≡◌ {A = Bool} true false = cc in absurd (true≢false z)
  found_by false true h = (refl, refl, cc)
  found_by false false h = let z : ◌≡◌ {A = Bool} true false = cc in absurd (true≢false z)

  module _ {f : Found} {o : Option Entry} {e : Entry} (p : f ≡ found_at s i) (q : f ≡ Ok o) (t : o ≡ Some e) where
    found : (leb (length s) i ≡ false) × (whole_at s i ≡ true) × (e ≡ entry_of s i)
    unfolding found_at
    found = found_by (leb (length s) i) (whole_at s i) (sym p ∙ q ∙ ap Ok t)

    pub found_inside : i < length s
    found_inside = leb-false (length s) i found.0

    pub entry_is : e ≡ entry_of s i
    entry_is = found.2

    pub entry_further : i < e.next
    entry_further = let n = ap (λ (e : Entry). e.next) entry_is in omega arith

    -- where its text stands
    pub text_inside : (e.start ≤ e.next) × (e.next ≤ length s)
    text_inside =
        let n = ap (λ (e : Entry). e.next) entry_is in
        let b = ap (λ (e : Entry). e.start) entry_is in
        let w = whole s i found.1 in
        (omega (arith, w.end), omega (arith, w.end))

  abbrev call_of : Entry → Call
  call_of e = call_from e.fields (take (e.next - e.start) (drop e.start s))

  call_is : {e : Entry} → e ≡ entry_of s i → call_of e ≡ record_of s i
  call_is p = ap call_of p ∙ (let n : i + 9 + word s (i + 7) - (i + 9) ≡ word s (i + 7) = omega arith in rw n)

  entry_answered : {place used r : ℕ} {d d' : Cells} {b b' : List ℕ} {answer : Answer} → used + most_line ≤ length b → Answers d (record_of s i) answer d'
      → LinePut most_line b used (line place (record_of s i).letter answer) b' r → Answered s i place d b used d' b' (next_of s i) r
  entry_answered {place} {used} {r} {d} {d'} {b} {b'} k g w =
      let e : has_room most_line b used ≡ true = le-leb (used + most_line) (length b) k in
      record {
        cells = g.cells;
        stored = w.stored ∙ rw (e, g.answer);
        ends = w.ends ∙ rw (e, g.answer);
        short = w.short;
        next = refl;
      }

  pub answered : {place used r : ℕ} {d d' : Cells} {b b' : List ℕ} {e : Entry} {answer : Answer} → used + most_line ≤ length b → e ≡ entry_of s i
      → Answers d (call_of e) answer d' → LinePut most_line b used (line place e.fields.letter answer) b' r → Answered s i place d b used d' b' e.next r
  answered {place} {used} {r} {d} {d'} {b} {b'} {e} {answer} k p g w =
      subst (λ (n : ℕ). Answered s i place d b used d' b' n r) (sym (ap (λ (x : Entry). x.next) p))
      (entry_answered k (subst (λ (x : Call). Answers d x answer d') (call_is p) g) (subst (λ (x : Entry). LinePut most_line b used (line place x.fields.letter answer) b' r) p w))
