-- The buffer is always a file and what follows it: `file_bytes ps ++ q`. One append stores the count inside the head
-- and the record over the front of q; by induction so does a list of them.
use Prim.Native.Nat.{ℕ, ◌+◌, ◌-◌, ◌≤◌}
use mathlib.Core.Path.{◌≡◌, refl, sym, ap, subst, subst₂, ◌∙◌}
use mathlib.Core.Bool.{true, false, ◌||◌}
use mathlib.Core.List.{List, [], ◌∷◌, ◌++◌, append-nil, append_assoc}
use native.Mathlib.Omega.{arith}
use lib.ListN.{length, take, drop, length-append, length-drop, take-append-drop}
use lib.Seq.{sets, sets-eq, take_at, take-append_seam, drop-append-add, drop-drop, length-take-le}
use lib.Dec.{ltb}
use borrow.Author.Tests.{le-ltb}
use Rattle.std.specs.Prelude.{Ok}
use Rattle.call.specs.Calls.{Call}
use Rattle.journal.specs.Format.{Bytes, record_bytes, all_bytes, file_head, file_bytes, most_bytes, is_fit}
use Rattle.journal.specs.Reading.{records_of, verdict_of}
use Rattle.journal.specs.Appending.{length_with, append_answer, with_record, empty_answer}
use Rattle.journal.specs.Theorems.Rebuilds.{AddsOne, Buffer, emptied, append_one, append_all, holding, Rebuilds, AppendsAll}
use Rattle.journal.proofs.ByteLists.{bytes_take}
use Rattle.journal.proofs.Files.{new_length, accepted, open_file, shut_file}
use Rattle.journal.proofs.AppendAnswers.{accepts}
use Rattle.journal.proofs.ReadsBack.{AllFit, all_fit, fit_readable, word_value, file_length, records_back}
use Rattle.journal.proofs.WritesBack.{writes_back, records_recordable}

-- a run of stores from a seam on
sets_seam : (p q vs : List ℕ) (n : ℕ) → length p ≡ n → length vs ≤ length q → sets (p ++ q) n vs ≡ p ++ vs ++ drop (length vs) q
sets_seam p q vs n e h =
    let room : n + length vs ≤ length (p ++ q) = omega (arith, length-append p q) in
    let d : drop (n + length vs) (p ++ q) ≡ drop (length vs) q = rw (← e) (drop-append-add p q (length vs)) in
    sets-eq vs (p ++ q) n room ∙ rw (take_at p q n e, d)

-- ---- files of more records

all_append : (rs ts : List Call) → all_bytes (rs ++ ts) ≡ all_bytes rs ++ all_bytes ts
all_append [] ts = refl
all_append (x ∷ rs) ts = rw (all_append rs ts) (sym (append_assoc (record_bytes x) (all_bytes rs) (all_bytes ts)))

all_snoc : (rs : List Call) (r : Call) → all_bytes (rs ++ r ∷ []) ≡ all_bytes rs ++ record_bytes r
all_snoc rs r = all_append rs (r ∷ []) ∙ ap (λ (t : List ℕ). all_bytes rs ++ t) (append-nil (record_bytes r))

snoc_length : (rs : List Call) (r : Call) → length (file_bytes (rs ++ r ∷ [])) ≡ length_with (length (file_bytes rs)) r
snoc_length rs r =
    omega (arith, file_length rs, file_length (rs ++ r ∷ []), ap length (all_snoc rs r), length-append (all_bytes rs) (record_bytes r))

part_shorter : (rs ts : List Call) → length (file_bytes rs) ≤ length (file_bytes (rs ++ ts))
part_shorter rs ts =
    omega (arith, file_length rs, file_length (rs ++ ts), ap length (all_append rs ts), length-append (all_bytes rs) (all_bytes ts))

snoc_fit : (rs : List Call) (r : Call) → AllFit rs → is_fit r ≡ true → AllFit (rs ++ r ∷ [])
snoc_fit [] r vs v = (v, tt)
snoc_fit (x ∷ rs) r vs v = (vs.0, snoc_fit rs r vs.1 v)

-- ---- one append

adds : (ps : List Call) (q : List ℕ) (r : Call) → length (record_bytes r) ≤ length q
    → with_record (file_bytes ps ++ q) (length (file_bytes ps)) r ≡ file_bytes (ps ++ r ∷ []) ++ drop (length (record_bytes r)) q
unfolding with_record file_bytes
adds ps q r h =
    let n : length (ps ++ r ∷ []) ≡ length ps + 1 = length-append ps (r ∷ []) in
    let e : file_head (length ps + 1) ++ (all_bytes ps ++ record_bytes r) ≡ file_head (length (ps ++ r ∷ [])) ++ all_bytes (ps ++ r ∷ []) = rw (n, all_snoc ps r) in
    let f = append_assoc (file_head (length ps + 1)) (all_bytes ps) (record_bytes r) ∙ e in
    rw (word_value (length ps))
    (sets_seam (file_head (length ps + 1) ++ all_bytes ps) q (record_bytes r) (length (file_head (length ps) ++ all_bytes ps)) (omega arith) h
    ∙ ap (λ (t : List ℕ). t ++ drop (length (record_bytes r)) q) f)

-- the same in a buffer d that holds the file of ps
module _ (d : List ℕ) (ps : List Call) (r : Call) (room : length (file_bytes (ps ++ r ∷ [])) ≤ length d) where
  abbrev file : List ℕ
  file = file_bytes ps

  abbrev x : Buffer
  x = holding d file

  rest_length : length (drop (length file) d) ≡ length d - length file
  rest_length = length-drop (length file) d

  record_fits_lem : length (record_bytes r) ≤ length (drop (length file) d)
  record_fits_lem = omega (arith, snoc_length ps r, rest_length)

  adds_bytes : with_record x.bytes x.len r ≡ (holding d (file_bytes (ps ++ r ∷ []))).bytes
  adds_bytes =
      let n : length file + length (record_bytes r) ≡ length (file_bytes (ps ++ r ∷ [])) = omega (arith, snoc_length ps r) in
      adds ps (drop (length file) d) r record_fits_lem
      ∙ ap (λ (t : List ℕ). file_bytes (ps ++ r ∷ []) ++ t) (drop-drop (length (record_bytes r)) (length file) d ∙ ap (λ (k : ℕ). drop k d) n)

  -- it is accepted
  accepts_one : AllFit ps → is_fit r ≡ true → length (file_bytes (ps ++ r ∷ [])) ≤ most_bytes
      → append_answer x.bytes x.len r ≡ Ok (length (file_bytes (ps ++ r ∷ [])))
  accepts_one vs v most =
      let n : length x.bytes ≡ length d = length-append file (drop (length file) d) ∙ omega (arith, rest_length, snoc_length ps r) in
      let e : length_with (length file) r ≡ length (file_bytes (ps ++ r ∷ [])) = sym (snoc_length ps r) in
      let full : ltb (length x.bytes) (length_with (length file) r) || ltb most_bytes (length_with (length file) r) ≡ false =
      rw (le-ltb (length x.bytes) (length_with (length file) r) (omega arith), le-ltb most_bytes (length_with (length file) r) (omega arith)) in
      let readable : verdict_of (take (length file) x.bytes) ≡ Ok tt = rw (take-append_seam file (drop (length file) d)) (fit_readable ps vs (omega (arith, snoc_length ps r))) in
      sym (accepts x.bytes x.len r (omega (arith, snoc_length ps r)) (sym readable) (is_fit r) refl v full) ∙ ap Ok e

-- ---- a list of records

one : (d : List ℕ) (ps : List Call) (r : Call) → AllFit ps → is_fit r ≡ true → length (file_bytes (ps ++ r ∷ [])) ≤ most_bytes
    → length (file_bytes (ps ++ r ∷ [])) ≤ length d → append_one (holding d (file_bytes ps)) r ≡ holding d (file_bytes (ps ++ r ∷ []))
unfolding append_one
one d ps r vs v most room =
    let b = adds_bytes d ps r room in
    rw (accepts_one d ps r room vs v most) (λ i. record { bytes = b i; len = length (file_bytes (ps ++ r ∷ [])) })

all : (d : List ℕ) (rs ps : List Call) → AllFit ps → AllFit rs → length (file_bytes (ps ++ rs)) ≤ most_bytes → length (file_bytes (ps ++ rs)) ≤ length d
    → append_all (holding d (file_bytes ps)) rs ≡ holding d (file_bytes (ps ++ rs))
unfolding append_all
all d [] ps vp vs most room = rw (append-nil ps)
all d (r ∷ rs) ps vp vs most room =
    let e : (ps ++ r ∷ []) ++ rs ≡ ps ++ r ∷ rs = append_assoc ps (r ∷ []) rs in
    let l : length (file_bytes (ps ++ r ∷ [])) ≤ length (file_bytes (ps ++ r ∷ rs)) = subst (λ (t : List Call). length (file_bytes (ps ++ r ∷ [])) ≤ length (file_bytes t)) e (part_shorter (ps ++ r ∷ []) rs) in
    rw (one d ps r vp vs.0 (omega arith) (omega arith))
    (all d rs (ps ++ r ∷ []) (snoc_fit ps r vp vs.0) vs.1 (rw e most) (rw e room) ∙ ap (λ (t : List Call). holding d (file_bytes t)) e)

empty_held : (d : List ℕ) → 7 ≤ length d → emptied d ≡ holding d (file_bytes [])
unfolding emptied empty_answer file_bytes
empty_held d h =
    let b = sets_seam [] d (file_head 0) 0 refl h in
    rw (le-ltb (length d) 7 h) (λ i. record { bytes = b i; len = 7 })

pub appends_all : AppendsAll
appends_all rs vs most d room = rw (empty_held d (omega (arith, file_length rs))) (all d rs [] tt (all_fit rs vs) most room)

pub rebuilds : Rebuilds
rebuilds s bytes h d room =
    let e : file_bytes (records_of s) ≡ s = writes_back s bytes h in
    let n : length (file_bytes (records_of s)) ≡ length s = ap length e in
    appends_all (records_of s) (records_recordable s bytes h) (omega (arith, (open_file s h).most)) d (omega arith) ∙ ap (holding d) e

-- ---- one record more

pub adds_one : AddsOne
adds_one d len r n bytes h =
    let ok = accepted d len r n h in
    let s : List ℕ = take len d in
    let readable : verdict_of s ≡ Ok tt = shut_file s ok.file in
    let few : Bytes s = bytes_take len d bytes in
    let ps : List Call = records_of s in
    let written : file_bytes ps ≡ s = writes_back s few readable in
    let file_size : length (file_bytes ps) ≡ len = ap length written ∙ length-take-le len d ok.inside in
    let size : n ≡ length (file_bytes (ps ++ r ∷ [])) = omega (arith, new_length d len r n h, snoc_length ps r) in
    let held : file_bytes ps ++ drop (length (file_bytes ps)) d ≡ d = rw file_size (ap (λ (t : List ℕ). t ++ drop len d) written ∙ take-append-drop len d) in
    let all = adds_bytes d ps r (omega (arith, ok.room, snoc_length ps r)) in
    let after : with_record d len r ≡ file_bytes (ps ++ r ∷ []) ++ drop n d = rw size (subst₂ (λ (t : List ℕ) (k : ℕ). with_record t k r ≡ (holding d (file_bytes (ps ++ r ∷ []))).bytes) held file_size all) in
    let front : take n (with_record d len r) ≡ file_bytes (ps ++ r ∷ []) = rw after (take_at (file_bytes (ps ++ r ∷ [])) (drop n d) n (sym size)) in
    record {
      size = size;
      bytes = after;
      readable = rw front (fit_readable (ps ++ r ∷ []) (snoc_fit ps r (all_fit ps (records_recordable s few readable)) ok.fit) (omega (arith, ok.most, new_length d len r n h)));
      records = rw front (records_back (ps ++ r ∷ []));
    }
