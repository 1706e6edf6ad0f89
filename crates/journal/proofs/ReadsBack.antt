-- A record that stands in a file is read back where it stands; by induction so is a list of them.
use Prim.Native.Nat.{ℕ, ◌+◌, ◌*◌, ◌<◌, ◌≤◌}
use mathlib.Core.Path.{◌≡◌, refl, sym, ap, ap₂, subst₂, ◌∙◌}
use mathlib.Core.Bool.{true}
use mathlib.Core.List.{List, [], ◌∷◌, ◌++◌, append-nil, append_assoc}
use native.Mathlib.Omega.{arith}
use lib.ListN.{length, get_or, take, drop, length-append}
use lib.Seq.{take-append_seam, drop-append-add, get_or-append-add, get_or-append_seam}
use lib.Dec.{lit<}
use borrow.Author.Tests.{eq-eqb, le-leb}
use Rattle.std.specs.Prelude.{Ok}
use Rattle.call.specs.Calls.{Call}
use Rattle.journal.specs.Format.{low, high, record_bytes, all_bytes, file_head, file_bytes, Recordable, AllRecordable, most_bytes, is_fit}
use Rattle.journal.specs.Reading.{word, record_of, next_of, whole_at, whole_from, records_from, records_of, verdict_of}
use Rattle.journal.specs.Theorems.ReadsBack.{WrittenReadable, WrittenBytes, RecordsBack}
use Rattle.call.proofs.Texts.{text_short}
use Rattle.base.proofs.Lists.{All-append}
use Rattle.journal.proofs.ByteLists.{Each, each, all_are}
use Rattle.journal.proofs.Files.{shut_file}

pub word_value : (w : ℕ) → low w + high w * 256 ≡ w
word_value w = omega arith

word_append : (p q : List ℕ) (i : ℕ) → word (p ++ q) (length p + i) ≡ word q i
word_append p q i =
    let e : length p + i + 1 ≡ length p + (i + 1) = omega arith in
    rw (e, get_or-append-add p q i 0, get_or-append-add p q (i + 1) 0)

-- ---- the record r stands in a file after p and before q

module _ (p q : List ℕ) (r : Call) where
  at_letter : get_or (p ++ (record_bytes r ++ q)) (length p) 0 ≡ r.letter
  at_letter = get_or-append_seam p r.letter _ 0

  at_a : word (p ++ (record_bytes r ++ q)) (length p + 1) ≡ r.a
  at_a = word_append p (record_bytes r ++ q) 1 ∙ word_value r.a

  at_b : word (p ++ (record_bytes r ++ q)) (length p + 3) ≡ r.b
  at_b = word_append p (record_bytes r ++ q) 3 ∙ word_value r.b

  at_c : word (p ++ (record_bytes r ++ q)) (length p + 5) ≡ r.c
  at_c = word_append p (record_bytes r ++ q) 5 ∙ word_value r.c

  at_size : word (p ++ (record_bytes r ++ q)) (length p + 7) ≡ length r.text
  at_size = word_append p (record_bytes r ++ q) 7 ∙ word_value (length r.text)

  at_text : take (word (p ++ (record_bytes r ++ q)) (length p + 7)) (drop (length p + 9) (p ++ (record_bytes r ++ q))) ≡ r.text
  at_text = rw (at_size, drop-append-add p (record_bytes r ++ q) 9) (take-append_seam r.text q)

  record_back : record_of (p ++ (record_bytes r ++ q)) (length p) ≡ r
  record_back i = record { letter = at_letter i; a = at_a i; b = at_b i; c = at_c i; text = at_text i }

  next_back : next_of (p ++ (record_bytes r ++ q)) (length p) ≡ length (p ++ record_bytes r)
  next_back = rw (at_size, length-append p (record_bytes r)) (omega arith)

  whole_back : is_fit r ≡ true → whole_at (p ++ (record_bytes r ++ q)) (length p) ≡ true
  unfolding whole_at
  whole_back v =
      let n : length (p ++ (record_bytes r ++ q)) ≡ length p + (9 + (length r.text + length q)) = rw (length-append p (record_bytes r ++ q), length-append r.text q) (omega arith) in
      simp (at_letter, at_a, at_b, at_c, at_size, v, le-leb (length p + 9) (length (p ++ (record_bytes r ++ q))) (omega arith), le-leb (length p + 9 + length r.text) (length (p ++ (record_bytes r ++ q))) (omega arith))

-- ---- a list of records after p

after_first : (r : Call) (rs : List Call) (p : List ℕ) → p ++ all_bytes (r ∷ rs) ≡ (p ++ record_bytes r) ++ all_bytes rs
after_first r rs p = sym (append_assoc p (record_bytes r) (all_bytes rs))

abbrev pub AllFit : List Call → Type 0
AllFit [] = Unit {0}
AllFit (r ∷ rs) = (is_fit r ≡ true) × AllFit rs

pub all_fit : (rs : List Call) → AllRecordable rs → AllFit rs
all_fit [] v = tt
all_fit (r ∷ rs) v = (v.0.fit, all_fit rs v.1)

whole_all : (rs : List Call) (p : List ℕ) → AllFit rs → whole_from (length rs) (p ++ all_bytes rs) (length p) ≡ true
unfolding whole_from
whole_all [] p v = eq-eqb (length p) (length (p ++ [])) (sym (ap length (append-nil p)))
whole_all (r ∷ rs) p v =
    rw (whole_back p (all_bytes rs) r v.0)
    (subst₂ (λ (t : List ℕ) (k : ℕ). whole_from (length rs) t k ≡ true) (sym (after_first r rs p)) (sym (next_back p (all_bytes rs) r))
    (whole_all rs (p ++ record_bytes r) v.1))

records_all : (rs : List Call) (p : List ℕ) → records_from (length rs) (p ++ all_bytes rs) (length p) ≡ rs
unfolding records_from
records_all [] p = refl
records_all (r ∷ rs) p =
    ap₂ (λ (x : Call) (xs : List Call). x ∷ xs) (record_back p (all_bytes rs) r)
    (subst₂ (λ (t : List ℕ) (k : ℕ). records_from (length rs) t k ≡ rs) (sym (after_first r rs p)) (sym (next_back p (all_bytes rs) r))
    (records_all rs (p ++ record_bytes r)))

-- ---- a file

pub fit_readable : (rs : List Call) → AllFit rs → length (file_bytes rs) ≤ most_bytes → verdict_of (file_bytes rs) ≡ Ok tt
unfolding file_bytes
fit_readable rs v h =
    let s = file_head (length rs) ++ all_bytes rs in
    shut_file s
    (record {
      mark = rw (le-leb 3 (length s) (omega arith));
      least = omega arith;
      version = refl;
      most = h;
      records = rw (word_value (length rs)) (whole_all rs (file_head (length rs)) v);
    })

pub written_readable : WrittenReadable
written_readable rs v h = fit_readable rs (all_fit rs v) h

pub file_length : (rs : List Call) → length (file_bytes rs) ≡ 7 + length (all_bytes rs)
unfolding file_bytes
file_length rs = omega arith

-- nine bytes or more for each record
all_length : (rs : List Call) → 9 * length rs ≤ length (all_bytes rs)
all_length [] = omega arith
all_length (r ∷ rs) = omega (arith, all_length rs, length-append (record_bytes r) (all_bytes rs))

low_byte : (w : ℕ) → low w < 256
low_byte w = omega arith

high_byte : (w : ℕ) → w < 65536 → high w < 256
high_byte w h = omega arith

record_each : (r : Call) → Recordable r → Each (record_bytes r)
record_each r v =
    let t : length r.text < 65536 = omega (arith, text_short r.letter r.a r.b r.c (length r.text) v.fit) in (
      v.letter_byte,
      (
        low_byte r.a,
        (
          high_byte r.a v.a_word,
          (
            low_byte r.b,
            (
              high_byte r.b v.b_word,
              (low_byte r.c, (high_byte r.c v.c_word, (low_byte (length r.text), (high_byte (length r.text) t, each r.text v.text_bytes)))),
            ),
          ),
        ),
      ),
    )

all_each : (rs : List Call) → AllRecordable rs → Each (all_bytes rs)
all_each [] v = tt
all_each (r ∷ rs) v = All-append (λ x. x < 256) (record_bytes r) (all_bytes rs) (record_each r v.0) (all_each rs v.1)

pub written_bytes : WrittenBytes
unfolding file_bytes
written_bytes rs v h =
    let n : length rs < 65536 = omega (arith, all_length rs) in
    all_are (file_head (length rs) ++ all_bytes rs)
    (lit< tt, (lit< tt, (lit< tt, (lit< tt, (lit< tt, (low_byte (length rs), (high_byte (length rs) n, all_each rs v)))))))

pub records_back : RecordsBack
unfolding file_bytes records_of
records_back rs = rw (word_value (length rs)) (records_all rs (file_head (length rs)))
