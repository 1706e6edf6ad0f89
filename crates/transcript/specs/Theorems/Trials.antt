-- The starred trials of document 01's 'Trial desks' as one theorem, `StarredTrials`, with document 01's numbers and
-- lines: what the office program prints for each, byte by byte, and the number and the products of each starred text.
-- And a few more worked examples of what is printed. Proved in `proofs/Trials.antt`.
use Rattle.std.specs.Prelude.{◌≡◌, List, [], ◌∷◌, ◌++◌, ℕ, Ok, Err}
use Prim.Native.String.{String}
use Rattle.base.specs.Bytes.{bytes}
use Rattle.product.specs.Notation.{plain, barred}
use Rattle.formula.specs.Notation.{compiled}
use Rattle.call.specs.Calls.{Call}
use Rattle.journal.specs.Format.{file_bytes}
use Rattle.model.specs.declared.answer.Refusal.TheVariants.{Denied}
use Rattle.model.specs.Notation.{U, S, N, K, L, D, C, R, A}
use Rattle.transcript.specs.Lines.{line, printed}

-- each with its line feed
abbrev pub text : List String → List ℕ
text [] = []
text (s ∷ ss) = bytes s ++ 10 ∷ text ss

-- these records, as a file, print these lines
abbrev pub Prints : List Call → List String → Type 0
Prints records lines = printed (file_bytes records) ≡ text lines

pub record StarredTrials : Type 0 where
  -- 'Records U; N 0 0; N 0 0; N 0 1; L 0 0 1 `U0`; L 0 1 1 `U0`; L 0 2 4 `S0&S1`; S 0; S 0; C 0 0; C 0 1; C 1 1; A 0 2
  -- 4; A 1 2 4; R 0; A 0 2 4 print:' 'rewritten with its S records before the edits' (request P4)
  pub route : Prints
      (U ∷ S 0 ∷ S 0 ∷ N 0 0 ∷ N 0 0 ∷ N 0 1 ∷ L 0 0 1 (bytes "U0") ∷ L 0 1 1 (bytes "U0") ∷ L 0 2 4 (bytes "S0&S1")
      ∷ C 0 0 ∷ C 0 1 ∷ C 1 1 ∷ A 0 2 4 ∷ A 1 2 4 ∷ R 0 ∷ A 0 2 4 ∷ [])
      (
      "0 U ok 0"
      ∷ "1 S ok 0"
      ∷ "2 S ok 1"
      ∷ "3 N ok 0"
      ∷ "4 N ok 1"
      ∷ "5 N ok 2"
      ∷ "6 L ok 0"
      ∷ "7 L ok 1"
      ∷ "8 L ok 2"
      ∷ "9 C ok 0"
      ∷ "10 C ok 1"
      ∷ "11 C ok 1"
      ∷ "12 A ok 2"
      ∷ "13 A no 15 0"
      ∷ "14 R ok 1"
      ∷ "15 A no 15 0"
      ∷ []
      )
  -- 'Empty desk: S 0 gives 1; R 0 gives 2.'
  pub empty_desk : Prints (S 0 ∷ R 0 ∷ []) ("0 S no 1 0" ∷ "1 R no 2 0" ∷ [])
  -- 'File 4B 4C 44 01 00 00 00 (hexadecimal) prints nothing', 'the empty file with version 2' (request P4)
  pub empty_file : printed (75 ∷ 76 ∷ 68 ∷ 2 ∷ 0 ∷ 0 ∷ 0 ∷ []) ≡ []
  -- '`D0&!D0` is 13; `(D0&!D0)|D1` is one product; `D0|D0&D1` two; `!(D0|D1)` one; `D01` is 11; all with D0 and D1
  -- made.' '`(D0|D1)&(D2|D3)`, all made, is four products': each as a lock, and D answers how many products it had
  pub texts_as_locks : Prints
      (U ∷ S 0 ∷ N 0 0 ∷ K 0 ∷ K 0 ∷ L 0 0 1 (bytes "D0&!D0") ∷ L 0 0 1 (bytes "(D0&!D0)|D1") ∷ D 0 0
      ∷ L 0 0 1 (bytes "D0|D0&D1") ∷ D 0 1
      ∷ L 0 0 1 (bytes "!(D0|D1)") ∷ D 0 2 ∷ L 0 0 1 (bytes "D01") ∷ K 0 ∷ K 0 ∷ L 0 0 1 (bytes "(D0|D1)&(D2|D3)")
      ∷ D 0 3 ∷ [])
      (
      "0 U ok 0"
      ∷ "1 S ok 0"
      ∷ "2 N ok 0"
      ∷ "3 K ok 0"
      ∷ "4 K ok 1"
      ∷ "5 L no 13 0"
      ∷ "6 L ok 0"
      ∷ "7 D ok 1"
      ∷ "8 L ok 1"
      ∷ "9 D ok 2"
      ∷ "10 L ok 2"
      ∷ "11 D ok 1"
      ∷ "12 L no 11 0"
      ∷ "13 K ok 2"
      ∷ "14 K ok 3"
      ∷ "15 L ok 3"
      ∷ "16 D ok 4"
      ∷ []
      )
  -- the same texts: the number of the refusal, 0 for none, and the products; of the last 'D0 D2 first'
  pub contradiction : compiled 2 "D0&!D0" ≡ (13, [])
  pub one_left : compiled 2 "(D0&!D0)|D1" ≡ (0, (plain 1 ∷ []) ∷ [])
  pub two : compiled 2 "D0|D0&D1" ≡ (0, (plain 0 ∷ []) ∷ (plain 0 ∷ plain 1 ∷ []) ∷ [])
  pub neither : compiled 2 "!(D0|D1)" ≡ (0, (barred 0 ∷ barred 1 ∷ []) ∷ [])
  pub leading_zero : compiled 2 "D01" ≡ (11, [])
  pub four : compiled 4 "(D0|D1)&(D2|D3)"
      ≡ (
        0,
        (plain 0 ∷ plain 2 ∷ []) ∷ (plain 0 ∷ plain 3 ∷ []) ∷ (plain 1 ∷ plain 2 ∷ []) ∷ (plain 1 ∷ plain 3 ∷ [])
            ∷ [],
      )
  -- 'Call one segment twice, return once: its S key is held', and a sheet that asks for it can be read until the second
  -- return
  pub twice : Prints
      (U ∷ S 0 ∷ N 0 0 ∷ N 0 1 ∷ L 0 0 1 (bytes "U0") ∷ L 0 1 2 (bytes "S0") ∷ C 0 0 ∷ C 0 0 ∷ R 0 ∷ A 0 1 2 ∷ R 0
      ∷ A 0 1 2 ∷ [])
      (
      "0 U ok 0"
      ∷ "1 S ok 0"
      ∷ "2 N ok 0"
      ∷ "3 N ok 1"
      ∷ "4 L ok 0"
      ∷ "5 L ok 1"
      ∷ "6 C ok 0"
      ∷ "7 C ok 0"
      ∷ "8 R ok 0"
      ∷ "9 A ok 1"
      ∷ "10 R ok 0"
      ∷ "11 A no 15 0"
      ∷ []
      )

pub record Trials : Type 0 where
  pub mark_missing : printed [] ≡ text ("file no 16" ∷ [])
  pub version_one : printed (75 ∷ 76 ∷ 68 ∷ 1 ∷ 0 ∷ 0 ∷ 0 ∷ []) ≡ text ("file no 17" ∷ [])
  pub left_over : printed (75 ∷ 76 ∷ 68 ∷ 2 ∷ 0 ∷ 0 ∷ 0 ∷ 0 ∷ []) ≡ text ("file no 18" ∷ [])
  -- the second number
  pub deny_lock : line 7279 67 (Err (Denied 209)) ≡ text ("7279 C no 14 209" ∷ [])
  pub largest : line 65535 76 (Ok 65535) ≡ text ("65535 L ok 65535" ∷ [])
