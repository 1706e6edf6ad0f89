-- What a caller in C sees of each kind of answer, with numerals; and that a number of the guard's answer is taken apart
-- again. Proved in `proofs/Examples.antt`.
use Rattle.std.specs.Prelude.{◌≡◌, true, false, [], ◌∷◌, ◌/◌, ◌%◌, ◌<◌, Ok, Err, Some, None}
use Rattle.product.specs.declared.literal.Literal.TheVariants.{Plain, Barred}
use Rattle.product.specs.declared.literal.Key.TheVariants.{User, Segment, Defined}
use Rattle.formula.specs.Outcome.{accepted, malformed, too_wide, unsatisfiable}
use Rattle.journal.specs.declared.file.Refusal.TheVariants.{Corrupt as CorruptFile}
use Rattle.journal.specs.declared.record.Entry.{Entry}
use Rattle.model.specs.declared.answer.Refusal.TheVariants.{UnknownUser, NoThread, Full, Denied, Corrupt}
use Rattle.model.specs.Answers.{Answer}
use Rattle.model.specs.Answers.{answer_number, answer_value}
use Rattle.model.specs.State.{State, taken}
use Rattle.abi.specs.Answers.{issued_with, number_in, rows_in, bit}
use Rattle.abi.specs.Calls.{answer_code}
use Rattle.abi.specs.Files.{present_number, values_in}
use Rattle.abi.specs.KeySearch.{search_code, searched_for}
use Rattle.abi.specs.Left.{left_in}
use Rattle.abi.specs.Version.{version}

-- an answer's number and value, of its code: a value has 16 bits
abbrev pub CodeTakenApart : Type 0
CodeTakenApart =
    (r : Answer) → answer_value r < 65536 → (answer_code r / 65536 ≡ answer_number r)
    × (answer_code r % 65536 ≡ answer_value r)

-- thread 0 with one open call, of segment 0, which handed over S0 and D1
abbrev pub one_call : State
one_call =
    record {
      users = 1;
      thread_numbers = 1;
      lock_numbers = 0;
      makers = 0 ∷ 0 ∷ [];
      segments = [];
      places =
          taken 0
          (record {
            user = 0;
            frames = record { segment = 0; keys = Segment 0 ∷ Defined 1 ∷ [] } ∷ [];
          })
          ∷ [];
    }

-- an L's record with a text of two bytes
abbrev pub text_record : Entry
text_record = record { fields = record { letter = 76; a = 1; b = 2; c = 3 }; start = 16; next = 18 }

pub record Examples : Type 0 where
  -- calls: lock 7; 1; 10; 14 by lock 3; 18
  pub lock_seven : answer_code (Ok 7) ≡ 7
  pub unknown_user : answer_code (Err UnknownUser) ≡ 65536
  pub full : answer_code (Err Full) ≡ 655360
  pub denied : answer_code (Err (Denied 3)) ≡ 917507
  pub corrupt : answer_code (Err Corrupt) ≡ 1179648
  -- the key search: the oldest of sixteen calls, none, and 2; of a thread whose one open call handed over S0 and D1 the
  -- numbers of S0, D1, U0, R1, S1 and D0, and of no key
  pub last_place : search_code (Ok (Some 15)) ≡ 15
  pub no_place : search_code (Ok None) ≡ 65535
  pub no_thread_lem : search_code (Err NoThread) ≡ 131072
  pub finds_segment : search_code (searched_for one_call 0 131072) ≡ 0
  pub finds_defined : search_code (searched_for one_call 0 196609) ≡ 0
  pub lacks_user : search_code (searched_for one_call 0 0) ≡ 65535
  pub lacks_thread : search_code (searched_for one_call 0 65537) ≡ 65535
  pub lacks_segment : search_code (searched_for one_call 0 131073) ≡ 65535
  pub lacks_defined : search_code (searched_for one_call 0 196608) ≡ 65535
  pub no_key_lem : search_code (searched_for one_call 0 262144) ≡ 65535
  pub no_key_again : search_code (searched_for one_call 0 458752) ≡ 65535
  pub no_key_of_none : search_code (searched_for one_call 1 262144) ≡ 131072
  -- texts: the number of products, or 11, 12 and 13; on a refusal the lent rows stay
  pub two_products : number_in (accepted ((Plain (User 0) ∷ []) ∷ (Barred (Defined 1) ∷ []) ∷ [])) ≡ 2
  pub malformed_number : number_in malformed ≡ 11
  pub wide_number : number_in too_wide ≡ 12
  pub unsatisfiable_number : number_in unsatisfiable ≡ 13
  pub malformed_rows : rows_in malformed ((5 ∷ []) ∷ []) ≡ (5 ∷ []) ∷ []
  pub wide_rows : rows_in too_wide ((5 ∷ []) ∷ []) ≡ (5 ∷ []) ∷ []
  pub unsatisfiable_rows : rows_in unsatisfiable ((5 ∷ []) ∷ []) ≡ (5 ∷ []) ∷ []
  -- counts of keys, in the order in which they are passed
  pub users : (issued_with 1 2 3 4).users ≡ 1
  pub threads : (issued_with 1 2 3 4).threads ≡ 2
  pub segments : (issued_with 1 2 3 4).segments ≡ 3
  pub defined : (issued_with 1 2 3 4).defined ≡ 4
  -- key sets
  pub opens : bit true ≡ 1
  pub shut : bit false ≡ 0
  -- records: 1 and the record's values; the end is 0 and a broken file 18, and the lent values stay
  pub record_number : present_number (Ok (Some text_record)) ≡ 1
  pub record_values : values_in (Ok (Some text_record)) (9 ∷ [])
      ≡ 76 ∷ 1 ∷ 2 ∷ 3 ∷ 16 ∷ 18 ∷ []
  pub end_number : present_number (Ok None) ≡ 0
  pub end_values : values_in (Ok None) (9 ∷ []) ≡ 9 ∷ []
  pub damaged_number : present_number (Err CorruptFile) ≡ 18
  pub damaged_values : values_in (Err CorruptFile) (9 ∷ []) ≡ 9 ∷ []
  -- what is left: of the empty state, of a used one, and of counts beyond every limit
  pub left_all : left_in (0 ∷ 0 ∷ 0 ∷ 0 ∷ 0 ∷ 0 ∷ 0 ∷ 0 ∷ []) ≡ 32 ∷ 65536 ∷ 64 ∷ 1024 ∷ 65536 ∷ []
  pub left_some : left_in (1 ∷ 200 ∷ 3 ∷ 24 ∷ 5 ∷ 0 ∷ 0 ∷ 0 ∷ []) ≡ 31 ∷ 65336 ∷ 61 ∷ 1000 ∷ 65531 ∷ []
  pub left_none : left_in (33 ∷ 65537 ∷ 65 ∷ 1025 ∷ 65537 ∷ 9 ∷ 9 ∷ 9 ∷ []) ≡ 0 ∷ 0 ∷ 0 ∷ 0 ∷ 0 ∷ []
  -- version 0.2.0
  pub version_number_lem : version ≡ 200
