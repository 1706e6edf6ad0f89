-- The journal (document 01: desk file), as it is written: the bytes of a record, and of a file with a list of records.
-- A record is a call. Document 01's section 'Desk file'.
use Rattle.std.specs.Prelude.{◌≡◌, Bool, true, List, [], ◌∷◌, ◌++◌, ℕ, ◌/◌, ◌%◌, ◌<◌, ◌≤◌, length, get_or}
use Rattle.call.specs.Calls.{Call, record_fits}

-- every element is a byte, as in what a `&[u8]` holds
abbrev pub Bytes : List ℕ → Type 0
Bytes s = (i : ℕ) → get_or s i 0 < 256

abbrev pub low : ℕ → ℕ
low w = w % 256

abbrev pub high : ℕ → ℕ
high w = w / 256

-- 16 bits, low byte first
abbrev pub word_bytes : ℕ → List ℕ
word_bytes w = low w ∷ high w ∷ []

-- ---- a record

-- its head: the letter's byte, the fields a, b, c and the text length
abbrev pub head_bytes : ℕ → ℕ → ℕ → ℕ → ℕ → List ℕ
head_bytes l a b c n = l ∷ word_bytes a ++ word_bytes b ++ word_bytes c ++ word_bytes n

-- where in it the fields a, b, c, the text length and the text stand
abbrev pub a_at : ℕ
a_at = 1

abbrev pub b_at : ℕ
b_at = 3

abbrev pub c_at : ℕ
c_at = 5

abbrev pub text_length_at : ℕ
text_length_at = 7

abbrev pub record_head_size : ℕ
record_head_size = 9

-- the record: the text follows its head
abbrev pub record_bytes : Call → List ℕ
record_bytes r = head_bytes r.letter r.a r.b r.c (length r.text) ++ r.text

abbrev pub all_bytes : List Call → List ℕ
all_bytes [] = []
all_bytes (r ∷ rs) = record_bytes r ++ all_bytes rs

-- ---- a file

-- the mark, `KLD`
abbrev pub mark_k : ℕ
mark_k = 75

abbrev pub mark_l : ℕ
mark_l = 76

abbrev pub mark_d : ℕ
mark_d = 68

-- the version: request P4, 'The file version becomes 2'
abbrev pub file_version : ℕ
file_version = 2

-- where the version, the record count and the first record stand
abbrev pub version_at : ℕ
version_at = 3

abbrev pub count_at : ℕ
count_at = 5

abbrev pub file_head_size : ℕ
file_head_size = 7

-- its head: the mark, the version and the record count
abbrev pub file_head : ℕ → List ℕ
file_head n = mark_k ∷ mark_l ∷ mark_d ∷ word_bytes file_version ++ word_bytes n

-- the file of a list of records
unfoldable pub file_bytes : List Call → List ℕ
file_bytes rs = file_head (length rs) ++ all_bytes rs

-- 'At most 65,535 bytes'
abbrev pub most_bytes : ℕ
most_bytes = 65535

-- an unfit record has an 'unknown letter, an unnamed field not 0, text length wrong'
abbrev pub is_fit : Call → Bool
is_fit r = record_fits r.letter r.a r.b r.c (length r.text)

-- a call that a file can hold: it is fit and, as every call that code can make, has a letter of 8 bits, fields of 16
-- and a text of bytes
pub record Recordable (r : Call) : Type 0 where
  pub fit : is_fit r ≡ true
  pub letter_byte : r.letter < 256
  pub a_word : r.a < 65536
  pub b_word : r.b < 65536
  pub c_word : r.c < 65536
  pub text_bytes : Bytes r.text

abbrev pub AllRecordable : List Call → Type 0
AllRecordable [] = Unit {0}
AllRecordable (r ∷ rs) = Recordable r × AllRecordable rs

pub record Written (s : List ℕ) : Type 0 where
  pub records : List Call
  pub recordable : AllRecordable records
  pub bytes : s ≡ file_bytes records
  pub most : length s ≤ most_bytes
