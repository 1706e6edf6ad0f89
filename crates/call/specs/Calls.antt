-- Document 01, 'Twelve calls': a call is a letter, three fields and a text; the table of the letters with the fields
-- that each names; and, from 'Desk file', the calls that a record can hold.
use Rattle.std.specs.Prelude.{Bool, cond, ◌&&◌, ◌||◌, List, [], ◌∷◌, ℕ, eqb, leb, length, Option, None, Some}
use Rattle.std.specs.Option.{is_some}
use Rattle.call.specs.declared.request.Fields.{Fields}
use Rattle.call.specs.declared.request.Request.{Request}
use Rattle.call.specs.declared.request.Request.TheVariants as request
use Rattle.call.specs.Letters as letters

-- a call: its letter's byte, its fields and its text
pub record Call : Type 0 where
  pub letter : ℕ
  pub a : ℕ
  pub b : ℕ
  pub c : ℕ
  pub text : List ℕ

abbrev pub call_with : ℕ → ℕ → ℕ → ℕ → List ℕ → Call
call_with l a b c t = record { letter = l; a = a; b = b; c = c; text = t }

-- the call with these fields and this text
abbrev pub call_from : Fields → List ℕ → Call
call_from f t = call_with f.letter f.a f.b f.c t

-- the most bytes of an L's text, the lock text, in a record
abbrev pub most_text : ℕ
most_text = 96

-- ---- the table

-- a row: the letter's byte, the request, and how many of a, b and c, in their order, it names
pub record TableRow : Type 0 where
  pub letter : ℕ
  pub request : Request
  pub named : ℕ

abbrev pub row : ℕ → Request → ℕ → TableRow
row l q k = record { letter = l; request = q; named = k }

-- for the fields a, b and c
abbrev pub table : ℕ → ℕ → ℕ → List TableRow
table a b c =
    row letters.U request.NewUser 0
    ∷ row letters.S (request.StartThread a) 1
    ∷ row letters.E (request.EndThread a) 1
    ∷ row letters.N (request.NewSegment a b) 2
    ∷ row letters.K (request.NewKey a) 1
    ∷ row letters.G (request.GiveKey a b c) 3
    ∷ row letters.T (request.TakeKey a b c) 3
    ∷ row letters.L (request.AddLock a b c) 3
    ∷ row letters.D (request.DropLock a b) 2
    ∷ row letters.C (request.CallSegment a b) 2
    ∷ row letters.R (request.ReturnCall a) 1
    ∷ row letters.A (request.Access a b c) 3
    ∷ []

-- unnamed fields: 'those not named are 0', all but the first k
abbrev pub unnamed_zero : ℕ → ℕ → ℕ → ℕ → Bool
unnamed_zero k a b c = (leb 1 k || eqb a 0) && (leb 2 k || eqb b 0) && (leb 3 k || eqb c 0)

-- only L names a text, here of n bytes
abbrev pub text_named : ℕ → ℕ → Bool
text_named letter n = eqb letter letters.L || eqb n 0

-- the answer to a call: its request where it is well formed; none is document 01's 18
abbrev pub Decoded : Type 0
Decoded = Option Request

-- 18 for 'an unknown letter, an unnamed field not 0 or a text outside L', else the letter's request
abbrev pub decoded_in : List TableRow → ℕ → ℕ → ℕ → ℕ → ℕ → Decoded
decoded_in [] letter a b c n = None
decoded_in (r ∷ rs) letter a b c n =
    cond (eqb letter r.letter)
    (cond (unnamed_zero r.named a b c && text_named letter n) (Some r.request) None)
    (decoded_in rs letter a b c n)

-- a call handed straight to the guard
unfoldable pub decoded_of : ℕ → ℕ → ℕ → ℕ → ℕ → Decoded
decoded_of letter a b c n = decoded_in (table a b c) letter a b c n

abbrev pub decoded : Call → Decoded
decoded x = decoded_of x.letter x.a x.b x.c (length x.text)

abbrev pub is_well_formed : Decoded → Bool
is_well_formed d = is_some d

-- 'Only L has text, 1 to 96 bytes.'
abbrev pub text_fits : ℕ → ℕ → Bool
text_fits letter n = cond (eqb letter letters.L) (leb 1 n && leb n most_text) (eqb n 0)

-- a call that a record can hold: a well formed one, whose text has the right length
unfoldable pub record_fits : ℕ → ℕ → ℕ → ℕ → ℕ → Bool
record_fits letter a b c n = is_well_formed (decoded_of letter a b c n) && text_fits letter n
