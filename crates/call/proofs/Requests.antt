-- Each row of the table has the request of its letter and of the fields that it names: by computing, the whole table at
-- once. One induction over the table then takes a call that is decoded to its request. The other way round the call of
-- a request is decoded by computing.
use mathlib.Core.Path.{◌≡◌, refl, sym, ap, subst, ◌∙◌}
use mathlib.Core.Bool.{Bool, true, false, cond, ◌&&◌, ◌||◌}
use mathlib.Core.List.{List, [], ◌∷◌, map}
use Prim.Native.Nat.{ℕ}
use native.Mathlib.Omega.{arith}
use lib.Dec.{eqb, leb}
use lib.ListN.{length}
use borrow.Author.Tests.{eqb-true}
use Rattle.std.specs.Prelude.{None, Some}
use Rattle.call.specs.declared.request.Request.{Request}
use Rattle.call.specs.declared.request.Request.TheVariants as request
use Rattle.base.proofs.Truth.{and_left, and_right}
use Rattle.call.specs.Calls.{Decoded, Call, call_with, decoded, TableRow, table, unnamed_zero, text_named, decoded_in, decoded_of}
use Rattle.call.specs.Letters as letters
use Rattle.call.specs.Requests.{without_text, with_text, call_of}
use Rattle.call.specs.Theorems.Requests.{RequestsExactly}

-- ---- the rows

-- a row's letter, and those of the fields that it names
abbrev row_call : ℕ → ℕ → ℕ → TableRow → Call
row_call a b c r =
    call_with r.letter (cond (leb 1 r.named) a 0) (cond (leb 2 r.named) b 0) (cond (leb 3 r.named) c 0) []

abbrev Rows : ℕ → ℕ → ℕ → List TableRow → Type 0
Rows a b c rs = map (λ r. without_text r.request) rs ≡ map (row_call a b c) rs

rows : (a b c : ℕ) → Rows a b c (table a b c)
rows a b c = refl

-- ---- what a row's tests say

named_or_zero : (p : Bool) (n : ℕ) → p || eqb n 0 ≡ true → n ≡ cond p n 0
named_or_zero true n h = refl
named_or_zero false n h = eqb-true n 0 h

named_or_none : (p : Bool) (t : List ℕ) → p || eqb (length t) 0 ≡ true → t ≡ cond p t []
named_or_none true t h = refl
named_or_none false [] h = refl
named_or_none false (y ∷ t) h = absurd (omega (arith, eqb-true (length (y ∷ t)) 0 h))

module _ (x : Call) where
  abbrev passes : ℕ → Bool
  passes k = unnamed_zero k x.a x.b x.c && text_named x.letter (length x.text)

  abbrev Says : Request → Type 0
  Says q = x ≡ call_of q x.text

  -- a call that has the row's letter and passes its tests is the call of the row's request
  row_says : (r : TableRow) → without_text r.request ≡ row_call x.a x.b x.c r → x.letter ≡ r.letter
      → passes r.named ≡ true → Says r.request
  row_says r w e h =
      let k = r.named in
      let pa = leb 1 k || eqb x.a 0 in let pb = leb 2 k || eqb x.b 0 in let pc = leb 3 k || eqb x.c 0 in
      let named = text_named x.letter (length x.text) in
      let fields = and_left (pa && pb && pc) named h in
      let ab = and_left (pa && pb) pc fields in
      is e
      (named_or_zero (leb 1 k) x.a (and_left pa pb ab))
      (named_or_zero (leb 2 k) x.b (and_right pa pb ab))
      (named_or_zero (leb 3 k) x.c (and_right (pa && pb) pc fields))
      (named_or_none (eqb x.letter letters.L) x.text (and_right (pa && pb && pc) named h)
      ∙ ap (λ (l : ℕ). cond (eqb l letters.L) x.text []) e)
      ∙ ap (with_text x.text) (sym w)
    where
      is : {l a b c : ℕ} {t : List ℕ} → x.letter ≡ l → x.a ≡ a → x.b ≡ b → x.c ≡ c → x.text ≡ t → x ≡ call_with l a b c t
      is el ea eb ec et i = record { letter = el i; a = ea i; b = eb i; c = ec i; text = et i }

  of_row : (q p : Request) (here zero : Bool) (rest : Decoded) → (here ≡ true → zero ≡ true → Says p) → (rest ≡ Some q → Says q)
      → cond here (cond zero (Some p) None) rest ≡ Some q → Says q
  of_row q p true true rest f g h = let e : p ≡ q = cc in subst Says e (f refl refl)
  of_row q p true false rest f g h = cc
  of_row q p false zero rest f g h = g h

  found : (rs : List TableRow) (q : Request) → Rows x.a x.b x.c rs
      → decoded_in rs x.letter x.a x.b x.c (length x.text) ≡ Some q → Says q
  found [] q w h = cc
  found (r ∷ rs) q w h =
      let first : without_text r.request ≡ row_call x.a x.b x.c r = cc in
      let rest : Rows x.a x.b x.c rs = cc in
      of_row q r.request (eqb x.letter r.letter) (passes r.named) (decoded_in rs x.letter x.a x.b x.c (length x.text))
      (λ e z. row_says r first (eqb-true x.letter r.letter e) z) (found rs q rest) h

-- ---- the call of a request

pub back : (q : Request) (t : List ℕ) → decoded (call_of q t) ≡ Some q
unfolding decoded_of
back request.NewUser t = refl
back (request.StartThread a) t = refl
back (request.EndThread a) t = refl
back (request.NewSegment a b) t = refl
back (request.NewKey a) t = refl
back (request.GiveKey a b c) t = refl
back (request.TakeKey a b c) t = refl
back (request.AddLock a b c) t = refl
back (request.DropLock a b) t = refl
back (request.CallSegment a b) t = refl
back (request.ReturnCall a) t = refl
back (request.Access a b c) t = refl

pub requests_exactly : RequestsExactly
unfolding decoded_of
requests_exactly x q = (
  λ h. found x (table x.a x.b x.c) q (rows x.a x.b x.c) h,
  λ e. subst (λ (y : Call). decoded y ≡ Some q) (sym e) (back q x.text),
)
