-- What is computed for each row of the table of letters holds of every request: a request is what its call is decoded
-- as, which is a row of the table for its fields.
use mathlib.Core.Path.{◌≡◌, sym, ap, ◌∙◌}
use mathlib.Core.Bool.{◌&&◌}
use mathlib.Core.List.{List, [], ◌∷◌, map}
use Prim.Native.Nat.{ℕ}
use lib.Dec.{eqb}
use lib.ListN.{length}
use Rattle.std.specs.Prelude.{None, Some}
use Rattle.call.specs.declared.request.Request.{Request}
use Rattle.call.specs.Calls.{TableRow, table, unnamed_zero, text_named, decoded_in, decoded_of}
use Rattle.call.specs.Requests.{call_of}
use Rattle.base.specs.Lists.{tail_of}
use Rattle.base.proofs.Lists.{case_bool}
use Rattle.call.proofs.Requests.{back}

module _ {A : Type 0} (f g : Request → A) where
  abbrev Same : List TableRow → Type 0
  Same rs = map (λ r. f r.request) rs ≡ map (λ r. g r.request) rs

  abbrev head_or : A → List A → A
  head_or x [] = x
  head_or x (y ∷ ys) = y

  same_row : (rs : List TableRow) (letter a b c n : ℕ) (q : Request) → decoded_in rs letter a b c n ≡ Some q → Same rs → f q ≡ g q
  same_row [] letter a b c n q e s = cc
  same_row (r ∷ rs) letter a b c n q e s =
      case_bool (eqb letter r.letter)
      (λ t. case_bool (unnamed_zero r.named a b c && text_named letter n)
      (λ u. let w : Some r.request ≡ Some q = rw (t, u) at e in
      let h : r.request ≡ q = cc in
      ap f (sym h) ∙ ap (head_or (f r.request)) s ∙ ap g h)
      (λ u. let w : None ≡ Some q = rw (t, u) at e in cc))
      (λ t. same_row rs letter a b c n q (rw t at e) (ap tail_of s))

  pub every_request : ((a b c : ℕ) → Same (table a b c)) → (q : Request) → f q ≡ g q
  unfolding decoded_of
  every_request s q =
      let x = call_of q [] in
      same_row (table x.a x.b x.c) x.letter x.a x.b x.c (length x.text) q (back q []) (s x.a x.b x.c)
