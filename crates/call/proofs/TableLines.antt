-- A call is decoded by the line of its letter.
use mathlib.Core.Path.{◌≡◌, refl, ap, ◌∙◌}
use mathlib.Core.Bool.{Bool, true, false, cond, ◌&&◌}
use mathlib.Core.List.{List, [], ◌∷◌}
use Prim.Native.Nat.{ℕ}
use Rattle.std.specs.Prelude.{None, Some}
use Rattle.std.specs.Bool.{then_some}
use lib.Dec.{eqb}
use Rattle.call.specs.declared.request.Request.{Request}
use Rattle.call.specs.Calls.{Decoded, TableRow, table, unnamed_zero, text_named, decoded_in, decoded_of}
use Rattle.call.specs.Internal.{Line, line_in, line_of}

module _ (letter a b c n : ℕ) where
  -- the request of a line, where what it does not name is 0
  abbrev judge : Line → Decoded
  judge None = None
  judge (Some (q, k)) = cond (unnamed_zero k a b c && text_named letter n) (Some q) None

  by_line : (rs : List TableRow) → judge (line_in rs letter) ≡ decoded_in rs letter a b c n
  by_line [] = refl
  by_line (r ∷ rs) = go (eqb letter r.letter) (Some (r.request, r.named)) (line_in rs letter) (decoded_in rs letter a b c n) (by_line rs)
    where
      go : (p : Bool) (x y : Line) (z : Decoded) → judge y ≡ z → judge (cond p x y) ≡ cond p (judge x) z
      go true x y z e = refl
      go false x y z e = e

  pub unknown : None ≡ line_of letter a b c → None ≡ decoded_of letter a b c n
  unfolding line_of decoded_of
  unknown e = ap judge e ∙ by_line (table a b c)

  pub known : (q : Request) (k : ℕ) → Some (q, k) ≡ line_of letter a b c → (z : Bool) → z ≡ unnamed_zero k a b c
      → then_some (z && text_named letter n) q ≡ decoded_of letter a b c n
  unfolding line_of decoded_of
  known q k e z u = rw u (chosen (unnamed_zero k a b c && text_named letter n) ∙ ap judge e ∙ by_line (table a b c))
    where
      chosen : (p : Bool) → then_some p q ≡ cond p (Some q) None
      chosen true = refl
      chosen false = refl
