-- Literals, products and sums are read back from their numbers: a literal's number is below 524,288 and stands for it,
-- so a row's numbers stand for the product's literals.
use Rattle.std.specs.Prelude.{Some}
use mathlib.Core.Path.{◌≡◌, refl, ap, ap₂, ◌∙◌}
use mathlib.Core.List.{List, ◌∷◌, map}
use Prim.Native.Nat.{ℕ, ◌+◌, ◌*◌, ◌-◌, ◌%◌, ◌<◌}
use native.Mathlib.Omega.{arith}
use lib.ListN.{length, replicate, length-map}
use lib.Seq.{take_at}
use Rattle.product.specs.declared.literal.Key.{Key}
use Rattle.product.specs.declared.literal.Literal.{Literal}
use Rattle.product.specs.declared.literal.Literal.TheVariants.{Plain, Barred}
use Rattle.product.specs.Atom.{number_of}
use Rattle.product.specs.Product.{Product, All, no_more, and_more}
use Rattle.product.specs.Sum.{Sum}
use Rattle.product.specs.Code.{key_code, code_of, literal_at, literal_of, Numbered, EncodedKey}
use Rattle.product.specs.Cells.{product_of, row_of, blank_row, rows_of}
use Rattle.product.specs.Theorems.StoredSums.{SameReading, LiteralBack, Storable, ProductBack, SumBack}
use Rattle.product.proofs.Codes.{key_encoded, plain_encoded, barred_encoded}
use Rattle.product.proofs.WideRows.{row_for_lem}
use Rattle.product.proofs.FilledRows.{sum_few}

encoded : (k : Key) → number_of k < 65536 → EncodedKey k (key_code k)
unfolding key_code
encoded k h = key_encoded k refl refl h

literal_at_lem : (x : Literal) → Numbered x → literal_at (code_of x) ≡ x
unfolding code_of
literal_at_lem (Plain k) h = let e : 2 * key_code k + 0 ≡ 2 * key_code k = omega arith in rw e (plain_encoded refl (encoded k h)).back
literal_at_lem (Barred k) h = (barred_encoded refl (encoded k h)).back

code_small : (x : Literal) → Numbered x → code_of x < 524288
unfolding code_of
code_small (Plain k) h = omega (arith, (encoded k h).small)
code_small (Barred k) h = omega (arith, (encoded k h).small)

pub same_reading : SameReading
same_reading x h = let e : x % 524288 ≡ x = omega arith in rw e

pub literal_back : LiteralBack
literal_back x h = same_reading (code_of x) (code_small x h) ∙ literal_at_lem x h

literals_back : {p : Product} → All Numbered p → map literal_of (map code_of p) ≡ p
literals_back no_more = refl
literals_back (and_more {x} h r) = ap₂ (λ (l : Literal) (q : Product). l ∷ q) (literal_back x h) (literals_back r)

pub product_back : ProductBack
product_back p s =
    let n : length (map code_of p) ≡ length p = length-map p code_of in
    (row_for_lem (map code_of p) (length p) n s.short (ap (map code_of) (literals_back s.numbers))).product ∙ literals_back s.numbers

rows_back : {ps : Sum} → All Storable ps → map product_of (map row_of ps) ≡ ps
rows_back no_more = refl
rows_back (and_more {x = p} h r) = rw (product_back p h, rows_back r)

pub sum_back : SumBack
sum_back ps h s =
    let n : length (map row_of ps) ≡ length ps = length-map ps row_of in
    sum_few (rows_of ps) h ∙ ap (λ (l : List (List ℕ)). Some (map product_of l)) (take_at (map row_of ps) (replicate (8 - length ps) blank_row) (length ps) n) ∙ ap Some (rows_back s)
