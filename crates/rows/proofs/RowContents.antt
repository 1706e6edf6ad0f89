-- Operation set by operation set, and the keys with the blank slots after them.
use Rattle.std.specs.Prelude.{None, Some}
use mathlib.Core.Path.{◌≡◌, refl, ap, ◌∙◌}
use mathlib.Core.Bool.{cond}
use mathlib.Core.List.{[], ◌∷◌, ◌++◌, map}
use Prim.Native.Nat.{ℕ, zero, suc, ◌+◌, ◌-◌, ◌%◌, ◌≤◌, ◌<◌}
use native.Mathlib.Omega.{arith}
use lib.ListN.{length, replicate, length-append, length-map, length-replicate}
use lib.Seq.{take_all}
use Rattle.product.specs.Product.{Product}
use Rattle.model.specs.Operations.{deny, includes}
use Rattle.rows.specs.Rows.{slots_of}
use Rattle.rows.specs.Theorems.RowContents.{signed_in, RowContents}

-- a set below 16 is its operations and its deny
sets : (o : ℕ) → o < 16 → o % deny + cond (includes o deny) 8 0 ≡ o
sets zero h = refl
sets (suc zero) h = refl
sets (suc (suc zero)) h = refl
sets (suc (suc (suc zero))) h = refl
sets (suc (suc (suc (suc zero)))) h = refl
sets (suc (suc (suc (suc (suc zero))))) h = refl
sets (suc (suc (suc (suc (suc (suc zero)))))) h = refl
sets (suc (suc (suc (suc (suc (suc (suc zero))))))) h = refl
sets (suc (suc (suc (suc (suc (suc (suc (suc zero)))))))) h = refl
sets (suc (suc (suc (suc (suc (suc (suc (suc (suc zero))))))))) h = refl
sets (suc (suc (suc (suc (suc (suc (suc (suc (suc (suc zero)))))))))) h = refl
sets (suc (suc (suc (suc (suc (suc (suc (suc (suc (suc (suc zero))))))))))) h = refl
sets (suc (suc (suc (suc (suc (suc (suc (suc (suc (suc (suc (suc zero)))))))))))) h = refl
sets (suc (suc (suc (suc (suc (suc (suc (suc (suc (suc (suc (suc (suc zero))))))))))))) h = refl
sets (suc (suc (suc (suc (suc (suc (suc (suc (suc (suc (suc (suc (suc (suc zero)))))))))))))) h = refl
sets (suc (suc (suc (suc (suc (suc (suc (suc (suc (suc (suc (suc (suc (suc (suc zero))))))))))))))) h = refl
sets (suc (suc (suc (suc (suc (suc (suc (suc (suc (suc (suc (suc (suc (suc (suc (suc o)))))))))))))))) h = absurd (omega arith)

-- keys and then blank slots

blanks : (k : ℕ) → signed_in (replicate k None) ≡ []
blanks zero = refl
blanks (suc k) = blanks k

signs : (p : Product) (k : ℕ) → signed_in (map (λ x. Some x) p ++ replicate k None) ≡ p
signs [] k = blanks k
signs (x ∷ p) k = ap (λ (q : Product). x ∷ q) (signs p k)

back : (p : Product) → length p ≤ 6 → signed_in (slots_of p) ≡ p
back p h = ap (λ (q : Product). signed_in (map (λ x. Some x) q ++ replicate (6 - length p) None)) (take_all 6 p h) ∙ signs p (6 - length p)

size : (p : Product) → length p ≤ 6 → length (slots_of p) ≡ 6
size p h = rw (length-append, length-map, take_all 6 p h, length-replicate) (omega (arith, h))

pub row_contents : RowContents
row_contents =
    record {
      lock = λ n o p. refl;
      operations = λ n o p h. sets o h;
      beside = λ n o p. omega arith;
      keys = λ n o p h. back p h;
      six = λ n o p h. size p h;
    }
