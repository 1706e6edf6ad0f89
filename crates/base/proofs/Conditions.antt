-- Laws of the first condition that holds: over two lists, and where none holds.
use Rattle.std.specs.Prelude.{Option, None, Some}
use mathlib.Core.Path.{◌≡◌, refl}
use mathlib.Core.Bool.{Bool, true, false, cond}
use mathlib.Core.List.{List, [], ◌∷◌, ◌++◌}
use Rattle.base.specs.Conditions.{Condition, first_refusal}

pub first_here : {R : Type 0} (xs ys : List (Condition R)) (f : R) → first_refusal xs ≡ Some f → first_refusal (xs ++ ys) ≡ Some f
first_here [] ys f h = cc
first_here {R} (x ∷ xs) ys f h = go x.holds (first_here xs ys f) h
  where
    go : (b : Bool) {o p : Option R} → (o ≡ Some f → p ≡ Some f) → cond b (Some x.refusal) o ≡ Some f → cond b (Some x.refusal) p ≡ Some f
    go true k h = h
    go false k h = k h

pub first_later : {R : Type 0} (xs ys : List (Condition R)) → first_refusal xs ≡ None → first_refusal (xs ++ ys) ≡ first_refusal ys
first_later [] ys h = refl
first_later {R} (x ∷ xs) ys h = go x.holds (first_later xs ys) h
  where
    go : (b : Bool) {o p q : Option R} → (o ≡ None → p ≡ q) → cond b (Some x.refusal) o ≡ None → cond b (Some x.refusal) p ≡ q
    go true k h = cc
    go false k h = k h

-- none of the conditions holds
abbrev pub AllFail : {R : Type 0} → List (Condition R) → Type 0
AllFail [] = Unit {0}
AllFail (x ∷ xs) = (x.holds ≡ false) × AllFail xs

pub all_fail : {R : Type 0} (xs : List (Condition R)) → first_refusal xs ≡ None → AllFail xs
all_fail [] h = tt
all_fail {R} (x ∷ xs) h = go x.holds (all_fail xs) h
  where
    go : (b : Bool) {o : Option R} → (o ≡ None → AllFail xs) → cond b (Some x.refusal) o ≡ None → (b ≡ false) × AllFail xs
    go true k h = (cc, k cc)
    go false k h = (refl, k h)

pub fail_parts : {R : Type 0} (xs ys : List (Condition R)) → AllFail (xs ++ ys) → AllFail xs × AllFail ys
fail_parts [] ys a = (tt, a)
fail_parts (x ∷ xs) ys a = let p = fail_parts xs ys a.1 in ((a.0, p.0), p.1)

pub none_first : {R : Type 0} (xs : List (Condition R)) → AllFail xs → first_refusal xs ≡ None
none_first [] a = refl
none_first (x ∷ xs) a = rw a.0 (none_first xs a.1)
