-- Laws of truth values that several proofs cite.
use mathlib.Core.Path.{◌≡◌, refl}
use mathlib.Core.Bool.{Bool, true, false, not, ◌&&◌, ◌||◌}
use mathlib.Core.Logic.{◌⊎◌, inl, inr}

pub and_left_comm : (a b c : Bool) → (a && (b && c)) ≡ (b && (a && c))
and_left_comm true true c = refl
and_left_comm true false c = refl
and_left_comm false true c = refl
and_left_comm false false c = refl

pub and_rotate : (a b c : Bool) → ((a && b) && c) ≡ (b && (a && c))
and_rotate true b c = refl
and_rotate false true c = refl
and_rotate false false c = refl

pub and_or_left : (a b c : Bool) → (a && b || a && c) ≡ (a && (b || c))
and_or_left true b c = refl
and_or_left false b c = refl

pub and_or_right : (a b c : Bool) → (a && c || b && c) ≡ ((a || b) && c)
and_or_right true true true = refl
and_or_right true true false = refl
and_or_right true false true = refl
and_or_right true false false = refl
and_or_right false b c = refl

pub and_not_self : (b : Bool) → (b && not b) ≡ false
and_not_self true = refl
and_not_self false = refl

pub not_self_and : (b : Bool) → (not b && b) ≡ false
not_self_and true = refl
not_self_and false = refl

pub or_again : (a b : Bool) → ((a || b) || a) ≡ (a || b)
or_again true b = refl
or_again false true = refl
or_again false false = refl

pub or_cases : (a b : Bool) → (a || b) ≡ true → (a ≡ true) ⊎ (b ≡ true)
or_cases true b e = inl refl
or_cases false b e = inr e

pub or_right : (a : Bool) {b : Bool} → b ≡ true → (a || b) ≡ true
or_right true e = refl
or_right false e = e

pub and_both : (a b : Bool) → (a && b) ≡ true → (a ≡ true) × (b ≡ true)
and_both true b e = (refl, e)
and_both false b e = (e, cc)

pub and_last : (a b c : Bool) → (a && (b && c)) ≡ true → c ≡ true
and_last true true c e = e
and_last true false c e = cc
and_last false b c e = cc

pub both_and : {a b : Bool} → a ≡ true → b ≡ true → (a && b) ≡ true
both_and e f = rw (e, f)

pub false_not : {b : Bool} → b ≡ false → not b ≡ true
false_not e = rw e

pub never_true : (b : Bool) → (b ≡ true → ⊥) → b ≡ false
never_true true h = absurd (h refl)
never_true false h = refl

pub never_false : (b : Bool) → (b ≡ false → ⊥) → b ≡ true
never_false true h = refl
never_false false h = absurd (h refl)

pub and_left : (x y : Bool) → x && y ≡ true → x ≡ true
and_left true y h = refl
and_left false y h = h

pub and_right : (x y : Bool) → x && y ≡ true → y ≡ true
and_right true y h = h
and_right false y h = cc

pub neither : (x y : Bool) → x || y ≡ false → (x ≡ false) × (y ≡ false)
neither true y h = (h, cc)
neither false y h = (refl, h)
