-- An L's eight tests over any truth values: which of them the text and the limit decide, and what each answer says of
-- them.
use Rattle.std.specs.Prelude.{Option, None, Some}
use mathlib.Core.Path.{◌≡◌, refl, sym, ap, ◌∙◌}
use mathlib.Core.Bool.{Bool, true, false, cond, ◌||◌}
use mathlib.Core.List.{List, [], ◌∷◌}
use Prim.Native.Nat.{ℕ, suc, ◌+◌}
use lib.Dec.{ltb}
use Rattle.product.specs.Sum.{Sum}
use Rattle.formula.specs.Outcome.{Outcome, accepted, malformed, too_wide, unsatisfiable}
use Rattle.base.specs.Conditions.{Condition, when, first_refusal}
use Rattle.model.specs.declared.answer.Refusal.{Refusal}
use Rattle.model.specs.declared.answer.Refusal.TheVariants.{NoThread, NoSegment, NotOwner, Unfit, Full, Malformed, TooWide, Unsatisfiable}
use Rattle.model.specs.Answers.{refusal_number}
use Rattle.model.specs.Limits.{most_standing, most_numbers, passes}
use Rattle.model.specs.Refusals.{unless, is_malformed, is_too_wide, is_unsatisfiable}
use Rattle.base.proofs.Lists.{clash}

-- ---- the conditions, over any tests

abbrev pub tests : Bool → Bool → Bool → Bool → Outcome → Bool → List (Condition Refusal)
tests live segment owner fit x over =
    unless live NoThread
    ∷ unless segment NoSegment
    ∷ unless owner NotOwner
    ∷ unless fit Unfit
    ∷ when (is_malformed x) Malformed
    ∷ when (is_too_wide x) TooWide
    ∷ when (is_unsatisfiable x) Unsatisfiable
    ∷ when over Full
    ∷ []

-- what the text and the limit refuse
abbrev pub late : Outcome → Bool → Option Refusal
late malformed over = Some Malformed
late too_wide over = Some TooWide
late unsatisfiable over = Some Unsatisfiable
late (accepted ps) over = cond over (Some Full) None

-- a refusal that the tests before the text do not give
abbrev pub is_late : Option Refusal → Bool
is_late None = true
is_late (Some r) = ltb 7 (refusal_number r)

pub reaches_text : (x : Outcome) (over : Bool) → first_refusal (tests true true true true x over) ≡ late x over
reaches_text (accepted ps) over = refl
reaches_text malformed over = refl
reaches_text too_wide over = refl
reaches_text unsatisfiable over = refl

pub passed : (u s o f : Bool) (x : Outcome) (over : Bool) (r : Option Refusal) → is_late r ≡ true → first_refusal (tests u s o f x over) ≡ r
    → (u ≡ true) × (s ≡ true) × (o ≡ true) × (f ≡ true)
passed false s o f x over r l e = clash l (sym (ap is_late e))
passed true false o f x over r l e = clash l (sym (ap is_late e))
passed true true false f x over r l e = clash l (sym (ap is_late e))
passed true true true false x over r l e = clash l (sym (ap is_late e))
passed true true true true x over r l e = (refl, refl, refl, refl)

pub late_malformed : (x : Outcome) (over : Bool) → late x over ≡ Some Malformed → x ≡ malformed
late_malformed (accepted ps) true e = cc
late_malformed (accepted ps) false e = cc
late_malformed malformed over e = refl
late_malformed too_wide over e = cc
late_malformed unsatisfiable over e = cc

pub late_wide : (x : Outcome) (over : Bool) → late x over ≡ Some TooWide → x ≡ too_wide
late_wide (accepted ps) true e = cc
late_wide (accepted ps) false e = cc
late_wide malformed over e = cc
late_wide too_wide over e = refl
late_wide unsatisfiable over e = cc

pub late_unsatisfiable : (x : Outcome) (over : Bool) → late x over ≡ Some Unsatisfiable → x ≡ unsatisfiable
late_unsatisfiable (accepted ps) true e = cc
late_unsatisfiable (accepted ps) false e = cc
late_unsatisfiable malformed over e = cc
late_unsatisfiable too_wide over e = cc
late_unsatisfiable unsatisfiable over e = refl

pub late_full : (x : Outcome) (over : Bool) → late x over ≡ Some Full → (ps : Sum) × (x ≡ accepted ps) × (over ≡ true)
late_full (accepted ps) true e = (ps, refl, refl)
late_full (accepted ps) false e = (ps, refl, cc)
late_full malformed over e = ([], cc, cc)
late_full too_wide over e = ([], cc, cc)
late_full unsatisfiable over e = ([], cc, cc)

pub late_none : (x : Outcome) (over : Bool) → late x over ≡ None → (ps : Sum) × (x ≡ accepted ps) × (over ≡ false)
late_none (accepted ps) true e = (ps, refl, cc)
late_none (accepted ps) false e = (ps, refl, refl)
late_none malformed over e = ([], cc, cc)
late_none too_wide over e = ([], cc, cc)
late_none unsatisfiable over e = ([], cc, cc)

pub late_over : (ps : Sum) (x : Outcome) (over b : Bool) → x ≡ accepted ps → over ≡ b → late x over ≡ cond b (Some Full) None
late_over ps x over b e f = ap (λ (y : Outcome). late y over) e ∙ ap (λ (t : Bool). cond t (Some Full) None) f

abbrev pub overfull : ℕ → ℕ → ℕ → Bool
overfull standing more numbers = passes most_standing (standing + more) || passes most_numbers (suc numbers)
