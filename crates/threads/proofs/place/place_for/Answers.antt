-- The thread's own place first, then the scan.
use Rattle.std.proofs.Common.{of_calls, refl, sym, ◌∙◌, arith}
use Rattle.std.proofs.lemmas.Fn.{says_at}
use Rattle.std.proofs.lemmas.Iterator.{YieldsList-from_slice}
use Rattle.std.proofs.lemmas.Iterator.Search.{position_from_yields_List}
use Rattle.model.specs.Cells.{place_in}
use Rattle.threads.proofs.PlaceScan.{home_hit, home_miss}
use Rattle.threads.proofs.place.place_for.Goals as goal

pub returns-then-passes : goal.returns-then-passes
returns-then-passes g c = λ p tests.
    home_hit _ p _ _ (omega arith) (omega arith) (sym (tests _ _ (says_at _ c.passes.ensures refl)) ∙ c.if-passes.true) refl

pub returns : goal.returns
returns g c = λ p tests.
    home_miss _ p _ _ (omega arith) (omega arith) (sym (tests _ _ (says_at _ c.passes.ensures refl)) ∙ c.if-passes.false)
    (position_from_yields_List (λ t. p (place_in t)) _ _ _ c.position.ensures.ran (YieldsList-from_slice c.args.threads.now cc) (λ x b q k.
    let here : g.F.Fn.post c.args.passes (x, tt) b = search of_calls in
    (g.met.F.Fn.1.step_stays _ _ _ _ (record { met = k.met }), tests _ _ (says_at _ here refl))))
