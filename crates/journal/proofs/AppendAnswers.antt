-- The cases of `append_answer`, in the order in which the code tells them apart, and what an accepted append knows.
use Prim.Native.Nat.{ℕ, ◌<◌, ◌≤◌}
use mathlib.Core.Path.{◌≡◌, sym, ap, ◌∙◌}
use mathlib.Core.Bool.{Bool, true, false, ◌||◌}
use mathlib.Core.List.{List, ◌++◌}
use lib.ListN.{length, take}
use lib.Dec.{ltb}
use borrow.Author.Tests.{lt-ltb, le-ltb}
use Rattle.std.specs.Prelude.{Ok, Err}
use Rattle.call.specs.Calls.{Call}
use Rattle.base.specs.Conditions.{first_refusal}
use Rattle.journal.specs.declared.file.Refusal.{Refusal}
use Rattle.journal.specs.declared.file.Refusal.TheVariants.{Full, Corrupt}
use Rattle.journal.specs.Format.{most_bytes, is_fit}
use Rattle.journal.specs.Reading.{file_conditions, verdict_of}
use Rattle.journal.specs.Appending.{length_with, own_conditions, answer, append_answer}
use Rattle.base.proofs.Conditions.{first_here, first_later}
use Rattle.journal.proofs.FileVerdicts.{refused_some, readable_none}

module _ (d : List ℕ) (len : ℕ) (r : Call) where
  pub beyond : length d < len → Err Corrupt ≡ append_answer d len r
  unfolding append_answer
  beyond h = rw (lt-ltb (length d) len h)

  module _ (inside : len ≤ length d) where
    within : append_answer d len r ≡ answer (length_with len r) (first_refusal (file_conditions (take len d) ++ own_conditions d len r))
    unfolding append_answer
    within = rw (le-ltb (length d) len inside)

    pub file_refused : (f : Refusal) → Err f ≡ verdict_of (take len d) → Err f ≡ append_answer d len r
    unfolding verdict_of
    file_refused f h = sym (within ∙ ap (answer (length_with len r)) (first_here (file_conditions (take len d)) (own_conditions d len r) f (refused_some _ (sym h))))

    module _ (h : Ok tt ≡ verdict_of (take len d)) where
      file_passed : append_answer d len r ≡ answer (length_with len r) (first_refusal (own_conditions d len r))
      unfolding verdict_of
      file_passed = within ∙ ap (answer (length_with len r)) (first_later (file_conditions (take len d)) (own_conditions d len r) (readable_none _ (sym h)))

      module _ (p : Bool) (e : p ≡ is_fit r) where
        pub unfit : p ≡ false → Err Corrupt ≡ append_answer d len r
        unfit n = sym (file_passed ∙ rw (← e, n))

        module _ (fit : p ≡ true) where
          pub no_room_lem : ltb (length d) (length_with len r) || ltb most_bytes (length_with len r) ≡ true → Err Full ≡ append_answer d len r
          no_room_lem n = sym (file_passed ∙ rw (← e, fit, n))

          pub accepts : ltb (length d) (length_with len r) || ltb most_bytes (length_with len r) ≡ false → Ok (length_with len r) ≡ append_answer d len r
          accepts n = sym (file_passed ∙ rw (← e, fit, n))
