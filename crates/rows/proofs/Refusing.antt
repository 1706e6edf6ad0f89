-- Demand 1 of a listing: the laws of the first condition that holds, which are the model's, over its three conditions.
use Rattle.std.specs.Prelude.{Ok, Err, Option, None, Some}
use mathlib.Core.Path.{◌≡◌, refl, sym, ap, ◌∙◌}
use mathlib.Core.List.{List, ◌++◌}
use mathlib.Core.Logic.{◌↔◌}
use Prim.Native.Nat.{ℕ, ◌≤◌}
use native.Mathlib.Omega.{arith}
use lib.Seq.{take-append_seam, drop-append_seam}
use lib.ListN.{length, take, drop, length-append, length-drop}
use borrow.Author.Tests.{ltb-false}
use Rattle.base.specs.Conditions.{Condition, first_refusal}
use Rattle.base.proofs.Conditions.{all_fail}
use Rattle.model.specs.declared.answer.Refusal.{Refusal}
use Rattle.model.specs.Answers.{Answer}
use Rattle.model.specs.State.{State}
use Rattle.model.proofs.Refusals.Refusing.{none_refuses, none_holds, first_holds, first_refuses, first_least}
use Rattle.rows.specs.declared.row.Row.{Row}
use Rattle.rows.specs.Rows.{rows_for}
use Rattle.rows.specs.Listing.{list_conditions, filled, listed_by, listed}
use Rattle.rows.specs.Theorems.Refusing.{ListRefuses, ListRefusing}

number : {m n : ℕ} → ◌≡◌ {A = Answer} (Ok m) (Ok n) → m ≡ n
number h = cc

module _ (rows lent : List Row) where
  by_refused : (o : Option Refusal) (r : Refusal) → ((listed_by rows lent o).answer ≡ Err r) ↔ (o ≡ Some r)
  by_refused None r = (λ h. cc, λ h. cc)
  by_refused (Some s) r = (λ h. cc, λ h. cc)

  by_accepted : (o : Option Refusal) → ((listed_by rows lent o).answer ≡ Ok (length rows)) ↔ (o ≡ None)
  by_accepted None = (λ h. refl, λ h. refl)
  by_accepted (Some s) = (λ h. cc, λ h. cc)

  by_unchanged : (o : Option Refusal) (r : Refusal) → (listed_by rows lent o).answer ≡ Err r → (listed_by rows lent o).rows ≡ lent
  by_unchanged None r h = cc
  by_unchanged (Some s) r h = refl

  by_written : (o : Option Refusal) (n : ℕ) → (listed_by rows lent o).answer ≡ Ok n → (listed_by rows lent o).rows ≡ filled rows lent
  by_written None n h = refl
  by_written (Some s) n h = cc

  by_first : (o : Option Refusal) (n : ℕ) → (listed_by rows lent o).answer ≡ Ok n → take n (listed_by rows lent o).rows ≡ rows
  by_first None n h = ap (λ (k : ℕ). take k (rows ++ drop (length rows) lent)) (sym (number h)) ∙ take-append_seam rows (drop (length rows) lent)
  by_first (Some s) n h = cc

  by_beyond : (o : Option Refusal) (n : ℕ) → (listed_by rows lent o).answer ≡ Ok n → drop n (listed_by rows lent o).rows ≡ drop n lent
  by_beyond None n h =
      ap (λ (k : ℕ). drop k (rows ++ drop (length rows) lent)) (sym (number h)) ∙ drop-append_seam rows (drop (length rows) lent) ∙ ap (λ (k : ℕ). drop k lent) (number h)
  by_beyond (Some s) n h = cc

  by_length : (o : Option Refusal) → (o ≡ None → length rows ≤ length lent) → length (listed_by rows lent o).rows ≡ length lent
  by_length None h = let l = h refl in length-append rows (drop (length rows) lent) ∙ rw (length-drop (length rows) lent) (omega (arith, l))
  by_length (Some s) h = refl

module _ (d : State) (u s : ℕ) (lent : List Row) where
  abbrev cs : List (Condition Refusal)
  cs = list_conditions d u s (length lent)

  enough : first_refusal cs ≡ None → length (rows_for d u s) ≤ length lent
  enough e = ltb-false (length lent) (length (rows_for d u s)) (all_fail cs e).1.1.0

  list_refuses : ListRefuses d u s lent (listed d u s lent)
  unfolding listed
  list_refuses =
      let rows = rows_for d u s in
      let o = first_refusal cs in
      record {
        refused = λ r. (λ h. first_holds r cs ((by_refused rows lent o r).0 h), λ k. (by_refused rows lent o r).1 (first_refuses r cs k));
        accepted = (λ h. none_holds cs ((by_accepted rows lent o).0 h), λ k. (by_accepted rows lent o).1 (none_refuses cs k));
        earliest = λ r h. first_least r cs refl ((by_refused rows lent o r).0 h);
        unchanged = by_unchanged rows lent o;
        written = by_written rows lent o;
        first = by_first rows lent o;
        beyond = by_beyond rows lent o;
        as_many = by_length rows lent o enough;
      }

pub list_refusing : ListRefusing
list_refusing = record { judged = list_refuses; in_order = λ d u s lent. refl }
