-- After every list of calls from the empty state a listing is read from the calls and their answers alone: what it is
-- refused by, the answer, and every lent row afterwards. The owner's rows are the products that the compiler makes of
-- the standing locks' texts, which are those of the formulas that the texts spell; anyone else's are the standing locks
-- themselves. Proved in `proofs/FromHistory.antt`.
use Rattle.std.specs.Prelude.{◌≡◌, Bool, true, false, cond, ℕ, eqb, ltb, length}
use mathlib.Core.List.{List, [], ◌∷◌, map, Memᴰ}
use Rattle.product.specs.Product.{Product}
use Rattle.formula.specs.Tree.{ors, Tree}
use Rattle.formula.specs.Text.{Text}
use Rattle.formula.specs.Nodes.{products}
use Rattle.formula.specs.Outcome.{outcome_of}
use Rattle.formula.specs.Compiler.{everything}
use Rattle.call.specs.Calls.{Call}
use Rattle.call.specs.Letters as letters
use Rattle.base.specs.Conditions.{Condition, when, first_refusal}
use Rattle.base.specs.Lists.{concat_map, is_some, or_default, rising}
use Rattle.model.specs.declared.answer.Refusal.{Refusal}
use Rattle.model.specs.declared.answer.Refusal.TheVariants.{UnknownUser, NoSegment, TooFewRows}
use Rattle.model.specs.Refusals.{unless}
use Rattle.model.specs.Cells.{state_of}
use Rattle.model.specs.History.{Event, Lock, history, accepted_of}
use Rattle.model.specs.HistoryLocks.{locks_on, products_of}
use Rattle.model.specs.Replay.{reached, events, history_of}
use Rattle.rows.specs.declared.row.Row.{Row}
use Rattle.rows.specs.Rows.{list_row}
use Rattle.rows.specs.Listing.{Listed, listed_by, listed}

-- the segment is handed out, and to that user
abbrev pub owns_in : List Event → ℕ → ℕ → Bool
owns_in es u s = or_default false (λ e. eqb e.owner u) ((history es).segments s)

abbrev pub lock_row : Lock → Product → Row
lock_row l p = list_row l.number l.operations p

-- 'The owner gets one row for each product, by lock number and then in the formula's list order'
abbrev pub shown_rows : Lock → List Row
shown_rows l = map (lock_row l) (products_of outcome_of l.text)

-- 'Anyone else gets one such row for each standing lock, by number, the keys blank.'
abbrev pub lock_blank : Lock → Row
lock_blank l = lock_row l []

abbrev pub rows_from : List Event → ℕ → ℕ → List Row
rows_from es u s = cond (owns_in es u s) (concat_map shown_rows (locks_on es s)) (map lock_blank (locks_on es s))

abbrev pub conditions_from : List Event → ℕ → ℕ → ℕ → List (Condition Refusal)
conditions_from es u s lent =
    unless (ltb u (accepted_of letters.U es)) UnknownUser
    ∷ unless (is_some ((history es).segments s)) NoSegment
    ∷ when (ltb lent (length (rows_from es u s))) TooFewRows
    ∷ []

abbrev pub listed_from : List Event → ℕ → ℕ → List Row → Listed Row
listed_from es u s lent = listed_by (rows_from es u s) lent (first_refusal (conditions_from es u s (length lent)))

-- the formula that a lock's text spells; what the compiler makes of the text are its products
pub record SpeltProducts (text : List ℕ) : Type 0 where
  pub tree : Tree ors
  pub spelt : Text everything text tree
  pub made : products_of outcome_of text ≡ products false tree

pub record FromHistory : Type 0 where
  pub listing : (xs : List Call) (u s : ℕ) (lent : List Row)
      → listed (state_of (reached outcome_of xs)) u s lent ≡ listed_from (events outcome_of xs) u s lent
  -- the standing locks on a segment are in the order of their numbers
  pub in_order : (xs : List Call) (s : ℕ) → rising (map (λ l. l.number) (locks_on (events outcome_of xs) s)) ≡ true
  pub formula : (xs : List Call) (l : Lock) → Memᴰ l (history_of outcome_of xs).locks → SpeltProducts l.text
