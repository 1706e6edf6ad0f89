-- Document 02, P1: what a listing answers, and the lent rows afterwards.
use Rattle.std.specs.Prelude.{◌≡◌, List, [], ◌∷◌, ◌++◌, ℕ, ltb, length, drop, Ok, Err, Option, None, Some}
use Rattle.base.specs.Conditions.{Condition, when, first_refusal}
use Rattle.model.specs.declared.answer.Refusal.{Refusal}
use Rattle.model.specs.declared.answer.Refusal.TheVariants.{UnknownUser, NoSegment, TooFewRows}
use Rattle.model.specs.Answers.{Answer}
use Rattle.model.specs.State.{State, is_user, is_segment}
use Rattle.model.specs.Refusals.{unless}
use Rattle.model.specs.Cells.{Cells, state_of}
use Rattle.rows.specs.declared.row.Row.{Row}
use Rattle.rows.specs.Rows.{rows_for}

-- '19 when fewer rows are lent than needed, after 1 and 3'; so many are lent
abbrev pub list_conditions : State → ℕ → ℕ → ℕ → List (Condition Refusal)
list_conditions d u s lent =
    unless (is_user d u) UnknownUser
    ∷ unless (is_segment d s) NoSegment
    ∷ when (ltb lent (length (rows_for d u s))) TooFewRows
    ∷ []

-- an answer, and the lent rows afterwards, of any kind
pub record Listed (X : Type 0) : Type 0 where
  pub answer : Answer
  pub rows : List X

-- 'Rows beyond the last are untouched.'
abbrev pub filled : {X : Type 0} → List X → List X → List X
filled rows lent = rows ++ drop (length rows) lent

-- 'The answer is the number of rows filled.' A refusal leaves every row.
abbrev pub listed_by : {X : Type 0} → List X → List X → Option Refusal → Listed X
listed_by rows lent None = record { answer = Ok (length rows); rows = filled rows lent }
listed_by rows lent (Some r) = record { answer = Err r; rows = lent }

-- 'A listing takes a user and a segment and fills a lent run of row records.'
unfoldable pub listed : State → ℕ → ℕ → List Row → Listed Row
listed d u s lent = listed_by (rows_for d u s) lent (first_refusal (list_conditions d u s (length lent)))

-- r is the answer and rows' are the lent rows afterwards
pub record Lists {X : Type 0} (o : Listed X) (r : Answer) (rows' : List X) : Type 0 where
  pub answer : r ≡ o.answer
  pub rows : rows' ≡ o.rows

-- the same of a function that is lent some of the arrays, whatever the others hold, as in the model's `Serving`
abbrev pub ListsLent : (Cells → Cells) → ℕ → ℕ → List Row → Answer → List Row → Type 0
ListsLent lent u s rows r rows' = (d : Cells) → Lists (listed (state_of (lent d)) u s rows) r rows'
