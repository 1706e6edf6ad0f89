-- Request P3: what the key search answers.
use Rattle.std.specs.Prelude.{◌≡◌, Bool, true, false, cond, ℕ, Option, None, Some, Result, Ok, Err}
use Rattle.product.specs.declared.literal.Key.{Key}
use Rattle.model.specs.declared.answer.Refusal.{Refusal}
use Rattle.model.specs.declared.answer.Refusal.TheVariants.{NoThread}
use Rattle.model.specs.Answers.{refusal_number, second_number}
use Rattle.model.specs.State.{State, is_live, thread_at}
use Rattle.model.specs.Cells.{Cells, state_of}
use Rattle.checking.specs.Newest.{newest_from}

-- 'It answers the place .. of the newest open call that hands the key over, or none', or the refusal
abbrev pub Searched : Type 0
Searched = Result (Option ℕ) Refusal

-- 'the key search takes a run (2 if not live) and a key'
unfoldable pub searched : State → ℕ → Key → Searched
searched d n k = cond (is_live d n) (Ok (newest_from k (thread_at d n).frames)) (Err NoThread)

-- r is the answer of a function that is lent some of the arrays, whatever the others hold, as in the model's `Serving`
abbrev pub SearchesLent : (Cells → Cells) → ℕ → Key → Searched → Type 0
SearchesLent lent n k r = (d : Cells) → r ≡ searched (state_of (lent d)) n k

-- document 01's number of each case, 0 where nothing is refused, and its value: the place. None has no value in the
-- documents; 65535 stands for it, which is no place (`LowPlaces` of `Exactly`).
abbrev pub searched_number : Searched → ℕ
searched_number (Ok o) = 0
searched_number (Err r) = refusal_number r

abbrev pub searched_value : Searched → ℕ
searched_value (Ok (Some p)) = p
searched_value (Ok None) = 65535
searched_value (Err r) = second_number r

-- the search finds the key
abbrev pub is_found : Searched → Bool
is_found (Ok (Some p)) = true
is_found (Ok None) = false
is_found (Err r) = false
