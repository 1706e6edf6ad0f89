-- How a caller in C sees the key search: a key and the answer are one number each.
use Rattle.std.specs.Prelude.{◌≡◌, cond, ℕ, ◌+◌, ◌*◌, ltb, Ok, Err, None}
use Rattle.product.specs.Code.{key_limit, key_at}
use Rattle.model.specs.declared.answer.Refusal.TheVariants.{NoThread}
use Rattle.model.specs.State.{State, is_live}
use Rattle.model.specs.Cells.{Cells, state_of}
use Rattle.search.specs.Searching.{Searched, searched, searched_number, searched_value}

-- its number and its value in one, as of a call's answer
abbrev pub search_code : Searched → ℕ
search_code s = searched_number s * 65536 + searched_value s

-- of the key with that number, as in a key set; no open call hands over what is no key
abbrev pub searched_for : State → ℕ → ℕ → Searched
searched_for d n x =
    cond (ltb x key_limit) (searched d n (key_at x)) (cond (is_live d n) (Ok None) (Err NoThread))

-- as `SearchesLent` of the search's `Searching`
abbrev pub TellsPlace : (Cells → Cells) → ℕ → ℕ → ℕ → Type 0
TellsPlace lent n x r = (d : Cells) → r ≡ search_code (searched_for (state_of (lent d)) n x)
