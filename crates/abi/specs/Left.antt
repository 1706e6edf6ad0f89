-- How many numbers of each kind are left to hand out (document 01, 'Twelve calls': 'Most at a time', and how many
-- numbers are handed out). A count beyond its limit leaves none.
use Rattle.std.specs.Prelude.{List, [], ◌∷◌, ℕ, ◌-◌}
use Rattle.model.specs.Limits.{most_users, most_segments, most_defined, most_numbers}
use Rattle.model.specs.Cells.{Row, cell, user_count, thread_count, segment_count, defined_count, lock_count}

-- users, threads, segments, defined keys and locks, of the registry
abbrev pub left_in : Row → List ℕ
left_in registry =
    (most_users - cell registry user_count)
    ∷ (most_numbers - cell registry thread_count)
    ∷ (most_segments - cell registry segment_count)
    ∷ (most_defined - cell registry defined_count)
    ∷ (most_numbers - cell registry lock_count)
    ∷ []
