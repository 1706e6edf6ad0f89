-- Document 01, 'Twelve calls': 'Most at a time', and how many numbers are handed out.
use Rattle.std.specs.Prelude.{Bool, ℕ, ltb}

abbrev pub most_users : ℕ
most_users = 32

-- live threads (document 01: live runs)
abbrev pub most_threads : ℕ
most_threads = 64

abbrev pub most_segments : ℕ
most_segments = 64

-- defined keys (D keys)
abbrev pub most_defined : ℕ
most_defined = 1024

-- keys in a segment's list, its own S key included
abbrev pub most_listed : ℕ
most_listed = 8

-- products in all standing locks of a segment
abbrev pub most_standing : ℕ
most_standing = 8

-- frames of a thread (open calls of a run)
abbrev pub most_frames : ℕ
most_frames = 16

-- thread numbers, and as many lock numbers
abbrev pub most_numbers : ℕ
most_numbers = 65536

-- 'accepting would pass a limit': there would be n
abbrev pub passes : ℕ → ℕ → Bool
passes most n = ltb most n
