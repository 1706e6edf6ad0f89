-- The version of what a caller in C links, 0.2.0, as one number: two digits for each part.
use Rattle.std.specs.Prelude.{ℕ, ◌+◌, ◌*◌}

abbrev pub version_number : ℕ → ℕ → ℕ → ℕ
version_number major minor patch = major * 10000 + minor * 100 + patch

abbrev pub version : ℕ
version = version_number 0 2 0
