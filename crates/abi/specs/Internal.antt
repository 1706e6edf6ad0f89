-- What the crate's private functions promise each other. Nothing here is part of what a reader must believe.
use Rattle.std.specs.Prelude.{cond, ℕ, ◌%◌, ltb}
use Rattle.product.specs.declared.literal.Key.{Key}
use Rattle.product.specs.declared.literal.Key.TheVariants.{User}
use Rattle.product.specs.Code.{number_limit, key_limit, key_at}

-- the key with that number, and beyond the last a U key
abbrev pub key_read : ℕ → Key
key_read x = cond (ltb x key_limit) (key_at x) (User (x % number_limit))
