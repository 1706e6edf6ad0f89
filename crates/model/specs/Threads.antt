-- Document 01, 'Keys' and 'The history': a thread (document 01: run), its frames (its open calls) and its key set.
use Rattle.std.specs.Prelude.{Bool, ◌||◌, List, ℕ}
use Rattle.product.specs.declared.literal.Key.{Key}
use Rattle.product.specs.declared.literal.Key.TheVariants.{User, Thread as ThreadKey}
use Rattle.std.specs.Ordering.{is_eq}
use Rattle.product.specs.Atom.{compare_atoms}
use Rattle.base.specs.Lists.{any}

-- an open call: its segment, and the keys that it hands over: the list that it got when made, 'less what was taken
-- since' (request P5)
pub record Frame : Type 0 where
  pub segment : ℕ
  pub keys : List Key

-- a live thread (document 01: live run); the newest frame is the first
pub record Thread : Type 0 where
  pub user : ℕ
  pub frames : List Frame

abbrev pub same_key : Key → Key → Bool
same_key j k = is_eq (compare_atoms j k)

abbrev pub is_in : Key → List Key → Bool
is_in k keys = any (same_key k) keys

-- the open call hands the key over
abbrev pub hands : Frame → Key → Bool
hands f k = is_in k f.keys

-- document 01: key set, by which keys are in it
abbrev pub KeySet : Type 0
KeySet = Key → Bool

-- 'its user's U key, its own R key and every key in its open calls' lists', of thread n
abbrev pub key_set : ℕ → Thread → KeySet
key_set n t = λ k. same_key k (User t.user) || (same_key k (ThreadKey n) || any (λ f. hands f k) t.frames)
