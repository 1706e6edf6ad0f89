-- Request P3: 'the place, 0 for the newest, of the newest open call that hands the key over, or none exactly when no
-- open call does', of a thread's frames and on its table.
use Rattle.std.specs.Prelude.{◌≡◌, cond, List, [], ◌∷◌, ℕ, suc, ◌<◌, Option, None, Some}
use Rattle.std.specs.Option.{IfSome}
use Rattle.base.specs.Lists.{map_option}
use Rattle.product.specs.declared.literal.Key.{Key}
use Rattle.model.specs.Limits.{most_frames}
use Rattle.model.specs.Threads.{Frame, hands}
use Rattle.model.specs.Cells.{Table, frames_of, depth_of}

-- the newest frame is the list's first
abbrev pub newest_from : Key → List Frame → Option ℕ
newest_from k [] = None
newest_from k (f ∷ fs) = cond (hands f k) (Some 0) (map_option suc (newest_from k fs))

-- r is that place of the thread in the table
pub record NewestPlace (t : Table) (k : Key) (r : Option ℕ) : Type 0 where
  pub place : r ≡ newest_from k (frames_of t (depth_of t))
  -- follows from it, and is said so that callers find the bound
  pub low : IfSome r (λ p. p < most_frames)
