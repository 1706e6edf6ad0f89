-- What the crate's private functions promise each other. Nothing here is part of what a reader must believe.
use Rattle.std.specs.Borrow.{Bor}
use Rattle.std.specs.Fn.{Shared, FnReturnsAt}
use Rattle.std.specs.Prelude.{◌≡◌, Bool, eqb}
use Rattle.model.specs.State.{Place}
use Rattle.model.specs.Cells.{Table, cell, row_at, frame_count, place_in}

-- the test of the code answers what p says of the thread's place
abbrev pub TestsPlaces : {F : Type 0} → Shared F (Bor Table × Unit {0}) Bool → (Place → Bool) → F → Type 0
TestsPlaces g p f = (t : Table) (r : Bool) → FnReturnsAt g f t r → r ≡ p (place_in t)

-- the thread has no frame
abbrev pub is_idle : Table → Bool
is_idle t = eqb (cell (row_at t 0) frame_count) 0
