-- Where there is room the list is stored whole, then its own S key and the count.
use mathlib.Core.Path.{◌≡◌, refl, sym, ap, ◌∙◌}
use mathlib.Core.Bool.{true, cond}
use mathlib.Core.List.{[], ◌∷◌}
use Prim.Native.Nat.{ℕ, zero, suc, ◌+◌, ◌<◌}
use native.Mathlib.Numerals.{add-one}
use native.Mathlib.Omega.{arith}
use borrow.Author.Tests.{lt-ltb}
use lib.Dec.{ltb}
use lib.ListN.{get_or, set}
use Rattle.model.specs.Limits.{most_frames}
use Rattle.model.specs.Cells.{Row, Table, frame_count, depth_of}
use Rattle.model.specs.Stores.{set_cell, push_row}
use Rattle.threads.proofs.frames.push.Goals as goal

-- a row stored and then changed
set_changed : (t : Table) (k : ℕ) (w : Row) (f : Row → Row) → set (set t k w) k (f (get_or (set t k w) k [])) ≡ set t k (f w)
set_changed [] k w f = refl
set_changed (v ∷ t) zero w f = refl
set_changed (v ∷ t) (suc k) w f = ap (λ (u : Table). v ∷ u) (set_changed t k w f)

pushed : (t : Table) (n : ℕ) (list : Row) (s : ℕ) → n ≡ depth_of t → n < most_frames
    → set_cell (set_cell (set t (n + 1) list) (n + 1) 0 s) 0 frame_count (n + 1) ≡ cond (ltb (depth_of t) most_frames) (push_row (set list 0 s) t) t
pushed t n list s depth h =
    let yes : ltb (depth_of t) most_frames ≡ true = lt-ltb (depth_of t) most_frames (omega arith) in
    ap (λ (u : Table). set_cell u 0 frame_count (n + 1)) (set_changed t (n + 1) list (λ w. set w 0 s))
    ∙ ap (λ (k : ℕ). set_cell (set t k (set list 0 s)) 0 frame_count k) (add-one n ∙ ap suc depth) ∙ sym (simp yes)

pub returns-clause-rows : goal.returns-clause-rows
returns-clause-rows c = pushed _ _ _ _ c.depth-frames.ensures.count c.if-frames-ge-MOST_FRAMES.false
