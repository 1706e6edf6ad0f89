-- The key says its kind.
use mathlib.Core.Path.{◌∙◌}
use Rattle.model.specs.Cells.{depth_of}
use Rattle.checking.proofs.KeyCells.{user_key, thread_key, segment_key, defined_key}
use Rattle.checking.proofs.keys.is_held.Goals as goal
use Rattle.checking.proofs.keys.is_held.Goals.{in-Segment, in-Defined}

pub returns-in-User : goal.returns-in-User
returns-in-User c = let t = c.args.frames.thread.now in user_key t (depth_of t) c.in-User.is

pub returns-in-Thread : goal.returns-in-Thread
returns-in-Thread c = let t = c.args.frames.thread.now in thread_key t (depth_of t) c.in-Thread.is

pub returns : goal.returns
returns c =
    let t = c.args.frames.thread.now in
    c.is_some.ensures
    ∙ (elim c.match-key.branch [
      | in-Segment w ↦ segment_key t (depth_of t) c.requires c.newest_row.ensures w.in-Segment.is w.code-is
      | in-Defined w ↦ defined_key t (depth_of t) c.requires c.newest_row.ensures w.in-Defined.is w.code-is
    ])
