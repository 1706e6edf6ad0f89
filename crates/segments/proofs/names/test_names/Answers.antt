-- Each test in turn.
use Rattle.segments.specs.Internal.{no_segment_lem, no_key_lem, handed_out_lem}
use Rattle.segments.proofs.names.test_names.Goals as goal

pub returns-then-segments-segment-clause-tested : goal.returns-then-segments-segment-clause-tested
returns-then-segments-segment-clause-tested c = no_segment_lem _ c.segments.ensures c.if-segments-segment.true

pub returns-then-defined-key-clause-tested : goal.returns-then-defined-key-clause-tested
returns-then-defined-key-clause-tested c =
    no_key_lem _ c.segments.ensures c.if-segments-segment.false _ c.defined.ensures c.if-defined-key.true

pub returns-clause-tested : goal.returns-clause-tested
returns-clause-tested c =
    handed_out_lem _ c.segments.ensures c.if-segments-segment.false _ c.defined.ensures c.if-defined-key.false
