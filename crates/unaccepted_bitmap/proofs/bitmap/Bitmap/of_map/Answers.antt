use Rattle.std.proofs.Common.{sym, ◌∙◌, ap, subst}
use Rattle.std.specs.Prelude.{All}
use Rattle.event_core.specs.Stub.{unaccepted}
use Rattle.unaccepted_bitmap.specs.StubMap.{IsUnaccepted}
use Rattle.unaccepted_bitmap.proofs.StubLemmas.{unaccepted_each, stub_is_table}
use Rattle.unaccepted_bitmap.proofs.bitmap.Bitmap.of_map.Goals as goal

pub stub_bits-requires-clause-each : goal.stub_bits-requires-clause-each
stub_bits-requires-clause-each c =
    subst (All IsUnaccepted) (sym (c.deref.ensures.value ∙ c.in_ok-descriptors.ensures ∙ ap unaccepted c.as_slice.ensures))
    (unaccepted_each c.args.map.now.descriptors c.requires.each)

pub invariant_of-result : goal.invariant_of-result
invariant_of-result c = stub_is_table _ _ _ c.in_ok-base.ensures
