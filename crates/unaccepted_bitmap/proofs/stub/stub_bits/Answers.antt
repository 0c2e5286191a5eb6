use Rattle.std.proofs.Common.{◌≡◌, ◌+◌, ◌-◌, ◌*◌, ◌/◌, length, arith, refl, ◌∙◌}
use Rattle.event_core.specs.Stub.{default_unit, round_up, greatest_end}
use Rattle.unaccepted_bitmap.proofs.StubLemmas.{stub_frame}
use Rattle.unaccepted_bitmap.proofs.stub.stub_bits.Goals as goal

pub bitmap_bytes-bytes-requires-clause-base : goal.bitmap_bytes-bytes-requires-clause-base
bitmap_bytes-bytes-requires-clause-base c =
    let ds = c.args.descriptors.now in
    let base = c.base-base.result in
    let bytes = (round_up default_unit (greatest_end ds) - base + 8 * default_unit - 1) / (8 * default_unit) in
    let same : bytes ≡ bytes = refl in
    (stub_frame ds base bytes c.requires.some c.requires.each c.base-base.ensures same).low

pub set_whole_units-requires-clause-room : goal.set_whole_units-requires-clause-room
set_whole_units-requires-clause-room c =
    let size : length c.in_ok-bits.bits.items ≡ c.bitmap_bytes-bytes.result = omega (arith, c.in_ok-bits.ensures.len) in
    let frame =
    stub_frame c.args.descriptors.now c.base-base.result (length c.in_ok-bits.bits.items) c.requires.some c.requires.each
    c.base-base.ensures (size ∙ c.bitmap_bytes-bytes.ensures)
    in
    omega (arith, frame.size)

pub set_whole_units-requires-clause-starts : goal.set_whole_units-requires-clause-starts
set_whole_units-requires-clause-starts c =
    (stub_frame c.args.descriptors.now c.base-base.result c.bitmap_bytes-bytes.result c.requires.some c.requires.each c.base-base.ensures
    c.bitmap_bytes-bytes.ensures).starts

pub set_whole_units-requires-clause-ends : goal.set_whole_units-requires-clause-ends
set_whole_units-requires-clause-ends c =
    let size : length c.in_ok-bits.bits.items ≡ c.bitmap_bytes-bytes.result = omega (arith, c.in_ok-bits.ensures.len) in
    (stub_frame c.args.descriptors.now c.base-base.result (length c.in_ok-bits.bits.items) c.requires.some c.requires.each
    c.base-base.ensures (size ∙ c.bitmap_bytes-bytes.ensures)).ends

pub returns : goal.returns
returns c =
    let size : length c.in_ok-bits.bits.items ≡ c.bitmap_bytes-bytes.result = omega (arith, c.in_ok-bits.ensures.len) in
    let same = c.set_whole_units.ensures.size ∙ size ∙ c.bitmap_bytes-bytes.ensures in
    let frame =
    stub_frame c.args.descriptors.now c.base-base.result (length c.set_whole_units.new.bits.items) c.requires.some c.requires.each
    c.base-base.ensures same
    in
    record { least = c.base-base.ensures; size = same; each = c.set_whole_units.ensures.each; low = frame.most; below = frame.size }
