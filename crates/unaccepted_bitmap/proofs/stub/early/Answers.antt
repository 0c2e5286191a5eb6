use Rattle.std.proofs.Common.{◌≡◌, ◌∙◌, refl, ap, sym, subst, arith, map, take, length}
use Rattle.std.specs.List.{flat_map}
use Rattle.std.proofs.Math.Seq.{take-length}
use Rattle.event_core.specs.Stub.{early_of}
use Rattle.unaccepted_bitmap.specs.StubMap.{IsRising, pending_run}
use Rattle.unaccepted_bitmap.proofs.stub.early.Goals as goal

pub push_early-requires : goal.push_early-requires
push_early-requires c =
    let rising = subst (λ ss. IsRising c.as_slice.result.now ss) (sym c.deref-d-items.ensures.value) c.in_ok-descriptors.ensures in
    (rising.each c.loop-d.d-index _ c.loop-d-test.true).below

pub returns : goal.returns
returns c =
    let ss = c.deref-d-items.result.now in
    let of_slice = subst (λ xs. IsRising xs c.in_ok-descriptors.descriptors.items) c.as_slice.ensures c.in_ok-descriptors.ensures in
    let rising = subst (λ xs. IsRising c.args.map.now.descriptors xs) (sym c.deref-d-items.ensures.value) of_slice in
    let all : c.loop-d.d-index ≡ length ss = omega arith in
    record {
      pieces = flat_map early_of ss;
      early = record { sorted = ss; same = rising.same; rise = rising.rise; made = refl };
      are =
          c.from_vec.ensures
          ∙ c.loop-d.invariant
          ∙ ap (λ xs. map pending_run (flat_map early_of xs)) (ap (λ n. take n ss) all ∙ take-length ss);
    }
