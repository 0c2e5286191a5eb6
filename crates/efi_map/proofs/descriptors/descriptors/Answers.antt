use Rattle.std.proofs.Common.{◌≡◌, ◌++◌, ◌∷◌, [], None, arith, sym, ◌∙◌}
use Rattle.std.proofs.lemmas.List.{length_push}
use Rattle.std.proofs.lemmas.List.Sums.{sum_by_push}
use Rattle.std.proofs.lemmas.Result.{err_from_is_err_and}
use Rattle.event_core.specs.Map.{ram_pages}
use Rattle.std.specs.BTreeMap.{get}
use Rattle.std.specs.Ordering.{nat_cmp}
use Rattle.event_core.specs.Map.{descriptor_end}
use Rattle.efi_map.specs.Starts.{Notes, descriptor_start}
use Rattle.efi_map.proofs.Index.{index_more}
use Rattle.efi_map.proofs.Rules.{unmet_of_fine}
use Rattle.efi_map.specs.MapFile.{descriptors_at, descriptor_fault}
use Rattle.efi_map.proofs.Loop.{descriptors_go_on, descriptors_wrong, descriptors_refused, descriptors_read, ram_stays}
use Rattle.efi_map.proofs.descriptors.descriptors.Goals as goal

pub returns-in_err-next : goal.returns-in_err-next
returns-in_err-next c =
    let p = err_from_is_err_and c.from_residual.result c.from_residual.ensures.1 in
    rw (p.1, p.2) (descriptors_refused c.in_err-next.field-0.0 c.args.size c.args.stride c.args.count c.loop.counter c.loop.found.items c.loop.rest.now (descriptors_at c.args.size c.args.stride c.args.count [] c.args.bytes.now) c.loop-test.true c.in_err-next.ensures c.loop.invariant.rest)

pub returns-in-Some : goal.returns-in-Some
returns-in-Some c = descriptors_wrong c.in-Some.fault c.args.size c.args.stride c.args.count c.loop.counter c.loop.found.items c.loop.rest.now c.in_ok-next.next c.in_ok-next.after.now (descriptors_at c.args.size c.args.stride c.args.count [] c.args.bytes.now) c.loop-test.true c.in_ok-next.ensures (rw (← c.deref.ensures.value) (sym c.fault.ensures ∙ c.in-Some.is)) c.loop.invariant.rest

pub overflow_add-ram : goal.overflow_add-ram
overflow_add-ram c =
    let fine : descriptor_fault c.loop.found.items c.in_ok-next.next ≡ None = rw (← c.deref.ensures.value) (sym c.fault.ensures ∙ c.in_default.is) in
    let few = ram_stays c.loop.found.items c.in_ok-next.next fine c.loop.invariant.few in
    omega (arith, few, c.loop.invariant.ram, c.ram_pages-ram.ensures)

pub loop-preserved : goal.loop-preserved
loop-preserved c =
    let pushed : c.push.new.self.items ≡ c.loop.found.items ++ c.in_ok-next.next ∷ [] = c.in_ok-push.ensures.items in
    let total = sum_by_push ram_pages c.loop.found.items c.in_ok-next.next in
    let fine : descriptor_fault c.loop.found.items c.in_ok-next.next ≡ None = rw (← c.deref.ensures.value) (sym c.fault.ensures ∙ c.in_default.is) in
    let few = ram_stays c.loop.found.items c.in_ok-next.next fine c.loop.invariant.few in
    let apart = unmet_of_fine c.loop.found.items c.in_ok-next.next fine in
    let notes : Notes (get nat_cmp c.loop.starts) (get nat_cmp c.note.new.starts) c.in_ok-next.next.start (descriptor_end c.in_ok-next.next) = rw c.end.ensures at c.in_ok-note.ensures in
    record {
      number = rw pushed (omega (arith, length_push c.loop.found.items c.in_ok-next.next));
      index = rw pushed (index_more descriptor_start descriptor_end (get nat_cmp c.loop.starts) (get nat_cmp c.note.new.starts) c.loop.found.items c.in_ok-next.next c.loop.invariant.index apart notes);
      ram = rw (pushed, total) (omega (arith, c.loop.invariant.ram, c.ram_pages-ram.ensures));
      few = rw (pushed, total) few;
      rest = rw pushed (descriptors_go_on c.args.size c.args.stride c.args.count c.loop.counter c.loop.found.items c.loop.rest.now c.in_ok-next.next c.in_ok-next.after.now (descriptors_at c.args.size c.args.stride c.args.count [] c.args.bytes.now) c.loop-test.true c.in_ok-next.ensures fine c.loop.invariant.rest);
    }

pub returns : goal.returns
returns c = descriptors_read c.args.size c.args.stride c.args.count c.loop.counter c.loop.found.items c.loop.rest.now (descriptors_at c.args.size c.args.stride c.args.count [] c.args.bytes.now) c.loop-test.false c.loop.invariant.rest
