use Rattle.std.proofs.Common.{◌≡◌, ◌++◌, ◌∷◌, [], arith}
use Rattle.std.proofs.lemmas.List.{length_push}
use Rattle.std.proofs.lemmas.Result.{err_from_is_err_and}
use Rattle.std.specs.BTreeMap.{get}
use Rattle.std.specs.Ordering.{nat_cmp}
use Rattle.efi_map.specs.Starts.{Notes, host_start, host_end}
use Rattle.efi_map.proofs.Index.{index_more}
use Rattle.efi_map.proofs.Rules.{host_unmet}
use Rattle.efi_map.specs.MapFile.{hosts_at}
use Rattle.efi_map.proofs.Loop.{hosts_go_on, hosts_refused, hosts_read}
use Rattle.efi_map.proofs.hosts.hosts.Goals as goal

pub returns-in_err-next : goal.returns-in_err-next
returns-in_err-next c =
    let p = err_from_is_err_and c.from_residual.result c.from_residual.ensures.1 in
    rw (p.1, p.2) (hosts_refused c.in_err-next.field-0.0 c.args.size c.args.count c.loop.counter c.loop.found.items c.loop.rest.now (hosts_at c.args.size c.args.count [] c.args.bytes.now) c.loop-test.true (rw c.deref.ensures.value at c.in_err-next.ensures) c.loop.invariant.rest)

pub loop-preserved : goal.loop-preserved
loop-preserved c =
    let pushed : c.push.new.self.items ≡ c.loop.found.items ++ c.in_ok-next.next ∷ [] = c.in_ok-push.ensures.items in
    let read = rw c.deref.ensures.value at c.in_ok-next.ensures in
    let apart = host_unmet c.args.size c.loop.found.items c.loop.rest.now (c.in_ok-next.next, c.in_ok-next.after.now) read in
    let notes : Notes (get nat_cmp c.loop.starts) (get nat_cmp c.note.new.starts) c.in_ok-next.next.pages.first (host_end c.in_ok-next.next) = rw c.end.ensures at c.in_ok-note.ensures in
    record {
      number = rw pushed (omega (arith, length_push c.loop.found.items c.in_ok-next.next));
      index = rw pushed (index_more host_start host_end (get nat_cmp c.loop.starts) (get nat_cmp c.note.new.starts) c.loop.found.items c.in_ok-next.next c.loop.invariant.index apart notes);
      rest = rw pushed (hosts_go_on c.args.size c.args.count c.loop.counter c.loop.found.items c.loop.rest.now c.in_ok-next.next c.in_ok-next.after.now (hosts_at c.args.size c.args.count [] c.args.bytes.now) c.loop-test.true (rw c.deref.ensures.value at c.in_ok-next.ensures) c.loop.invariant.rest);
    }

pub returns : goal.returns
returns c = hosts_read c.args.size c.args.count c.loop.counter c.loop.found.items c.loop.rest.now (hosts_at c.args.size c.args.count [] c.args.bytes.now) c.loop-test.false c.loop.invariant.rest
