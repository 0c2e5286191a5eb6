use Rattle.std.proofs.Common.{rules, ◌≡◌, ◌++◌, [], ◌∷◌, sym, ◌∙◌, ap, subst, length, map, vec_len, arith, append_assoc, ◌+◌, ◌≤◌, All, reverse}
use Rattle.std.proofs.lemmas.List.{length_push}
use Rattle.guest_steps.specs.Ground.{Ground}
use Rattle.guest_cpu.specs.Standing.{CpuStands, seen_by}
use Rattle.guest_steps.specs.Standing.{Stands}
use Rattle.guest_runs.specs.OnPorts.{first_on, ports_of}
use Rattle.guest_runs.proofs.OnPortsLemmas.{all-front, all-push, first-more, ports-more}
use Rattle.guest_runs.proofs.seats.start_all.Goals as goal

pub loop-script-preserved : goal.loop-script-preserved
loop-script-preserved g c =
    let i = c.loop-script.invariant in
    let made = g.P.Port.made in
    let faults = g.P.Port.faults in
    let all = c.loop-script.all.items in
    let yielded = c.loop-script.yielded in
    let script = c.in-Some.script in
    let steps = c.in-Some.ensures.steps in
    let pushed = c.push_reserved.ensures in
    let hosts = c.take_last-hosts.ensures in
    let ports = c.take_last-port.ensures in
    let long : length all ≡ length yielded = search rules in
    let number : c.len-in-loop-script.result ≡ length all = search rules in
    let more : length (yielded ++ script ∷ []) ≡ length yielded + 1 = length_push yielded script in
    let count = i.count in
    let length_more = pushed.len in
    let hosts_less = hosts.len in
    let hosts_count = i.hosts_count in
    let ports_less = ports.len in
    let ports_count = i.ports_count in
    record {
      scripts = i.scripts ∙ ap (λ xs. yielded ++ xs) steps.0 ∙ sym (append_assoc yielded (script ∷ []) c.next.new.self.rest.items);
      count = omega (arith, more, count, length_more);
      room = pushed.capacity ∙ i.room;
      hosts = all-front (λ copy. copy ≡ c.args.boot.now.hosts) c.take_last-hosts.new.self.items c.take_last-hosts.result (subst (λ xs. All (λ copy. copy ≡ c.args.boot.now.hosts) xs) hosts.items i.hosts);
      hosts_count = omega (arith, hosts_less, length_more, hosts_count);
      ports = subst (λ xs. c.args.ports.now.items ≡ ports_of xs ++ reverse c.take_last-port.new.self.items) (sym pushed.items)
          (ports-more all c.loop-script.ports.items c.take_last-port.new.self.items c.args.ports.now.items c.new.result c.take_last-port.result i.ports ports.items c.new.ensures.port);
      ports_count = omega (arith, ports_less, length_more, ports_count);
      seen = subst (λ xs. map (seen_by made faults) xs ≡ first_on made faults c.args.boot.now 0 (yielded ++ script ∷ []) (ports_of xs)) (sym pushed.items)
          (first-more made faults c.args.boot.now yielded script all c.new.result c.take_last-port.result c.len-in-loop-script.result i.seen long number c.new.ensures.port c.new.ensures.seen);
      stand = all-push (λ c. (base : Ground) → Stands (seen_by made faults c) base → CpuStands made faults g.P.Port.room c base) all c.push_reserved.new.self.items c.new.result i.stand c.new.ensures.stands pushed.items;
      port_room = subst (λ n. vec_len c.args.ports.now ≤ n) (sym ports.capacity) i.port_room;
    }
