use Rattle.std.proofs.Common.{◌≡◌, ◌≤◌, ◌<◌, ◌+◌, ◌-◌, ◌*◌, ℕ, List, [], ◌∷◌, ◌++◌, sym, ◌∙◌, ap, subst, arith}
use Rattle.std.specs.Prelude.{All, sum_by}
use Rattle.guest_base.specs.declared.memory.Units.{Units}
use Rattle.event_core.specs.Calls.{calls_of}
use Rattle.event_core.specs.Units.{bit_after, units_end}
use Rattle.accept_sizes.specs.Room.{most_calls_of}
use Rattle.memory_core.specs.Bitmaps.{AreRunsFrom}
use Rattle.memory_core.proofs.UnitsLemmas.{first_run-facts}
use Rattle.guest_cpu.specs.declared.progress.RunRoom.{RunRoom}
use Rattle.guest_cpu.specs.Kept.{HasRoom, most_of, runs_in}
use Rattle.guest_cpu.proofs.RoomLemmas.{enough-more, most-more, rooms-end, rooms-more, summed}
use Rattle.guest_cpu.proofs.room.room_among.Goals as goal

pub overflow_add-at : goal.overflow_add-at
overflow_add-at c =
    let facts = first_run-facts (bit_after c.args.memory.now.boot (calls_of c.args.memory.now.boot c.args.memory.now.entries)) c.loop-run.at (c.args.units.first + c.args.units.count) c.in-Some.run' (sym c.next_run.ensures ∙ c.in-Some.is) in
    let high = facts.high in
    let low = c.requires in
    omega (arith, high, low)

pub loop-run-smaller : goal.loop-run-smaller
loop-run-smaller c =
    let facts = first_run-facts (bit_after c.args.memory.now.boot (calls_of c.args.memory.now.boot c.args.memory.now.entries)) c.loop-run.at (c.args.units.first + c.args.units.count) c.in-Some.run' (sym c.next_run.ensures ∙ c.in-Some.is) in
    let low = facts.low in
    let some = facts.some in
    let high = facts.high in
    let less : (c.args.units.first + c.args.units.count) - (c.in-Some.run'.first + c.in-Some.run'.count) < (c.args.units.first + c.args.units.count) - c.loop-run.at = omega (arith, low, some, high) in
    less

pub loop-run-preserved : goal.loop-run-preserved
loop-run-preserved c =
    let boot = c.args.memory.now.boot in
    let test = bit_after boot (calls_of boot c.args.memory.now.entries) in
    let run = c.in-Some.run' in
    let room = c.in_ok-room.room in
    let e = c.in_ok-room.ensures in
    let size = c.unit_pages-size.ensures in
    let same : room.run ≡ run = e.run in
    let most : most_calls_of (run.count * c.unit_pages-size.result) ≡ most_of boot run = ap (λ (n : ℕ). most_calls_of (run.count * n)) size in
    let back : most_of boot run ≡ most_of boot room.run = ap (most_of boot) (sym same) in
    let log = e.log.1 in
    let copy = e.copy.1 in
    let has : HasRoom boot room = record { unnoted = e.log.0; log = omega (arith, most, back, log); uncopied = e.copy.0; copy = omega (arith, most, back, copy) } in
    let total = summed c.checked_add.result (c.loop-run.calls + c.most_calls.result) c.in_ok-calls.calls c.checked_add.ensures c.in_ok-calls.ensures.ok_part in
    let counted = c.most_calls.ensures in
    let sum : c.in_ok-calls.calls ≡ c.loop-run.calls + most_of boot run = total.1 ∙ ap (λ (n : ℕ). c.loop-run.calls + n) (counted ∙ most) in
    let items : c.push_back.new.self.items ≡ c.loop-run.rooms.items ++ room ∷ [] = c.in_ok-push_back.ensures.items in
    let i = c.loop-run.invariant in
    let R : List RunRoom → Type 0 = λ rs. (rest : List Units) → AreRunsFrom test (units_end run) (c.args.units.first + c.args.units.count) rest → AreRunsFrom test c.args.units.first (c.args.units.first + c.args.units.count) (runs_in rs ++ rest) in
    let E : List RunRoom → Type 0 = λ rs. All (HasRoom boot) rs in
    let M : List RunRoom → Type 0 = λ rs. sum_by (most_of boot) (runs_in rs) ≤ c.in_ok-calls.calls in
    record {
      runs = subst R (sym items) (rooms-more test c.args.units.first c.loop-run.at (c.args.units.first + c.args.units.count) c.loop-run.rooms.items room run (sym c.next_run.ensures ∙ c.in-Some.is) same i.runs);
      enough = subst E (sym items) (enough-more boot c.loop-run.rooms.items room i.enough has);
      most = subst M (sym items) (most-more boot c.loop-run.rooms.items room run c.loop-run.calls c.in_ok-calls.calls same i.most sum);
    }

pub returns : goal.returns
returns c =
    let boot = c.args.memory.now.boot in
    let test = bit_after boot (calls_of boot c.args.memory.now.entries) in
    let i = c.loop-run.invariant in
    record {
      runs = (rooms-end test c.args.units.first c.loop-run.at (c.args.units.first + c.args.units.count) c.loop-run.rooms.items (sym c.next_run.ensures ∙ c.in_default.is) i.runs);
      enough = i.enough;
      most = i.most;
    }
