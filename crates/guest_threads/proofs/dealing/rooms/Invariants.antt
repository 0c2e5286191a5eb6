use Rattle.std.proofs.Common.{◌≡◌, All, vec_len}
use Rattle.guest_threads.specs.Dealt.{IsRoomFor}
use Rattle.guest_threads.proofs.dealing.rooms.Given as goal

abbrev pub invariant-loop : goal.invariant-loop
invariant-loop l =
    record {
      count : vec_len l.rooms ≡ l.counter;
      each : All (IsRoomFor l.cpus) l.rooms.items;
    }
