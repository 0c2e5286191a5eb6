use Rattle.std.proofs.Common.{◌≡◌, All, vec_len}
use Rattle.block_laws.specs.Runnable.{IsRunnable}
use Rattle.guest_runs.proofs.tests.many_meeting.Given as goal

abbrev pub invariant-loop-cpu : goal.invariant-loop-cpu
invariant-loop-cpu l = record {
  count : vec_len l.scripts ≡ l.cpu;
  runnable : All IsRunnable l.scripts.items;
}
