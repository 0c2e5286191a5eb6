use Rattle.std.proofs.Common.{◌≡◌, All, vec_len}
use Rattle.std.specs.Prelude.{sum_by}
use Rattle.event_core.specs.ReadableScript.{IsReadable, bytes_named}
use Rattle.block_laws.specs.Unconverting.{ConvertsNothing}
use Rattle.guest_runs.proofs.tests.one_of_many.Given as goal

abbrev pub invariant-loop-number : goal.invariant-loop-number
invariant-loop-number l = record {
  count : vec_len l.script ≡ l.number;
  readable : All IsReadable l.script.items;
  unconverting : All ConvertsNothing l.script.items;
  unnamed : sum_by bytes_named l.script.items ≡ 0;
}
