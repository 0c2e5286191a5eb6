use denote.Exit.{no}
use denote.Param.Send.{param_send, arg_send}
use Rattle.gate_port.proofs.gate.GatePort.TheSendSync as port
use Rattle.guest_cpu.proofs.Sent.{cpu_send}
use Rattle.guest_runs.proofs.gate_tests.seats_of.Goals as goal

pub lock_all-requires-send-T : goal.lock_all-requires-send-T
lock_all-requires-send-T c κs = param_send _ _ (arg_send _ no _ (cpu_send _ port.the_send))

pub begin-requires : goal.begin-requires
begin-requires c = record { begins = c.in_ok-world.ensures c.in_ok-apart.field-0 c.in_ok-apart.ensures.count c.in_ok-apart.ensures.runnable }

pub lock_all-requires-clause-stand : goal.lock_all-requires-clause-stand
lock_all-requires-clause-stand c κs = c.in_ok-all.ensures.begun.stand

pub lock_all-requires-clause-first : goal.lock_all-requires-clause-first
lock_all-requires-clause-first c κs = c.in_ok-all.ensures.begun.first.entries
