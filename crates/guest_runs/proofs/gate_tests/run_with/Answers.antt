use denote.Exit.{no}
use denote.Param.Send.{param_send, arg_send}
use Rattle.gate_port.proofs.gate.GatePort.TheSendSync as port
use Rattle.guest_cpu.proofs.Sent.{cpu_send}
use Rattle.guest_runs.proofs.gate_tests.run_with.Goals as goal

pub run_one-answer-requires-send-T : goal.run_one-answer-requires-send-T
run_one-answer-requires-send-T g c κs within = param_send _ _ (arg_send _ no _ (cpu_send _ port.the_send))
