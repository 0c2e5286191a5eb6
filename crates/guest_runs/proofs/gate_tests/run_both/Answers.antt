use denote.Exit.{no}
use denote.Param.Send.{IsSend, param_send, arg_send, recorded_send, struct_send, shr_send, mut_send}
use denote.RattleType.{RattleType}
use denote.Struct.Declared.{shape}
use denote.Struct.Tuple.{TupleAt, type_at}
use mathlib.Core.List.{[], ◌∷◌}
use mir.Syntax.{Sym}
use Rattle.std.proofs.Crossing.{sync}
use Rattle.gate_port.proofs.gate.GatePort.TheSendSync as port
use Rattle.guest_cpu.proofs.Sent.{cpu_send}
use Rattle.guest_threads.proofs.Sent.{locks_sync, passes_send}
use Rattle.guest_runs.proofs.gate_tests.run_both.Goals as goal

-- what a closure captures, if that are five values
captures_send : (name : Sym) (A B C D E : RattleType) → IsSend A → IsSend B → IsSend C → IsSend D → IsSend E → IsSend (TupleAt name (A ∷ B ∷ C ∷ D ∷ E ∷ []))
captures_send name A B C D E a b c d e = recorded_send _ _ _ (type_at name (A ∷ B ∷ C ∷ D ∷ E ∷ [])).to_one (struct_send (shape (type_at name (A ∷ B ∷ C ∷ D ∷ E ∷ []))) (a, (b, (c, (d, (e, tt))))))

pub join-requires-send-F : goal.join-requires-send-F
join-requires-send-F g c κs within = param_send _ _ (arg_send _ no _ (captures_send _ _ _ _ _ _ (shr_send _ _ _ c.type_bounds.sync-R) (shr_send _ _ _ sync) (shr_send _ _ _ locks_sync) passes_send (mut_send _ _ _ (cpu_send _ port.the_send))))
