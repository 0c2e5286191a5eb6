use denote.Exit.{no}
use denote.Param.Send.{param_send, param_sync, arg_send, arg_sync, shr_sync}
use Rattle.std.proofs.Crossing.{sync}
use Rattle.guest_threads.proofs.Sent.{captures_sync, locks_sync, place_send}
use Rattle.guest_threads.proofs.places.run_all.Goals as goal

pub for_each_mut-requires-send-T : goal.for_each_mut-requires-send-T
for_each_mut-requires-send-T g c κs within = param_send _ _ (arg_send _ no _ (place_send _ c.type_bounds.send-T))

pub for_each_mut-requires-sync-F : goal.for_each_mut-requires-sync-F
for_each_mut-requires-sync-F g c κs within = param_sync _ _ (arg_sync _ no _ (captures_sync _ _ _ _ (shr_sync _ _ _ c.type_bounds.sync-R) (shr_sync _ _ _ sync) (shr_sync _ _ _ locks_sync)))
