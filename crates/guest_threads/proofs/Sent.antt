-- A processor's place may go to another thread, and threads may share what they run it with.
use mathlib.Core.List.{[], ◌∷◌}
use mir.Syntax.{Sym}
use denote.RattleType.{RattleType}
use denote.Param.Send.{IsSend, IsSync, recorded_send, recorded_sync, struct_send, struct_sync, sendable}
use denote.Struct.Declared.{shape}
use denote.Struct.Tuple.{TupleAt, type_at}
use Rattle.std.proofs.Crossing.{crosses}
use Rattle.io_areas.proofs.Sent as area
use Rattle.memory_core.proofs.Sent as memory
use Rattle.guest_threads.specs.contracts.locks.Locks as locks
use Rattle.guest_threads.specs.contracts.locks.Passes as passes
use Rattle.guest_threads.specs.contracts.places.Place as place

pub passes_send : IsSend passes.the_row
passes_send = recorded_send passes.the_field.row _ _ passes.the_type.to_one (struct_send (shape passes.the_type) (memory.pass_send, (search (sendable, area.pass_send, crosses) depth 20, tt)))

pub locks_sync : IsSync locks.the_row
locks_sync = recorded_sync locks.the_field.row _ _ locks.the_type.to_one (struct_sync (shape locks.the_type) (memory.lock_sync, (search (sendable, area.lock_sync, crosses) depth 20, tt)))

pub place_send : (T : RattleType) → IsSend T → IsSend (place.the_row T)
place_send T s =
    recorded_send (place.the_field T).row _ _ (place.the_type T).to_one (struct_send (shape (place.the_type T)) (s, (search (sendable, passes_send) depth 20, (search sendable depth 20, tt))))

-- what a closure captures, if that are three values
pub captures_sync : (name : Sym) (A B C : RattleType) → IsSync A → IsSync B → IsSync C → IsSync (TupleAt name (A ∷ B ∷ C ∷ []))
captures_sync name A B C a b c = recorded_sync _ _ _ (type_at name (A ∷ B ∷ C ∷ [])).to_one (struct_sync (shape (type_at name (A ∷ B ∷ C ∷ []))) (a, (b, (c, tt))))
