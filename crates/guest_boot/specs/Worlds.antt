use Rattle.std.specs.Prelude.{ℕ, [], None, ◌≡◌}
use Rattle.std.specs.Option.{ForSome}
use Rattle.event_core.specs.Calls.{SoundCalls}
use Rattle.event_core.specs.Runs.{state_in}
use Rattle.dma_map.specs.Pools.{IsLayout, layout_in}
use Rattle.memory_core.specs.Value.{handed_to}
use Rattle.guest_boot.specs.Areas.{AreFirstAreas}
use Rattle.guest_boot.specs.declared.world.World.{World}

-- a world as boot leaves it: the memory is the boot's, with no entry and no open claim, and boot's calls found their pages in the
-- states that they need; the areas are those of its pool, and have no entry; the pool lies in memory
pub record WorldStands (w : World) : Type 0 where
  pub same : w.memory.boot ≡ w.boot
  pub entries : w.memory.entries ≡ []
  pub out : (cpu : ℕ) → handed_to w.memory cpu ≡ None
  pub sound : SoundCalls (state_in w.boot.ram) w.boot.calls
  pub areas : AreFirstAreas w.boot w.areas.items
  pub layout : w.layout ≡ layout_in w.boot
  pub shaped : ForSome w.layout IsLayout
