use Rattle.std.specs.Prelude.{ℕ, List, Option}
use Rattle.guest_boot.specs.Placing.{HasNoRoom}
use Rattle.guest_map.specs.declared.map.GuestMap.{GuestMap}
use Rattle.guest_words.specs.Words.{Named}
use Rattle.guest_input.specs.Causes.{IsKnownMapOf, IsMapOf}

-- Whether memory has room for the pool (own rule).

-- The map is the map file's, wherever its contents are known, and no range of its RAM holds the pool
-- that the arguments ask for.
pub record PoolHasNoRoom (holds : List ℕ → Option (List ℕ)) (named : Named) : Type 0 where
  pub map : GuestMap
  pub map_is : IsMapOf holds named map
  pub none : HasNoRoom map.descriptors named.slots named.areas

-- the map is the map file's so, and a range holds the pool, or none is asked for
pub record PoolHasRoom (holds : List ℕ → Option (List ℕ)) (named : Named) : Type 0 where
  pub map : GuestMap
  pub map_is : IsMapOf holds named map
  pub room : HasNoRoom map.descriptors named.slots named.areas → ⊥

-- the map file is known to leave no room for the pool
pub record PoolIsKnownRoomless (holds : List ℕ → Option (List ℕ)) (named : Named) : Type 0 where
  pub map : GuestMap
  pub known : IsKnownMapOf holds named map
  pub none : HasNoRoom map.descriptors named.slots named.areas

-- the map file is known to leave room for the pool, or none is asked for
pub record PoolHasKnownRoom (holds : List ℕ → Option (List ℕ)) (named : Named) : Type 0 where
  pub map : GuestMap
  pub known : IsKnownMapOf holds named map
  pub room : HasNoRoom map.descriptors named.slots named.areas → ⊥
