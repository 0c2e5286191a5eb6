use Rattle.std.specs.Prelude.{None, ◌≡◌, All}
use Rattle.event_core.specs.Holdings.{Holding, Own, PrivateBlock}

-- What a processor has whose commands convert nothing (own rule).

-- its blocks are private, and none is converting
pub record IsPlain (own : Own) : Type 0 where
  pub converting : own.converting ≡ None
  pub private : All (λ (h : Holding). h.sharing ≡ PrivateBlock) own.blocks
