-- What always holds of a page table's parts.
use Rattle.std.specs.Prelude.{◌≡◌, ℕ, ◌+◌, ◌<◌, ◌≤◌, [], length, sum_by, Vec, vec_capacity}
use Rattle.std.specs.declared.alloc.Global.{Global}
use Rattle.guest_base.specs.declared.memory.PageRun.{PageRun}
use Rattle.page_module.specs.Tables.{Rising, Differing}
use Rattle.page_module.specs.Building.{places, AllOut}
use Rattle.page_module.specs.declared.span.TakenRun.{TakenRun}
use Rattle.page_module.specs.declared.ticket.Ticket.{Ticket}

-- the runs are maximal, the spans that are out share no page, and what is kept and what is left
-- fits the vectors
pub record TableHolds
    (runs next : Vec PageRun Global) (out : Vec Ticket Global) (spare : Vec TakenRun Global)
    (kept room : ℕ) : Type 0 where
  pub rising : Rising 0 runs.items
  pub differing : Differing runs.items
  pub apart : AllOut runs.items out.items
  pub next_empty : next.items ≡ []
  pub spare_empty : spare.items ≡ []
  pub kept_is : kept ≡ sum_by places out.items
  pub runs_room : length runs.items + kept + room ≤ vec_capacity runs
  pub next_room : length runs.items + kept + room ≤ vec_capacity next
  pub spare_room : room ≤ vec_capacity spare
  pub out_room : 0 < room → length out.items < vec_capacity out
