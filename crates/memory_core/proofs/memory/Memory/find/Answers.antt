use Rattle.std.proofs.Common.{◌≡◌, false, Option, sym, ◌∙◌, ap}
use Rattle.std.specs.List.{list_any}
use Rattle.guest_base.specs.declared.memory.PageState.{PageState}
use Rattle.event_core.specs.Calls.{calls_of}
use Rattle.event_core.specs.MemoryRows.{is_pending, page_state}
use Rattle.event_core.specs.OwnRows.{found_at}
use Rattle.memory_core.specs.Bitmaps.{bits_in}
use Rattle.memory_core.specs.Looks.{found_in}
use Rattle.memory_core.specs.OpenClaims.{has_out}
use Rattle.memory_core.specs.Value.{MemoryValue}
use Rattle.memory_core.proofs.TouchLemmas.{found-is, table-not-pending}
use Rattle.memory_core.proofs.memory.Memory.find.Goals as goal

pub found_of-requires : goal.found_of-requires
found_of-requires c pending =
    let i = c.self.inside in
    let s = c.self.invariant.0 in
    let page = c.args.page.0 in
    let not : is_pending (page_state i.boot.value (calls_of i.boot.value i.entries.items) page) ≡ false = ap (λ (m : MemoryValue). is_pending (page_state m.boot (calls_of m.boot m.entries) page)) c.self.view_is ∙ c.requires in
    table-not-pending i.boot.value i.entries.items i.table.runs i.table.out (bits_in i.bits) i.accepting s.settled s.holds page not (sym c.state.ensures ∙ pending)

pub returns : goal.returns
returns c =
    let i = c.self.inside in
    let s = c.self.invariant.0 in
    let page = c.args.page.0 in
    let not : is_pending (page_state i.boot.value (calls_of i.boot.value i.entries.items) page) ≡ false = ap (λ (m : MemoryValue). is_pending (page_state m.boot (calls_of m.boot m.entries) page)) c.self.view_is ∙ c.requires in
    ap (λ (m : MemoryValue). found_at m.boot m.entries page) (sym c.self.view_is)
    ∙ found-is i.boot.value i.entries.items i.table.runs i.table.out (bits_in i.bits) i.accepting s.settled s.holds page not
    ∙ ap (λ (state : Option PageState). found_in state (list_any (has_out page) i.accepting)) (sym c.state.ensures)
    ∙ ap (found_in c.state.result) (sym c.is_out.ensures)
    ∙ c.found_of.ensures
