use Rattle.std.proofs.Common.{◌≡◌, ℕ, ◌+◌, ◌*◌, true, false, List, [], ◌∷◌, Option, None, Some, sym, subst, inl, inr}
use Rattle.std.specs.List.{list_any, AllByRecursion}
use Rattle.std.proofs.lemmas.Bool.{cases_Bool, or_parts}
use Rattle.guest_base.specs.Ranges.{in_range}
use Rattle.guest_base.specs.declared.memory.Pages.{Pages}
use Rattle.guest_base.specs.declared.memory.HostRun.{HostRun}
use Rattle.event_core.specs.declared.boot.Descriptor.{Descriptor}
use Rattle.event_core.specs.declared.boot.Boot.{Boot}
use Rattle.event_core.specs.Table.{Bits}
use Rattle.event_core.specs.Map.{MapRules}
use Rattle.event_core.specs.Stub.{default_unit, unaccepted, stub_base}
use Rattle.event_core.specs.Given.{EarlyBy}
use Rattle.event_core.specs.Units.{bit_of, unit_first, unit_pages}
use Rattle.event_core.specs.Boot.{Uncalled}
use Rattle.event_core.proofs.BootFacts.{set-unit}
use Rattle.event_core.proofs.EarlyLemmas.{in_pages, all-apart, in-early, unaccepted-each, unaccepted-apart}
use Rattle.event_laws.specs.Coming.{BootMade}

-- No early piece meets a unit with a set bit.

-- the pages of a piece lie in no unit whose bit is set
abbrev pub PieceApart : Boot → Pages → Type 0
PieceApart boot pages = (unit page : ℕ) → bit_of boot.bits unit ≡ true → in_range (unit_first boot unit) (unit_pages boot) page ≡ true → in_range pages.first pages.count page ≡ false

pieces-each : (boot : Boot) (pieces : List Pages) → ((unit page : ℕ) → bit_of boot.bits unit ≡ true → in_range (unit_first boot unit) (unit_pages boot) page ≡ true → list_any (in_pages page) pieces ≡ false) → AllByRecursion (PieceApart boot) pieces
pieces-each boot [] none = tt
pieces-each boot (p ∷ pieces) none = (
  (λ unit page set inside. (or_parts (in_pages page p) (list_any (in_pages page) pieces) (none unit page set inside)).0),
  pieces-each boot pieces (λ unit page set inside. (or_parts (in_pages page p) (list_any (in_pages page) pieces) (none unit page set inside)).1),
)

early-by : (map : List Descriptor) (hosts : List HostRun) (table : Option Bits) (slots areas cpus : ℕ) (boot : Boot) (pieces : List Pages) → MapRules map hosts → Uncalled map hosts table slots areas cpus boot → EarlyBy map table pieces → AllByRecursion (PieceApart boot) pieces
early-by map hosts (Some table) slots areas cpus boot pieces rules plain early = subst (AllByRecursion (PieceApart boot)) (sym early) tt
early-by map hosts None slots areas cpus boot pieces rules plain early =
    pieces-each boot pieces
    (λ unit page set inside.
    let u = set-unit map hosts slots areas cpus boot plain unit page set inside in
    elim (cases_Bool (list_any (in_pages page) pieces)) [
      | inl early_page ↦
          absurd (all-apart (stub_base map + unit * default_unit) page (unaccepted map) (unaccepted-each map rules.each) (unaccepted-apart map rules.apart) u.1 u.0 (in-early map pieces page early early_page))
      | inr other ↦ other
    ])

pub early-apart : (boot : Boot) (made : BootMade boot) (pieces : List Pages) → EarlyBy made.descriptors made.table pieces → AllByRecursion (PieceApart boot) pieces
early-apart boot made pieces early = early-by made.descriptors made.hosts made.table made.slots made.areas made.cpus boot pieces made.rules made.right.uncalled early
