use Rattle.std.proofs.Common.{◌≡◌, ◌≢◌, ℕ, ◌+◌, ◌*◌, ◌/◌, ◌^◌, ◌<◌, ◌==◌, Bool, true, false, ◌&&◌, ◌||◌, cond, List, [], ◌∷◌, Option, None, Some, refl, sym, ◌∙◌, ap, subst, inl, inr, arith, unwrap_or}
use Rattle.std.specs.Prelude.{nat_le, nat_lt}
use Rattle.std.specs.List.{list_any}
use Rattle.std.proofs.lemmas.Bool.{cases_Bool, eqb-true}
use Rattle.std.proofs.lemmas.Bool.Decides.{nat_tests}
use Rattle.std.proofs.lemmas.Nat.{pow_pos}
use Rattle.guest_base.specs.Ranges.{in_range}
use Rattle.guest_base.specs.Requests.{raised_slots, raised_to_power}
use Rattle.guest_base.specs.Search.{first_such}
use Rattle.guest_base.specs.declared.memory.HostRun.{HostRun}
use Rattle.guest_base.specs.declared.memory.Pages.{Pages}
use Rattle.guest_base.specs.declared.memory.PageState.{PageState}
use Rattle.guest_base.specs.declared.memory.PageState.TheVariants.{Pending, Accepted}
use Rattle.event_core.specs.declared.boot.Boot.{Boot}
use Rattle.event_core.specs.declared.boot.Descriptor.{Descriptor}
use Rattle.event_core.specs.declared.boot.Recorded.{Recorded}
use Rattle.event_core.specs.Boot.{PoolPlaced, Uncalled}
use Rattle.event_core.specs.Given.{first_by}
use Rattle.event_core.specs.Map.{holds_page, is_ram, is_unaccepted, ram_page, unaccepted_page}
use Rattle.event_core.specs.Table.{Bits, marks_page}
use Rattle.guest_boot.specs.Placing.{HasNoRoom}
use Rattle.guest_runs.specs.Asking.{Asking}
use Rattle.guest_words.specs.Words.{Named, cpus_in}
use Rattle.guest_run.specs.Boots.{BootStops}
use Rattle.guest_run.specs.Ran.{RunOf}
use Rattle.guest_run.specs.Room.{PoolHasRoom}

-- Where boot placed the pool there is room for it.

-- ---- pages of RAM

last_true : (a b c : Bool) → c ≡ true → (a || (b || c)) ≡ true
last_true true b c h = refl
last_true false true c h = refl
last_true false false c h = h

held_more : (u r h a b : Bool) → (u ≡ true → r ≡ true) → (a ≡ true → b ≡ true) → ((u && h) || a) ≡ true → ((r && h) || b) ≡ true
held_more u true true a b kind more t = refl
held_more true true false a b kind more t = more t
held_more true false h a b kind more t = let no : false ≡ true = kind refl in cc
held_more false true false a b kind more t = more t
held_more false false h a b kind more t = more t

-- unaccepted memory is RAM
unaccepted_is_ram : (map : List Descriptor) (page : ℕ) → unaccepted_page map page ≡ true → ram_page map page ≡ true
unaccepted_is_ram [] page h = h
unaccepted_is_ram (d ∷ map) page h =
    held_more (is_unaccepted d) (is_ram d) (holds_page page d) (unaccepted_page map page) (ram_page map page)
    (last_true (nat_le 1 d.kind && nat_le d.kind 4) (d.kind == 7) (d.kind == 15)) (unaccepted_is_ram map page) h

some_ram : (u r : Bool) → cond u (Some Pending) (cond r (Some Accepted) None) ≢ None → (u ≡ true → r ≡ true) → r ≡ true
some_ram true r some ram = ram refl
some_ram false true some ram = refl
some_ram false false some ram = absurd (some refl)

first_true : (a b : Bool) → (a && b) ≡ true → a ≡ true
first_true true b h = refl
first_true false b h = h

-- a page that has a state at first is one of RAM
first_is_ram : (map : List Descriptor) (table : Option Bits) (page : ℕ) → first_by map table page ≢ None → ram_page map page ≡ true
first_is_ram map None page some = some_ram (unaccepted_page map page) (ram_page map page) some (unaccepted_is_ram map page)
first_is_ram map (Some t) page some =
    some_ram (unaccepted_page map page && marks_page t page) (ram_page map page) some
    (λ marked. unaccepted_is_ram map page (first_true (unaccepted_page map page) (marks_page t page) marked))

-- ---- a size that was asked for

cond_some : (b : Bool) (x y : ℕ) → (b ≡ true → 0 < x) → 0 < y → 0 < cond b x y
cond_some true x y low high = low refl
cond_some false x y low high = high

raised_some : (slots areas : ℕ) → 0 < raised_slots slots areas
raised_some slots areas =
    cond_some (nat_lt slots (128 * areas)) (128 * areas) (raised_to_power slots)
    (λ (t : nat_lt slots (128 * areas) ≡ true). grind (arith, nat_tests, t))
    (pow_pos (unwrap_or (first_such (λ k. nat_le slots (2 ^ k)) 0 (slots + 1)) 0))

-- a pool that was asked for has the raised size
asked_size : (slots areas : ℕ) (b : Bool) → (slots == 0) ≡ b → slots ≢ 0 → cond (slots == 0) 0 (raised_slots slots areas) ≡ raised_slots slots areas
asked_size slots areas true is some = absurd (some (eqb-true slots 0 is))
asked_size slots areas false is some = ap (λ b. cond b 0 (raised_slots slots areas)) is

-- ---- the pool of a boot

room_at : (map : List Descriptor) (hosts : List HostRun) (table : Option Bits) (slots areas cpus : ℕ) (boot : Boot) (pool : Option Pages) → Uncalled map hosts table slots areas cpus boot → PoolPlaced boot pool → HasNoRoom map slots areas → ⊥
room_at map hosts table slots areas cpus boot None plain placed none =
    let size = plain.raised ∙ asked_size slots areas (slots == 0) refl none.asked in
    let some = raised_some slots areas in
    absurd (omega (arith, placed, size, some))
room_at map hosts table slots areas cpus boot (Some pool) plain placed none =
    let size : boot.slots ≡ raised_slots slots areas = plain.raised ∙ asked_size slots areas (slots == 0) refl none.asked in
    none.nowhere pool.first (λ page within.
    (let there = placed.1.room page (subst (λ n. in_range pool.first (n / 2) page ≡ true) (sym size) within) in
    first_is_ram map table page (subst (λ (s : Option PageState). s ≢ None) (plain.ram.each page) there)))

-- so has the pool of a run
pub room_of_run : {P : Type 0} (holds : List ℕ → Option (List ℕ)) (ports : Asking P) (named : Named) (r : Recorded) → RunOf holds ports named r → PoolHasRoom holds named
room_of_run holds ports named r run =
    let booted = run.booted in
    let plain = booted.right.uncalled in
    record {
      map = booted.map;
      map_is = booted.given.map_is;
      room = room_at booted.map.descriptors booted.map.hosts booted.table named.slots named.areas (cpus_in named) r.boot r.boot.pool plain plain.pool;
    }

-- and that of a boot that stopped
pub room_of_stop : {P : Type 0} (holds : List ℕ → Option (List ℕ)) (ports : Asking P) (named : Named) → BootStops holds ports named → PoolHasRoom holds named
room_of_stop holds ports named stops =
    let stopped = stops.failed.stopped in
    record {
      map = stops.map;
      map_is = stops.given.map_is;
      room = room_at stops.map.descriptors stops.map.hosts stops.table named.slots named.areas (cpus_in named) stopped.boot stopped.boot.pool stopped.uncalled stopped.uncalled.pool;
    }
