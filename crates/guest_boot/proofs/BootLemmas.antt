use Rattle.std.proofs.Common.{◌≡◌, ℕ, ◌*◌, ◌/◌, ◌≤◌, Option, None, Some, List, [], ◌++◌, refl, sym, ◌∙◌, ap, subst, inl, inr, arith, cond, length}
use Rattle.std.specs.Prelude.{All, IfSome, Result, Err, ◌==◌, slice_get}
use Rattle.std.proofs.Math.Nat.{pos_of_div-pos, zero-div}
use Rattle.std.specs.Int.{IsPowerOfTwo}
use Rattle.std.specs.Option.{ForSome, option_map, option_map_or}
use Rattle.std.proofs.lemmas.Bool.{cases_Bool}
use Rattle.guest_base.specs.Requests.{raised_slots}
use Rattle.guest_base.specs.declared.memory.Page.{Page}
use Rattle.guest_base.specs.declared.memory.Pages.{Pages}
use Rattle.guest_base.specs.declared.memory.PageRun.{PageRun}
use Rattle.guest_base.specs.declared.memory.HostRun.{HostRun}
use Rattle.event_core.specs.declared.boot.Descriptor.{Descriptor}
use Rattle.event_core.specs.declared.boot.Boot.{Boot}
use Rattle.event_core.specs.declared.module_call.ModuleCall.{ModuleCall}
use Rattle.event_core.specs.Cut.{ram_ranges}
use Rattle.event_core.specs.Boot.{HasRoom, BootRight, BootStopped, BootFront, BootCalls, Uncalled, PoolPlaced, InTurn, IsFront, Stage, StagePart, stages_of}
use Rattle.event_core.specs.Map.{MapRules}
use Rattle.event_core.specs.Given.{FitsGiven}
use Rattle.event_core.specs.Table.{Bits}
use Rattle.memory_core.specs.Booted.{IsBooted}
use Rattle.event_core.proofs.FrontLemmas.{front-whole}
use Rattle.dma_map.specs.Pools.{IsLayout, layout_in}
use Rattle.dma_map.specs.declared.pool.Layout.{Layout}
use Rattle.io_areas.specs.Value.{AreaValue}
use Rattle.guest_boot.specs.Areas.{AreFirstAreas, IsFirstArea}
use Rattle.guest_boot.specs.Booting.{IsEarly, Grew, LeftBy, LieInMemory, PoolGetsAccepted, stages_by}
use Rattle.guest_boot.specs.Placing.{IsParted, LayoutIn, MayAsk, areas_in, pool_in, share_in}
use Rattle.guest_boot.specs.declared.fault.BootFault.{BootFault}
use Rattle.guest_boot.specs.declared.fault.BootFault.TheVariants.{PoolNoRoom, Module, NoMemory}
use Rattle.guest_boot.specs.Starting.{IsFirstBoot, BeginsWith}
use Rattle.guest_boot.proofs.MarkedLemmas.{pool-accepted}
use Rattle.guest_boot.proofs.SlotLemmas.{areas-some, pages-some}
use Rattle.guest_boot.proofs.StartLemmas.{uncalled, early-each, pool-lies}
use Rattle.memory_core.proofs.PartsLemmas.{booted}
use Rattle.guest_boot.proofs.StageLemmas.{with_calls, stages-same, stages-are}

-- What boot has made at its end.

-- what boot has of a map before its first call
pub record Begins (map : List Descriptor) (hosts : List HostRun) (table : Option Bits) (slots areas cpus : ℕ) (ram : List PageRun) (bits : Option Bits) (pieces : List PageRun) (layout : Option Layout) (boot : Boot) : Type 0 where
  pub rules : MapRules map hosts
  pub asked : MayAsk slots areas
  pub few : cpus ≤ 64
  pub fits : FitsGiven map table
  pub begins : BeginsWith map table ram bits pieces
  pub placed : LayoutIn (ram_ranges ram) slots areas layout
  pub first : IsFirstBoot hosts areas cpus ram bits layout boot

-- the stages of these pieces, as they are kept
abbrev pub Went : Boot → List PageRun → List ModuleCall → Option Page → Type 0
Went boot pieces made stop = InTurn (StagePart boot) [] (stages_by boot pieces) made stop

pub begins-plain : {descriptors : List Descriptor} {hosts : List HostRun} {table : Option Bits} {slots areas cpus : ℕ} {ram : List PageRun} {bits : Option Bits} {pieces : List PageRun} {layout : Option Layout} {boot : Boot} → Begins descriptors hosts table slots areas cpus ram bits pieces layout boot → Uncalled descriptors hosts table slots areas cpus boot
begins-plain {descriptors} {hosts} {table} {slots} {areas} {cpus} {ram} {bits} {pieces} {layout} {boot} b = uncalled descriptors hosts table slots areas cpus ram bits layout boot b.begins.maximal b.begins.bitmap b.asked.power b.placed b.first

pub begins-booted : {descriptors : List Descriptor} {hosts : List HostRun} {table : Option Bits} {slots areas cpus : ℕ} {ram : List PageRun} {bits : Option Bits} {pieces : List PageRun} {layout : Option Layout} {boot : Boot} → Begins descriptors hosts table slots areas cpus ram bits pieces layout boot → IsBooted boot
begins-booted {descriptors} {hosts} {table} {slots} {areas} {cpus} {ram} {bits} {pieces} {layout} {boot} b =
    let many = b.first.same_cpus in
    booted descriptors hosts table slots areas cpus boot b.rules b.fits (begins-plain b) (omega (arith, many, b.few))

pub begins-early : {descriptors : List Descriptor} {hosts : List HostRun} {table : Option Bits} {slots areas cpus : ℕ} {ram : List PageRun} {bits : Option Bits} {pieces : List PageRun} {layout : Option Layout} {boot : Boot} → Begins descriptors hosts table slots areas cpus ram bits pieces layout boot → All (λ (piece : PageRun). IsEarly boot piece.pages) pieces
begins-early {descriptors} {hosts} {table} {slots} {areas} {cpus} {ram} {bits} {pieces} {layout} {boot} b = early-each descriptors hosts table slots areas cpus boot pieces b.rules (begins-plain b) b.begins.early

-- the pool ends within memory
lies : (slots areas : ℕ) (boot : Boot) (found : Option Pages) → IsPowerOfTwo areas → IsBooted boot → boot.slots ≡ cond (slots == 0) 0 (raised_slots slots areas) → PoolPlaced boot found → (pool : Pages) → found ≡ Some pool → LieInMemory pool
lies slots areas boot None power booted raised placed pool is = cc
lies slots areas boot (Some found) power booted raised placed pool is =
    let same : found ≡ pool = cc in
    let some = pages-some slots areas power in
    let many : 2 ≤ boot.slots =
    elim (cases_Bool (slots == 0)) [
      | inl none ↦ absurd (placed.0 (raised ∙ ap (λ b. cond b 0 (raised_slots slots areas)) none))
      | inr asked ↦ (let is_raised = raised ∙ ap (λ b. cond b 0 (raised_slots slots areas)) asked in omega (arith, is_raised, some))
    ] in
    subst LieInMemory same (pool-lies boot found booted placed many)

pub begins-lies : {descriptors : List Descriptor} {hosts : List HostRun} {table : Option Bits} {slots areas cpus : ℕ} {ram : List PageRun} {bits : Option Bits} {pieces : List PageRun} {layout : Option Layout} {boot : Boot} → Begins descriptors hosts table slots areas cpus ram bits pieces layout boot → (pool : Pages) → boot.pool ≡ Some pool → LieInMemory pool
begins-lies {descriptors} {hosts} {table} {slots} {areas} {cpus} {ram} {bits} {pieces} {layout} {boot} b = let plain = begins-plain b in lies slots areas boot boot.pool b.asked.power (begins-booted b) plain.raised plain.pool

-- the pool's pages are RAM, and get accepted
has-room : (boot : Boot) (found : Option Pages) → PoolPlaced boot found → (pool : Pages) → found ≡ Some pool → HasRoom boot pool.count pool.first
has-room boot None placed pool is = cc
has-room boot (Some found) placed pool is =
    let same : found ≡ pool = cc in
    let count = sym placed.1.pages in
    subst (λ (p : Pages). HasRoom boot p.count p.first) same (subst (λ n. HasRoom boot n found.first) count placed.1.room)

pub begins-accepted : {descriptors : List Descriptor} {hosts : List HostRun} {table : Option Bits} {slots areas cpus : ℕ} {ram : List PageRun} {bits : Option Bits} {pieces : List PageRun} {layout : Option Layout} {boot : Boot} → Begins descriptors hosts table slots areas cpus ram bits pieces layout boot → PoolGetsAccepted boot pieces
begins-accepted {descriptors} {hosts} {table} {slots} {areas} {cpus} {ram} {bits} {pieces} {layout} {boot} b pool is early turn =
    let plain = begins-plain b in
    pool-accepted descriptors hosts table slots areas cpus boot pieces pool early b.rules b.fits plain b.begins.early (has-room boot boot.pool plain.pool pool is) turn

-- ---- the areas

no-share : (n : ℕ) → n * 0 ≡ 0
no-share n = omega arith

-- the first areas of a layout are those of a boot with its slots, areas and pool
areas-by : (hosts : List HostRun) (slots areas cpus : ℕ) (ram : List PageRun) (bits : Option Bits) (layout : Option Layout) (boot : Boot) (calls : List ModuleCall) (made : List AreaValue) → MayAsk slots areas → LayoutIn (ram_ranges ram) slots areas layout → IsFirstBoot hosts areas cpus ram bits layout boot → IfSome layout IsParted
    → length made ≡ areas_in layout → ((number : ℕ) (area : AreaValue) → slice_get made number ≡ Some area → IsFirstArea (share_in layout) number area) → AreFirstAreas (with_calls boot calls) made
areas-by hosts slots areas cpus ram bits None boot calls made ask placed first parted count each =
    let few = ask.few_areas in
    let some = areas-some slots areas ask in
    let same = first.same_areas in
    let none : boot.slots ≡ 0 = first.slots in
    let share : boot.slots / boot.areas ≡ 0 = ap (λ n. n / boot.areas) none ∙ zero-div boot.areas in
    record {
      some = omega (arith, some, same);
      few = omega (arith, few, same);
      count = count ∙ sym (ap (λ p. option_map_or (λ (pool : Pages). boot.areas) p 0) first.pool);
      each = λ number area is. subst (λ n. IsFirstArea n number area) (sym share) (each number area is);
      whole = ap (λ n. boot.areas * n) share ∙ no-share boot.areas ∙ sym none;
    }
areas-by hosts slots areas cpus ram bits (Some l) boot calls made ask placed first parted count each =
    let same : boot.areas ≡ l.areas = first.same_areas ∙ sym placed.same_areas in
    let slots_are : boot.slots ≡ l.slots = first.slots in
    let share : boot.slots / boot.areas ≡ l.slots / l.areas = ap (λ n. n / boot.areas) slots_are ∙ ap (λ n. l.slots / n) same in
    let some = parted.some in
    let few = parted.few in
    record {
      some = omega (arith, some, same);
      few = omega (arith, few, same);
      count = count ∙ sym same ∙ sym (ap (λ p. option_map_or (λ (pool : Pages). boot.areas) p 0) first.pool);
      each = λ number area is. subst (λ n. IsFirstArea n number area) (sym share) (each number area is);
      whole = ap (λ n. boot.areas * n) share ∙ ap (λ n. n * (l.slots / l.areas)) same ∙ parted.whole ∙ sym slots_are;
    }

pub begins-areas : {descriptors : List Descriptor} {hosts : List HostRun} {table : Option Bits} {slots areas cpus : ℕ} {ram : List PageRun} {bits : Option Bits} {pieces : List PageRun} {layout : Option Layout} {boot : Boot} (calls : List ModuleCall) (made : List AreaValue) → Begins descriptors hosts table slots areas cpus ram bits pieces layout boot → IfSome layout IsParted
    → length made ≡ areas_in layout → ((number : ℕ) (area : AreaValue) → slice_get made number ≡ Some area → IsFirstArea (share_in layout) number area) → AreFirstAreas (with_calls boot calls) made
begins-areas {descriptors} {hosts} {table} {slots} {areas} {cpus} {ram} {bits} {pieces} {layout} {boot} calls made b parted count each = areas-by hosts slots areas cpus ram bits layout boot calls made b.asked b.placed b.first parted count each

layout-by : (hosts : List HostRun) (slots areas cpus : ℕ) (ram : List PageRun) (bits : Option Bits) (layout : Option Layout) (boot : Boot) → LayoutIn (ram_ranges ram) slots areas layout → IsFirstBoot hosts areas cpus ram bits layout boot → layout_in boot ≡ layout
layout-by hosts slots areas cpus ram bits None boot placed first = ap (option_map (λ (pool : Pages). record { pool = pool; slots = boot.slots; areas = boot.areas })) first.pool
layout-by hosts slots areas cpus ram bits (Some l) boot placed first =
    let same : boot.areas ≡ l.areas = first.same_areas ∙ sym placed.same_areas in
    let slots_are : boot.slots ≡ l.slots = first.slots in
    ap (option_map (λ (pool : Pages). record { pool = pool; slots = boot.slots; areas = boot.areas })) first.pool
    ∙ ap (λ n. Some (record { pool = l.pool; slots = n; areas = boot.areas })) slots_are
    ∙ ap (λ n. Some (record { pool = l.pool; slots = l.slots; areas = n })) same

pub begins-layout : {descriptors : List Descriptor} {hosts : List HostRun} {table : Option Bits} {slots areas cpus : ℕ} {ram : List PageRun} {bits : Option Bits} {pieces : List PageRun} {layout : Option Layout} {boot : Boot} (calls : List ModuleCall) → Begins descriptors hosts table slots areas cpus ram bits pieces layout boot → layout ≡ layout_in (with_calls boot calls)
begins-layout {descriptors} {hosts} {table} {slots} {areas} {cpus} {ram} {bits} {pieces} {layout} {boot} calls b = sym (layout-by hosts slots areas cpus ram bits layout boot b.placed b.first)

same-pool : (boot : Boot) (calls : List ModuleCall) (pool : Option Pages) → PoolPlaced boot pool → PoolPlaced (with_calls boot calls) pool
same-pool boot calls None placed = placed
same-pool boot calls (Some pool) placed = (placed.0, record { pages = placed.1.pages; room = placed.1.room; lowest = placed.1.lowest })

-- the pool lies in memory, and its areas share its slots out evenly
shaped-by : (slots areas : ℕ) (ranges : List Pages) (layout : Option Layout) → LayoutIn ranges slots areas layout → IfSome layout IsParted → ((pool : Pages) → pool_in layout ≡ Some pool → LieInMemory pool) → ForSome layout IsLayout
shaped-by slots areas ranges None placed parted within l is = cc
shaped-by slots areas ranges (Some k) placed parted within l is =
    let same : k ≡ l = cc in
    subst IsLayout same (record {
      some_areas = parted.some;
      few_areas = parted.few;
      some_slots = pos_of_div-pos k.areas parted.share_some;
      few_slots = parted.low;
      whole = parted.whole;
      end = (within k.pool refl).end;
    })

pub begins-shaped : {descriptors : List Descriptor} {hosts : List HostRun} {table : Option Bits} {slots areas cpus : ℕ} {ram : List PageRun} {bits : Option Bits} {pieces : List PageRun} {layout : Option Layout} {boot : Boot} → Begins descriptors hosts table slots areas cpus ram bits pieces layout boot → IfSome layout IsParted → ForSome layout IsLayout
begins-shaped {slots} {areas} {ram} {layout} {boot} b parted = shaped-by slots areas (ram_ranges ram) layout b.placed parted (λ pool is. begins-lies b pool (b.first.pool ∙ is))

-- the calls of all stages are boot's
begins-calls : {descriptors : List Descriptor} {hosts : List HostRun} {table : Option Bits} {slots areas cpus : ℕ} {ram : List PageRun} {bits : Option Bits} {pieces : List PageRun} {layout : Option Layout} {boot : Boot} (made : List ModuleCall) (stop : Option Page) → Begins descriptors hosts table slots areas cpus ram bits pieces layout boot → Went boot pieces made stop → BootCalls descriptors table boot made stop
begins-calls {pieces} {boot} made stop b went =
    let P : List Stage → Type 0 = λ stages. InTurn (StagePart boot) [] stages made stop in
    record { pieces = b.begins.early.pieces; early = b.begins.early.early; stages = subst P (stages-are boot pieces b.begins.early.pieces b.begins.early.are) went }

called : (descriptors : List Descriptor) (hosts : List HostRun) (table : Option Bits) (slots areas cpus : ℕ) (boot : Boot) (calls made : List ModuleCall) → Uncalled descriptors hosts table slots areas cpus boot → BootCalls descriptors table boot made None → calls ≡ made → BootRight descriptors hosts table slots areas cpus (with_calls boot calls)
called descriptors hosts table slots areas cpus boot calls made plain went same = record {
  uncalled = record {
    ram = plain.ram;
    same_hosts = plain.same_hosts;
    unit = plain.unit;
    base = plain.base;
    bitmap = plain.bitmap;
    bits = plain.bits;
    same_cpus = plain.same_cpus;
    same_areas = plain.same_areas;
    raised = plain.raised;
    pool = same-pool boot calls boot.pool plain.pool;
  };
  made = record {
    pieces = went.pieces;
    early = went.early;
    stages =
        let P : List ModuleCall → Type 0 = λ cs. InTurn (StagePart (with_calls boot calls)) [] (stages_of (with_calls boot calls) went.pieces) cs None in
        subst P (sym same) (stages-same boot calls went.pieces made None went.stages);
  };
}

-- the boot of the map
pub begins-right : {descriptors : List Descriptor} {hosts : List HostRun} {table : Option Bits} {slots areas cpus : ℕ} {ram : List PageRun} {bits : Option Bits} {pieces : List PageRun} {layout : Option Layout} {boot : Boot} (calls made : List ModuleCall) → Begins descriptors hosts table slots areas cpus ram bits pieces layout boot → calls ≡ made → Went boot pieces made None → BootRight descriptors hosts table slots areas cpus (with_calls boot calls)
begins-right {descriptors} {hosts} {table} {slots} {areas} {cpus} {ram} {bits} {pieces} {layout} {boot} calls made b same went = called descriptors hosts table slots areas cpus boot calls made (begins-plain b) (begins-calls made None b went) same

-- a boot that has made some calls
begins-front : {descriptors : List Descriptor} {hosts : List HostRun} {table : Option Bits} {slots areas cpus : ℕ} {ram : List PageRun} {bits : Option Bits} {pieces : List PageRun} {layout : Option Layout} {boot : Boot} (made : List ModuleCall) → Begins descriptors hosts table slots areas cpus ram bits pieces layout boot → IsFront (Went boot pieces) made → BootFront descriptors hosts table slots areas cpus made
begins-front {boot} made b (later, stop, went) = inr (record { boot = boot; uncalled = begins-plain b; front = (later, stop, begins-calls (made ++ later) stop b went) })

pub begins-whole : {descriptors : List Descriptor} {hosts : List HostRun} {table : Option Bits} {slots areas cpus : ℕ} {ram : List PageRun} {bits : Option Bits} {pieces : List PageRun} {layout : Option Layout} {boot : Boot} (made : List ModuleCall) → Begins descriptors hosts table slots areas cpus ram bits pieces layout boot → Went boot pieces made None → BootFront descriptors hosts table slots areas cpus made
begins-whole {pieces} {boot} made b went = begins-front made b (front-whole (Went boot pieces) made None went)

-- ---- the end of the stages, which are worked on as the code keeps the pieces

-- the stages are worked on behind calls made before, of which there are none
from-none : (before after : List ModuleCall) (boot : Boot) (kept pieces : List PageRun) (Ends : (List ModuleCall → Option Page → Type 0) → List ModuleCall → Type 0) → before ≡ [] → kept ≡ pieces → Grew before after (Ends (InTurn (StagePart boot) before (stages_by boot kept))) → Ends (Went boot pieces) after
from-none before after boot kept pieces Ends none same (now, grew, ended) =
    let P : List PageRun → Type 0 = λ runs. Ends (Went boot runs) after in
    let Q : List ModuleCall → Type 0 = λ made. Ends (InTurn (StagePart boot) made (stages_by boot kept)) now in
    subst P same (subst (Ends (Went boot kept)) (sym (grew ∙ ap (λ made. made ++ now) none)) (subst Q none ended))

pub all-went : {kept pieces : List PageRun} (before after : List ModuleCall) (boot : Boot) → before ≡ [] → kept ≡ pieces → Grew before after (λ now. InTurn (StagePart boot) before (stages_by boot kept) now None) → Went boot pieces after None
all-went {kept} {pieces} before after boot none same grew = from-none before after boot kept pieces (λ Part now. Part now None) none same grew

stopped-at : (e : BootFault) (page : Page) (Part : List ModuleCall → Option Page → Type 0) (now : List ModuleCall) → e ≡ Module page → LeftBy e Part now → Part now (Some page)
stopped-at e page Part now is left = subst (λ fault. LeftBy fault Part now) is left

-- a boot that stopped
pub left-stopped : {T : Type 0} {descriptors : List Descriptor} {hosts : List HostRun} {table : Option Bits} {slots areas cpus : ℕ} {ram : List PageRun} {bits : Option Bits} {pieces : List PageRun} {layout : Option Layout} {boot : Boot} {kept : List PageRun} (r : Result T BootFault) (e : BootFault) (before after : List ModuleCall) (page : Page) → Begins descriptors hosts table slots areas cpus ram bits pieces layout boot → before ≡ [] → kept ≡ pieces → r ≡ Err e → r ≡ Err (Module page) → Grew before after (LeftBy e (InTurn (StagePart boot) before (stages_by boot kept))) → BootStopped descriptors hosts table slots areas cpus after page
left-stopped {pieces} {boot} {kept} r e before after page b none same is here grew =
    let both : Err e ≡ Err (Module page) = sym is ∙ here in
    let stopped : e ≡ Module page = cc in
    record { boot = boot; uncalled = begins-plain b; made = begins-calls after (Some page) b (stopped-at e page (Went boot pieces) after stopped (from-none before after boot kept pieces (LeftBy e) none same grew)) }

left-front-is : (e : BootFault) (Part : List ModuleCall → Option Page → Type 0) (now : List ModuleCall) → LeftBy e Part now → IsFront Part now
left-front-is PoolNoRoom Part now left = absurd left
left-front-is (Module page) Part now left = front-whole Part now (Some page) left
left-front-is NoMemory Part now left = left

-- a boot that was left
pub left-front : {descriptors : List Descriptor} {hosts : List HostRun} {table : Option Bits} {slots areas cpus : ℕ} {ram : List PageRun} {bits : Option Bits} {pieces : List PageRun} {layout : Option Layout} {boot : Boot} {kept : List PageRun} (e : BootFault) (before after : List ModuleCall) → Begins descriptors hosts table slots areas cpus ram bits pieces layout boot → before ≡ [] → kept ≡ pieces → Grew before after (LeftBy e (InTurn (StagePart boot) before (stages_by boot kept))) → BootFront descriptors hosts table slots areas cpus after
left-front {pieces} {boot} {kept} e before after b none same grew = begins-front after b (left-front-is e (Went boot pieces) after (from-none before after boot kept pieces (LeftBy e) none same grew))

not-placed : (e : BootFault) (Part : List ModuleCall → Option Page → Type 0) (now : List ModuleCall) → e ≡ PoolNoRoom → LeftBy e Part now → ⊥
not-placed e Part now is left = subst (λ fault. LeftBy fault Part now) is left

-- the pool has its place before the first call
pub never-placed : {T : Type 0} (r : Result T BootFault) (e : BootFault) (before after : List ModuleCall) (Part : List ModuleCall → Option Page → Type 0) → r ≡ Err e → r ≡ Err PoolNoRoom → Grew before after (LeftBy e Part) → ⊥
never-placed r e before after Part is here (now, grew, left) =
    let both : Err e ≡ Err PoolNoRoom = sym is ∙ here in
    let same : e ≡ PoolNoRoom = cc in
    not-placed e Part now same left

pub same-fault : {T : Type 0} (r : Result T BootFault) (e f : BootFault) → r ≡ Err e → r ≡ Err f → e ≡ f
same-fault r e f is here =
    let both : Err e ≡ Err f = sym is ∙ here in
    cc
