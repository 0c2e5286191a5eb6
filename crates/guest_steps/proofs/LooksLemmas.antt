use Rattle.std.proofs.Common.{◌≡◌, ◌⊎◌, ℕ, ◌+◌, ◌-◌, ◌*◌, ◌%◌, ◌<◌, ◌≤◌, Bool, true, false, Option, None, Some, List, [], ◌∷◌, ◌++◌, refl, sym, ◌∙◌, ap, subst, inl, inr, arith, cond, slice_get}
use Rattle.std.specs.Prelude.{is_none, is_some, length}
use Rattle.std.specs.Option.{option_and_then}
use Rattle.std.proofs.lemmas.Option.{slice_get_within}
use Rattle.guest_base.specs.declared.limits.TheConstants.{MAX_AREAS, PAGE_BYTES}
use Rattle.guest_base.specs.declared.memory.Pages.{Pages}
use Rattle.guest_base.specs.declared.transfer.Direction.{Direction}
use Rattle.guest_base.specs.declared.transfer.SlotRun.{SlotRun}
use Rattle.guest_base.specs.Requests.{request_of}
use Rattle.event_core.specs.declared.boot.Boot.{Boot}
use Rattle.event_core.specs.declared.command.Command.{Command}
use Rattle.event_core.specs.declared.command.Command.TheVariants as command
use Rattle.event_core.specs.declared.event.Event.{Event}
use Rattle.event_core.specs.declared.event.Event.TheVariants as event
use Rattle.event_core.specs.declared.module_call.ModuleCall.{ModuleCall}
use Rattle.event_core.specs.declared.reply.Reply.{Reply}
use Rattle.event_core.specs.declared.reply.Reply.TheVariants as reply
use Rattle.event_core.specs.AreaRows.{area_looked_in}
use Rattle.event_core.specs.Calls.{calls_in}
use Rattle.event_core.specs.Claims.{Claimed}
use Rattle.event_core.specs.Holdings.{Holding, Own, Sharing, PrivateBlock, SharedBlock, HalfBlock, block_named}
use Rattle.event_core.specs.Moved.{Moved, entries_of}
use Rattle.event_core.specs.Next.{Step, look_step, refused_or, step_of, unrefused_step}
use Rattle.event_core.specs.Own.{after_map, ended, nothing, own_of, own_step, replied, told}
use Rattle.event_core.specs.Refusals.{map_refusal, refusal_of, refuse, unknown_or, unless_private}
use Rattle.event_core.proofs.CommandLemmas.{and-then-some, some-same, step_told}
use Rattle.event_core.proofs.RefusalLemmas.{private-none, refuse-none, unrefused}
use Rattle.page_module.specs.Spans.{Taken}
use Rattle.memory_core.specs.Value.{MemoryValue}
use Rattle.pool_laws.proofs.LookFacts.{look-goes-on, look-of, own-push, place_at, replied-push, told-looks}
use Rattle.pool_laws.proofs.StepFacts.{IsLook, NoLook, step-known}
use Rattle.guest_steps.specs.declared.processor.Need.{Need}
use Rattle.guest_steps.specs.declared.processor.Need.TheVariants as need
use Rattle.guest_steps.specs.Ground.{Ground, SharesOut, there_in}
use Rattle.guest_steps.specs.Seen.{Accepted, Seen, STEPS, need_by, need_for, need_of, need_unless_refused, need_unrefused, own_now, present_command}
use Rattle.guest_steps.specs.Standing.{Claiming, ClaimsFor, IsOut, Stands}
use Rattle.guest_steps.proofs.FollowLemmas.{StepTaken, each-prefix}

-- The looks that a processor's present command has made.

-- ---- what isn't refused

pub known-held : {A : Type 0} (held : Option A) (conditions : A → Option Reply) → unknown_or held conditions ≡ None → (a : A) × (held ≡ Some a) × (conditions a ≡ None)
known-held None conditions is = cc
known-held (Some a) conditions is = (a, refl, is)

pub some-pool : {A : Type 0} (pool : Option A) → is_none pool ≡ false → pool ≡ None → ⊥
some-pool None is none = cc
some-pool (Some p) is none = cc

-- a mapping that isn't refused has a pool
map-pool : (boot : Boot) (h : Holding) (off len mask : ℕ) → map_refusal boot h off len mask ≡ None → boot.pool ≡ None → ⊥
map-pool boot h off len mask is =
    let zero = private-none h.sharing _ is in
    let range = (refuse-none reply.Zero _ _ zero).1 in
    let long = (refuse-none reply.Range _ _ range).1 in
    let pool = (refuse-none reply.TooLong _ _ long).1 in
    some-pool boot.pool (refuse-none reply.NoPool _ _ pool).0

-- the named block of a mapping that isn't refused, and the pool
pub record MapFine (boot : Boot) (own : Own) (name : List ℕ) : Type 0 where
  pub holding : Holding
  pub named : block_named own name ≡ Some holding
  pub pool : boot.pool ≡ None → ⊥

pub map-fine : (boot : Boot) (own : Own) (mapping name : List ℕ) (off len : ℕ) (direction : Direction) (mask : ℕ) → refusal_of boot own (command.Map mapping name off len direction mask) ≡ None → MapFine boot own name
map-fine boot own mapping name off len direction mask is =
    let known = known-held (block_named own name) (λ h. map_refusal boot h off len mask) (refuse-none reply.Taken _ _ is).1 in
    record { holding = known.0; named = known.1; pool = map-pool boot known.0 off len mask known.2 }

-- ---- in the middle of a mapping

-- the present command is a mapping that isn't refused, and has looked in fewer areas than there are
pub record MidMap (boot : Boot) (script : List Command) (own : List Moved) : Type 0 where
  pub mapping : List ℕ
  pub name : List ℕ
  pub off : ℕ
  pub len : ℕ
  pub direction : Direction
  pub mask : ℕ
  pub its : slice_get script (replied own) ≡ Some (command.Map mapping name off len direction mask)
  pub fine : refusal_of boot (own_of script own) (command.Map mapping name off len direction mask) ≡ None
  pub few : (own_of script own).looks < boot.areas

-- no look is counted, or the present command is a mapping that goes on
abbrev pub LooksFit : Boot → List Command → List Moved → Type 0
LooksFit boot script own = ((own_of script own).looks ≡ 0) ⊎ MidMap boot script own

no-looks : (boot : Boot) (script : List Command) → LooksFit boot script []
unfolding own_of
no-looks boot script = inl refl

-- what a processor has behind its entry
pub own-behind : (c : Seen) (own there : List Moved) (m : Moved) (t : StepTaken c own there m) → own_of c.script (own ++ m ∷ []) ≡ ended m.entry.reply (told (Some t.command) m (own_of c.script own))
own-behind c own there m t =
    own-push c.script own m ∙ ap (λ x. ended m.entry.reply (told x m (own_of c.script own))) (ap (slice_get c.script) t.number ∙ t.its)

looks-ended : (told : Option Reply) (own : Own) (r : Reply) → told ≡ Some r → (ended told own).looks ≡ 0
looks-ended told own r is = ap (λ (x : Option Reply). (ended x own).looks) is

-- the step of a mapping that isn't refused looks in an area
map-looks : (boot : Boot) (cpu : ℕ) (own : Own) (there : List Moved) (mapping name : List ℕ) (off len : ℕ) (direction : Direction) (mask : ℕ) (calls : List ModuleCall) (s : Step)
    → refusal_of boot own (command.Map mapping name off len direction mask) ≡ None → step_of boot cpu own there (command.Map mapping name off len direction mask) calls ≡ Some s → NoLook s.event → ⊥
map-looks boot cpu own there mapping name off len direction mask calls s fine is plain =
    let look = λ (h : Holding). look_step boot (entries_of there) cpu own.looks (request_of (PAGE_BYTES * h.block.first + off) len mask) in
    let made : option_and_then look (block_named own name) ≡ Some s =
    ap (λ r. refused_or r (unrefused_step boot cpu own there (command.Map mapping name off len direction mask) calls)) (sym fine) ∙ is
    in
    let found = and-then-some look (block_named own name) s made in
    let same = some-same _ s found.2 in
    subst (λ (x : Step). NoLook x.event) (sym same) plain

-- a look that goes on
looks-go-on : (areas looks : ℕ) → 0 < areas → looks < areas → (looks + 1 ≡ areas → ⊥) → looks + 1 < areas
looks-go-on areas looks some few last = omega (arith, some, few, last)

-- how many looks were made before, in a mapping that isn't refused
few-before : (boot : Boot) (script : List Command) (own : List Moved) → 0 < boot.areas → LooksFit boot script own → (own_of script own).looks < boot.areas
few-before boot script own some (inl none) = omega (arith, some, none)
few-before boot script own some (inr mid) = mid.few

-- a look that doesn't end its command found none and is counted
pub record GoesOn (c : Seen) (own : List Moved) (m : Moved) (area : ℕ) : Type 0 where
  pub looked : m.entry.event ≡ event.Looked area None
  pub behind : own_of c.script (own ++ m ∷ []) ≡ record (own_of c.script own) { looks = (own_of c.script own).looks + 1 }
  pub unlast : (own_of c.script own).looks + 1 ≡ c.boot.areas → ⊥

pub goes-on : (c : Seen) (own there : List Moved) (m : Moved) (t : StepTaken c own there m) → m.entry.reply ≡ None → IsLook c.boot c.number (own_of c.script own) there t.command (step_told m.entry)
    → GoesOn c own m (place_at c.boot.areas (c.number % c.boot.areas) (own_of c.script own).looks)
goes-on c own there m t is l =
    let o = own_of c.script own in
    let look = look-of c.boot c.number o there t.command m.entry l in
    let goes = look-goes-on c.boot o.looks look.found (sym look.reply ∙ is) in
    let area = place_at c.boot.areas (c.number % c.boot.areas) o.looks in
    let looked : m.entry.event ≡ event.Looked area None = look.event ∙ ap (event.Looked area) goes.0 in
    record {
      looked = looked;
      behind =
          own-behind c own there m t
          ∙ ap (λ (r : Option Reply). ended r (told (Some t.command) m o)) is
          ∙ ap (λ x. told (Some x) m o) l.is
          ∙ ap (λ e. after_map l.mapping l.name l.off l.direction e o) looked;
      unlast = goes.1;
    }

-- the look's own entry: the command is as before, with one look more
look-fits : (c : Seen) (own there : List Moved) (m : Moved) (t : StepTaken c own there m) → SharesOut c.boot → m.entry.reply ≡ None → IsLook c.boot c.number (own_of c.script own) there t.command (step_told m.entry)
    → LooksFit c.boot c.script own → LooksFit c.boot c.script (own ++ m ∷ [])
look-fits c own there m t shares is l before =
    let o = own_of c.script own in
    let area = place_at c.boot.areas (c.number % c.boot.areas) o.looks in
    let goes = goes-on c own there m t is l in
    let Map = command.Map l.mapping l.name l.off l.len l.direction l.mask in
    let refusal : refusal_of c.boot o t.command ≡ None =
    (unrefused (refusal_of c.boot o t.command) (unrefused_step c.boot c.number o there t.command (calls_in m.entry.event)) (step_told m.entry)
    (λ own_event. (let no : event.Own ≡ event.Looked area None = sym own_event ∙ goes.looked in cc)) t.step).0
    in
    let fine : refusal_of c.boot o Map ≡ None = ap (refusal_of c.boot o) (sym l.is) ∙ refusal in
    let pool = (map-fine c.boot o l.mapping l.name l.off l.len l.direction l.mask fine).pool in
    let some = shares.some pool in
    let none : replied own + 0 ≡ replied own = omega arith in
    let same : replied (own ++ m ∷ []) ≡ replied own = replied-push own m None is ∙ none in
    inr
    (record {
      mapping = l.mapping;
      name = l.name;
      off = l.off;
      len = l.len;
      direction = l.direction;
      mask = l.mask;
      its = ap (slice_get c.script) same ∙ t.its ∙ ap Some l.is;
      fine = ap (λ x. refusal_of c.boot x Map) goes.behind ∙ fine;
      few = (let now : (own_of c.script (own ++ m ∷ [])).looks ≡ o.looks + 1 = ap (λ (x : Own). x.looks) goes.behind in
          let less = looks-go-on c.boot.areas o.looks some (few-before c.boot c.script own some before) goes.unlast in
          omega (arith, now, less));
    })

-- an event that is no look leaves the count
plain-fits : (c : Seen) (own there : List Moved) (m : Moved) (t : StepTaken c own there m) → m.entry.reply ≡ None → NoLook m.entry.event → LooksFit c.boot c.script own → LooksFit c.boot c.script (own ++ m ∷ [])
plain-fits c own there m t is plain (inl none) =
    let o = own_of c.script own in
    inl
    (ap (λ (x : Own). x.looks) (own-behind c own there m t)
    ∙ ap (λ (r : Option Reply). (ended r (told (Some t.command) m o)).looks) is
    ∙ told-looks (Some t.command) m o plain
    ∙ none)
plain-fits c own there m t is plain (inr mid) =
    let o = own_of c.script own in
    let one : Some t.command ≡ Some (command.Map mid.mapping mid.name mid.off mid.len mid.direction mid.mask) = sym t.its ∙ mid.its in
    let same : t.command ≡ command.Map mid.mapping mid.name mid.off mid.len mid.direction mid.mask = cc in
    absurd
    (map-looks c.boot c.number o there mid.mapping mid.name mid.off mid.len mid.direction mid.mask (calls_in m.entry.event) (step_told m.entry) mid.fine
    (ap (λ x. step_of c.boot c.number o there x (calls_in m.entry.event)) (sym same) ∙ t.step) plain)

entry-fits : (c : Seen) (own there : List Moved) (m : Moved) (t : StepTaken c own there m) → SharesOut c.boot → (said : Option Reply) → m.entry.reply ≡ said → LooksFit c.boot c.script own → LooksFit c.boot c.script (own ++ m ∷ [])
entry-fits c own there m t shares (Some r) is before =
    inl (ap (λ (x : Own). x.looks) (own-behind c own there m t) ∙ looks-ended m.entry.reply (told (Some t.command) m (own_of c.script own)) r is)
entry-fits c own there m t shares None is before =
    elim (step-known c.boot c.number (own_of c.script own) there t.command (calls_in m.entry.event) (step_told m.entry) t.step) [
      | inl plain ↦ plain-fits c own there m t is plain.event before
      | inr look ↦ look-fits c own there m t shares is look before
    ]

-- ---- a processor that stands

pub looks-fit : (c : Seen) (base : Ground) → Stands c base → LooksFit c.boot c.script c.moved
looks-fit c base s =
    each-prefix c (there_in base) (LooksFit c.boot c.script) s.follows s.named (no-looks c.boot c.script)
    (λ own there m t before. entry-fits c own there m t s.same.shares m.entry.reply refl before)

pub looks-few : (c : Seen) (base : Ground) → Stands c base → (own_now c).looks < STEPS
looks-few c base s = by_fit (looks-fit c base s) where
  by_fit : LooksFit c.boot c.script c.moved → (own_now c).looks < STEPS
  by_fit (inl none) = omega (arith, none)
  by_fit (inr mid) = let few = mid.few in let most = s.same.shares.few in omega (arith, few, most)

-- no claim is open in the middle of a mapping
mid-unclaimed : (c : Seen) (memory : MemoryValue) (claim : Claimed) (span : Taken) → Claiming c memory claim span → MidMap c.boot c.script c.moved → ⊥
mid-unclaimed c memory claim span m mid =
    let Map = command.Map mid.mapping mid.name mid.off mid.len mid.direction mid.mask in
    let one : Some m.command ≡ Some Map = sym m.present ∙ mid.its in
    let same : m.command ≡ Map = cc in
    subst (λ x. ClaimsFor x claim.block) same m.claims

mid-rests : (c : Seen) (memory : MemoryValue) (out : Option Taken) (unsaid : Option Accepted) → IsOut c memory out unsaid → MidMap c.boot c.script c.moved → out ≡ None
mid-rests c memory None unsaid told mid = refl
mid-rests c memory (Some span) None told mid = absurd (mid-unclaimed c memory told.0 span told.1 mid)
mid-rests c memory (Some span) (Some done) told mid = absurd (mid-unclaimed c memory told.0 span told.1 mid)

mid-needs : (c : Seen) (memory : MemoryValue) → IsOut c memory c.out c.done → MidMap c.boot c.script c.moved → need_of c ≡ need.Area (area_looked_in c.boot c.number (own_now c).looks)
mid-needs c memory told mid =
    let own = own_now c in
    let Map = command.Map mid.mapping mid.name mid.off mid.len mid.direction mid.mask in
    ap (λ out. need_by out (need_for c.boot c.number own (present_command c))) (mid-rests c memory c.out c.done told mid)
    ∙ ap (need_for c.boot c.number own) mid.its
    ∙ ap (λ r. need_unless_refused r (need_unrefused c.boot c.number own Map)) mid.fine

-- only in the middle of a mapping looks are counted, and then the next step needs an area
pub looks-none : (c : Seen) (base : Ground) → Stands c base → ((n : ℕ) → need_of c ≡ need.Area n → ⊥) → (own_now c).looks ≡ 0
looks-none c base s elsewhere = by_fit (looks-fit c base s) where
  by_fit : LooksFit c.boot c.script c.moved → (own_now c).looks ≡ 0
  by_fit (inl none) = none
  by_fit (inr mid) = absurd (elsewhere (area_looked_in c.boot c.number (own_now c).looks) (mid-needs c base.memory s.out mid))
