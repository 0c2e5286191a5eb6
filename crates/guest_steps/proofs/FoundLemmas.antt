use Rattle.std.proofs.Common.{◌≡◌, ◌≢◌, ℕ, ◌+◌, ◌*◌, ◌≤◌, max, Option, None, Some, List, [], ◌∷◌, ◌++◌, refl, sym, ◌∙◌, ap, subst, arith, append-nil, append_assoc, cond}
use Rattle.std.specs.Prelude.{fold, length}
use Rattle.std.proofs.lemmas.Bool.{ne_eqb}
use Rattle.std.proofs.lemmas.List.Elements.{All-head, All-tail, All-append}
use Rattle.guest_base.specs.declared.limits.TheConstants.{PAGE_END}
use Rattle.event_core.specs.declared.boot.Boot.{Boot}
use Rattle.event_core.specs.declared.entry.Entry.{Entry}
use Rattle.event_core.specs.declared.entry.Place.{Place}
use Rattle.event_core.specs.declared.entry.Place.TheVariants.{Memory, Area, Own}
use Rattle.event_core.specs.declared.module_call.ModuleCall.{ModuleCall}
use Rattle.event_core.specs.Calls.{calls_of}
use Rattle.event_core.specs.Claims.{Claimed, claim_of, claim_step}
use Rattle.event_core.specs.Legal.{bare}
use Rattle.event_core.specs.Moved.{Moved}
use Rattle.event_core.proofs.StandingLemmas.{claim_of-push}
use Rattle.page_module.specs.Spans.{Taken}
use Rattle.accept_sizes.specs.declared.accept.RunEnd.{RunEnd}
use Rattle.io_areas.specs.Away.{FoundAgain as AreaAgain}
use Rattle.memory_core.specs.Away.{NoneOf, BringsSince, FoundAgain as MemoryAgain}
use Rattle.memory_core.specs.Steps.{BringsTo, HasStates, last_stamp}
use Rattle.memory_core.specs.Value.{MemoryValue}
use Rattle.memory_core.specs.Waiting.{waiting_left}
use Rattle.guest_steps.specs.Ground.{FoundAgain, Ground, IsSameArea, there_in}
use Rattle.guest_steps.specs.Seen.{Seen, Accepted, STEPS, steps_left, steps_waiting}
use Rattle.guest_steps.specs.Standing.{Claiming, IsAsHanded, IsOut, FollowsAll, StoodBehind, StoodIn, Stands}
use Rattle.guest_steps.proofs.AccountLemmas.{waiting-fewer}
use Rattle.guest_steps.proofs.GroundLemmas.{base-same, each-weaker, found-there, made-grown}
use Rattle.guest_steps.proofs.OwnerLemmas.{held-found}

-- A processor goes on standing while others make entries.

-- entries of others leave a processor's claim
pub claim-stays : (boot : Boot) (cpu : ℕ) (before rest : List Entry) → NoneOf cpu rest → claim_of boot (before ++ rest) cpu ≡ claim_of boot before cpu
claim-stays boot cpu before [] none = ap (λ es. claim_of boot es cpu) (append-nil before)
claim-stays boot cpu before (e ∷ es) none =
    let other = All-head (λ (x : Entry). x.cpu.0 ≢ cpu) e es none in
    ap (λ xs. claim_of boot xs cpu) (sym (append_assoc before (e ∷ []) es))
    ∙ claim-stays boot cpu (before ++ e ∷ []) es (All-tail (λ (x : Entry). x.cpu.0 ≢ cpu) e es none)
    ∙ claim_of-push boot before e cpu
    ∙ ap (λ b. cond b (claim_step boot (calls_of boot before) (claim_of boot before cpu) e.event) (claim_of boot before cpu)) (ne_eqb e.cpu.0 cpu other)

-- the last stamp only grows
last-grows : (from : ℕ) (entries rest : List Entry) → fold (λ last (e : Entry). max last e.stamp) from entries ≤ fold (λ last (e : Entry). max last e.stamp) from (entries ++ rest)
last-grows from [] [] = omega arith
last-grows from [] (e ∷ es) = let more = last-grows (max from e.stamp) [] es in omega (arith, more)
last-grows from (e ∷ es) rest = last-grows (max from e.stamp) es rest

-- an entry that stood in its place's list stands in the longer one
stood-longer : (place : Place) (m : Moved) (left found : Place → List Moved) (rest there : List Moved) → found place ≡ left place ++ rest → StoodIn place m left there → StoodIn place m found there
stood-longer Memory m left found rest there longer (later, is) = (later ++ rest, longer ∙ ap (λ ms. ms ++ rest) is ∙ append_assoc there (bare m ∷ later) rest)
stood-longer (Area area) m left found rest there longer (later, is) = (later ++ rest, longer ∙ ap (λ ms. ms ++ rest) is ∙ append_assoc there (bare m ∷ later) rest)
stood-longer Own m left found rest there longer stood = stood

pub stood-behind : (m : Moved) (left found : Place → List Moved) (there : List Moved) → ((place : Place) → (rest : List Moved) × (found place ≡ left place ++ rest)) → StoodBehind m left there → StoodBehind m found there
stood-behind m left found there longer stood = let more = longer m.entry.place in stood-longer m.entry.place m left found more.0 there more.1 stood

pub follows-longer : (c : Seen) (left found : Place → List Moved) → ((place : Place) → (rest : List Moved) × (found place ≡ left place ++ rest)) → FollowsAll c left → FollowsAll c found
follows-longer c left found longer follows before later m is =
    let at = follows before later m is in
    (at.0, stood-behind m left found at.0 longer at.1, at.2)

-- ---- what is out

claim-found : (c : Seen) (left found : MemoryValue) → left.boot ≡ c.boot → MemoryAgain c.number left found → claim_of c.boot found.entries c.number ≡ claim_of c.boot left.entries c.number
claim-found c left found boot f = ap (λ es. claim_of c.boot es c.number) f.longer ∙ claim-stays c.boot c.number left.entries f.rest f.others

claiming-found : (c : Seen) (left found : MemoryValue) (claim : Claimed) (span : Taken) → left.boot ≡ c.boot → MemoryAgain c.number left found → Claiming c left claim span → Claiming c found claim span
claiming-found c left found claim span boot f m =
    let more = last-grows 0 left.entries f.rest in
    let is : last_stamp found.entries ≡ last_stamp (left.entries ++ f.rest) = ap last_stamp f.longer in
    let low = m.clock in
    record {
      claimed = claim-found c left found boot f ∙ m.claimed;
      handed = m.handed;
      is_handed = f.handed ∙ m.is_handed;
      ticket = m.ticket;
      some = m.some;
      command = m.command;
      present = m.present;
      fine = m.fine;
      claims = m.claims;
      clock = omega (arith, low, more, is);
    }

handed-found : (cpu : ℕ) (left found : MemoryValue) (claim : Claimed) (span : Taken) → MemoryAgain cpu left found → IsAsHanded left cpu claim span → IsAsHanded found cpu claim span
handed-found cpu left found claim span f h = record {
  before = h.before;
  rest = h.rest ++ f.rest;
  split = f.longer ∙ ap (λ es. es ++ f.rest) h.split ∙ append_assoc h.before h.rest f.rest;
  others = All-append (λ (e : Entry). e.cpu.0 ≢ cpu) h.rest f.rest h.others f.others;
  has = subst (λ boot. HasStates boot (calls_of boot h.before) claim.run span) (sym f.boot) h.has;
}

brings-found : (cpu : ℕ) (left found : MemoryValue) (claim : Claimed) (span : Taken) (calls : List ModuleCall) (end : RunEnd) → MemoryAgain cpu left found
    → BringsSince left cpu claim span calls end → BringsSince found cpu claim span calls end
brings-found cpu left found claim span calls end f b = record {
  before = b.before;
  rest = b.rest ++ f.rest;
  split = f.longer ∙ ap (λ es. es ++ f.rest) b.split ∙ append_assoc b.before b.rest f.rest;
  others = All-append (λ (e : Entry). e.cpu.0 ≢ cpu) b.rest f.rest b.others f.others;
  brings = subst (λ boot. BringsTo boot (calls_of boot b.before) claim.run span calls end) (sym f.boot) b.brings;
}

out-found : (c : Seen) (left found : MemoryValue) → left.boot ≡ c.boot → MemoryAgain c.number left found → (out : Option Taken) (done : Option Accepted) → IsOut c left out done → IsOut c found out done
out-found c left found boot f None None is = claim-found c left found boot f ∙ is
out-found c left found boot f None (Some done) is = is
out-found c left found boot f (Some span) None is =
    (is.0, claiming-found c left found is.0 span boot f is.1, handed-found c.number left found is.0 span f is.2)
out-found c left found boot f (Some span) (Some done) is =
    (is.0, claiming-found c left found is.0 span boot f is.1, brings-found c.number left found is.0 span done.calls done.end f is.2)

fewer-spent : (c : Seen) (left found : Ground) → Stands c left → FoundAgain c.number left found → length c.moved + steps_left c + steps_waiting c.boot found.memory.entries ≤ (length c.script + PAGE_END) * STEPS
fewer-spent c left found s f =
    let spent = s.spent in
    let less = waiting-fewer c.boot left.memory.entries found.memory.entries (subst (λ (b : Boot). waiting_left b found.memory.entries ≤ waiting_left b left.memory.entries) s.same.memory f.memory.waiting) in
    added (length c.moved + steps_left c) (steps_waiting c.boot left.memory.entries) (steps_waiting c.boot found.memory.entries) ((length c.script + PAGE_END) * STEPS) spent less
  where
    added : (n w u x : ℕ) → n + w ≤ x → u ≤ w → n + u ≤ x
    added n w u x spent less = omega (arith, spent, less)

-- a processor stands over the places as it finds them again
pub found-standing : (c : Seen) (left found : Ground) → Stands c left → FoundAgain c.number left found → Stands c found
found-standing c left found s f = record {
  same = base-same c.boot left found s.same f.memory.boot (each-weaker (AreaAgain c.number) IsSameArea (λ a b again. (again.number, again.slots)) left.areas found.areas f.areas);
  booted = s.booted;
  cpu = s.cpu;
  unconverting = s.unconverting;
  readable = s.readable;
  mine = λ place. made-grown c.number (there_in left place) (there_in found place) (found-there c.number left found f place) ∙ s.mine place;
  named = s.named;
  rises = s.rises;
  follows = follows-longer c (there_in left) (there_in found) (λ place. let g = found-there c.number left found f place in (g.rest, g.longer)) s.follows;
  held = held-found c left.memory.entries found.memory.entries f.memory.rest f.memory.longer f.memory.others s.held;
  mapped = s.mapped;
  out = out-found c left.memory found.memory s.same.memory f.memory c.out c.done s.out;
  port = s.port;
  spent = fewer-spent c left found s f;
}
