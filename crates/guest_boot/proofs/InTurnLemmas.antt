use Rattle.std.proofs.Common.{◌≡◌, ◌≢◌, ℕ, ◌+◌, ◌<◌, ◌≤◌, Option, None, Some, List, [], ◌∷◌, ◌++◌, refl, sym, ◌∙◌, ap, subst, inl, inr, append_assoc, append-nil, map, length, drop, get_or, add-one, drop-cons}
use Rattle.std.specs.Prelude.{Result, Ok, Err, OnOk}
use Rattle.std.proofs.lemmas.List.{drop_all}
use Rattle.guest_base.specs.declared.memory.Page.{Page}
use Rattle.event_core.specs.declared.boot.Boot.{Boot}
use Rattle.event_core.specs.declared.module_call.ModuleCall.{ModuleCall}
use Rattle.event_core.specs.Boot.{InTurn, IsFront}
use Rattle.event_core.proofs.FrontLemmas.{front-whole, front-first, turn-exists}
use Rattle.guest_boot.specs.Booting.{Grew, EndedBy, LeftBy, WorkedOn}
use Rattle.guest_boot.specs.declared.accept.Kept.{Kept}
use Rattle.guest_boot.specs.declared.fault.BootFault.{BootFault}
use Rattle.guest_boot.specs.declared.fault.BootFault.TheVariants.{PoolNoRoom, Module, NoMemory}

-- Items that are worked on one after another.

-- what a part of the work on an item is
abbrev pub Parts : Type 0 → Type 1
Parts Item = List ModuleCall → Item → List ModuleCall → Option Page → Type 0

-- there are calls of each item's part, whatever was done before
abbrev pub Goes : {Item : Type 0} → Parts Item → Type 0
Goes {Item = Item} Part = (before : List ModuleCall) (item : Item) → IsFront (Part before item) []

-- ---- how the work ended

-- an end, by the page at which the calls stopped
pub ended-by : {T : Type 0} (r : Result T BootFault) (Part : List ModuleCall → Option Page → Type 0) (now : List ModuleCall) (stop : Option Page) → Part now stop → OnOk r (stop ≡ None) → ((page : Page) → r ≡ Err (Module page) → stop ≡ Some page) → r ≢ Err PoolNoRoom → EndedBy r Part now
ended-by (Ok done) Part now stop part whole stopped placed = subst (Part now) whole part
ended-by (Err PoolNoRoom) Part now stop part whole stopped placed = absurd (placed refl)
ended-by (Err (Module page)) Part now stop part whole stopped placed = subst (Part now) (stopped page refl) part
ended-by (Err NoMemory) Part now stop part whole stopped placed = front-whole Part now stop part

-- where a part that leads to a whole was left, the whole was
pub left-on : (e : BootFault) (Part Whole : List ModuleCall → Option Page → Type 0) (done now : List ModuleCall) → ((calls : List ModuleCall) (stop : Option Page) → Part calls stop → Whole (done ++ calls) stop) → LeftBy e Part now → LeftBy e Whole (done ++ now)
left-on PoolNoRoom Part Whole done now leads left = left
left-on (Module page) Part Whole done now leads left = leads now (Some page) left
left-on NoMemory Part Whole done now leads (later, stop, part) = (later, stop, subst (λ calls. Whole calls stop) (sym (append_assoc done now later)) (leads (now ++ later) stop part))

-- the end of a part is the end of the whole that it leads to
pub ended-on : {T : Type 0} (r : Result T BootFault) (Part Whole : List ModuleCall → Option Page → Type 0) (done now : List ModuleCall) → ((calls : List ModuleCall) (stop : Option Page) → Part calls stop → Whole (done ++ calls) stop) → EndedBy r Part now → EndedBy r Whole (done ++ now)
ended-on (Ok all) Part Whole done now leads ended = leads now None ended
ended-on (Err e) Part Whole done now leads ended = left-on e Part Whole done now leads ended

-- work that was left
pub worked-left : {T : Type 0} (r : Result T BootFault) (e : BootFault) (boot : Boot) (Part : List ModuleCall → Option Page → Type 0) (before after : List ModuleCall) (kept : Kept) → r ≡ Err e → Grew before after (LeftBy e Part) → WorkedOn boot Part before after kept r
worked-left r e boot Part before after kept is grew = subst (λ x. WorkedOn boot Part before after kept x) (sym is) (record { made = grew; stands = tt })

-- no memory before the first call
pub none-made : (Part : List ModuleCall → Option Page → Type 0) (before after : List ModuleCall) → after ≡ before → IsFront Part [] → Grew before after (LeftBy NoMemory Part)
none-made Part before after same front = ([], same ∙ sym (append-nil before), front)

-- ---- a loop over the items

-- the work on the items that are left leads to the work on all
pub record LeadsTo {Item : Type 0} (Part : Parts Item) (start : List ModuleCall) (all : List Item) (made : List ModuleCall) (rest : List Item) : Type 0 where
  pub done : List ModuleCall
  pub is : made ≡ start ++ done
  pub on : (later : List ModuleCall) (stop : Option Page) → InTurn Part made rest later stop → InTurn Part start all (done ++ later) stop

pub leads-start : {Item : Type 0} (Part : Parts Item) (start : List ModuleCall) (all : List Item) → LeadsTo Part start all start (drop 0 all)
leads-start Part start all = record { done = []; is = sym (append-nil start); on = λ later stop turn. turn }

leads-one : {Item : Type 0} (Part : Parts Item) (start made made' : List ModuleCall) (all : List Item) (item : Item) (rest : List Item) → LeadsTo Part start all made (item ∷ rest) → Grew made made' (λ now. Part made item now None) → LeadsTo Part start all made' rest
leads-one Part start made made' all item rest leads (now, is, part) = record {
  done = leads.done ++ now;
  is = is ∙ ap (λ m. m ++ now) leads.is ∙ append_assoc start leads.done now;
  on = λ later stop turn.
      let Q : List ModuleCall → Type 0 = λ m. InTurn Part m rest later stop in
      let P : List ModuleCall → Type 0 = λ calls. InTurn Part start all calls stop in
      subst P (sym (append_assoc leads.done now later)) (leads.on (now ++ later) stop (inr (now, later, refl, part, subst Q is turn)));
}

-- the work on all ends at an item
pub at-item : {Item : Type 0} (Part : Parts Item) (made now : List ModuleCall) (item : Item) (rest : List Item) (e : BootFault) → Goes Part → LeftBy e (Part made item) now → LeftBy e (InTurn Part made (item ∷ rest)) now
at-item Part made now item rest PoolNoRoom goes left = left
at-item Part made now item rest (Module page) goes part = inl (page, part, refl)
at-item Part made now item rest NoMemory goes front = front-first Part goes made item rest now front

leads-ended : {Item : Type 0} (Part : Parts Item) (start made made' : List ModuleCall) (all : List Item) (item : Item) (rest : List Item) (e : BootFault) → Goes Part → LeadsTo Part start all made (item ∷ rest) → Grew made made' (LeftBy e (Part made item)) → Grew start made' (LeftBy e (InTurn Part start all))
leads-ended Part start made made' all item rest e goes leads (now, is, ended) = (
  leads.done ++ now,
  is ∙ ap (λ m. m ++ now) leads.is ∙ append_assoc start leads.done now,
  left-on e (InTurn Part made (item ∷ rest)) (InTurn Part start all) leads.done now leads.on (at-item Part made now item rest e goes ended),
)

pub at-drop : {Item : Type 0} (all : List Item) (at : ℕ) (d : Item) → at < length all → drop at all ≡ get_or all at d ∷ drop (at + 1) all
at-drop all at d low = drop-cons all at d low ∙ ap (λ n. get_or all at d ∷ drop n all) (sym (add-one at))

-- one item more
pub leads-next : {Item : Type 0} (Part : Parts Item) (start made made' : List ModuleCall) (all : List Item) (at : ℕ) (d : Item) → at < length all → LeadsTo Part start all made (drop at all) → Grew made made' (λ now. Part made (get_or all at d) now None) → LeadsTo Part start all made' (drop (at + 1) all)
leads-next Part start made made' all at d low leads grew =
    leads-one Part start made made' all (get_or all at d) (drop (at + 1) all) (subst (λ rest. LeadsTo Part start all made rest) (at-drop all at d low) leads) grew

-- the item at which the work ended before all were done
pub leads-stop : {Item : Type 0} (Part : Parts Item) (start made made' : List ModuleCall) (all : List Item) (at : ℕ) (d : Item) (e : BootFault) → Goes Part → at < length all → LeadsTo Part start all made (drop at all) → Grew made made' (LeftBy e (Part made (get_or all at d))) → Grew start made' (LeftBy e (InTurn Part start all))
leads-stop Part start made made' all at d e goes low leads ended =
    leads-ended Part start made made' all (get_or all at d) (drop (at + 1) all) e goes (subst (λ rest. LeadsTo Part start all made rest) (at-drop all at d low) leads) ended

-- the end of all
pub leads-end : {Item : Type 0} (Part : Parts Item) (start made : List ModuleCall) (all : List Item) (at : ℕ) → length all ≤ at → LeadsTo Part start all made (drop at all) → Grew start made (λ now. InTurn Part start all now None)
leads-end Part start made all at past leads =
    let here = subst (λ r. LeadsTo Part start all made r) (drop_all at all past) leads in
    (here.done, here.is, subst (λ calls. InTurn Part start all calls None) (append-nil here.done) (here.on [] None (refl, refl)))

-- ---- the work on lists of items

-- items behind others
pub turn-append : {Item : Type 0} (Part : Parts Item) (done : List ModuleCall) (xs ys : List Item) (a b : List ModuleCall) (stop : Option Page) → InTurn Part done xs a None → InTurn Part (done ++ a) ys b stop → InTurn Part done (xs ++ ys) (a ++ b) stop
turn-append Part done [] ys a b stop first second =
    let P : List ModuleCall → Type 0 = λ m. InTurn Part m ys b stop in
    let Q : List ModuleCall → Type 0 = λ c. InTurn Part done ys c stop in
    subst Q (ap (λ m. m ++ b) (sym first.0)) (subst P (ap (λ m. done ++ m) first.0 ∙ append-nil done) second)
turn-append Part done (x ∷ xs) ys a b stop (inl stopped) second = let no : None ≡ Some stopped.0 = stopped.2 in cc
turn-append Part done (x ∷ xs) ys a b stop (inr (now, later, is, part, rest)) second =
    let P : List ModuleCall → Type 0 = λ m. InTurn Part m ys b stop in
    let at : done ++ a ≡ (done ++ now) ++ later = ap (λ m. done ++ m) is ∙ sym (append_assoc done now later) in
    inr (now, later ++ b, ap (λ m. m ++ b) is ∙ append_assoc now later b, part, turn-append Part (done ++ now) xs ys later b stop rest (subst P at second))

-- the work stops before the items behind
pub turn-before : {Item : Type 0} (Part : Parts Item) (done : List ModuleCall) (xs ys : List Item) (calls : List ModuleCall) (page : Page) → InTurn Part done xs calls (Some page) → InTurn Part done (xs ++ ys) calls (Some page)
turn-before Part done [] ys calls page turn = let no : Some page ≡ None = turn.1 in cc
turn-before Part done (x ∷ xs) ys calls page (inl stopped) = inl stopped
turn-before Part done (x ∷ xs) ys calls page (inr (now, later, is, part, rest)) = inr (now, later, is, part, turn-before Part (done ++ now) xs ys later page rest)

-- what begins the work on items begins that on them and those behind
pub turn-front : {Item : Type 0} (Part : Parts Item) (done : List ModuleCall) (xs ys : List Item) (calls : List ModuleCall) → Goes Part → IsFront (InTurn Part done xs) calls → IsFront (InTurn Part done (xs ++ ys)) calls
turn-front Part done xs ys calls goes (later, Some page, turn) = (later, Some page, turn-before Part done xs ys (calls ++ later) page turn)
turn-front Part done xs ys calls goes (later, None, turn) =
    let rest = turn-exists Part goes (done ++ (calls ++ later)) ys in
    let P : List ModuleCall → Type 0 = λ cs. InTurn Part done (xs ++ ys) cs rest.1 in
    (later ++ rest.0, rest.1, subst P (append_assoc calls later rest.0) (turn-append Part done xs ys (calls ++ later) rest.0 rest.1 turn rest.2))

-- items under other names
pub turn-map : {Item Other : Type 0} (Part : Parts Other) (f : Item → Other) (done : List ModuleCall) (xs : List Item) (calls : List ModuleCall) (stop : Option Page) → InTurn (λ before x now end. Part before (f x) now end) done xs calls stop → InTurn Part done (map f xs) calls stop
turn-map Part f done [] calls stop turn = turn
turn-map Part f done (x ∷ xs) calls stop (inl stopped) = inl stopped
turn-map Part f done (x ∷ xs) calls stop (inr (now, later, is, part, rest)) = inr (now, later, is, part, turn-map Part f (done ++ now) xs later stop rest)

-- items whose parts are the same
pub turn-same : {Item : Type 0} (Part Same : Parts Item) (done : List ModuleCall) (xs : List Item) (calls : List ModuleCall) (stop : Option Page) → ((before : List ModuleCall) (x : Item) (now : List ModuleCall) (end : Option Page) → Part before x now end → Same before x now end) → InTurn Part done xs calls stop → InTurn Same done xs calls stop
turn-same Part Same done [] calls stop same turn = turn
turn-same Part Same done (x ∷ xs) calls stop same (inl (page, part, is)) = inl (page, same done x calls (Some page) part, is)
turn-same Part Same done (x ∷ xs) calls stop same (inr (now, later, is, part, rest)) = inr (now, later, is, same done x now None part, turn-same Part Same (done ++ now) xs later stop same rest)
