use Rattle.std.specs.Prelude.{ℕ, List, [], ◌∷◌, ◌++◌, Option, Some, Bool, true, false, ◌≡◌, ◌⊎◌, ◌&&◌, nat_lt, fold, if◌then◌else◌}
use Rattle.std.specs.List.{flat_map, list_any}
use Rattle.guest_base.specs.Ranges.{in_range}
use Rattle.guest_base.specs.Levels.{level_at, level_pages}
use Rattle.guest_base.specs.declared.memory.Level.{Level}
use Rattle.guest_base.specs.declared.memory.HostRun.{HostRun}
use Rattle.guest_base.specs.declared.memory.PageState.{PageState}
use Rattle.guest_base.specs.declared.memory.PageState.TheVariants.{Pending, Accepted, Shared}
use Rattle.event_core.specs.declared.module_call.CallKind.{CallKind}
use Rattle.event_core.specs.declared.module_call.CallKind.TheVariants.{Accept, Share, Unshare, Give}
use Rattle.event_core.specs.declared.module_call.PortAnswer.{PortAnswer}
use Rattle.event_core.specs.declared.module_call.PortAnswer.TheVariants.{Ok as AnsweredOk, SizeMismatch, Failed}
use Rattle.event_core.specs.declared.module_call.ModuleCall.{ModuleCall}
use Rattle.event_core.specs.declared.event.Event.{Event}
use Rattle.event_core.specs.declared.event.Event.TheVariants.{Report, ConvertEnd}
use Rattle.event_core.specs.declared.entry.Entry.{Entry}
use Rattle.event_core.specs.declared.boot.Boot.{Boot}

-- the module calls that an event reports
abbrev pub calls_in : Event → List ModuleCall
calls_in (Report run calls stopped next) = calls
calls_in (ConvertEnd block calls end) = calls
calls_in _ = []

-- all module calls: boot's, and then those of the entries, in order
abbrev pub calls_of : Boot → List Entry → List ModuleCall
calls_of boot entries = boot.calls ++ flat_map (λ (e : Entry). calls_in e.event) entries

-- whether a call was answered Ok
abbrev pub is_done : ModuleCall → Bool
is_done call = elim call.answer [ AnsweredOk ↦ true | SizeMismatch ↦ false | Failed ↦ false ]

-- whether a call is about the page
abbrev pub covers : ModuleCall → ℕ → Bool
covers call page = in_range call.first call.count page

-- whether calls accepted a page
abbrev pub is_accept : CallKind → Bool
is_accept Accept = true
is_accept Share = false
is_accept Unshare = false
is_accept Give = false

abbrev pub accepts_page : List ModuleCall → ℕ → Bool
accepts_page calls page = list_any (λ (call : ModuleCall). is_accept call.kind && (is_done call && covers call page)) calls

-- whether calls give pages back to the host: the first one tells, since in a legal history such a call stands alone
abbrev pub is_give : CallKind → Bool
is_give Accept = false
is_give Share = false
is_give Unshare = false
is_give Give = true

abbrev pub gives_back : List ModuleCall → Bool
gives_back [] = false
gives_back (call ∷ calls) = is_give call.kind

-- the state that a page has before a call, and after it where it was answered Ok (after the TDX guest; giving back is an own rule)
abbrev pub state_before : CallKind → PageState
state_before Accept = Pending
state_before Share = Accepted
state_before Unshare = Shared
state_before Give = Accepted

abbrev pub state_made : CallKind → PageState
state_made Accept = Accepted
state_made Share = Shared
state_made Unshare = Pending
state_made Give = Pending

-- the states of pages, by number; none for what isn't RAM
abbrev pub States : Type 0
States = ℕ → Option PageState

-- the states after one call
abbrev pub after_call : States → ModuleCall → States
after_call states call page = if is_done call && covers call page then Some (state_made call.kind) else states page

-- the states after calls: a page's is that of the last Ok call that covers it, or the first state where there is none
abbrev pub state_after : States → List ModuleCall → States
state_after first calls = fold after_call first calls

-- each page of the call has the state that the call needs
abbrev pub IsSound : States → ModuleCall → Type 0
IsSound states call = (page : ℕ) → covers call page ≡ true → states page ≡ Some (state_before call.kind)

-- Every call, whatever its answer, finds its pages in the state that it needs: Pending for accept, Accepted for share and for
-- give, Shared for unshare. So between two accepts of a page that were answered Ok there is a give of it that was, or a share and
-- then an unshare that were.
abbrev pub SoundCalls : States → List ModuleCall → Type 0
SoundCalls states [] = Unit {0}
SoundCalls states (call ∷ calls) = IsSound states call × SoundCalls (after_call states call) calls

-- whether a level is smaller than another
abbrev pub is_smaller : Level → Level → Bool
is_smaller a b = nat_lt (level_pages a) (level_pages b)

-- what the module answers to an accept call that doesn't fail: the size is wrong exactly where the host maps the first page
-- at a smaller level (own rule)
abbrev pub accept_answer : List HostRun → ModuleCall → PortAnswer
accept_answer hosts call = if is_smaller (level_at hosts call.first) call.level then SizeMismatch else AnsweredOk

-- the answers that a call may get: an accept call fails or gets the answer by the host's level; another fails or is done
abbrev pub HonestAnswer : List HostRun → ModuleCall → CallKind → Type 0
HonestAnswer hosts call Accept = (call.answer ≡ Failed) ⊎ (call.answer ≡ accept_answer hosts call)
HonestAnswer hosts call Share = (call.answer ≡ Failed) ⊎ (call.answer ≡ AnsweredOk)
HonestAnswer hosts call Unshare = (call.answer ≡ Failed) ⊎ (call.answer ≡ AnsweredOk)
HonestAnswer hosts call Give = (call.answer ≡ Failed) ⊎ (call.answer ≡ AnsweredOk)

abbrev pub HonestHost : List HostRun → ModuleCall → Type 0
HonestHost hosts call = HonestAnswer hosts call call.kind
