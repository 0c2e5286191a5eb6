use Rattle.std.proofs.Common.{◌≡◌, ℕ, ◌+◌, Option, None, Some, List, refl, sym, ◌∙◌, ap, subst, arith, slice_get}
use Rattle.std.specs.Prelude.{All}
use Rattle.std.specs.Option.{option_map}
use Rattle.std.proofs.lemmas.List.Elements.{All-map}
use Rattle.std.proofs.lemmas.Option.{slice_get-map}
use Rattle.event_core.specs.declared.boot.Boot.{Boot}
use Rattle.event_core.specs.declared.entry.Entry.{Entry}
use Rattle.event_core.specs.Legal.{Legal}
use Rattle.event_core.specs.Locally.{Rising}
use Rattle.event_core.specs.Moved.{Moved}
use Rattle.guest_history.proofs.AgreeLemmas.{gathered-legal}
use Rattle.guest_steps.specs.Ground.{Ground}
use Rattle.guest_steps.specs.Running.{AreOf}
use Rattle.guest_steps.specs.Seen.{Seen, entries_made}
use Rattle.guest_steps.specs.Standing.{Together, kept_by, lists_of, scripts_of}
use Rattle.guest_steps.proofs.SortLemmas.{AreLists, OneOf, one-of}
use Rattle.guest_steps.proofs.TogetherLemmas.{together-agree, together-follows, together-made}

-- The entries of processors that stand together are one legal history.

-- whose list it is
pub list-owner : (all : List Seen) (cpu : ℕ) (list : List Entry) → slice_get (lists_of all) cpu ≡ Some list → (c : Seen) × (slice_get all cpu ≡ Some c) × (entries_made c ≡ list)
list-owner all cpu list at = owner (slice_get all cpu) refl (sym (slice_get-map (λ (x : Seen). entries_made x) all cpu) ∙ at) where
  owner : (found : Option Seen) → slice_get all cpu ≡ found → option_map (λ (x : Seen). entries_made x) (slice_get all cpu) ≡ Some list → (c : Seen) × (slice_get all cpu ≡ Some c) × (entries_made c ≡ list)
  owner None is got = let no : None ≡ Some list = sym (ap (option_map (λ (x : Seen). entries_made x)) is) ∙ got in cc
  owner (Some c) is got =
      let one : Some (entries_made c) ≡ Some list = sym (ap (option_map (λ (x : Seen). entries_made x)) is) ∙ got in
      (c, is, (let same : entries_made c ≡ list = cc in same))

are-lists : (boot : Boot) (all : List Seen) (base : Ground) → Together boot all base → AreLists 0 (lists_of all)
are-lists boot all base t = record {
  named = λ cpu list at.
      let o = list-owner all cpu list at in
      let was = t.each cpu o.0 o.1 in
      subst (λ es. All (λ (e : Entry). e.cpu.0 ≡ 0 + cpu) es) o.2 (subst (λ n. All (λ (e : Entry). e.cpu.0 ≡ n) (entries_made o.0)) (was.0 ∙ (let same : cpu ≡ 0 + cpu = omega arith in same)) (All-map (λ (e : Entry). e.cpu.0 ≡ o.0.number) (λ (m : Moved). m.entry) o.0.moved was.2.named));
  rise = λ cpu list at.
      let o = list-owner all cpu list at in
      let was = t.each cpu o.0 o.1 in
      subst Rising o.2 was.2.rises;
}

-- all their entries, rising
pub all-entries : (boot : Boot) (all : List Seen) (base : Ground) → Together boot all base → OneOf (lists_of all)
all-entries boot all base t = one-of (lists_of all) (are-lists boot all base t)

pub entries-legal : (boot : Boot) (all : List Seen) (base : Ground) (t : Together boot all base) → Legal boot (scripts_of all) (all-entries boot all base t).entries
entries-legal boot all base t =
    let one = all-entries boot all base t in
    (gathered-legal boot (scripts_of all) (lists_of all) one.entries one.rises one.same (kept_by all base) (together-made all base) (together-agree boot all base t) (together-follows boot all base t)).0

pub one-history : (boot : Boot) (all : List Seen) (base : Ground) → Together boot all base → (entries : List Entry) × Legal boot (scripts_of all) entries × AreOf all entries
one-history boot all base t = (let one = all-entries boot all base t in (one.entries, entries-legal boot all base t, one.same))
