-- A map that was read meets the rules of maps.
use Rattle.std.proofs.Common.{◌≡◌, ℕ, zero, suc, ◌+◌, ◌-◌, ◌/◌, ◌%◌, ◌^◌, ◌<◌, ◌≤◌, Bool, true, false, cond, List, [], ◌∷◌, ◌++◌, length, get_or, drop, filter, sum_by, position, Option, Some, None, Result, Ok, Err, refl, sym, ap, subst, ◌∙◌, arith, inl, inr, nat_lt, nat_le, not, ◌==◌}
use Rattle.std.specs.Prelude.{IfOk}
use Rattle.std.specs.Option.{option_map}
use Rattle.std.specs.List.{All, AllPairs, list_any}
use Rattle.std.proofs.lemmas.Bool.Decides.{nat_tests}
use Rattle.std.proofs.lemmas.Bool.{cases_Bool}
use Rattle.std.proofs.lemmas.List.Elements.{All-push, All-filter, filter_passes}
use Rattle.std.proofs.lemmas.List.Quantifiers.{all_pairs_push}
use Rattle.std.proofs.lemmas.List.Kept.{AllPairs-filter}
use Rattle.std.proofs.lemmas.List.Sums.{sum_by_push, sum_by-cons}
use Rattle.byteorder.specs.Numbers.{little_from-lt}
use Rattle.guest_base.specs.declared.memory.Level.{Level}
use Rattle.guest_base.specs.declared.memory.Pages.{Pages}
use Rattle.guest_base.specs.declared.memory.HostRun.{HostRun}
use Rattle.event_core.specs.declared.boot.Descriptor.{Descriptor}
use Rattle.event_core.specs.Map.{ram_pages, descriptor_end, IsDescriptor, AreApart, IsHostRecord, AreHostsApart, MapRules}
use Rattle.efi_map.specs.declared.fault.MapFault.{MapFault}
use Rattle.efi_map.specs.declared.fault.MapFault.TheVariants.{Short, BadMagic, BadSize, BadVersion, TooMany, Unaligned, TooHigh, TooMuchRam, BadHost, Trailing}
use Rattle.guest_map.specs.declared.map.GuestMap.{GuestMap}
use Rattle.guest_map.specs.Fields.{number, unless}
use Rattle.efi_map.specs.MapFile.{◌>>=◌, has_pages, end_limit, meet, overlap, descriptor_fault, descriptor_at, descriptors_at, level_of, are_pages, host_record, hosts_meet, host_behind, host_at, hosts_at, Gives, is_stride, word_at, magic_at, stride_at, version_at, count_at, header_at, all_descriptors_at, all_hosts_at, map_of}
use Rattle.efi_map.proofs.Steps.{IsBytes, IsBytes-drop, bind_ok, guard_ok, guarded_ok, cond_none, cond_err_ok, cond_then_some, ok_is, position_none, list_any_false}

-- ---- one descriptor

pub record IsFine (before : List Descriptor) (d : Descriptor) : Type 0 where
  pub aligned : d.start % 4096 ≡ 0
  pub below : descriptor_end d ≤ end_limit d
  pub apart : position (meet d) before ≡ None
  pub few : sum_by ram_pages before + ram_pages d ≤ 2 ^ 24

overlap_none : (number : ℕ) (found : Option ℕ) (others : Option MapFault) → overlap number found others ≡ None → (found ≡ None) × (others ≡ None)
overlap_none number None others e = (refl, e)
overlap_none number (Some k) others e = absurd cc

is_fine : (before : List Descriptor) (d : Descriptor) → has_pages d ≡ true → descriptor_fault before d ≡ None → IsFine before d
unfolding descriptor_fault
is_fine before d some e =
    let number = length before in
    let much = nat_lt (2 ^ 24) (sum_by ram_pages before + ram_pages d) in
    let behind : Option MapFault = cond much (Some TooMuchRam) None in
    let met = overlap number (position (meet d) before) behind in
    let high = cond (nat_lt (end_limit d) (descriptor_end d)) (Some (TooHigh number)) met in
    let first = cond (not (d.start % 4096 == 0)) (Some (Unaligned number)) high in
    let placed : first ≡ None = sym (ap (λ (b : Bool). cond b first None) some) ∙ e in
    let a = cond_none (not (d.start % 4096 == 0)) (Unaligned number) high placed in
    let b = cond_none (nat_lt (end_limit d) (descriptor_end d)) (TooHigh number) met a.1 in
    let o = overlap_none number (position (meet d) before) behind b.1 in
    let r = cond_none much TooMuchRam None o.1 in
    record {
      aligned = grind (arith, nat_tests, a.0);
      below = grind (arith, nat_tests, b.0);
      apart = o.0;
      few = grind (arith, nat_tests, r.0);
    }

apart_unless_met : (a b : Descriptor) → meet b a ≡ false → AreApart a b
apart_unless_met a b none byte in-a in-b = grind (arith, nat_tests)

apart_from_none : (a b : Descriptor) → has_pages b ≡ false → AreApart a b
apart_from_none a b none byte in-a in-b = grind (arith, nat_tests)

nothing_met : (d x : Descriptor) → has_pages d ≡ false → meet d x ≡ false
nothing_met d x none = grind (arith, nat_tests)

none_is_no_ram : (d : Descriptor) → has_pages d ≡ false → ram_pages d ≡ 0
none_is_no_ram d none = grind (arith, nat_tests)

-- nothing is wrong with it, so it meets none of those before it
pub unmet_of_fine : (before : List Descriptor) (d : Descriptor) → descriptor_fault before d ≡ None → All (λ x. meet d x ≡ false) before
unmet_of_fine before d fine =
    elim (cases_Bool (has_pages d)) [
      | inl some ↦ position_none (meet d) before (is_fine before d some fine).apart
      | inr none ↦ λ k x lt. nothing_met d (get_or before k x) none
    ]

-- ---- descriptors one behind another

pub record Fit (ds : List Descriptor) : Type 0 where
  pub each : All (λ d. has_pages d ≡ true → IsDescriptor d) ds
  pub apart : AllPairs AreApart ds
  pub few : sum_by ram_pages ds ≤ 2 ^ 24

fit_push : (before : List Descriptor) (d : Descriptor) → d.kind < 2 ^ 32 → descriptor_fault before d ≡ None → Fit before → Fit (before ++ d ∷ [])
fit_push before d kind e fit =
    elim (cases_Bool (has_pages d)) [
      | inl some ↦
          let fine = is_fine before d some e in
          let others : All (λ x. meet d x ≡ false) before = position_none (meet d) before fine.apart in
          record {
            each = All-push (λ x. has_pages x ≡ true → IsDescriptor x) before d fit.each (λ p. record { kind = kind; some = grind (arith, nat_tests, some); aligned = fine.aligned; below = fine.below });
            apart = all_pairs_push AreApart before d fit.apart (λ k x lt. apart_unless_met (get_or before k x) d (others k x lt));
            few = rw (sum_by_push ram_pages before d) fine.few;
          }
      | inr none ↦
          record {
            each = All-push (λ x. has_pages x ≡ true → IsDescriptor x) before d fit.each (λ p. absurd cc);
            apart = all_pairs_push AreApart before d fit.apart (λ k x lt. apart_from_none (get_or before k x) d none);
            few = rw (sum_by_push ram_pages before d) (omega (arith, fit.few, none_is_no_ram d none));
          }
    ]

word_below : (bytes : List ℕ) → IsBytes bytes → number 4 bytes < 2 ^ 32
unfolding number
word_below bytes fits = little_from-lt 0 4 bytes fits

kind_below : (size stride : ℕ) (bytes : List ℕ) (x : Descriptor × List ℕ) → IsBytes bytes → descriptor_at size stride bytes ≡ Ok x → (x.0.kind < 2 ^ 32) × IsBytes x.1
unfolding descriptor_at
kind_below size stride bytes x fits e =
    let made : Descriptor × List ℕ = (record { kind = number 4 bytes; start = number 8 (drop 8 bytes); pages = number 8 (drop 24 bytes) }, drop stride bytes) in
    let g = guard_ok (nat_lt (length bytes) stride) (Short size) made x e in
    subst (λ (y : Descriptor × List ℕ). (y.0.kind < 2 ^ 32) × IsBytes y.1) g.1 (word_below bytes fits, IsBytes-drop stride bytes fits)

pub unless_ok : {A : Type 0} (fault : Option MapFault) (x y : A) → unless fault x ≡ Ok y → (fault ≡ None) × (x ≡ y)
unless_ok None x y e = (refl, cc)
unless_ok (Some fault) x y e = absurd cc

descriptors_fit : (size stride count : ℕ) (before : List Descriptor) (bytes : List ℕ) (x : List Descriptor × List ℕ) → IsBytes bytes → Fit before → descriptors_at size stride count before bytes ≡ Ok x → Fit x.0
unfolding descriptors_at
descriptors_fit size stride zero before bytes x fits fit e = subst (λ (y : List Descriptor × List ℕ). Fit y.0) (ok_is (before, bytes) x e) fit
descriptors_fit size stride (suc count) before bytes x fits fit e =
    let d = bind_ok (descriptor_at size stride bytes) (λ (d : Descriptor × List ℕ). unless (descriptor_fault before d.0) (before ++ d.0 ∷ []) >>= λ (next : List Descriptor). descriptors_at size stride count next d.1) x e in
    let next = bind_ok (unless (descriptor_fault before d.0.0) (before ++ d.0.0 ∷ [])) (λ (next : List Descriptor). descriptors_at size stride count next d.0.1) x d.2 in
    let u = unless_ok (descriptor_fault before d.0.0) (before ++ d.0.0 ∷ []) next.0 next.1 in
    let k = kind_below size stride bytes d.0 fits d.1 in
    let pushed : Fit next.0 = subst Fit u.1 (fit_push before d.0.0 k.0 u.0 fit) in
    descriptors_fit size stride count next.0 d.0.1 x k.1 pushed next.2

no_descriptors_fit : Fit []
no_descriptors_fit = record { each = λ k d lt. absurd (omega (arith, lt)); apart = λ i j d lt up. absurd (omega (arith, up)); few = omega arith }

ram-filter : (ds : List Descriptor) → sum_by ram_pages (filter has_pages ds) ≤ sum_by ram_pages ds
ram-filter [] = omega arith
ram-filter (d ∷ ds) =
    elim (cases_Bool (has_pages d)) [
      | inl some ↦ rw (some, sum_by-cons ram_pages d ds, sum_by-cons ram_pages d (filter has_pages ds)) (omega (arith, ram-filter ds))
      | inr none ↦ rw (none, sum_by-cons ram_pages d ds) (omega (arith, ram-filter ds))
    ]

-- ---- host records

option_pages : (pages : Pages) (o : Option Level) (h : HostRun) → option_map (λ (l : Level). record { pages = pages; level = l }) o ≡ Some h → h.pages ≡ pages
option_pages pages None h e = absurd cc
option_pages pages (Some l) h e = cc

page_facts : (start len : ℕ) → are_pages start len ≡ true → (start % 4096 ≡ 0) × (len % 4096 ≡ 0) × (0 < len) × (start + len ≤ 2 ^ 40)
page_facts start len e = (grind (arith, nat_tests), grind (arith, nat_tests), grind (arith, nat_tests), grind (arith, nat_tests))

pub is_host_record : (start len level : ℕ) (h : HostRun) → host_record start len level ≡ Some h → IsHostRecord h
unfolding host_record
is_host_record start len level h e =
    let pages : Pages = record { first = start / 4096; count = len / 4096 } in
    let a = cond_then_some (are_pages start len) (option_map (λ (l : Level). record { pages = pages; level = l }) (level_of level)) h e in
    let p = option_pages pages (level_of level) h a.1 in
    let facts = page_facts start len a.0 in
    subst (λ (q : Pages). (0 < q.count) × (q.first + q.count ≤ 2 ^ 28)) (sym p) (omega (arith, facts), omega (arith, facts))

record AreHosts (hs : List HostRun) : Type 0 where
  each_host : All IsHostRecord hs
  hosts_apart : AllPairs AreHostsApart hs

hosts_apart_unless_met : (a b : HostRun) → hosts_meet b a ≡ false → AreHostsApart a b
hosts_apart_unless_met a b none page in-a in-b = grind (arith, nat_tests)

behind_ok : (before : List HostRun) (o : Option HostRun) (h : HostRun) → host_behind before o ≡ Ok h → (o ≡ Some h) × (list_any (hosts_meet h) before ≡ false)
behind_ok before None h e = absurd cc
behind_ok before (Some run) h e =
    let g = guard_ok (list_any (hosts_meet run) before) (BadHost (length before)) run h e in
    (ap Some g.1, subst (λ (y : HostRun). list_any (hosts_meet y) before ≡ false) g.1 g.0)

pub host_unmet : (size : ℕ) (before : List HostRun) (bytes : List ℕ) (x : HostRun × List ℕ) → host_at size before bytes ≡ Ok x → All (λ h. hosts_meet x.0 h ≡ false) before
unfolding host_at
host_unmet size before bytes x e =
    let o = host_record (number 8 bytes) (number 8 (drop 8 bytes)) (number 4 (drop 16 bytes)) in
    let a = cond_err_ok (nat_lt (length bytes) 20) (Short size) (host_behind before o >>= λ (h : HostRun). Ok (h, drop 20 bytes)) x e in
    let b = bind_ok (host_behind before o) (λ (h : HostRun). Ok (h, drop 20 bytes)) x a.1 in
    let met = behind_ok before o b.0 b.1 in
    let others : All (λ h. hosts_meet b.0 h ≡ false) before = list_any_false (hosts_meet b.0) before met.1 in
    subst (λ (y : HostRun × List ℕ). All (λ h. hosts_meet y.0 h ≡ false) before) (ok_is (b.0, drop 20 bytes) x b.2) others

hosts_push : (size : ℕ) (before : List HostRun) (bytes : List ℕ) (x : HostRun × List ℕ) → host_at size before bytes ≡ Ok x → AreHosts before → AreHosts (before ++ x.0 ∷ [])
unfolding host_at
hosts_push size before bytes x e are =
    let o = host_record (number 8 bytes) (number 8 (drop 8 bytes)) (number 4 (drop 16 bytes)) in
    let a = cond_err_ok (nat_lt (length bytes) 20) (Short size) (host_behind before o >>= λ (h : HostRun). Ok (h, drop 20 bytes)) x e in
    let b = bind_ok (host_behind before o) (λ (h : HostRun). Ok (h, drop 20 bytes)) x a.1 in
    let met = behind_ok before o b.0 b.1 in
    let is = is_host_record (number 8 bytes) (number 8 (drop 8 bytes)) (number 4 (drop 16 bytes)) b.0 met.0 in
    let others : All (λ h. hosts_meet b.0 h ≡ false) before = list_any_false (hosts_meet b.0) before met.1 in
    let pushed : AreHosts (before ++ b.0 ∷ []) = record {
      each_host = All-push IsHostRecord before b.0 are.each_host is;
      hosts_apart = all_pairs_push AreHostsApart before b.0 are.hosts_apart (λ k h lt. hosts_apart_unless_met (get_or before k h) b.0 (others k h lt));
    } in
    subst (λ (y : HostRun × List ℕ). AreHosts (before ++ y.0 ∷ [])) (ok_is (b.0, drop 20 bytes) x b.2) pushed

hosts_fit : (size count : ℕ) (before : List HostRun) (bytes : List ℕ) (x : List HostRun × List ℕ) → AreHosts before → hosts_at size count before bytes ≡ Ok x → AreHosts x.0
unfolding hosts_at
hosts_fit size zero before bytes x are e = subst (λ (y : List HostRun × List ℕ). AreHosts y.0) (ok_is (before, bytes) x e) are
hosts_fit size (suc count) before bytes x are e =
    let h = bind_ok (host_at size before bytes) (λ (h : HostRun × List ℕ). hosts_at size count (before ++ h.0 ∷ []) h.1) x e in
    hosts_fit size count (before ++ h.0.0 ∷ []) h.0.1 x (hosts_push size before bytes h.0 h.1 are) h.2

no_hosts_fit : AreHosts []
no_hosts_fit = record { each_host = λ k d lt. absurd (omega (arith, lt)); hosts_apart = λ i j d lt up. absurd (omega (arith, up)) }

-- ---- the whole file

word_bytes : (size : ℕ) (bytes : List ℕ) (x : ℕ × List ℕ) → IsBytes bytes → word_at size bytes ≡ Ok x → IsBytes x.1
word_bytes size bytes x fits e =
    let g = guard_ok (nat_lt (length bytes) 4) (Short size) (number 4 bytes, drop 4 bytes) x e in
    subst (λ (y : ℕ × List ℕ). IsBytes y.1) g.1 (IsBytes-drop 4 bytes fits)

magic_bytes : (size : ℕ) (bytes rest : List ℕ) → IsBytes bytes → magic_at size bytes ≡ Ok rest → IsBytes rest
unfolding magic_at
magic_bytes size bytes rest fits e =
    let w = bind_ok (word_at size bytes) (λ (w : ℕ × List ℕ). cond (w.0 == 0x50414d47) (Ok w.1) (Err BadMagic)) rest e in
    let g = guarded_ok (w.0.0 == 0x50414d47) BadMagic w.0.1 rest w.2 in
    subst IsBytes g.1 (word_bytes size bytes w.0 fits w.1)

stride_bytes : (size : ℕ) (bytes : List ℕ) (x : ℕ × List ℕ) → IsBytes bytes → stride_at size bytes ≡ Ok x → IsBytes x.1
unfolding stride_at
stride_bytes size bytes x fits e =
    let w = bind_ok (word_at size bytes) (λ (w : ℕ × List ℕ). cond (is_stride w.0) (Ok w) (Err (BadSize w.0))) x e in
    let g = guarded_ok (is_stride w.0.0) (BadSize w.0.0) w.0 x w.2 in
    subst (λ (y : ℕ × List ℕ). IsBytes y.1) g.1 (word_bytes size bytes w.0 fits w.1)

version_bytes : (size : ℕ) (bytes rest : List ℕ) → IsBytes bytes → version_at size bytes ≡ Ok rest → IsBytes rest
unfolding version_at
version_bytes size bytes rest fits e =
    let w = bind_ok (word_at size bytes) (λ (w : ℕ × List ℕ). cond (w.0 == 1) (Ok w.1) (Err (BadVersion w.0))) rest e in
    let g = guarded_ok (w.0.0 == 1) (BadVersion w.0.0) w.0.1 rest w.2 in
    subst IsBytes g.1 (word_bytes size bytes w.0 fits w.1)

count_bytes : (size : ℕ) (bytes : List ℕ) (x : ℕ × List ℕ) → IsBytes bytes → count_at size bytes ≡ Ok x → IsBytes x.1
unfolding count_at
count_bytes size bytes x fits e =
    let w = bind_ok (word_at size bytes) (λ (w : ℕ × List ℕ). cond (nat_le w.0 4096) (Ok w) (Err (TooMany w.0))) x e in
    let g = guarded_ok (nat_le w.0.0 4096) (TooMany w.0.0) w.0 x w.2 in
    subst (λ (y : ℕ × List ℕ). IsBytes y.1) g.1 (word_bytes size bytes w.0 fits w.1)

header_bytes : (size : ℕ) (bytes : List ℕ) (x : ℕ × ℕ × List ℕ) → IsBytes bytes → header_at size bytes ≡ Ok x → IsBytes x.2
unfolding header_at
header_bytes size bytes x fits e =
    let a = bind_ok (magic_at size bytes) (λ (a : List ℕ). stride_at size a >>= λ (stride : ℕ × List ℕ). version_at size stride.1 >>= λ (b : List ℕ). count_at size b >>= λ (count : ℕ × List ℕ). Ok (stride.0, count.0, count.1)) x e in
    let s = bind_ok (stride_at size a.0) (λ (stride : ℕ × List ℕ). version_at size stride.1 >>= λ (b : List ℕ). count_at size b >>= λ (count : ℕ × List ℕ). Ok (stride.0, count.0, count.1)) x a.2 in
    let v = bind_ok (version_at size s.0.1) (λ (b : List ℕ). count_at size b >>= λ (count : ℕ × List ℕ). Ok (s.0.0, count.0, count.1)) x s.2 in
    let n = bind_ok (count_at size v.0) (λ (count : ℕ × List ℕ). Ok (s.0.0, count.0, count.1)) x v.2 in
    let rest = count_bytes size v.0 n.0 (version_bytes size s.0.1 v.0 (stride_bytes size a.0 s.0 (magic_bytes size bytes a.0 fits a.1) s.1) v.1) n.1 in
    subst (λ (y : ℕ × ℕ × List ℕ). IsBytes y.2) (ok_is (s.0.0, n.0.0, n.0.1) x n.2) rest

all_descriptors_fit : (size : ℕ) (bytes : List ℕ) (x : List Descriptor × List ℕ) → IsBytes bytes → all_descriptors_at size bytes ≡ Ok x → Fit x.0
unfolding all_descriptors_at
all_descriptors_fit size bytes x fits e =
    let h = bind_ok (header_at size bytes) (λ (header : ℕ × ℕ × List ℕ). descriptors_at size header.0 header.1 [] header.2) x e in
    descriptors_fit size h.0.0 h.0.1 [] h.0.2 x (header_bytes size bytes h.0 fits h.1) no_descriptors_fit h.2

all_hosts_fit : (size : ℕ) (bytes : List ℕ) (x : List HostRun × List ℕ) → all_hosts_at size bytes ≡ Ok x → AreHosts x.0
unfolding all_hosts_at
all_hosts_fit size bytes x e =
    let n = bind_ok (count_at size bytes) (λ (count : ℕ × List ℕ). hosts_at size count.0 [] count.1) x e in
    hosts_fit size n.0.0 [] n.0.1 x no_hosts_fit n.2

abbrev made : List Descriptor → List HostRun → GuestMap
made ds hs = record { descriptors = filter has_pages ds; hosts = hs }

pub map_rules : (bytes : List ℕ) (map : GuestMap) → IsBytes bytes → map_of bytes ≡ Ok map → MapRules map.descriptors map.hosts
unfolding map_of
map_rules bytes map fits e =
    let d = bind_ok (all_descriptors_at (length bytes) bytes) (λ (ds : List Descriptor × List ℕ). all_hosts_at (length bytes) ds.1 >>= λ (hs : List HostRun × List ℕ). cond (length hs.1 == 0) (Ok (made ds.0 hs.0)) (Err (Trailing (length bytes - length hs.1)))) map e in
    let h = bind_ok (all_hosts_at (length bytes) d.0.1) (λ (hs : List HostRun × List ℕ). cond (length hs.1 == 0) (Ok (made d.0.0 hs.0)) (Err (Trailing (length bytes - length hs.1)))) map d.2 in
    let g = guarded_ok (length h.0.1 == 0) (Trailing (length bytes - length h.0.1)) (made d.0.0 h.0.0) map h.2 in
    let fit = all_descriptors_fit (length bytes) bytes d.0 fits d.1 in
    let are = all_hosts_fit (length bytes) d.0.1 h.0 h.1 in
    let kept : All (λ d. has_pages d ≡ true → IsDescriptor d) (filter has_pages d.0.0) = All-filter has_pages (λ d. has_pages d ≡ true → IsDescriptor d) d.0.0 fit.each in
    let some : All (λ d. has_pages d ≡ true) (filter has_pages d.0.0) = filter_passes has_pages d.0.0 in
    let rules : MapRules (filter has_pages d.0.0) h.0.0 = record {
      each = λ k x lt. kept k x lt (some k x lt);
      apart = AllPairs-filter AreApart has_pages d.0.0 fit.apart;
      ram = omega (arith, ram-filter d.0.0, fit.few);
      each_host = are.each_host;
      hosts_apart = are.hosts_apart;
    } in
    subst (λ (m : GuestMap). MapRules m.descriptors m.hosts) g.1 rules

pub rules_of : (bytes : List ℕ) (r : Result GuestMap MapFault) → IsBytes bytes → Gives (λ map. map) r (map_of bytes) → IfOk r (λ map. MapRules map.descriptors map.hosts)
rules_of bytes (Ok map) fits gives = map_rules bytes map fits gives
rules_of bytes (Err e) fits gives = tt
