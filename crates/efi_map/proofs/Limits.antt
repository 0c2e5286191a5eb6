-- A map that was read has at most 4,096 descriptors and as many host records.
use Rattle.std.proofs.Common.{◌≡◌, ℕ, zero, suc, ◌+◌, ◌-◌, ◌≤◌, cond, List, [], ◌∷◌, ◌++◌, length, filter, Result, Ok, Err, ap, subst, arith, inl, inr, nat_le, ◌==◌}
use Rattle.std.specs.Prelude.{IfOk}
use Rattle.std.proofs.lemmas.Bool.{cases_Bool}
use Rattle.std.proofs.lemmas.Bool.Decides.{nat_tests}
use Rattle.std.proofs.lemmas.List.{length_push}
use Rattle.guest_base.specs.declared.memory.HostRun.{HostRun}
use Rattle.event_core.specs.declared.boot.Descriptor.{Descriptor}
use Rattle.efi_map.specs.declared.fault.MapFault.{MapFault}
use Rattle.efi_map.specs.declared.fault.MapFault.TheVariants.{TooMany, Trailing}
use Rattle.guest_map.specs.declared.map.GuestMap.{GuestMap}
use Rattle.guest_map.specs.Fields.{unless}
use Rattle.efi_map.specs.MapFile.{◌>>=◌, has_pages, descriptor_fault, descriptor_at, descriptors_at, host_at, hosts_at, Gives, word_at, magic_at, stride_at, version_at, count_at, header_at, all_descriptors_at, all_hosts_at, map_of}
use Rattle.efi_map.proofs.Steps.{bind_ok, guarded_ok, ok_is}
use Rattle.efi_map.proofs.Rules.{unless_ok}

descriptors_counted : (size stride count : ℕ) (before : List Descriptor) (bytes : List ℕ) (x : List Descriptor × List ℕ) → descriptors_at size stride count before bytes ≡ Ok x → length x.0 ≡ length before + count
unfolding descriptors_at
descriptors_counted size stride zero before bytes x e =
    let same : length before ≡ length x.0 = ap (λ (y : List Descriptor × List ℕ). length y.0) (ok_is (before, bytes) x e) in
    omega (arith, same)
descriptors_counted size stride (suc count) before bytes x e =
    let d = bind_ok (descriptor_at size stride bytes) (λ (d : Descriptor × List ℕ). unless (descriptor_fault before d.0) (before ++ d.0 ∷ []) >>= λ (next : List Descriptor). descriptors_at size stride count next d.1) x e in
    let next = bind_ok (unless (descriptor_fault before d.0.0) (before ++ d.0.0 ∷ [])) (λ (next : List Descriptor). descriptors_at size stride count next d.0.1) x d.2 in
    let u = unless_ok (descriptor_fault before d.0.0) (before ++ d.0.0 ∷ []) next.0 next.1 in
    let longer : length (before ++ d.0.0 ∷ []) ≡ length next.0 = ap length u.1 in
    omega (arith, descriptors_counted size stride count next.0 d.0.1 x next.2, longer, length_push before d.0.0)

hosts_counted : (size count : ℕ) (before : List HostRun) (bytes : List ℕ) (x : List HostRun × List ℕ) → hosts_at size count before bytes ≡ Ok x → length x.0 ≡ length before + count
unfolding hosts_at
hosts_counted size zero before bytes x e =
    let same : length before ≡ length x.0 = ap (λ (y : List HostRun × List ℕ). length y.0) (ok_is (before, bytes) x e) in
    omega (arith, same)
hosts_counted size (suc count) before bytes x e =
    let h = bind_ok (host_at size before bytes) (λ (h : HostRun × List ℕ). hosts_at size count (before ++ h.0 ∷ []) h.1) x e in
    omega (arith, hosts_counted size count (before ++ h.0.0 ∷ []) h.0.1 x h.2, length_push before h.0.0)

count_few : (size : ℕ) (bytes : List ℕ) (x : ℕ × List ℕ) → count_at size bytes ≡ Ok x → x.0 ≤ 4096
unfolding count_at
count_few size bytes x e =
    let w = bind_ok (word_at size bytes) (λ (w : ℕ × List ℕ). cond (nat_le w.0 4096) (Ok w) (Err (TooMany w.0))) x e in
    let g = guarded_ok (nat_le w.0.0 4096) (TooMany w.0.0) w.0 x w.2 in
    let few : w.0.0 ≤ 4096 = grind (arith, nat_tests, g.0) in
    subst (λ (y : ℕ × List ℕ). y.0 ≤ 4096) g.1 few

header_few : (size : ℕ) (bytes : List ℕ) (x : ℕ × ℕ × List ℕ) → header_at size bytes ≡ Ok x → x.1 ≤ 4096
unfolding header_at
header_few size bytes x e =
    let a = bind_ok (magic_at size bytes) (λ (a : List ℕ). stride_at size a >>= λ (stride : ℕ × List ℕ). version_at size stride.1 >>= λ (b : List ℕ). count_at size b >>= λ (count : ℕ × List ℕ). Ok (stride.0, count.0, count.1)) x e in
    let s = bind_ok (stride_at size a.0) (λ (stride : ℕ × List ℕ). version_at size stride.1 >>= λ (b : List ℕ). count_at size b >>= λ (count : ℕ × List ℕ). Ok (stride.0, count.0, count.1)) x a.2 in
    let v = bind_ok (version_at size s.0.1) (λ (b : List ℕ). count_at size b >>= λ (count : ℕ × List ℕ). Ok (s.0.0, count.0, count.1)) x s.2 in
    let n = bind_ok (count_at size v.0) (λ (count : ℕ × List ℕ). Ok (s.0.0, count.0, count.1)) x v.2 in
    subst (λ (y : ℕ × ℕ × List ℕ). y.1 ≤ 4096) (ok_is (s.0.0, n.0.0, n.0.1) x n.2) (count_few size v.0 n.0 n.1)

all_descriptors_few : (size : ℕ) (bytes : List ℕ) (x : List Descriptor × List ℕ) → all_descriptors_at size bytes ≡ Ok x → length x.0 ≤ 4096
unfolding all_descriptors_at
all_descriptors_few size bytes x e =
    let h = bind_ok (header_at size bytes) (λ (header : ℕ × ℕ × List ℕ). descriptors_at size header.0 header.1 [] header.2) x e in
    omega (arith, header_few size bytes h.0 h.1, descriptors_counted size h.0.0 h.0.1 [] h.0.2 x h.2)

all_hosts_few : (size : ℕ) (bytes : List ℕ) (x : List HostRun × List ℕ) → all_hosts_at size bytes ≡ Ok x → length x.0 ≤ 4096
unfolding all_hosts_at
all_hosts_few size bytes x e =
    let n = bind_ok (count_at size bytes) (λ (count : ℕ × List ℕ). hosts_at size count.0 [] count.1) x e in
    omega (arith, count_few size bytes n.0 n.1, hosts_counted size n.0.0 [] n.0.1 x n.2)

filter-shorter : (ds : List Descriptor) → length (filter has_pages ds) ≤ length ds
filter-shorter [] = omega arith
filter-shorter (d ∷ ds) =
    elim (cases_Bool (has_pages d)) [
      | inl some ↦ rw some (omega (arith, filter-shorter ds))
      | inr none ↦ rw none (omega (arith, filter-shorter ds))
    ]

abbrev AreFew : GuestMap → Type 0
AreFew map = (length map.descriptors ≤ 4096) × (length map.hosts ≤ 4096)

abbrev made : List Descriptor → List HostRun → GuestMap
made ds hs = record { descriptors = filter has_pages ds; hosts = hs }

map_few : (bytes : List ℕ) (map : GuestMap) → map_of bytes ≡ Ok map → AreFew map
unfolding map_of
map_few bytes map e =
    let d = bind_ok (all_descriptors_at (length bytes) bytes) (λ (ds : List Descriptor × List ℕ). all_hosts_at (length bytes) ds.1 >>= λ (hs : List HostRun × List ℕ). cond (length hs.1 == 0) (Ok (made ds.0 hs.0)) (Err (Trailing (length bytes - length hs.1)))) map e in
    let h = bind_ok (all_hosts_at (length bytes) d.0.1) (λ (hs : List HostRun × List ℕ). cond (length hs.1 == 0) (Ok (made d.0.0 hs.0)) (Err (Trailing (length bytes - length hs.1)))) map d.2 in
    let g = guarded_ok (length h.0.1 == 0) (Trailing (length bytes - length h.0.1)) (made d.0.0 h.0.0) map h.2 in
    let kept : length (filter has_pages d.0.0) ≤ 4096 = omega (arith, filter-shorter d.0.0, all_descriptors_few (length bytes) bytes d.0 d.1) in
    subst AreFew g.1 (kept, all_hosts_few (length bytes) d.0.1 h.0 h.1)

pub few_of : (bytes : List ℕ) (r : Result GuestMap MapFault) → Gives (λ map. map) r (map_of bytes) → IfOk r (λ map. (length map.descriptors ≤ 4096) × (length map.hosts ≤ 4096))
few_of bytes (Ok map) gives = map_few bytes map gives
few_of bytes (Err e) gives = tt
