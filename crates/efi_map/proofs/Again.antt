-- What was written is read again.
use Rattle.std.proofs.Common.{◌≡◌, ℕ, suc, ◌+◌, ◌*◌, ◌/◌, ◌%◌, ◌^◌, ◌<◌, ◌≤◌, Bool, true, false, cond, List, [], ◌∷◌, ◌++◌, length, get_or, drop, filter, sum_by, position, max, Some, None, Result, Ok, Err, refl, sym, ap, subst, ◌∙◌, append_assoc, arith, inl, inr, nat_lt, nat_le, not, ◌==◌}
use Rattle.std.specs.Result.{IfOk}
use Rattle.std.specs.List.{All, AllPairs, list_any, flat_map}
use Rattle.std.proofs.lemmas.Bool.{cases_Bool}
use Rattle.std.proofs.lemmas.Bool.Decides.{nat_tests}
use Rattle.std.proofs.lemmas.List.{length-append, append-nil, get_or_append_left}
use Rattle.std.proofs.Math.Seq.{get_or-append_seam}
use Rattle.std.proofs.lemmas.List.Concat.{flat_map-cons}
use Rattle.std.proofs.lemmas.List.Elements.{All-tail, All-head}
use Rattle.std.proofs.lemmas.List.Folds.{list_any_none}
use Rattle.std.proofs.lemmas.List.Sums.{sum_by-append, sum_by-cons}
use Rattle.guest_base.specs.declared.memory.Level.{Level}
use Rattle.guest_base.specs.declared.memory.Level.TheVariants.{Small, Large, Huge}
use Rattle.guest_base.specs.declared.memory.HostRun.{HostRun}
use Rattle.event_core.specs.declared.boot.Descriptor.{Descriptor}
use Rattle.event_core.specs.Map.{is_ram, ram_pages, descriptor_end, IsDescriptor, AreApart, IsHostRecord, AreHostsApart}
use Rattle.guest_map.specs.declared.map.GuestMap.{GuestMap}
use Rattle.guest_map.specs.Fields.{number, low_bytes}
use Rattle.guest_map.proofs.FieldLemmas.{low_length, number_again, low_drop, low_past}
use Rattle.efi_map.specs.MapFile.{has_pages, end_limit, meet, descriptor_fault, descriptor_at, descriptors_at, level_of, are_pages, host_record, hosts_meet, host_at, hosts_at, word_at, magic_at, stride_at, version_at, count_at, header_at, all_descriptors_at, all_hosts_at, map_of}
use Rattle.efi_map.proofs.Steps.{position_of_none}
use Rattle.efi_map.specs.Spelling.{descriptor_bytes, level_number, host_bytes, header_bytes, map_bytes, HasFile}

-- ---- the header

word_again : (size n : ℕ) (rest : List ℕ) → n < 2 ^ 32 → word_at size (low_bytes 4 n ++ rest) ≡ Ok (n, rest)
word_again size n rest lt =
    let long : nat_lt (length (low_bytes 4 n ++ rest)) 4 ≡ false = grind (arith, nat_tests, length-append (low_bytes 4 n) rest, low_length 4 n) in
    rw (long, number_again 4 n rest lt, low_drop 4 n rest) refl

header_again : (size count : ℕ) (rest : List ℕ) → count ≤ 4096 → header_at size (header_bytes count ++ rest) ≡ Ok (40, count, rest)
unfolding header_at magic_at stride_at version_at count_at header_bytes
header_again size count rest few =
    let grouped : header_bytes count ++ rest ≡ low_bytes 4 0x50414d47 ++ (low_bytes 4 40 ++ (low_bytes 4 1 ++ (low_bytes 4 count ++ rest))) = simp append_assoc in
    let fits : nat_le count 4096 ≡ true = grind (arith, nat_tests) in
    ap (header_at size) grouped ∙ rw (word_again size 0x50414d47 (low_bytes 4 40 ++ (low_bytes 4 1 ++ (low_bytes 4 count ++ rest))) (omega arith), word_again size 40 (low_bytes 4 1 ++ (low_bytes 4 count ++ rest)) (omega arith), word_again size 1 (low_bytes 4 count ++ rest) (omega arith), word_again size count rest (omega arith), fits) refl

-- ---- descriptors

record Small64 (d : Descriptor) : Type 0 where
  kind : d.kind < 2 ^ 32
  start : d.start < 2 ^ 64
  pages : d.pages < 2 ^ 64

limit_below : (b : Bool) (end : ℕ) → end ≤ cond b (2 ^ 40) (2 ^ 64) → end ≤ 2 ^ 64
limit_below true end le = omega arith
limit_below false end le = le

small_of : (d : Descriptor) → IsDescriptor d → Small64 d
small_of d is =
    let end : descriptor_end d ≤ 2 ^ 64 = limit_below (is_ram d) (descriptor_end d) is.below in
    record { kind = is.kind; start = omega (arith, end, is.some); pages = omega (arith, end, is.some) }

made_again : (size : ℕ) (bytes : List ℕ) (d : Descriptor) (rest : List ℕ) → nat_lt (length bytes) 40 ≡ false → number 4 bytes ≡ d.kind → number 8 (drop 8 bytes) ≡ d.start → number 8 (drop 24 bytes) ≡ d.pages → drop 40 bytes ≡ rest → descriptor_at size 40 bytes ≡ Ok (d, rest)
unfolding descriptor_at
made_again size bytes d rest long kind start pages after = rw (long, kind, start, pages, after) refl

descriptor_again : (size : ℕ) (d : Descriptor) (rest : List ℕ) → Small64 d → descriptor_at size 40 (descriptor_bytes d ++ rest) ≡ Ok (d, rest)
unfolding descriptor_bytes
descriptor_again size d rest small =
    let t5 : List ℕ = low_bytes 8 0 ++ rest in
    let t4 : List ℕ = low_bytes 8 d.pages ++ t5 in
    let t3 : List ℕ = low_bytes 8 0 ++ t4 in
    let t2 : List ℕ = low_bytes 8 d.start ++ t3 in
    let t1 : List ℕ = low_bytes 4 0 ++ t2 in
    let t0 : List ℕ = low_bytes 4 d.kind ++ t1 in
    let grouped : descriptor_bytes d ++ rest ≡ t0 = simp append_assoc in
    let long : nat_lt (length t0) 40 ≡ false = grind (arith, nat_tests, length-append (low_bytes 4 d.kind) t1, length-append (low_bytes 4 0) t2, length-append (low_bytes 8 d.start) t3, length-append (low_bytes 8 0) t4, length-append (low_bytes 8 d.pages) t5, length-append (low_bytes 8 0) rest, low_length 4 d.kind, low_length 4 0, low_length 8 d.start, low_length 8 0, low_length 8 d.pages) in
    let kind : number 4 t0 ≡ d.kind = number_again 4 d.kind t1 small.kind in
    let at8 : drop 8 t0 ≡ t2 = low_past 4 d.kind 4 t1 ∙ low_drop 4 0 t2 in
    let start : number 8 (drop 8 t0) ≡ d.start = ap (number 8) at8 ∙ number_again 8 d.start t3 small.start in
    let at24 : drop 24 t0 ≡ t4 = low_past 4 d.kind 20 t1 ∙ low_past 4 0 16 t2 ∙ low_past 8 d.start 8 t3 ∙ low_drop 8 0 t4 in
    let pages : number 8 (drop 24 t0) ≡ d.pages = ap (number 8) at24 ∙ number_again 8 d.pages t5 small.pages in
    let at40 : drop 40 t0 ≡ rest = low_past 4 d.kind 36 t1 ∙ low_past 4 0 32 t2 ∙ low_past 8 d.start 24 t3 ∙ low_past 8 0 16 t4 ∙ low_past 8 d.pages 8 t5 ∙ low_drop 8 0 rest in
    ap (descriptor_at size 40) grouped ∙ made_again size t0 d rest long kind start pages at40

-- nothing is wrong with a descriptor behind others that it is apart from
unmet : (d e : Descriptor) → 0 < d.pages → 0 < e.pages → AreApart e d → meet d e ≡ false
unmet d e some-d some-e apart =
    elim (cases_Bool (meet d e)) [
      | inl met ↦ absurd (apart (max d.start e.start) (grind (arith, nat_tests)) (grind (arith, nat_tests)))
      | inr other ↦ other
    ]

fine_again : (before : List Descriptor) (d : Descriptor) → IsDescriptor d → All IsDescriptor before → All (λ e. AreApart e d) before → sum_by ram_pages before + ram_pages d ≤ 2 ^ 24 → descriptor_fault before d ≡ None
unfolding descriptor_fault
fine_again before d is each apart few =
    let some : has_pages d ≡ true = grind (arith, nat_tests, is.some) in
    let aligned : not (d.start % 4096 == 0) ≡ false = grind (arith, nat_tests, is.aligned) in
    let low : nat_lt (end_limit d) (descriptor_end d) ≡ false = grind (arith, nat_tests, is.below) in
    let none : position (meet d) before ≡ None = position_of_none (meet d) before (λ k x lt. unmet d (get_or before k x) is.some (each k x lt).some (apart k x lt)) in
    let room : nat_lt (2 ^ 24) (sum_by ram_pages before + ram_pages d) ≡ false = grind (arith, nat_tests, few) in
    rw (some, aligned, low, none, room) refl

record FitAll (ds : List Descriptor) : Type 0 where
  each : All IsDescriptor ds
  apart : AllPairs AreApart ds
  few : sum_by ram_pages ds ≤ 2 ^ 24

descriptors_again : (size : ℕ) (before ds : List Descriptor) (rest : List ℕ) → FitAll (before ++ ds) → descriptors_at size 40 (length ds) before (flat_map descriptor_bytes ds ++ rest) ≡ Ok (before ++ ds, rest)
unfolding descriptors_at
descriptors_again size before [] rest fit = ap (λ (xs : List Descriptor). Ok (xs, rest)) (sym (append-nil before))
descriptors_again size before (d ∷ ds) rest fit =
    let at : get_or (before ++ d ∷ ds) (length before) d ≡ d = get_or-append_seam before d ds d in
    let inside : length before < length (before ++ d ∷ ds) = omega (arith, length-append before (d ∷ ds)) in
    let is : IsDescriptor d = subst IsDescriptor at (fit.each (length before) d inside) in
    let each : All IsDescriptor before = λ k x lt. subst IsDescriptor (get_or_append_left before (d ∷ ds) x k lt) (fit.each k x (omega (arith, lt, inside))) in
    let apart : All (λ e. AreApart e d) before = λ k x lt. subst (λ (e : Descriptor). AreApart e d) (get_or_append_left before (d ∷ ds) x k lt) (subst (λ (e : Descriptor). AreApart (get_or (before ++ d ∷ ds) k x) e) (get_or-append_seam before d ds x) (fit.apart k (length before) x lt inside)) in
    let few : sum_by ram_pages before + ram_pages d ≤ 2 ^ 24 = omega (arith, fit.few, sum_by-append ram_pages before (d ∷ ds), sum_by-cons ram_pages d ds) in
    let fine = fine_again before d is each apart few in
    let grouped : flat_map descriptor_bytes (d ∷ ds) ++ rest ≡ descriptor_bytes d ++ (flat_map descriptor_bytes ds ++ rest) = ap (λ (x : List ℕ). x ++ rest) (flat_map-cons descriptor_bytes d ds) ∙ append_assoc (descriptor_bytes d) (flat_map descriptor_bytes ds) rest in
    let whole : before ++ d ∷ ds ≡ (before ++ d ∷ []) ++ ds = sym (append_assoc before (d ∷ []) ds) in
    let others = descriptors_again size (before ++ d ∷ []) ds rest (subst FitAll whole fit) in
    ap (descriptors_at size 40 (suc (length ds)) before) grouped ∙ rw (descriptor_again size d (flat_map descriptor_bytes ds ++ rest) (small_of d is), fine, others, whole) refl

-- ---- host records

level_again : (l : Level) → level_of (level_number l) ≡ Some l
level_again Small = refl
level_again Large = refl
level_again Huge = refl

level_below : (l : Level) → level_number l < 2 ^ 32
level_below Small = omega arith
level_below Large = omega arith
level_below Huge = omega arith

record_again : (h : HostRun) → IsHostRecord h → host_record (h.pages.first * 4096) (h.pages.count * 4096) (level_number h.level) ≡ Some h
unfolding host_record
record_again h is =
    let pages : are_pages (h.pages.first * 4096) (h.pages.count * 4096) ≡ true = grind (arith, nat_tests, is.0, is.1) in
    let first : h.pages.first * 4096 / 4096 ≡ h.pages.first = omega arith in
    let count : h.pages.count * 4096 / 4096 ≡ h.pages.count = omega arith in
    rw (pages, first, count, level_again h.level) refl

host_made_again : (size : ℕ) (before : List HostRun) (bytes : List ℕ) (h : HostRun) (rest : List ℕ) → nat_lt (length bytes) 20 ≡ false → number 8 bytes ≡ h.pages.first * 4096 → number 8 (drop 8 bytes) ≡ h.pages.count * 4096 → number 4 (drop 16 bytes) ≡ level_number h.level → drop 20 bytes ≡ rest → IsHostRecord h → list_any (hosts_meet h) before ≡ false → host_at size before bytes ≡ Ok (h, rest)
unfolding host_at
host_made_again size before bytes h rest long start len level after is apart = rw (long, start, len, level, after, record_again h is, apart) refl

host_again : (size : ℕ) (before : List HostRun) (h : HostRun) (rest : List ℕ) → IsHostRecord h → list_any (hosts_meet h) before ≡ false → host_at size before (host_bytes h ++ rest) ≡ Ok (h, rest)
unfolding host_bytes
host_again size before h rest is apart =
    let t2 : List ℕ = low_bytes 4 (level_number h.level) ++ rest in
    let t1 : List ℕ = low_bytes 8 (h.pages.count * 4096) ++ t2 in
    let t0 : List ℕ = low_bytes 8 (h.pages.first * 4096) ++ t1 in
    let grouped : host_bytes h ++ rest ≡ t0 = simp append_assoc in
    let long : nat_lt (length t0) 20 ≡ false = grind (arith, nat_tests, length-append (low_bytes 8 (h.pages.first * 4096)) t1, length-append (low_bytes 8 (h.pages.count * 4096)) t2, length-append (low_bytes 4 (level_number h.level)) rest, low_length 8 (h.pages.first * 4096), low_length 8 (h.pages.count * 4096), low_length 4 (level_number h.level)) in
    let start : number 8 t0 ≡ h.pages.first * 4096 = number_again 8 (h.pages.first * 4096) t1 (omega (arith, is.1)) in
    let at8 : drop 8 t0 ≡ t1 = low_drop 8 (h.pages.first * 4096) t1 in
    let len : number 8 (drop 8 t0) ≡ h.pages.count * 4096 = ap (number 8) at8 ∙ number_again 8 (h.pages.count * 4096) t2 (omega (arith, is.1)) in
    let at16 : drop 16 t0 ≡ t2 = low_past 8 (h.pages.first * 4096) 8 t1 ∙ low_drop 8 (h.pages.count * 4096) t2 in
    let level : number 4 (drop 16 t0) ≡ level_number h.level = ap (number 4) at16 ∙ number_again 4 (level_number h.level) rest (level_below h.level) in
    let at20 : drop 20 t0 ≡ rest = low_past 8 (h.pages.first * 4096) 12 t1 ∙ low_past 8 (h.pages.count * 4096) 4 t2 ∙ low_drop 4 (level_number h.level) rest in
    ap (host_at size before) grouped ∙ host_made_again size before t0 h rest long start len level at20 is apart

hosts_unmet : (h e : HostRun) → IsHostRecord h → IsHostRecord e → AreHostsApart e h → hosts_meet h e ≡ false
hosts_unmet h e is-h is-e apart =
    elim (cases_Bool (hosts_meet h e)) [
      | inl met ↦ absurd (apart (max h.pages.first e.pages.first) (grind (arith, nat_tests)) (grind (arith, nat_tests)))
      | inr other ↦ other
    ]

record FitHosts (hs : List HostRun) : Type 0 where
  each : All IsHostRecord hs
  apart : AllPairs AreHostsApart hs

hosts_again : (size : ℕ) (before hs : List HostRun) (rest : List ℕ) → FitHosts (before ++ hs) → hosts_at size (length hs) before (flat_map host_bytes hs ++ rest) ≡ Ok (before ++ hs, rest)
unfolding hosts_at
hosts_again size before [] rest fit = ap (λ (xs : List HostRun). Ok (xs, rest)) (sym (append-nil before))
hosts_again size before (h ∷ hs) rest fit =
    let at : get_or (before ++ h ∷ hs) (length before) h ≡ h = get_or-append_seam before h hs h in
    let inside : length before < length (before ++ h ∷ hs) = omega (arith, length-append before (h ∷ hs)) in
    let is : IsHostRecord h = subst IsHostRecord at (fit.each (length before) h inside) in
    let each : All IsHostRecord before = λ k x lt. subst IsHostRecord (get_or_append_left before (h ∷ hs) x k lt) (fit.each k x (omega (arith, lt, inside))) in
    let apart : All (λ e. AreHostsApart e h) before = λ k x lt. subst (λ (e : HostRun). AreHostsApart e h) (get_or_append_left before (h ∷ hs) x k lt) (subst (λ (e : HostRun). AreHostsApart (get_or (before ++ h ∷ hs) k x) e) (get_or-append_seam before h hs x) (fit.apart k (length before) x lt inside)) in
    let none = list_any_none (hosts_meet h) before (λ k x lt. hosts_unmet h (get_or before k x) is (each k x lt) (apart k x lt)) in
    let grouped : flat_map host_bytes (h ∷ hs) ++ rest ≡ host_bytes h ++ (flat_map host_bytes hs ++ rest) = ap (λ (x : List ℕ). x ++ rest) (flat_map-cons host_bytes h hs) ∙ append_assoc (host_bytes h) (flat_map host_bytes hs) rest in
    let whole : before ++ h ∷ hs ≡ (before ++ h ∷ []) ++ hs = sym (append_assoc before (h ∷ []) hs) in
    let others = hosts_again size (before ++ h ∷ []) hs rest (subst FitHosts whole fit) in
    ap (hosts_at size (suc (length hs)) before) grouped ∙ rw (host_again size before h (flat_map host_bytes hs ++ rest) is none, others, whole) refl

all_kept : (ds : List Descriptor) → All IsDescriptor ds → filter has_pages ds ≡ ds
all_kept [] each = refl
all_kept (d ∷ ds) each =
    let some : has_pages d ≡ true = grind (arith, nat_tests, (All-head IsDescriptor d ds each).some) in
    rw (some, all_kept ds (All-tail IsDescriptor d ds each)) refl

whole_again : (map : GuestMap) (behind : List ℕ) → all_descriptors_at (length (map_bytes map)) (map_bytes map) ≡ Ok (map.descriptors, behind) → all_hosts_at (length (map_bytes map)) behind ≡ Ok (map.hosts, []) → filter has_pages map.descriptors ≡ map.descriptors → map_of (map_bytes map) ≡ Ok map
unfolding map_of
whole_again map behind ds hs kept = rw (ds, hs, kept) refl

pub map_again : (map : GuestMap) → HasFile map → map_of (map_bytes map) ≡ Ok map
unfolding all_descriptors_at all_hosts_at count_at map_bytes
map_again map has =
    let size : ℕ = length (map_bytes map) in
    let hosts : List ℕ = flat_map host_bytes map.hosts in
    let behind : List ℕ = low_bytes 4 (length map.hosts) ++ hosts in
    let grouped : map_bytes map ≡ header_bytes (length map.descriptors) ++ (flat_map descriptor_bytes map.descriptors ++ behind) = simp append_assoc in
    let fit : FitAll map.descriptors = record { each = has.rules.each; apart = has.rules.apart; few = has.rules.ram } in
    let fit_hosts : FitHosts map.hosts = record { each = has.rules.each_host; apart = has.rules.hosts_apart } in
    let ds : all_descriptors_at size (map_bytes map) ≡ Ok (map.descriptors, behind) =
    ap (all_descriptors_at size) grouped ∙ rw (header_again size (length map.descriptors) (flat_map descriptor_bytes map.descriptors ++ behind) has.descriptors) (descriptors_again size [] map.descriptors behind fit) in
    let ended : hosts ≡ hosts ++ [] = sym (append-nil hosts) in
    let few : nat_le (length map.hosts) 4096 ≡ true = grind (arith, nat_tests, has.hosts) in
    let hs : all_hosts_at size behind ≡ Ok (map.hosts, []) = rw (word_again size (length map.hosts) hosts (omega (arith, has.hosts)), few) (ap (hosts_at size (length map.hosts) []) ended ∙ hosts_again size [] map.hosts [] fit_hosts) in
    let kept : filter has_pages map.descriptors ≡ map.descriptors = all_kept map.descriptors has.rules.each in
    whole_again map behind ds hs kept

pub again_of : {E : Type 0} (map : GuestMap) (r : Result (List ℕ) E) → IfOk r (λ bytes. bytes ≡ map_bytes map) → HasFile map → IfOk r (λ bytes. map_of bytes ≡ Ok map)
again_of map (Ok bytes) is has = ap map_of is ∙ map_again map has
again_of map (Err e) is has = tt
