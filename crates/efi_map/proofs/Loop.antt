-- Reading descriptors and host records one after the other, as a loop does.
use Rattle.std.proofs.Common.{◌≡◌, ◌⊎◌, inl, inr, ℕ, suc, ◌-◌, ◌+◌, ◌≤◌, ◌<◌, ◌^◌, List, [], ◌∷◌, ◌++◌, Option, None, Some, Result, Ok, Err, sum_by, cond, Bool, refl, sym, ap, ◌∙◌, true, false, arith}
use Rattle.std.proofs.lemmas.Bool.Decides.{nat_tests}
use Rattle.guest_base.specs.declared.memory.HostRun.{HostRun}
use Rattle.event_core.specs.declared.boot.Descriptor.{Descriptor}
use Rattle.event_core.specs.Map.{ram_pages}
use Rattle.efi_map.specs.declared.fault.MapFault.{MapFault}
use Rattle.efi_map.specs.declared.fault.MapFault.TheVariants.{NoMemory}
use Rattle.guest_map.specs.Fields.{unless}
use Rattle.efi_map.specs.MapFile.{◌>>=◌, descriptor_at, descriptor_fault, descriptors_at, host_at, hosts_at}

-- a refusal that isn't want of memory is that of reading
abbrev pub Refuses : {A : Type 0} → MapFault → Result A MapFault → Type 0
Refuses e read = (e ≡ NoMemory) ⊎ (read ≡ Err e)

pub refused : {A B : Type 0} (e : MapFault) (read : Result A MapFault) (f : A → Result B MapFault) (total : Result B MapFault) → (read >>= f) ≡ total → Refuses e read → Refuses e total
refused e read f total so_far (inl none) = inl none
refused e read f total so_far (inr is) = inr (sym so_far ∙ rw is refl)

pub hosts_go_on : (size count i : ℕ) (before : List HostRun) (bytes : List ℕ) (run : HostRun) (after : List ℕ) (total : Result (List HostRun × List ℕ) MapFault) → i < count → host_at size before bytes ≡ Ok (run, after)
    → hosts_at size (count - i) before bytes ≡ total → hosts_at size (count - (i + 1)) (before ++ run ∷ []) after ≡ total
unfolding hosts_at
hosts_go_on size count i before bytes run after total lt is so_far =
    let k : count - i ≡ suc (count - (i + 1)) = omega arith in
    let one : hosts_at size (count - i) before bytes ≡ hosts_at size (count - (i + 1)) (before ++ run ∷ []) after = rw (k, is) refl in
    sym one ∙ so_far

pub hosts_refused : (e : MapFault) (size count i : ℕ) (before : List HostRun) (bytes : List ℕ) (total : Result (List HostRun × List ℕ) MapFault) → i < count → Refuses e (host_at size before bytes)
    → hosts_at size (count - i) before bytes ≡ total → Refuses e total
unfolding hosts_at
hosts_refused e size count i before bytes total lt is so_far =
    let k : count - i ≡ suc (count - (i + 1)) = omega arith in
    refused e (host_at size before bytes) (λ (x : HostRun × List ℕ). hosts_at size (count - (i + 1)) (before ++ x.0 ∷ []) x.1) total (sym (ap (λ (n : ℕ). hosts_at size n before bytes) k) ∙ so_far) is

pub hosts_read : (size count i : ℕ) (before : List HostRun) (bytes : List ℕ) (total : Result (List HostRun × List ℕ) MapFault) → count ≤ i → hosts_at size (count - i) before bytes ≡ total → total ≡ Ok (before, bytes)
unfolding hosts_at
hosts_read size count i before bytes total le so_far =
    let k : count - i ≡ 0 = omega arith in
    let one : hosts_at size (count - i) before bytes ≡ Ok (before, bytes) = rw k refl in
    sym so_far ∙ one

pub descriptors_go_on : (size stride count i : ℕ) (before : List Descriptor) (bytes : List ℕ) (d : Descriptor) (after : List ℕ) (total : Result (List Descriptor × List ℕ) MapFault) → i < count → descriptor_at size stride bytes ≡ Ok (d, after)
    → descriptor_fault before d ≡ None → descriptors_at size stride (count - i) before bytes ≡ total → descriptors_at size stride (count - (i + 1)) (before ++ d ∷ []) after ≡ total
unfolding descriptors_at
descriptors_go_on size stride count i before bytes d after total lt is fine so_far =
    let k : count - i ≡ suc (count - (i + 1)) = omega arith in
    let one : descriptors_at size stride (count - i) before bytes ≡ descriptors_at size stride (count - (i + 1)) (before ++ d ∷ []) after = rw (k, is, fine) refl in
    sym one ∙ so_far

pub descriptors_wrong : (fault : MapFault) (size stride count i : ℕ) (before : List Descriptor) (bytes : List ℕ) (d : Descriptor) (after : List ℕ) (total : Result (List Descriptor × List ℕ) MapFault) → i < count → descriptor_at size stride bytes ≡ Ok (d, after)
    → descriptor_fault before d ≡ Some fault → descriptors_at size stride (count - i) before bytes ≡ total → Refuses fault total
unfolding descriptors_at
descriptors_wrong fault size stride count i before bytes d after total lt is wrong so_far =
    let k : count - i ≡ suc (count - (i + 1)) = omega arith in
    let one : descriptors_at size stride (count - i) before bytes ≡ Err fault = rw (k, is, wrong) refl in
    inr (sym so_far ∙ one)

pub descriptors_refused : (e : MapFault) (size stride count i : ℕ) (before : List Descriptor) (bytes : List ℕ) (total : Result (List Descriptor × List ℕ) MapFault) → i < count → Refuses e (descriptor_at size stride bytes)
    → descriptors_at size stride (count - i) before bytes ≡ total → Refuses e total
unfolding descriptors_at
descriptors_refused e size stride count i before bytes total lt is so_far =
    let k : count - i ≡ suc (count - (i + 1)) = omega arith in
    refused e (descriptor_at size stride bytes) (λ (x : Descriptor × List ℕ). unless (descriptor_fault before x.0) (before ++ x.0 ∷ []) >>= λ (next : List Descriptor). descriptors_at size stride (count - (i + 1)) next x.1) total (sym (ap (λ (n : ℕ). descriptors_at size stride n before bytes) k) ∙ so_far) is

pub descriptors_read : (size stride count i : ℕ) (before : List Descriptor) (bytes : List ℕ) (total : Result (List Descriptor × List ℕ) MapFault) → count ≤ i → descriptors_at size stride (count - i) before bytes ≡ total → total ≡ Ok (before, bytes)
unfolding descriptors_at
descriptors_read size stride count i before bytes total le so_far =
    let k : count - i ≡ 0 = omega arith in
    let one : descriptors_at size stride (count - i) before bytes ≡ Ok (before, bytes) = rw k refl in
    sym so_far ∙ one

no_fault : {A : Type 0} (b : Bool) (x y : A) (fault : Option A) → cond b (Some x) fault ≡ None → (b ≡ false) × (fault ≡ None)
no_fault true x y fault e = absurd cc
no_fault false x y fault e = (refl, e)

-- nothing is wrong with a descriptor, so the RAM with it is few enough
pub ram_stays : (before : List Descriptor) (d : Descriptor) → descriptor_fault before d ≡ None → sum_by ram_pages before ≤ 2 ^ 24 → sum_by ram_pages before + ram_pages d ≤ 2 ^ 24
unfolding descriptor_fault
ram_stays before d fine few = grind (arith, nat_tests)
