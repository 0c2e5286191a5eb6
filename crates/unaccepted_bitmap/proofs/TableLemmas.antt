-- Unaccepted tables: what a table gives, and that what was written is read again.
use Rattle.std.proofs.Common.{◌≡◌, ℕ, ◌+◌, ◌-◌, ◌%◌, ◌^◌, ◌≤◌, false, not, ◌==◌, List, ◌++◌, length, take, drop, length-drop, None, Some, inl, inr, Result, Ok, Err, refl, sym, ap, subst, ◌∙◌, append_assoc, arith, nat_lt}
use Rattle.std.specs.Result.{IfOk}
use Rattle.std.proofs.lemmas.Bool.Decides.{nat_tests}
use Rattle.std.proofs.lemmas.Bool.{cases_Bool, eqb-true, le-ltb, ltb-false}
use Rattle.std.proofs.lemmas.List.{length-append}
use Rattle.std.proofs.Math.Seq.{take-length}
use Rattle.guest_map.specs.Fields.{number}
use Rattle.guest_map.specs.Fields.{low_bytes}
use Rattle.guest_map.proofs.FieldLemmas.{low_length, number_again, low_drop, low_past}
use Rattle.unaccepted_bitmap.specs.declared.table.Header.{Header}
use Rattle.event_core.specs.Table.{Bits, IsTable, is_unit, most_bytes}
use Rattle.unaccepted_bitmap.specs.declared.fault.TableFault.TheVariants.{BadVersion, BadUnit, BadBase, BadLength}
use Rattle.unaccepted_bitmap.proofs.GuardLemmas.{unit_count-small}
use Rattle.unaccepted_bitmap.proofs.TableFacts.{table_facts}
use Rattle.unaccepted_bitmap.specs.TableFile.{header_of, header_fault, table_fault, table_of, table_bytes_of}

pub take_rest : (n : ℕ) (xs : List ℕ) → take (length xs - n) (drop n xs) ≡ drop n xs
take_rest n xs = ap (λ k. take k (drop n xs)) (sym (length-drop n xs)) ∙ take-length (drop n xs)

-- the bitmap of bytes whose fields are right
pub table_right : (bytes : List ℕ) (h : Header) → nat_lt (length bytes) 24 ≡ false → header_of bytes ≡ h → header_fault h (length bytes - 24) ≡ None → table_of bytes ≡ Ok (record { unit = h.unit; base = h.base; bits = drop 24 bytes })
unfolding table_of table_fault
table_right bytes h long is fine = rw (long, is, fine) refl

made_again : (bytes bits : List ℕ) (unit base : ℕ) → number 4 bytes ≡ 1 → number 4 (drop 4 bytes) ≡ unit → number 8 (drop 8 bytes) ≡ base → number 8 (drop 16 bytes) ≡ length bits → header_of bytes ≡ record { version = 1; unit = unit; base = base; size = length bits }
unfolding header_of
made_again bytes bits unit base version is at size = rw (version, is, at, size) refl

-- nothing is wrong with the fields of a bitmap's table
fields_right : (b : Bits) → IsTable b → header_fault (record { version = 1; unit = b.unit; base = b.base; size = length b.bits }) (length b.bits) ≡ None
fields_right b is =
    let border : not (b.base % b.unit == 0) ≡ false = grind (arith, nat_tests, is.aligned) in
    let inside : nat_lt (2 ^ 40) b.base ≡ false = grind (arith, nat_tests, is.low) in
    let same : not (length b.bits == length b.bits) ≡ false = grind (arith, nat_tests) in
    let few : nat_lt (most_bytes b.unit b.base) (length b.bits) ≡ false = le-ltb (most_bytes b.unit b.base) (length b.bits) is.few in
    rw (is.unit_is, border, inside, same, few) refl

pub table_again : (b : Bits) → IsTable b → table_of (table_bytes_of b) ≡ Ok b
unfolding table_bytes_of
table_again b is =
    let facts = table_facts b is in
    let small = unit_count-small b is in
    let t3 : List ℕ = low_bytes 8 (length b.bits) ++ b.bits in
    let t2 : List ℕ = low_bytes 8 b.base ++ t3 in
    let t1 : List ℕ = low_bytes 4 b.unit ++ t2 in
    let t0 : List ℕ = low_bytes 4 1 ++ t1 in
    let grouped : table_bytes_of b ≡ t0 = simp append_assoc in
    let size : length t0 ≡ 24 + length b.bits = omega (arith, length-append (low_bytes 4 1) t1, length-append (low_bytes 4 b.unit) t2, length-append (low_bytes 8 b.base) t3, length-append (low_bytes 8 (length b.bits)) b.bits, low_length 4 1, low_length 4 b.unit, low_length 8 b.base, low_length 8 (length b.bits)) in
    let long : nat_lt (length t0) 24 ≡ false = grind (arith, nat_tests, size) in
    let left : length t0 - 24 ≡ length b.bits = omega (arith, size) in
    let version : number 4 t0 ≡ 1 = number_again 4 1 t1 (omega arith) in
    let at4 : drop 4 t0 ≡ t1 = low_drop 4 1 t1 in
    let unit : number 4 (drop 4 t0) ≡ b.unit = ap (number 4) at4 ∙ number_again 4 b.unit t2 (omega (arith, facts.small)) in
    let at8 : drop 8 t0 ≡ t2 = low_past 4 1 4 t1 ∙ low_drop 4 b.unit t2 in
    let start : number 8 (drop 8 t0) ≡ b.base = ap (number 8) at8 ∙ number_again 8 b.base t3 (omega (arith, is.low)) in
    let at16 : drop 16 t0 ≡ t3 = low_past 4 1 12 t1 ∙ low_past 4 b.unit 8 t2 ∙ low_drop 8 b.base t3 in
    let count : number 8 (drop 16 t0) ≡ length b.bits = ap (number 8) at16 ∙ number_again 8 (length b.bits) b.bits (omega (arith, small)) in
    let at24 : drop 24 t0 ≡ b.bits = low_past 4 1 20 t1 ∙ low_past 4 b.unit 16 t2 ∙ low_past 8 b.base 8 t3 ∙ low_drop 8 (length b.bits) b.bits in
    let fields : header_of t0 ≡ record { version = 1; unit = b.unit; base = b.base; size = length b.bits } = made_again t0 b.bits b.unit b.base version unit start count in
    let fine : header_fault (record { version = 1; unit = b.unit; base = b.base; size = length b.bits }) (length t0 - 24) ≡ None = rw left (fields_right b is) in
    ap table_of grouped ∙ table_right t0 _ long fields fine ∙ ap (λ (xs : List ℕ). Ok (record { unit = b.unit; base = b.base; bits = xs })) at24

pub again_of : {E : Type 0} (b : Bits) (r : Result (List ℕ) E) → IsTable b → IfOk r (λ bytes. bytes ≡ table_bytes_of b) → IfOk r (λ bytes. table_of bytes ≡ Ok b)
again_of b (Ok bytes) is written = ap table_of written ∙ table_again b is
again_of b (Err e) is written = tt

-- fields with nothing wrong in them are those of a bitmap
pub is_table : (h : Header) (bits : List ℕ) → header_fault h (length bits) ≡ None → IsTable (record { unit = h.unit; base = h.base; bits = bits })
is_table h bits fine =
    elim (cases_Bool (h.version == 1)) [
      | inr f ↦ absurd (let wrong : header_fault h (length bits) ≡ Some (BadVersion h.version) = rw f refl in cc)
      | inl version ↦
          elim (cases_Bool (is_unit h.unit)) [
            | inr f ↦ absurd (let wrong : header_fault h (length bits) ≡ Some (BadUnit h.unit) = rw (version, f) refl in cc)
            | inl unit ↦
                elim (cases_Bool (h.base % h.unit == 0)) [
                  | inr f ↦ absurd (let wrong : header_fault h (length bits) ≡ Some (BadBase h.base) = rw (version, unit, f) refl in cc)
                  | inl aligned ↦
                      elim (cases_Bool (nat_lt (2 ^ 40) h.base)) [
                        | inl t ↦ absurd (let wrong : header_fault h (length bits) ≡ Some (BadBase h.base) = rw (version, unit, aligned, t) refl in cc)
                        | inr low ↦
                            elim (cases_Bool (h.size == length bits)) [
                              | inr f ↦ absurd (let wrong : header_fault h (length bits) ≡ Some (BadLength h.size) = rw (version, unit, aligned, low, f) refl in cc)
                              | inl size ↦
                                  elim (cases_Bool (nat_lt (most_bytes h.unit h.base) h.size)) [
                                    | inl t ↦ absurd (let wrong : header_fault h (length bits) ≡ Some (BadLength h.size) = rw (version, unit, aligned, low, size, t) refl in cc)
                                    | inr few ↦
                                        (let same = eqb-true h.size (length bits) size in
                                        record {
                                          unit_is = unit;
                                          aligned = eqb-true (h.base % h.unit) 0 aligned;
                                          low = ltb-false (2 ^ 40) h.base low;
                                          few = subst (λ n. n ≤ most_bytes h.unit h.base) same (ltb-false (most_bytes h.unit h.base) h.size few);
                                        })
                                  ]
                            ]
                      ]
                ]
          ]
    ]
