use Rattle.std.proofs.Common.{◌≡◌, ℕ, ◌+◌, ◌<◌, ◌≤◌, ◌^◌, Bool, true, false, cond, List, [], ◌∷◌, ◌++◌, length, Option, Some, None, Result, Ok, Err, refl, subst, inl, arith}
use Rattle.std.specs.Prelude.{◌&&◌, ◌||◌, ◌==◌, IfOk, IfSome, nat_le, nat_lt, sum_by}
use Rattle.std.specs.List.{list_all, slice_split}
use Rattle.std.specs.Option.{ok_or}
use Rattle.std.specs.Result.{result_ok}
use Rattle.std.specs.Str.Parse.{digits_value}
use Rattle.std.proofs.lemmas.Bool.{and_parts, leb-true, ltb-true, ltb-false}
use Rattle.std.proofs.lemmas.Bool.Decides.{nat_tests}
use Rattle.std.proofs.lemmas.List.{length_push}
use Rattle.std.proofs.lemmas.List.Elements.{All-nil, All-push, All-from_get_or}
use Rattle.std.proofs.lemmas.List.Sums.{AllPass-from_list_all, sum_by_push}
use Rattle.hex.specs.declared.error.FromHexError.{FromHexError}
use Rattle.hex.specs.Hex.{decode_of}
use Rattle.hex.proofs.HexLemmas.{decode_of-ok}
use Rattle.event_core.specs.Name.{IsName, name_character}
use Rattle.event_core.specs.ReadableScript.{IsNumber, IsHex, IsMask, IsReadable, bytes_named, ReadableScript}
use Rattle.event_core.specs.declared.command.Command.{Command}
use Rattle.event_core.specs.declared.command.Command.TheVariants as command
use Rattle.guest_script.specs.declared.verb.Verb.{Verb}
use Rattle.guest_script.specs.declared.verb.Verb.TheVariants as verb
use Rattle.guest_script.specs.declared.verb.MemoryVerb.{MemoryVerb}
use Rattle.guest_script.specs.declared.verb.MemoryVerb.TheVariants as memory
use Rattle.guest_script.specs.declared.verb.BlockVerb.{BlockVerb}
use Rattle.guest_script.specs.declared.verb.BlockVerb.TheVariants as block
use Rattle.guest_script.specs.declared.verb.PoolVerb.{PoolVerb}
use Rattle.guest_script.specs.declared.verb.PoolVerb.TheVariants as pool
use Rattle.guest_script.specs.declared.fault.Why.{Why}
use Rattle.guest_script.specs.declared.fault.Why.TheVariants as why
use Rattle.guest_script.specs.declared.fault.ScriptFault.{ScriptFault}
use Rattle.guest_script.specs.declared.fault.ScriptFault.TheVariants as fault
use Rattle.guest_script.specs.Number.{number_of, digits_number, small_value, all_digits}
use Rattle.guest_script.specs.Arguments.{◌>>=◌, name_of, hex_of, bounded, mask_of, name_at, number_at, order_at, byte_at, mask_at, direction_at, hex_at, one_name, two_of, three_of, two_numbers, name_order, name_offset, name_range, name_hex, offset_hex}
use Rattle.guest_script.specs.Verbs.{verb_of}
use Rattle.guest_script.specs.Commands.{fill_of, mapping_of, map_of, unmap_of, memory_command, block_command, pool_command, command_at, command_of}
use Rattle.guest_script.specs.Script.{at_line, followed_by, line_words, with_command, with_words, with_line, with_lines, script_of}

-- Each script that is read keeps the limits of a file's fields.

-- what holds of an answer

if_some : {A : Type 0} (b : Bool) (x : A) (P : A → Type 0) → ((b ≡ true) → P x) → IfSome (cond b (Some x) None) P
if_some true x P h = h refl
if_some false x P h = tt

if_either : {A : Type 0} (b : Bool) (x y : Option A) (P : A → Type 0) → IfSome x P → IfSome y P → IfSome (cond b x y) P
if_either true x y P h k = h
if_either false x y P h k = k

or_fault : {A : Type 0} (x : Option A) (e : Why) (P : A → Type 0) → IfSome x P → IfOk (ok_or x e) P
or_fault (Some x) e P h = h
or_fault None e P h = tt

any : {A E : Type 0} (r : Result A E) → IfOk r (λ x. Unit {0})
any (Ok x) = tt
any (Err e) = tt

next_holds : {A B : Type 0} (r : Result A Why) (f : A → Result B Why) (P : A → Type 0) (Q : B → Type 0) → IfOk r P → ((x : A) → P x → IfOk (f x) Q) → IfOk (r >>= f) Q
next_holds (Ok x) f P Q h k = k x h
next_holds (Err e) f P Q h k = tt

-- the arguments

name_keeps : (word : List ℕ) → IfOk (name_at word) IsName
unfolding name_at
name_keeps word =
    or_fault (name_of word) why.Word IsName
    (if_some ((nat_le 1 (length word) && nat_le (length word) 32) && list_all name_character word) word IsName (λ h.
    let p = and_parts (nat_le 1 (length word) && nat_le (length word) 32) (list_all name_character word) h in
    let q = and_parts (nat_le 1 (length word)) (nat_le (length word) 32) p.0 in
    record { some = leb-true _ _ q.0; few = leb-true _ _ q.1; each = AllPass-from_list_all name_character word p.1 }))

digits_keep : (base most : ℕ) (digits : List ℕ) → IfSome (digits_number base most digits) IsNumber
digits_keep base most digits =
    if_either (nat_le 1 (length digits) && nat_le (length digits) most) (small_value base digits) None IsNumber
    (if_some (all_digits base digits && nat_lt (digits_value base digits) (2 ^ 64)) (digits_value base digits) IsNumber
    (λ h. ltb-true _ _ (and_parts (all_digits base digits) (nat_lt (digits_value base digits) (2 ^ 64)) h).1)) tt

number_small : (word : List ℕ) → IfSome (number_of word) IsNumber
number_small [] = tt
number_small (a ∷ []) = digits_keep 10 20 (a ∷ [])
number_small (a ∷ b ∷ bs) = if_either ((a == 48) && (b == 120)) (digits_number 16 16 bs) (digits_number 10 20 (a ∷ b ∷ bs)) IsNumber (digits_keep 16 16 bs) (digits_keep 10 20 (a ∷ b ∷ bs))

number_keeps : (word : List ℕ) → IfOk (number_at word) IsNumber
unfolding number_at
number_keeps word = or_fault (number_of word) why.Number IsNumber (number_small word)

bounded_keeps : (most : ℕ) (n : Option ℕ) → IfSome (bounded most n) (λ k. k ≤ most)
bounded_keeps most None = tt
bounded_keeps most (Some n) = if_some (nat_le n most) n (λ k. k ≤ most) (λ h. leb-true _ _ h)

order_keeps : (word : List ℕ) → IfOk (order_at word) (λ k. k ≤ 10)
unfolding order_at
order_keeps word = or_fault (bounded 10 (number_of word)) why.Number (λ k. k ≤ 10) (bounded_keeps 10 (number_of word))

byte_small : (n : Option ℕ) → IfSome (bounded 255 n) (λ k. k < 256)
byte_small None = tt
byte_small (Some n) = if_some (nat_le n 255) n (λ k. k < 256) (λ h. omega (arith, leb-true _ _ h))

byte_keeps : (word : List ℕ) → IfOk (byte_at word) (λ k. k < 256)
unfolding byte_at
byte_keeps word = or_fault (bounded 255 (number_of word)) why.Number (λ k. k < 256) (byte_small (number_of word))

mask_is : (n : ℕ) → (((n == 0) || (n == 4095)) ≡ true) → IsMask n
mask_is n h = grind (arith, nat_tests, h)

mask_small : (n : Option ℕ) → IfSome (mask_of n) IsMask
mask_small None = tt
mask_small (Some n) = if_some ((n == 0) || (n == 4095)) n IsMask (mask_is n)

mask_keeps : (word : List ℕ) → IfOk (mask_at word) IsMask
unfolding mask_at
mask_keeps word = or_fault (mask_of (number_of word)) why.Number IsMask (mask_small (number_of word))

decoded : (b : Bool) (r : Result (List ℕ) FromHexError) (P : List ℕ → Type 0) → ((bytes : List ℕ) → b ≡ true → r ≡ Ok bytes → P bytes) → IfSome (cond b (result_ok r) None) P
decoded true (Ok bytes) P h = h bytes refl refl
decoded true (Err e) P h = tt
decoded false r P h = tt

hex_keeps : (word : List ℕ) → IfOk (hex_at word) IsHex
unfolding hex_at
hex_keeps word =
    or_fault (hex_of word) why.Hex IsHex
    (decoded (nat_le 1 (length word) && nat_le (length word) 524288) (decode_of word) IsHex (λ bytes h e.
    let q = and_parts (nat_le 1 (length word)) (nat_le (length word) 524288) h in
    let some = leb-true 1 (length word) q.0 in
    let few = leb-true (length word) 524288 q.1 in
    let ok = decode_of-ok word bytes e in
    record { some = omega (arith, some, ok.2); few = omega (arith, few, ok.2); each = All-from_get_or (λ b. b < 256) bytes 0 (λ i low. ok.3 i) }))

-- the words after a command's

one_keeps : (words : List (List ℕ)) → IfOk (one_name words) IsName
unfolding one_name
one_keeps (name ∷ []) = name_keeps name
one_keeps [] = tt
one_keeps (name ∷ more ∷ others) = tt

two_keep : {A B : Type 0} (first : List ℕ → Result A Why) (second : List ℕ → Result B Why) (P : A → Type 0) (Q : B → Type 0)
    → ((word : List ℕ) → IfOk (first word) P) → ((word : List ℕ) → IfOk (second word) Q) → (words : List (List ℕ)) → IfOk (two_of first second words) (λ a. P a.0 × Q a.1)
two_keep first second P Q one other (a ∷ b ∷ []) = next_holds (first a) _ P _ (one a) (λ x p. next_holds (second b) _ Q _ (other b) (λ y q. (p, q)))
two_keep first second P Q one other [] = tt
two_keep first second P Q one other (a ∷ []) = tt
two_keep first second P Q one other (a ∷ b ∷ more ∷ others) = tt

three_keep : {A B C : Type 0} (first : List ℕ → Result A Why) (second : List ℕ → Result B Why) (third : List ℕ → Result C Why) (P : A → Type 0) (Q : B → Type 0) (R : C → Type 0)
    → ((word : List ℕ) → IfOk (first word) P) → ((word : List ℕ) → IfOk (second word) Q) → ((word : List ℕ) → IfOk (third word) R)
    → (words : List (List ℕ)) → IfOk (three_of first second third words) (λ a. P a.0 × Q a.1 × R a.2)
three_keep first second third P Q R one other last (a ∷ b ∷ c ∷ []) =
    next_holds (first a) _ P _ (one a) (λ x p.
    next_holds (second b) _ Q _ (other b) (λ y q.
    next_holds (third c) _ R _ (last c) (λ z r. (p, q, r))))
three_keep first second third P Q R one other last [] = tt
three_keep first second third P Q R one other last (a ∷ []) = tt
three_keep first second third P Q R one other last (a ∷ b ∷ []) = tt
three_keep first second third P Q R one other last (a ∷ b ∷ c ∷ more ∷ others) = tt

numbers_keep : (words : List (List ℕ)) → IfOk (two_numbers words) (λ a. IsNumber a.0 × IsNumber a.1)
unfolding two_numbers
numbers_keep words = two_keep number_at number_at IsNumber IsNumber number_keeps number_keeps words

order_of_keeps : (words : List (List ℕ)) → IfOk (name_order words) (λ a. IsName a.0 × (a.1 ≤ 10))
unfolding name_order
order_of_keeps words = two_keep name_at order_at IsName (λ k. k ≤ 10) name_keeps order_keeps words

offset_keeps : (words : List (List ℕ)) → IfOk (name_offset words) (λ a. IsName a.0 × IsNumber a.1)
unfolding name_offset
offset_keeps words = two_keep name_at number_at IsName IsNumber name_keeps number_keeps words

range_keeps : (words : List (List ℕ)) → IfOk (name_range words) (λ a. IsName a.0 × IsNumber a.1 × IsNumber a.2)
unfolding name_range
range_keeps words = three_keep name_at number_at number_at IsName IsNumber IsNumber name_keeps number_keeps number_keeps words

bytes_keep : (words : List (List ℕ)) → IfOk (name_hex words) (λ a. IsName a.0 × IsNumber a.1 × IsHex a.2)
unfolding name_hex
bytes_keep words = three_keep name_at number_at hex_at IsName IsNumber IsHex name_keeps number_keeps hex_keeps words

host_keeps : (words : List (List ℕ)) → IfOk (offset_hex words) (λ a. IsNumber a.0 × IsHex a.1)
unfolding offset_hex
host_keeps words = two_keep number_at hex_at IsNumber IsHex number_keeps hex_keeps words

-- the commands

fill_keeps : (words : List (List ℕ)) → IfOk (fill_of words) IsReadable
unfolding fill_of
fill_keeps (name ∷ off ∷ len ∷ byte ∷ []) =
    next_holds (name_at name) _ IsName _ (name_keeps name) (λ n p.
    next_holds (number_at off) _ IsNumber _ (number_keeps off) (λ o q.
    next_holds (number_at len) _ IsNumber _ (number_keeps len) (λ l r.
    next_holds (byte_at byte) _ (λ b. b < 256) _ (byte_keeps byte) (λ b s. (p, q, r, s)))))
fill_keeps [] = tt
fill_keeps (name ∷ []) = tt
fill_keeps (name ∷ off ∷ []) = tt
fill_keeps (name ∷ off ∷ len ∷ []) = tt
fill_keeps (name ∷ off ∷ len ∷ byte ∷ more ∷ others) = tt

abbrev KeepsMask : (ℕ → Command) → Type 0
KeepsMask made = (mask : ℕ) → IsMask mask → IsReadable (made mask)

mapping_keeps : (mapping name off len direction : List ℕ) → IfOk (mapping_of mapping name off len direction) KeepsMask
unfolding mapping_of
mapping_keeps mapping name off len direction =
    next_holds (name_at mapping) _ IsName _ (name_keeps mapping) (λ m p.
    next_holds (name_at name) _ IsName _ (name_keeps name) (λ n q.
    next_holds (number_at off) _ IsNumber _ (number_keeps off) (λ o r.
    next_holds (number_at len) _ IsNumber _ (number_keeps len) (λ l s.
    next_holds (direction_at direction) _ (λ d. Unit {0}) _ (any (direction_at direction)) (λ d t mask u. (p, q, r, s, u))))))

map_keeps : (words : List (List ℕ)) → IfOk (map_of words) IsReadable
unfolding map_of
map_keeps (mapping ∷ name ∷ off ∷ len ∷ direction ∷ []) =
    next_holds (mapping_of mapping name off len direction) _ KeepsMask _ (mapping_keeps mapping name off len direction) (λ made p. p 0 (inl refl))
map_keeps (mapping ∷ name ∷ off ∷ len ∷ direction ∷ mask ∷ []) =
    next_holds (mapping_of mapping name off len direction) _ KeepsMask _ (mapping_keeps mapping name off len direction) (λ made p.
    next_holds (mask_at mask) _ IsMask _ (mask_keeps mask) (λ m q. p m q))
map_keeps [] = tt
map_keeps (mapping ∷ []) = tt
map_keeps (mapping ∷ name ∷ []) = tt
map_keeps (mapping ∷ name ∷ off ∷ []) = tt
map_keeps (mapping ∷ name ∷ off ∷ len ∷ []) = tt
map_keeps (mapping ∷ name ∷ off ∷ len ∷ direction ∷ mask ∷ more ∷ others) = tt

skip_keeps : (b : Bool) (m : List ℕ) → IsName m → IfOk (cond b (Ok (command.Unmap m true)) (Err why.Word)) IsReadable
skip_keeps true m h = h
skip_keeps false m h = tt

unmap_keeps : (words : List (List ℕ)) → IfOk (unmap_of words) IsReadable
unfolding unmap_of
unmap_keeps (mapping ∷ []) = next_holds (name_at mapping) _ IsName _ (name_keeps mapping) (λ m p. p)
unmap_keeps (mapping ∷ skip ∷ []) = next_holds (name_at mapping) _ IsName _ (name_keeps mapping) (λ m p. skip_keeps _ m p)
unmap_keeps [] = tt
unmap_keeps (mapping ∷ skip ∷ more ∷ others) = tt

memory_keeps : (v : MemoryVerb) (words : List (List ℕ)) → IfOk (memory_command v words) IsReadable
unfolding memory_command
memory_keeps memory.Alloc words = next_holds (name_order words) _ _ _ (order_of_keeps words) (λ a p. p)
memory_keeps memory.Free words = next_holds (one_name words) _ _ _ (one_keeps words) (λ a p. p)
memory_keeps memory.Accept words = next_holds (two_numbers words) _ _ _ (numbers_keep words) (λ a p. p)
memory_keeps memory.Query words = next_holds (two_numbers words) _ _ _ (numbers_keep words) (λ a p. p)
memory_keeps memory.Share words = next_holds (one_name words) _ _ _ (one_keeps words) (λ a p. p)
memory_keeps memory.Private words = next_holds (one_name words) _ _ _ (one_keeps words) (λ a p. p)
memory_keeps memory.Giveback words = next_holds (one_name words) _ _ _ (one_keeps words) (λ a p. p)

block_keeps : (v : BlockVerb) (words : List (List ℕ)) → IfOk (block_command v words) IsReadable
unfolding block_command
block_keeps block.Read words = next_holds (name_range words) _ _ _ (range_keeps words) (λ a p. p)
block_keeps block.Write words = next_holds (name_hex words) _ _ _ (bytes_keep words) (λ a p. p)
block_keeps block.Fill words = fill_keeps words
block_keeps block.Load words = next_holds (name_offset words) _ _ _ (offset_keeps words) (λ a p. p)

pool_keeps : (v : PoolVerb) (words : List (List ℕ)) → IfOk (pool_command v words) IsReadable
unfolding pool_command
pool_keeps pool.Map words = map_keeps words
pool_keeps pool.SyncDev words = next_holds (name_range words) _ _ _ (range_keeps words) (λ a p. p)
pool_keeps pool.SyncCpu words = next_holds (name_range words) _ _ _ (range_keeps words) (λ a p. p)
pool_keeps pool.Unmap words = unmap_keeps words
pool_keeps pool.DRead words = next_holds (name_range words) _ _ _ (range_keeps words) (λ a p. p)
pool_keeps pool.DWrite words = next_holds (name_hex words) _ _ _ (bytes_keep words) (λ a p. p)
pool_keeps pool.HostRead words = next_holds (two_numbers words) _ _ _ (numbers_keep words) (λ a p. p)
pool_keeps pool.HostWrite words = next_holds (offset_hex words) _ _ _ (host_keeps words) (λ a p. p)

at_keeps : (v : Option Verb) (words : List (List ℕ)) → IfOk (command_at v words) IsReadable
unfolding command_at
at_keeps None words = tt
at_keeps (Some (verb.Memory v)) words = memory_keeps v words
at_keeps (Some (verb.Block v)) words = block_keeps v words
at_keeps (Some (verb.Pool v)) words = pool_keeps v words

-- the lines

then_holds : {A B : Type 0} (r : Result A ScriptFault) (f : A → Result B ScriptFault) (P : A → Type 0) (Q : B → Type 0) → IfOk r P → ((x : A) → P x → IfOk (f x) Q) → IfOk (followed_by r f) Q
then_holds (Ok x) f P Q h k = k x h
then_holds (Err e) f P Q h k = tt

numbered : {A : Type 0} (number : ℕ) (r : Result A Why) (P : A → Type 0) → IfOk r P → IfOk (at_line number r) P
numbered number (Ok x) P h = h
numbered number (Err e) P h = tt

unless : {A : Type 0} (b : Bool) (e : ScriptFault) (r : Result A ScriptFault) (P : A → Type 0) → ((b ≡ false) → IfOk r P) → IfOk (cond b (Err e) r) P
unless true e r P h = tt
unless false e r P h = h refl

command_keeps : (script : List Command) (c : Command) → ReadableScript script → length script < 2048 → IsReadable c → IfOk (with_command script c) ReadableScript
command_keeps script c h low is =
    unless (nat_lt 4194304 (sum_by bytes_named script + bytes_named c)) fault.TooManyBytes (Ok (script ++ c ∷ [])) ReadableScript (λ no.
    let few = ltb-false 4194304 (sum_by bytes_named script + bytes_named c) no in
    let n = length_push script c in
    let s = sum_by_push bytes_named script c in
    record { few = omega (arith, n, low); each = All-push IsReadable script c h.each is; named = omega (arith, s, few) })

words_keep : (number : ℕ) (script : List Command) (words : List (List ℕ)) → ReadableScript script → IfOk (with_words number script words) ReadableScript
unfolding with_words
words_keep number script [] h = h
words_keep number script (first ∷ words) h =
    unless (nat_le 2048 (length script)) fault.TooManyCommands (followed_by (at_line number (command_of first words)) (with_command script)) ReadableScript (λ no.
    then_holds (at_line number (command_of first words)) (with_command script) IsReadable ReadableScript (numbered number (command_of first words) IsReadable (at_keeps (verb_of first) words))
    (λ c is. command_keeps script c h (grind (arith, nat_tests, no)) is))

line_keeps : (number : ℕ) (script : List Command) (line : List ℕ) → ReadableScript script → IfOk (with_line number script line) ReadableScript
unfolding with_line
line_keeps number script line h =
    then_holds (at_line number (line_words line)) (with_words number script) (λ words. Unit {0}) ReadableScript (any (at_line number (line_words line))) (λ words t. words_keep number script words h)

lines_keep : (number : ℕ) (script : List Command) (lines : List (List ℕ)) → ReadableScript script → IfOk (with_lines number script lines) ReadableScript
lines_keep number script [] h = h
lines_keep number script (line ∷ lines) h =
    then_holds (with_line number script line) (λ longer. with_lines (number + 1) longer lines) ReadableScript ReadableScript (line_keeps number script line h) (λ longer k. lines_keep (number + 1) longer lines k)

-- a script that is read can be read
pub script_is_readable : (bytes : List ℕ) (script : List Command) → script_of bytes ≡ Ok script → ReadableScript script
script_is_readable bytes script h =
    let none : ReadableScript [] = record { few = omega arith; each = All-nil IsReadable; named = omega arith } in
    subst (λ (r : Result (List Command) ScriptFault). IfOk r ReadableScript) h (lines_keep 1 [] (slice_split (λ b. b == 10) bytes) none)
