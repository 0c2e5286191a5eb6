use mir.Val.{bool_byte}
use Rattle.std.proofs.Common.{◌≡◌, Bool, true, false, refl, ℕ, ◌+◌, ◌-◌, ◌≤◌, List, [], ◌∷◌, ◌++◌, sym, ◌∙◌, ap, arith, cond, length, max}
use Rattle.std.specs.Prelude.{Vec, is_some, vec_capacity, vec_len}
use Rattle.std.specs.declared.alloc.Global.{Global}
use Rattle.std.proofs.lemmas.List.{length-map, length_push}
use Rattle.std.proofs.lemmas.List.Sums.{count_by-le-length, fold-append}
use Rattle.event_core.specs.declared.entry.Entry.{Entry}
use Rattle.event_core.specs.Legal.{greatest_stamp}
use Rattle.event_core.specs.Moved.{Moved}
use Rattle.event_core.specs.Own.{replied}
use Rattle.io_areas.specs.Transfers.{with_bytes}
use Rattle.io_areas.proofs.EntryLemmas.{moved-more, with-bytes-entries, with-bytes-none}
use Rattle.guest_cpu.specs.Made.{MadeStand}
use Rattle.guest_cpu.proofs.ToldLemmas.{replied-push}

-- The entries that a processor made with the bytes that they moved, and one more.

-- the greatest stamp with one more entry
greatest-push : (moved : List Moved) (m : Moved) → greatest_stamp (moved ++ m ∷ []) ≡ max (greatest_stamp moved) m.entry.stamp
greatest-push moved m = fold-append (λ n (x : Moved). max n x.entry.stamp) 0 moved (m ∷ [])

-- no more replies than entries
pub replies-few : (entries : Vec Entry Global) (moves : Vec (List ℕ) Global) (room replies clock : ℕ) → MadeStand entries moves room replies clock → replies ≤ length entries.items
replies-few entries moves room replies clock stand =
    let moved = with_bytes entries.items moves.items in
    let most = count_by-le-length (λ (m : Moved). is_some m.entry.reply) moved in
    let as_long = sym (length-map moved (λ (m : Moved). m.entry)) ∙ ap (λ (es : List Entry). length es) (with-bytes-entries entries.items moves.items stand.beside) in
    let counted = stand.counted in
    omega (arith, most, as_long, counted)

pub made-none : (entries : Vec Entry Global) (moves : Vec (List ℕ) Global) → entries.items ≡ [] → moves.items ≡ [] → MadeStand entries moves 0 0 0
made-none entries moves no-entry no-move =
    let none : with_bytes entries.items moves.items ≡ [] = ap (λ es. with_bytes es moves.items) no-entry ∙ ap (with_bytes []) no-move ∙ with-bytes-none in
    record {
      beside = ap (λ (es : List Entry). length es) no-entry ∙ sym (ap (λ (bs : List (List ℕ)). length bs) no-move);
      entry_room = omega arith;
      move_room = omega arith;
      counted = sym (ap replied none);
      last = sym (ap greatest_stamp none);
    }

one-told : (b : Bool) → bool_byte b ≡ cond b 1 0
one-told true = refl
one-told false = refl

pub one-at-most : (b : Bool) (n : ℕ) → n ≡ bool_byte b → n ≤ 1
one-at-most true n is = omega (arith, is)
one-at-most false n is = omega (arith, is)

-- one more entry
pub made-more : (entries entries' : Vec Entry Global) (moves moves' : Vec (List ℕ) Global) (room room' replies more clock clock' : ℕ) (told : Bool) (m : Moved)
    → entries'.items ≡ entries.items ++ m.entry ∷ [] → moves'.items ≡ moves.items ++ m.bytes ∷ []
    → vec_capacity entries' - vec_len entries' + 1 ≡ vec_capacity entries - vec_len entries → vec_capacity moves' - vec_len moves' + 1 ≡ vec_capacity moves - vec_len moves
    → room ≡ room' + 1 → told ≡ is_some m.entry.reply → more ≡ bool_byte told → clock' ≡ max clock m.entry.stamp
    → MadeStand entries moves room replies clock → MadeStand entries' moves' room' (replies + more) clock'
made-more entries entries' moves moves' room room' replies more clock clock' told m more-entries more-moves less-entries less-moves rooms is_told is_counted is_last stand =
    let es = entries.items in
    let bs = moves.items in
    let beside = stand.beside in
    let entry-room = stand.entry_room in
    let move-room = stand.move_room in
    let moved : with_bytes entries'.items moves'.items ≡ with_bytes es bs ++ m ∷ [] = moved-more es entries'.items bs moves'.items m more-entries more-moves beside in
    record {
      beside =
          (let long = ap (λ (xs : List Entry). length xs) more-entries ∙ length_push es m.entry in
          let wide = ap (λ (xs : List (List ℕ)). length xs) more-moves ∙ length_push bs m.bytes in
          omega (arith, long, wide, beside));
      entry_room = omega (arith, less-entries, rooms, entry-room);
      move_room = omega (arith, less-moves, rooms, move-room);
      counted = ap (λ n. replies + n) (is_counted ∙ one-told told ∙ ap (λ b. cond b 1 0) is_told) ∙ ap (λ n. n + cond (is_some m.entry.reply) 1 0) stand.counted ∙ sym (ap replied moved ∙ replied-push (with_bytes es bs) m);
      last = is_last ∙ ap (λ n. max n m.entry.stamp) stand.last ∙ sym (ap greatest_stamp moved ∙ greatest-push (with_bytes es bs) m);
    }
