-- The entries of an area with the bytes that they moved, and one more.
use Rattle.std.proofs.Common.{◌≡◌, ℕ, ◌+◌, ◌≤◌, List, [], ◌∷◌, ◌++◌, refl, sym, ◌∙◌, ap, subst, arith, length, max}
use Rattle.std.specs.Prelude.{fold, Vec}
use Rattle.std.specs.declared.alloc.Global.{Global}
use Rattle.std.proofs.lemmas.List.{length_push}
use Rattle.std.proofs.lemmas.List.Sums.{fold-append}
use Rattle.event_core.specs.declared.entry.Entry.{Entry}
use Rattle.event_core.specs.Legal.{ComesBefore, greatest_stamp}
use Rattle.event_core.specs.Locally.{Rising}
use Rattle.event_core.specs.Moved.{Moved, entries_of}
use Rattle.event_core.proofs.RisingLemmas.{greatest, pairs-nil, rising-push}
use Rattle.io_areas.specs.Transfers.{with_bytes, TransfersStand}

pub with-bytes-push : (es : List Entry) (bs : List (List ℕ)) (m : Moved) → length es ≡ length bs → with_bytes (es ++ m.entry ∷ []) (bs ++ m.bytes ∷ []) ≡ with_bytes es bs ++ m ∷ []
unfolding with_bytes
with-bytes-push [] [] m same = refl
with-bytes-push [] (b ∷ bs) m same = absurd (omega (arith, same))
with-bytes-push (e ∷ es) [] m same = absurd (omega (arith, same))
with-bytes-push (e ∷ es) (b ∷ bs) m same = ap (λ ms. (let first : Moved = record { entry = e; bytes = b } in first) ∷ ms) (with-bytes-push es bs m (omega (arith, same)))

-- what is seen of two longer lists
pub moved-more : (es es' : List Entry) (bs bs' : List (List ℕ)) (m : Moved) → es' ≡ es ++ m.entry ∷ [] → bs' ≡ bs ++ m.bytes ∷ [] → length es ≡ length bs → with_bytes es' bs' ≡ with_bytes es bs ++ m ∷ []
moved-more es es' bs bs' m more wide same = ap (λ xs. with_bytes xs bs') more ∙ ap (with_bytes (es ++ m.entry ∷ [])) wide ∙ with-bytes-push es bs m same

-- the entries alone
pub with-bytes-entries : (es : List Entry) (bs : List (List ℕ)) → length es ≡ length bs → entries_of (with_bytes es bs) ≡ es
unfolding with_bytes
with-bytes-entries [] bs same = refl
with-bytes-entries (e ∷ es) [] same = absurd (omega (arith, same))
with-bytes-entries (e ∷ es) (b ∷ bs) same = ap (λ xs. e ∷ xs) (with-bytes-entries es bs (omega (arith, same)))

pub with-bytes-none : with_bytes [] [] ≡ []
unfolding with_bytes
with-bytes-none = refl

-- ---- stamps

greatest-same : (from : ℕ) (es : List Entry) (bs : List (List ℕ)) → length es ≡ length bs → fold (λ last (m : Moved). max last m.entry.stamp) from (with_bytes es bs) ≡ greatest from es
unfolding with_bytes
greatest-same from [] bs same = refl
greatest-same from (e ∷ es) [] same = absurd (omega (arith, same))
greatest-same from (e ∷ es) (b ∷ bs) same = greatest-same (max from e.stamp) es bs (omega (arith, same))

-- an entry whose stamp is above the last one comes behind them all
rising-more : (es : List Entry) (bs : List (List ℕ)) (e : Entry) (last : ℕ) → length es ≡ length bs → last ≡ greatest_stamp (with_bytes es bs) → last + 1 ≤ e.stamp → Rising es → Rising (es ++ e ∷ [])
rising-more es bs e last same is above rises = let here = greatest-same 0 es bs same in rising-push es e (omega (arith, is, here, above)) rises

-- the greatest stamp with one more entry
greatest-push : (moved : List Moved) (m : Moved) → greatest_stamp (moved ++ m ∷ []) ≡ max (greatest_stamp moved) m.entry.stamp
greatest-push moved m = fold-append (λ n (x : Moved). max n x.entry.stamp) 0 moved (m ∷ [])

-- ---- what is kept

pub stands-first : (entries : Vec Entry Global) (moves : Vec (List ℕ) Global) (spare : Vec ℕ Global) → entries.items ≡ [] → moves.items ≡ [] → spare.items ≡ [] → TransfersStand entries moves spare 0 0
stands-first entries moves spare no-entry no-move empty = record {
  beside = ap (λ (es : List Entry). length es) no-entry ∙ sym (ap (λ (bs : List (List ℕ)). length bs) no-move);
  last_is = sym (ap greatest_stamp (ap (λ es. with_bytes es moves.items) no-entry ∙ ap (with_bytes []) no-move ∙ with-bytes-none));
  rising = subst Rising (sym no-entry) (pairs-nil ComesBefore);
  empty = empty;
  entry_room = λ some. absurd (omega (arith, some));
  move_room = λ some. absurd (omega (arith, some));
  byte_room = omega arith;
}

-- one more entry
pub stands-more : (entries entries' : Vec Entry Global) (moves moves' : Vec (List ℕ) Global) (spare spare' : Vec ℕ Global) (last last' room : ℕ) (m : Moved)
    → entries'.items ≡ entries.items ++ m.entry ∷ [] → moves'.items ≡ moves.items ++ m.bytes ∷ [] → spare'.items ≡ [] → last' ≡ m.entry.stamp → last + 1 ≤ m.entry.stamp
    → TransfersStand entries moves spare last room → TransfersStand entries' moves' spare' last' 0
stands-more entries entries' moves moves' spare spare' last last' room m more-entries more-moves empty last_is above stand =
    let es = entries.items in
    let bs = moves.items in
    let beside = stand.beside in
    let is = stand.last_is in
    let moved : with_bytes entries'.items moves'.items ≡ with_bytes es bs ++ m ∷ [] = moved-more es entries'.items bs moves'.items m more-entries more-moves beside in
    record {
      beside =
          (let long = ap (λ (xs : List Entry). length xs) more-entries ∙ length_push es m.entry in
          let wide = ap (λ (xs : List (List ℕ)). length xs) more-moves ∙ length_push bs m.bytes in
          omega (arith, long, wide, beside));
      last_is =
          (let greater : last' ≡ max last m.entry.stamp = omega (arith, last_is, above) in
          greater ∙ ap (λ n. max n m.entry.stamp) is ∙ sym (ap greatest_stamp moved ∙ greatest-push (with_bytes es bs) m));
      rising = subst Rising (sym more-entries) (rising-more es bs m.entry last beside is above stand.rising);
      empty = empty;
      entry_room = λ some. absurd (omega (arith, some));
      move_room = λ some. absurd (omega (arith, some));
      byte_room = omega arith;
    }
