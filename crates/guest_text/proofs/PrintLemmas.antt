use Rattle.std.proofs.Common.{◌≡◌, ℕ, suc, ◌+◌, ◌-◌, ◌<◌, List, ◌++◌, Option, None, Some, refl, sym, ◌∙◌, ap, arith, append_assoc, map, take, length, inl, inr, [], append-nil, subst}
use Rattle.std.proofs.lemmas.Bool.{cases_lt}
use Rattle.std.proofs.lemmas.List.{take-append-le, take_all}
use Rattle.std.proofs.Math.Seq.{take-append-add, take-length}
use Rattle.std.specs.Prelude.{Result, Ok, Err, OnErr}
use Rattle.guest_io.specs.Writing.{appended, AppendsPrefix}
use Rattle.guest_io.specs.declared.sink.PutFault.{PutFault}
use Rattle.guest_io.specs.declared.sink.PutFault.TheVariants.{Failed, NoMemory}
use Rattle.event_core.specs.declared.reply.Reply.{Reply}
use Rattle.event_core.specs.Turns.{numbers_from}
use Rattle.event_core.specs.Texts.{processor_text, processors_text}

-- two appended texts are one
pub appended-append : (before : Option (List ℕ)) (a b : List ℕ) → appended (appended before a) b ≡ appended before (a ++ b)
appended-append None a b = refl
appended-append (Some text) a b = ap Some (append_assoc text a b)

-- one more section is written
pub next_section : (f : ℕ → List Reply) (cpu cpus : ℕ) (before after : Option (List ℕ)) → cpu < cpus → after ≡ appended before (processor_text cpu (f cpu)) → appended after (processors_text (cpu + 1) (map f (numbers_from (cpu + 1) (cpus - (cpu + 1))))) ≡ appended before (processors_text cpu (map f (numbers_from cpu (cpus - cpu))))
next_section f cpu cpus before after low is =
    let rest = processors_text (cpu + 1) (map f (numbers_from (cpu + 1) (cpus - (cpu + 1)))) in
    let more : cpus - cpu ≡ suc (cpus - (cpu + 1)) = omega arith in
    ap (λ text. appended text rest) is
    ∙ appended-append before (processor_text cpu (f cpu)) rest
    ∙ ap (λ n. appended before (processors_text cpu (map f (numbers_from cpu n)))) (sym more)

-- ---- a failed put

-- a prefix of a part is a prefix of what the part begins
part_of : (part rest : List ℕ) (sent : ℕ) → (count : ℕ) × (take sent part ≡ take count (part ++ rest))
part_of part rest sent =
    elim (cases_lt sent (length part)) [
      | inl less ↦ (sent, sym (take-append-le sent part rest (omega (arith, less))))
      | inr more ↦ (length part, take_all sent part (omega (arith, more)) ∙ sym (take-append-le (length part) part rest (omega arith) ∙ take-length part))
    ]

-- what was put so far, and what is left of the text
abbrev pub Sent : Option (List ℕ) → Option (List ℕ) → List ℕ → List ℕ → Type 0
Sent before now rest text = (done : List ℕ) × (now ≡ appended before done) × (done ++ rest ≡ text)

nothing : (before : Option (List ℕ)) → before ≡ appended before []
nothing None = refl
nothing (Some text) = ap Some (sym (append-nil text))

pub sent-none : (before : Option (List ℕ)) (rest text : List ℕ) → rest ≡ text → Sent before before rest text
sent-none before rest text is = ([], nothing before, is)

-- the parts of a text without an order
pub text-parts : (sections pages last : List ℕ) → sections ++ (pages ++ last) ≡ sections ++ pages ++ [] ++ last
text-parts sections pages last = sym (append_assoc sections pages last) ∙ ap (λ t. t ++ last) (sym (append-nil (sections ++ pages)))

-- the next part was put
pub sent-more : (before now after : Option (List ℕ)) (part rest text : List ℕ) → Sent before now (part ++ rest) text → after ≡ appended now part → Sent before after rest text
sent-more before now after part rest text sent is =
    (sent.0 ++ part, is ∙ ap (λ w. appended w part) sent.1 ∙ appended-append before sent.0 part, append_assoc sent.0 part rest ∙ sent.2)

-- a prefix of the next part was put, so a prefix of the text
pub sent-cut : (before now after : Option (List ℕ)) (part rest text : List ℕ) → Sent before now (part ++ rest) text → AppendsPrefix now part after → AppendsPrefix before text after
sent-cut before now after part rest text sent cut =
    let front = part_of part rest cut.0 in (
      length sent.0 + front.0,
      cut.1
          ∙ ap (λ w. appended w (take cut.0 part)) sent.1
          ∙ appended-append before sent.0 (take cut.0 part)
          ∙ ap (appended before) (ap (λ t. sent.0 ++ t) front.1 ∙ sym (take-append-add sent.0 (part ++ rest) front.0) ∙ ap (take (length sent.0 + front.0)) sent.2),
    )

-- nothing more was put
pub sent-stop : (before now : Option (List ℕ)) (rest text : List ℕ) → Sent before now rest text → AppendsPrefix before text now
sent-stop before now rest text sent = sent-cut before now now [] rest text sent (0, nothing now)

-- the next section is the first of what is left
pub first_section : (f : ℕ → List Reply) (cpu cpus : ℕ) → cpu < cpus → processors_text cpu (map f (numbers_from cpu (cpus - cpu))) ≡ processor_text cpu (f cpu) ++ processors_text (cpu + 1) (map f (numbers_from (cpu + 1) (cpus - (cpu + 1))))
first_section f cpu cpus low =
    let more : cpus - cpu ≡ suc (cpus - (cpu + 1)) = omega arith in
    ap (λ n. processors_text cpu (map f (numbers_from cpu n))) more

-- what a failed put leaves
put-cut : (fault : PutFault) (before after : Option (List ℕ)) (bytes : List ℕ) → (fault ≡ Failed → AppendsPrefix before bytes after) → (fault ≡ NoMemory → after ≡ before) → AppendsPrefix before bytes after
put-cut Failed before after bytes failed memory = failed refl
put-cut NoMemory before after bytes failed memory = (0, memory refl ∙ nothing before)

-- a put of a text's next part that failed
pub part-cut : {T : Type 0} (r : Result T PutFault) (fault : PutFault) (before now after : Option (List ℕ)) (bytes part rest text : List ℕ) → Sent before now (part ++ rest) text → bytes ≡ part → (fault ≡ Failed → AppendsPrefix now bytes after) → (fault ≡ NoMemory → after ≡ now) → OnErr r (AppendsPrefix before text after)
part-cut (Ok x) fault before now after bytes part rest text sent same failed memory = tt
part-cut (Err e) fault before now after bytes part rest text sent same failed memory =
    sent-cut before now after part rest text sent (subst (λ (b : List ℕ). AppendsPrefix now b after) same (put-cut fault now after bytes failed memory))

-- the last part
pub last-cut : {T : Type 0} (r : Result T PutFault) (before now after : Option (List ℕ)) (bytes part text : List ℕ) → Sent before now part text → bytes ≡ part → (r ≡ Err Failed → AppendsPrefix now bytes after) → (r ≡ Err NoMemory → after ≡ now) → OnErr r (AppendsPrefix before text after)
last-cut (Ok x) before now after bytes part text sent same failed memory = tt
last-cut (Err e) before now after bytes part text sent same failed memory =
    part-cut {T = Unit {0}} (Err e) e before now after bytes part [] text (subst (λ (b : List ℕ). Sent before now b text) (sym (append-nil part)) sent) same (λ is. failed (ap Err is)) (λ is. memory (ap Err is))

pub on-err : {T E : Type 0} {P : Type 0} (r : Result T E) → P → OnErr r P
on-err (Ok x) p = tt
on-err (Err e) p = p
