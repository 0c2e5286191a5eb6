use Rattle.std.proofs.Common.{◌≡◌, ℕ, suc, ◌+◌, List, [], ◌∷◌, ◌++◌, sym, ◌∙◌, ap, subst, arith, append_assoc, length, map, reverse}
use Rattle.std.specs.Prelude.{All}
use Rattle.std.proofs.lemmas.List.{length-map, map-append, reverse-append}
use Rattle.std.proofs.lemmas.List.Elements.{All-nil, All-cons, All-head, All-tail, All-append}
use Rattle.event_core.specs.declared.boot.Boot.{Boot}
use Rattle.event_core.specs.declared.command.Command.{Command}
use Rattle.event_core.specs.declared.module_call.ModuleCall.{ModuleCall}
use Rattle.guest_cpu.specs.declared.cpu.Cpu.{Cpu}
use Rattle.guest_cpu.specs.Standing.{seen_by}
use Rattle.guest_steps.specs.Seen.{first_seen}
use Rattle.guest_runs.specs.OnPorts.{first_on, ports_of}

-- Processors on ports.

module _ {P : Type 0} (made : P → List ModuleCall) (faults : P → ℕ) (boot : Boot) where
  first-push : (number : ℕ) (scripts : List (List Command)) (ports : List P) (script : List Command) (port : P) → length ports ≡ length scripts → first_on made faults boot number (scripts ++ script ∷ []) (ports ++ port ∷ []) ≡ first_on made faults boot number scripts ports ++ first_seen boot (number + length scripts) script (made port) (faults port) ∷ []
  first-push number [] [] script port count = ap (λ n. first_seen boot n script (made port) (faults port) ∷ []) (let same : number ≡ number + 0 = omega arith in same)
  first-push number [] (p ∷ ports) script port count = absurd (omega (arith, count))
  first-push number (s ∷ scripts) [] script port count = absurd (omega (arith, count))
  first-push number (s ∷ scripts) (p ∷ ports) script port count =
      ap (λ rest. first_seen boot number s (made p) (faults p) ∷ rest)
      (first-push (number + 1) scripts ports script port (omega (arith, count))
      ∙ ap (λ n. first_on made faults boot (number + 1) scripts ports ++ first_seen boot n script (made port) (faults port) ∷ [])
      (let same : (number + 1) + length scripts ≡ number + suc (length scripts) = omega arith in same))

  -- one more processor, on one more port
  pub first-more : (scripts : List (List Command)) (script : List Command) (all : List (Cpu P)) (c : Cpu P) (port : P) (number : ℕ) → map (seen_by made faults) all ≡ first_on made faults boot 0 scripts (ports_of all) → length all ≡ length scripts → number ≡ length all
      → c.port ≡ port → seen_by made faults c ≡ first_seen boot number script (made port) (faults port)
      → map (seen_by made faults) (all ++ c ∷ []) ≡ first_on made faults boot 0 (scripts ++ script ∷ []) (ports_of (all ++ c ∷ []))
  first-more scripts script all c port number seen count is on fresh =
      let ports = ports_of all in
      map-append (seen_by made faults) all (c ∷ [])
      ∙ ap (λ seen. seen ++ seen_by made faults c ∷ []) seen
      ∙ ap (λ x. first_on made faults boot 0 scripts ports ++ x ∷ []) (fresh ∙ ap (λ q. first_seen boot number script (made q) (faults q)) (sym on) ∙ ap (λ n. first_seen boot n script (made c.port) (faults c.port)) (is ∙ (let same : length all ≡ 0 + length scripts = omega (arith, count) in same)))
      ∙ sym (first-push 0 scripts ports script c.port (length-map all (λ (c : Cpu P). c.port) ∙ count))
      ∙ ap (first_on made faults boot 0 (scripts ++ script ∷ [])) (sym (map-append (λ (c : Cpu P). c.port) all (c ∷ [])))

-- the last of the ports that are left goes to one more processor
pub ports-more : {P : Type 0} (all : List (Cpu P)) (left later ports : List P) (c : Cpu P) (port : P) → ports ≡ ports_of all ++ reverse left → left ≡ later ++ port ∷ [] → c.port ≡ port → ports ≡ ports_of (all ++ c ∷ []) ++ reverse later
ports-more all left later ports c port are split on =
    let its = ports_of all in
    are ∙ ap (λ ps. its ++ reverse ps) split ∙ ap (λ ps. its ++ ps) (reverse-append later (port ∷ []))
    ∙ ap (λ p. its ++ p ∷ reverse later) (sym on)
    ∙ sym (append_assoc its (c.port ∷ []) (reverse later))
    ∙ ap (λ ps. ps ++ reverse later) (sym (map-append (λ (c : Cpu _). c.port) all (c ∷ [])))

pub all-front : {X : Type 0} (Q : X → Type 0) (xs : List X) (x : X) → All Q (xs ++ x ∷ []) → All Q xs
all-front Q [] x all = All-nil Q
all-front Q (y ∷ xs) x all = All-cons Q y xs (All-head Q y (xs ++ x ∷ []) all) (all-front Q xs x (All-tail Q y (xs ++ x ∷ []) all))

pub all-push : {X : Type 0} (Q : X → Type 0) (xs ys : List X) (x : X) → All Q xs → Q x → ys ≡ xs ++ x ∷ [] → All Q ys
all-push Q xs ys x all here is = subst (All Q) (sym is) (All-append Q xs (x ∷ []) all (All-cons Q x [] here (All-nil Q)))
