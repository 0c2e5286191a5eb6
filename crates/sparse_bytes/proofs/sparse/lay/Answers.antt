use Rattle.std.proofs.Common.{◌≡◌, ◌++◌, ◌∷◌, [], not, refl, length}
use Rattle.std.specs.List.{filter}
use Rattle.event_core.specs.Bytes.{zeros}
use Rattle.sparse_bytes.specs.declared.run.Run.{Run}
use Rattle.sparse_bytes.specs.Runs.{bytes_in, is_covered}
use Rattle.sparse_bytes.proofs.RunLemmas.{laid-anew, kept-anew, count-anew, alone-anew}
use Rattle.sparse_bytes.proofs.sparse.lay.Goals as goal

pub returns-clause-wrote : goal.returns-clause-wrote
returns-clause-wrote c =
    let old = c.args.runs.now.items in
    let new = c.push_reserved.new.self.items in
    let run : Run = record { start = c.args.start; content = c.args.content } in
    let len = c.len.result in
    let anew : new ≡ filter (λ x. not (is_covered run.start len x)) old ++ run ∷ [] =
    rw (c.push_reserved.ensures.items, c.drop_covered.ensures.items) refl in
    record {
      bytes = laid-anew zeros old new run len c.len.ensures anew;
      count = count-anew (λ x. not (is_covered run.start len x)) old new run anew;
      memory = kept-anew (λ x. not (is_covered run.start len x)) old new run anew;
      alone = alone-anew old new run run.start len (length (bytes_in run.content)) c.len.ensures anew;
    }
