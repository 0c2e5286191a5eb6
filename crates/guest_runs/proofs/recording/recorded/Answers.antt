use Rattle.std.proofs.Common.{◌≡◌, List, [], subst, ◌∙◌, ap, slice_get, unwrap_or}
use Rattle.event_core.specs.declared.boot.Boot.{Boot}
use Rattle.event_core.specs.declared.command.Command.{Command}
use Rattle.event_core.specs.declared.entry.Entry.{Entry}
use Rattle.event_core.specs.Legal.{Whole}
use Rattle.guest_steps.specs.Ground.{Ground, ground_of}
use Rattle.guest_steps.specs.Seen.{Seen}
use Rattle.guest_steps.specs.Standing.{kept_by}
use Rattle.guest_runs.specs.OnPorts.{HaveFinished}
use Rattle.guest_runs.proofs.FinalLemmas.{left-agree, left-follow, left-made, left-named, left-none-open, left-replied, left-rise, left-runs}
use Rattle.guest_runs.proofs.recording.recorded.Goals as goal

-- as lists
listed : (boot : Boot) (all : List Seen) (base : Ground) (scripts ss : List (List Command)) (lists ls : List (List Entry)) → ss ≡ scripts → ls ≡ lists → HaveFinished boot all base scripts lists → HaveFinished boot all base ss ls
listed boot all base scripts ss lists ls same_scripts same_lists left = record {
  together = left.together;
  finished = left.finished;
  scripts_are = same_scripts ∙ left.scripts_are;
  lists_are = same_lists ∙ left.lists_are;
}

pub runs-requires : goal.runs-requires
runs-requires c =
    c.into_parts-table.ensures.table.none (left-none-open c.args.boot c.requires.0 (ground_of c.args.memory c.requires.1) c.args.left.scripts.items c.args.left.lists.items c.requires.2)

pub gather-requires-clause-named : goal.gather-requires-clause-named
gather-requires-clause-named c =
    let scripts = c.from_vec-scripts.result in
    let lists = c.from_vec-lists.result in
    left-named c.args.boot c.requires.0 (ground_of c.args.memory c.requires.1) scripts lists (listed c.args.boot c.requires.0 (ground_of c.args.memory c.requires.1) c.args.left.scripts.items scripts c.args.left.lists.items lists c.from_vec-scripts.ensures c.from_vec-lists.ensures c.requires.2)

pub gather-requires-clause-rise : goal.gather-requires-clause-rise
gather-requires-clause-rise c =
    let scripts = c.from_vec-scripts.result in
    let lists = c.from_vec-lists.result in
    left-rise c.args.boot c.requires.0 (ground_of c.args.memory c.requires.1) scripts lists (listed c.args.boot c.requires.0 (ground_of c.args.memory c.requires.1) c.args.left.scripts.items scripts c.args.left.lists.items lists c.from_vec-scripts.ensures c.from_vec-lists.ensures c.requires.2)

pub returns-clause-entries : goal.returns-clause-entries
returns-clause-entries c cpu = c.in_ok-gather.ensures.entries cpu ∙ ap (λ (ls : List (List Entry)). unwrap_or (slice_get ls cpu) []) c.from_vec-lists.ensures

pub returns-clause-whole : goal.returns-clause-whole
returns-clause-whole c =
    let boot = c.args.boot in
    let all = c.requires.0 in
    let base = ground_of c.args.memory c.requires.1 in
    let scripts = c.from_vec-scripts.result in
    let lists = c.from_vec-lists.result in
    let left = listed boot all base c.args.left.scripts.items scripts c.args.left.lists.items lists c.from_vec-scripts.ensures c.from_vec-lists.ensures c.requires.2 in
    subst (λ ss. Whole boot ss c.in_ok-gather.field-0.entries) c.from_vec-scripts.ensures
    (c.in_ok-gather.ensures.whole (kept_by all base) (left-made boot all base scripts lists left) (left-agree boot all base scripts lists left)
    (left-follow boot all base scripts lists left) (left-replied boot all base scripts lists left))

pub returns-clause-runs : goal.returns-clause-runs
returns-clause-runs c =
    let boot = c.args.boot in
    let all = c.requires.0 in
    let base = ground_of c.args.memory c.requires.1 in
    let scripts = c.from_vec-scripts.result in
    let lists = c.from_vec-lists.result in
    let left = listed boot all base c.args.left.scripts.items scripts c.args.left.lists.items lists c.from_vec-scripts.ensures c.from_vec-lists.ensures c.requires.2 in
    let law = c.in_ok-gather.ensures.legal (kept_by all base) (left-made boot all base scripts lists left) (left-agree boot all base scripts lists left) (left-follow boot all base scripts lists left) in
    left-runs boot all base scripts lists c.into_parts-table.result.0.runs c.in_ok-runs.runs _ left law c.into_parts-table.ensures.table.states c.in_ok-runs.ensures
