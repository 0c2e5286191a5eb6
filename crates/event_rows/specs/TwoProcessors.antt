use Rattle.std.specs.Prelude.{ℕ, List, [], ◌∷◌, Option, None, Some, codes}
use Rattle.std.specs.List.{flat_map}
use Rattle.event_core.specs.Texts.{line}
use Rattle.guest_base.specs.declared.memory.Units.{Units}
use Rattle.event_core.specs.declared.boot.Boot.{Boot}
use Rattle.event_core.specs.declared.command.Command.{Command}
use Rattle.event_core.specs.declared.command.Command.TheVariants as command
use Rattle.event_core.specs.declared.reply.Reply.TheVariants as reply
use Rattle.event_core.specs.declared.event.Event.TheVariants as event
use Rattle.event_core.specs.declared.entry.Place.TheVariants as place
use Rattle.event_core.specs.declared.entry.Entry.{Entry}
use Rattle.event_rows.specs.Accepts.{small_guest, first_units, two_large}
use Rattle.event_rows.specs.Written.{entry_by}

-- Two processors accept ranges whose guarded units meet: the second has to wait for the first's report, and then finds its unit
-- accepted.

abbrev pub small_pair : Boot
small_pair = record small_guest { cpus = 2 }

abbrev pub first_script : List Command
first_script = command.Accept 4194304 2097152 ∷ []

abbrev pub second_script : List Command
second_script = command.Accept 6291456 4096 ∷ []

-- the second unit alone
abbrev pub second_unit : Units
second_unit = record { first = 1; count = 1 }

-- the first processor's entries, and the second's with the run that it finds
abbrev pub first_claims : ℕ → Entry
first_claims stamp = entry_by 0 stamp 0 place.Memory (event.Claim None (Some (first_units 2)) (Some (first_units 2))) None

abbrev pub first_reports : ℕ → ℕ → Entry
first_reports stamp cleared = entry_by 0 stamp 0 place.Memory (event.Report (first_units 2) two_large None None) (Some (reply.Count cleared))

abbrev pub second_claims : ℕ → Option Units → ℕ → Entry
second_claims stamp run cleared = entry_by 1 stamp 0 place.Memory (event.Claim None (Some second_unit) run) (Some (reply.Count cleared))

-- the history, with the two counts of cleared units
abbrev pub both_accept : ℕ → ℕ → List Entry
both_accept first second = first_claims 1 ∷ first_reports 2 first ∷ second_claims 3 None second ∷ []

-- the second processor claims before the first has reported
abbrev pub second_early : Option Units → ℕ → List Entry
second_early run second = first_claims 1 ∷ second_claims 2 run second ∷ first_reports 3 2 ∷ []

-- the text that is printed of the history with its order: the two counts, the pages of 8 MiB and of the 4 MiB behind them, and the
-- processor of each of the three entries
abbrev pub pair_text : List ℕ
pair_text =
    flat_map line (codes "cpu 0" ∷ codes "1 ok 2" ∷ codes "cpu 1" ∷ codes "1 ok 0" ∷ codes "pages" ∷ codes "0x0-0x800000 accepted" ∷ codes "0x800000-0xc00000 pending" ∷ codes "order" ∷ codes "0" ∷ codes "0" ∷ codes "1" ∷ codes "end" ∷ [])
