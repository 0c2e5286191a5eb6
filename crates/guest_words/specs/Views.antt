use Rattle.std.specs.Prelude.{ℕ, List, Option, None, Some}
use Rattle.std.specs.Borrow.{Bor}
use Rattle.guest_script.specs.Words.{texts}
use Rattle.guest_words.specs.declared.words.Names.{Names}
use Rattle.guest_words.specs.Words.{Named}

-- What is read, as lists of bytes.

abbrev pub text_in : Option (Bor (List ℕ)) → Option (List ℕ)
text_in None = None
text_in (Some text) = Some text.now

abbrev pub seen : Names → Named
seen names = record {
  order = text_in names.order;
  slots = names.slots;
  areas = names.areas;
  table = text_in names.table;
  map = names.map.now;
  scripts = texts names.scripts.items;
}

abbrev pub named : Option Names → Option Named
named None = None
named (Some names) = Some (seen names)
