use Rattle.std.proofs.Common.{◌≡◌, drop}
use Rattle.guest_words.specs.declared.place.Place.TheVariants.{Open}
use Rattle.guest_words.specs.Words.{nothing, bytes_of_words}
use Rattle.guest_words.specs.Steps.{told}
use Rattle.guest_words.proofs.WordLemmas.{named_after}
use Rattle.guest_words.proofs.words.read_run.Given as goal

-- the words that are left name with what is told so far what all words name
abbrev pub invariant-loop-word : goal.invariant-loop-word
invariant-loop-word l = named_after l.mode l.so_far.place (told l.so_far) (bytes_of_words (drop l.word-index l.words)) ≡ named_after l.mode Open nothing (bytes_of_words l.words)
