use Rattle.std.proofs.Common.{◌∙◌, sym, ap}
use Rattle.guest_words.specs.Steps.{told}
use Rattle.guest_words.specs.Views.{named}
use Rattle.guest_words.proofs.WordLemmas.{named_none, named_some, named_end}
use Rattle.guest_words.proofs.words.read_run.Goals as goal

pub returns-in_err-so_far-clause-named : goal.returns-in_err-so_far-clause-named
returns-in_err-so_far-clause-named c =
    ap named c.from_residual.ensures
    ∙ sym (named_none c.args.mode c.loop-word.so_far.place (told c.loop-word.so_far) c.args.words.now c.loop-word.word-index c.word-item.result c.as_str.result.now
    c.with_word.result c.loop-word-test.true c.word-item.is c.as_str.ensures.value c.with_word.ensures c.loop-word.invariant c.in_err-so_far.was)

pub loop-word-preserved : goal.loop-word-preserved
loop-word-preserved c =
    named_some c.args.mode c.loop-word.so_far.place (told c.loop-word.so_far) c.args.words.now c.loop-word.word-index c.word-item.result c.as_str.result.now
    c.with_word.result c.in_ok-so_far.so_far c.loop-word-test.true c.word-item.is c.as_str.ensures.value c.with_word.ensures c.loop-word.invariant
    c.in_ok-so_far.was

pub returns-clause-named : goal.returns-clause-named
returns-clause-named c =
    c.names.ensures.named
    ∙ named_end c.args.mode c.loop-word.so_far.place (told c.loop-word.so_far) c.args.words.now c.loop-word.word-index c.loop-word-test.false c.loop-word.invariant
