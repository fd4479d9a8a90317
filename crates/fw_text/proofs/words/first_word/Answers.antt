use Rattle.fw_text.proofs.WordLemmas.{words_cut, end_within}
use Rattle.fw_text.proofs.words.first_word.Goals as goal

pub split_at-requires : goal.split_at-requires
split_at-requires c = rw c.word_end.ensures (end_within c.args.text.now)

pub returns-clause-words : goal.returns-clause-words
returns-clause-words c = rw (c.split_at.ensures.front, c.split_at.ensures.back, c.word_end.ensures) (words_cut c.args.text.now)
