use Rattle.csv_words.proofs.put_word.Goals as goal

pub returns : goal.returns
returns c = rw (← c.word.ensures) c.put_bytes.ensures
