use Rattle.formail_edit.proofs.WordLemmas.{edits_in_words}
use Rattle.formail_edit.proofs.laws.edits_in_words.Goals as goal

pub returns : goal.returns
returns c = edits_in_words
