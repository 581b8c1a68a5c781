-- The word is below the row's length; the rest is the law of a word with some bits more.
use Rattle.route.proofs.Notes.{noting}
use Rattle.route.proofs.filter.note.Goals as goal

pub returns : goal.returns
returns c = let w = c.word_in-w.ensures in noting c.hash-h.ensures w.0 w.1 c.bits_of.ensures
