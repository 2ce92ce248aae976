-- `keywords::with_letter` meets its contract: the tables of C and of S have the definition's spellings with each.
use Rattle.text.proofs.keywords.with_letter.Goals as goal

pub returns-in-67 : goal.returns-in-67
returns-in-67 c = rw c.in-67.is c.meaning_of-in-67.ensures

pub returns-in-83 : goal.returns-in-83
returns-in-83 c = rw c.in-83.is c.meaning_of-in-83.ensures
