-- The theorem is the law: its conclusion goes by cases on the answer, which no search takes apart.
use Rattle.theorems.proofs.AnsweredLaws.{answered_listing}
use Rattle.theorems.proofs.a_listing_and_its_owners_agree.Goals as goal

pub returns : goal.returns
returns c = answered_listing
