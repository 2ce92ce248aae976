-- A case takes at least one token of what is left of a list.
-- Assumes nothing.
use Rattle.std.proofs.Common.{◌≤◌, ◌<◌, ◌≡◌, true, List, [], ◌∷◌, length, arith}
use Rattle.definition.specs.declared.Token.{Token}
use Rattle.definition.specs.declared.Token.TheVariants.{Word, Stop, Open}
use Rattle.replay.specs.Words.{begins, first_case, behind_case}

first-le : (ts : List Token) → length (first_case ts) ≤ length ts
first-le [] = omega arith
first-le (Word w ∷ ts) = omega arith
first-le (Stop p ∷ ts) = let h = first-le ts in omega arith
first-le (Open p ∷ ts) = omega arith

behind-le : (ts : List Token) → length (behind_case ts) ≤ length ts
behind-le [] = omega arith
behind-le (Word w ∷ ts) = let h = behind-le ts in omega arith
behind-le (Stop p ∷ ts) = omega arith
behind-le (Open p ∷ ts) = omega arith

behind-less : (ts : List Token) → begins ts ≡ true → length (behind_case ts) < length ts
behind-less [] e = cc
behind-less (Word w ∷ ts) e = let h = behind-le ts in omega arith
behind-less (Stop p ∷ ts) e = cc
behind-less (Open p ∷ ts) e = cc

pub shorter :
    (ts us : List Token) →
    begins (first_case ts) ≡ true →
    us ≡ behind_case (first_case ts) →
    length us < length ts
shorter ts us b e = let f = first-le ts in let h = behind-less (first_case ts) b in rw e (omega arith)
