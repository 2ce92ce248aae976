-- What a reader gave in turn stands in the buffer one behind the other.
-- Assumes nothing.
use Rattle.std.proofs.Common.{ℕ, List, Option, ◌≤◌, ◌+◌, ◌++◌, length, take, ap, sym, ◌∙◌, subst, length-take-le}
use Rattle.std.proofs.lemmas.Bool.Decides.{nat_tests}
use Rattle.std.proofs.lemmas.List.{take-append-le}
use Rattle.std.proofs.Math.Seq.{take-append-add}
use Rattle.std.specs.Io.KnownBytes.{Consumes}
use Rattle.std.proofs.KnownBytes.{Consumes-trans}

-- n bytes of the buffer were filled, and then m of what is behind them
pub one_behind_the_other :
    (before between after : Option (List ℕ)) (n m : ℕ) (buf given rest : List ℕ) →
    n ≤ length buf →
    m ≤ length given →
    Consumes before between (take n buf) →
    Consumes between after (take m given) →
    Consumes before after (take (n + m) (take n buf ++ (given ++ rest)))
one_behind_the_other before between after n m buf given rest k l p q =
    let filled = take n buf in
    let joined =
    ap (λ k. take (k + m) (filled ++ (given ++ rest))) (sym (length-take-le n buf k))
    ∙ take-append-add filled (given ++ rest) m
    ∙ ap (λ l. filled ++ l) (take-append-le m given rest l) in
    subst (Consumes before after) (sym joined) (Consumes-trans before between after _ _ p q)

pub ruleset fill_steps = (nat_tests, one_behind_the_other)
