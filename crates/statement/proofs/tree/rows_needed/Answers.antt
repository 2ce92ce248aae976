use Prim.Native.Nat.{ℕ, min, ◌+◌, ◌-◌, ◌≤◌, ◌<◌}
use mathlib.Core.Path.{◌≡◌, sym, ap, ◌∙◌}
use mathlib.Core.List.{List}
use mathlib.Core.Logic.{⊎_elim}
use native.Mathlib.Omega.{arith}
use lib.ListN.{length, take}
use lib.Seq.{take-length}
use Rattle.std.proofs.lemmas.List.{take_all}
use Rattle.definition.proofs.Lists.{order}
use Rattle.definition.specs.declared.TheConstants.{MOST_BYTES, MOST_STATEMENTS}
use Rattle.statement.specs.TreeReading.{periods, rows_needed}
use Rattle.statement.proofs.tree.rows_needed.Goals as goal

-- what is read of a text
part : (t : List ℕ) (n : ℕ) {k : ℕ} → k ≡ min (length t) n → take k t ≡ take n t
part t n {k} e =
    ⊎_elim
    (λ (more : n < length t). ap (λ (m : ℕ). take m t) (let q : k ≡ n = omega arith in q))
    (λ (all : length t ≤ n). ap (λ (m : ℕ). take m t) (let q : k ≡ length t = omega arith in q) ∙ take-length t ∙ sym (take_all n t all))
    (order n (length t))

count :
    (t : List ℕ) {k p q r : ℕ} →
    k ≡ min (length t) MOST_BYTES →
    p ≡ periods (take k t) →
    q ≡ p →
    r ≡ min q (MOST_STATEMENTS - 1) →
    (r + 1 ≡ rows_needed t) × (r + 1 ≤ MOST_STATEMENTS)
unfolding rows_needed
count t {k} {p} {q} {r} a b c d =
    let whole = ap periods (part t MOST_BYTES a) in
    (omega arith, omega arith)

pub returns : goal.returns
returns c = count c.args.text.now c.min.ensures c.periods.ensures c.from.ensures c.min-2.ensures
