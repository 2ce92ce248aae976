-- `symbols::run_at` meets its contract.
use Prim.Native.Nat.{ℕ, zero, suc, ◌-◌}
use mathlib.Core.Path.{◌≡◌, sym, ap, ◌∙◌}
use mathlib.Core.Bool.{Bool, true, false}
use mathlib.Core.List.{List}
use lib.ListN.{length, take, drop}
use Rattle.definition.proofs.Lists.{rest_part}
use Rattle.picture.specs.Repeats.{opens}
use Rattle.picture.proofs.Running.{run-repeat, but-the-last, all-of-them}
use Rattle.picture.proofs.symbols.run_at.Goals as goal

module _ (l : List ℕ) where
  -- what is passed on is what is left
  left : (n : ℕ) {r : Bool} → r ≡ opens (take (length l - n) (drop n l)) → r ≡ opens (drop n l)
  left n e = e ∙ ap opens (rest_part l n)

  -- where it opens and the whole doesn't, there are copies in front
  behind : (n : ℕ) → opens l ≡ false → opens (drop n l) ≡ true → n ≡ 0 → ⊥
  behind zero e f z = absurd (cc)
  behind (suc n) e f z = absurd (cc)

pub returns-then-b-eq40-clause-run : goal.returns-then-b-eq40-clause-run
returns-then-b-eq40-clause-run c =
    run-repeat c.args.at c.args.b c.args.rest.now c.repeat_at.result c.repeat_at.ensures.same

pub returns-then-opens-2-clause-run : goal.returns-then-opens-2-clause-run
returns-then-opens-2-clause-run c =
    let rest = c.args.rest.now in
    but-the-last c.args.at c.args.b rest _ c.alike-more.ensures.value c.if-b-eq40.false
    (behind rest _ (sym c.opens.ensures ∙ c.if-opens.false) (sym (left rest _ c.opens-2.ensures) ∙ c.if-opens-2.true))

pub returns-clause-run : goal.returns-clause-run
returns-clause-run c =
    let rest = c.args.rest.now in
    all-of-them c.args.at c.args.b rest _ c.alike-more.ensures.value c.if-b-eq40.false
    (sym (left rest _ c.opens-2.ensures) ∙ c.if-opens-2.false)
