use mir.Val.{bool_byte}
use mathlib.Core.Bool.{Bool, true, false}
use mathlib.Core.Path.{◌≡◌, refl, sym, ap₂, ◌∙◌}
use Prim.Native.Nat.{ℕ, ◌+◌}
use lib.ListN.{get_or}
use Rattle.std.specs.Prelude.{◌==◌, cond}
use Rattle.std.proofs.lemmas.List.Sums.{sum_by_more}
use Rattle.statement.proofs.PeriodLaws.{period#}
use Rattle.statement.proofs.tree.periods.Goals as goal

byte : (b : Bool) → bool_byte b ≡ cond b 1 0
byte true = refl
byte false = refl

pub loop-b-preserved : goal.loop-b-preserved
loop-b-preserved c =
    let t = c.args.text.now in
    let i = c.loop-b.b-index in
    ap₂ (λ (m n : ℕ). m + n) c.loop-b.invariant (c.from-n.ensures ∙ byte (get_or t i 0 == 46))
    ∙ sym (sum_by_more period# t i 0 c.loop-b-test.true)
