-- `tokens::look` meets its contract: inside a literal, or where none is open.
use Prim.Native.Nat.{ℕ, ◌≤◌}
use mathlib.Core.Path.{◌≡◌, sym, ◌∙◌}
use mathlib.Core.Bool.{Bool, true, false}
use mathlib.Core.List.{List, []}
use native.Mathlib.Omega.{arith}
use lib.Dec.{eqb}
use lib.ListN.{length}
use borrow.Author.Tests.{ne_eqb}
use Rattle.definition.specs.declared.ByteKind.TheVariants.{Newline}
use Rattle.definition.specs.declared.Mode.TheVariants.{Fresh, Between}
use Rattle.definition.specs.Unquoted.{closed}
use Rattle.definition.proofs.WordLaws.{closed_on, tokens-end}
use Rattle.text.specs.declared.tokens.Ahead.{Ahead}
use Rattle.text.specs.declared.tokens.Cursor.{Cursor}
use Rattle.text.specs.Tokens.{between, tokens_from, tokens_at, AheadIs, Looks}
use Rattle.text.proofs.TokenLaws.{mode-closed, not-literal}
use Rattle.text.proofs.tokens.look.Goals as goal

module _ (t : List ℕ) (s : Cursor) (b : s.at ≤ length t) (shut : closed s.literals ≡ true) where
  -- at the end of the text there is no token
  none : (x : Bool) (i : ℕ) → i ≡ length t → tokens_from t s.literals (between x) i ≡ []
  none true i e = tokens-end t s.literals Fresh i (omega arith) ∙ closed_on s.literals Newline [] shut
  none false i e = tokens-end t s.literals Between i (omega arith) ∙ closed_on s.literals Newline [] shut

  -- none is open
  ahead : (a : Ahead) → AheadIs t s.at (eqb s.at 0) a → Looks t s a
  ahead (Ahead.Word i) g = record { up = g.up; within = g.within; rest = rw (mode-closed s shut) (g.rest s.literals shut) }
  ahead (Ahead.Stop n) g =
      record {
        all_are = rw (mode-closed s shut, ne_eqb n 0 (λ (z : n ≡ 0). omega (arith, g.up))) (g.rest s.literals shut);
        up = g.up;
        within = g.within;
      }
  ahead (Ahead.End i) g =
      let e : tokens_at t s ≡ [] = rw (mode-closed s shut) (g.rest s.literals shut) in
      record {
        all_are = e ∙ sym (rw (mode-closed (record { at = i; literals = s.literals }) shut) (none (eqb i 0) i g.last));
        opens = e ∙ sym (closed_on s.literals Newline [] shut);
        up = omega (arith, b, g.last);
        within = omega (arith, g.last);
      }

pub returns-in_default : goal.returns-in_default
returns-in_default c =
    let a = c.args in
    ahead a.text.now a.s c.requires (not-literal a.s.literals c.in_default.not-Literal) c.look_ahead.result c.look_ahead.ensures
