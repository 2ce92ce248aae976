-- `tokens::goes_on` meets its contract, by what was said.
use mathlib.Core.Path.{sym, ◌∙◌}
use Rattle.text.proofs.TokenLaws.{quoted-goes, unquoted-goes, not-literal}
use Rattle.text.proofs.tokens.goes_on.Goals as goal

pub returns-in_default : goal.returns-in_default
returns-in_default c =
    let a = c.args in
    c.goes_on_outside.ensures ∙ sym (unquoted-goes a.text.now a.literals a.i (not-literal a.literals c.in_default.not-Literal))

pub returns-in-Literal : goal.returns-in-Literal
returns-in-Literal c =
    let a = c.args in
    let o = c.in-Literal in
    rw o.is (c.goes_on_inside.ensures ∙ sym (quoted-goes a.text.now o.mark o.at a.i))
