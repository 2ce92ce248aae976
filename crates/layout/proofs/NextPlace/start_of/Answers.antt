-- `layout::NextPlace::start_of` meets its contract: over the sibling that it redefines.
use Prim.Native.Nat.{ℕ}
use mathlib.Core.Path.{◌≡◌, ◌∙◌}
use mathlib.Core.Bool.{Bool, true}
use mathlib.Core.List.{List}
use Rattle.definition.specs.declared.Statement.{Statement}
use Rattle.definition.specs.declared.Refusal.{Refusal}
use Rattle.definition.specs.Basic.{is_given, Answer, or_refuse}
use Rattle.definition.specs.Fold.{Place, find}
use Rattle.layout.specs.Bare.{starts}
use Rattle.layout.specs.Targets.{seen_at, target_search}
use Rattle.layout.proofs.NextPlace.start_of.Goals as goal

over :
    (t : List ℕ) (s : Statement) (multiple : ℕ) (seen : List Place) (base cursor : ℕ) {g : Bool} →
    g ≡ is_given s.clauses.redefines →
    g ≡ true →
    {a : Answer ℕ} →
    a ≡ or_refuse (Refusal.NoTarget s.at) (target_search t s.clauses.redefines seen).found →
    a ≡ starts t s multiple seen base cursor
unfolding find
over t s multiple seen base cursor e is p = p ∙ rw (← e, is)

pub returns-then-is_given : goal.returns-then-is_given
returns-then-is_given c =
    let a = c.args in
    let e = rw c.from.ensures at c.start_over.ensures in
    (over a.fingerprinted.text.now a.s a.multiple (seen_at a.fingerprinted.rows.all.now a.self.last) a.self.base a.self.cursor c.is_given.ensures c.if-is_given.true e.0, e.1, e.2)
