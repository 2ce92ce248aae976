use Rattle.rows.specs.declared.Row.{Row}
use Prim.Native.Nat.{ℕ, suc, ◌+◌, ◌≤◌}
use mathlib.Core.Path.{◌≡◌, refl, sym, ap, subst, ◌∙◌}
use mathlib.Core.Bool.{Bool, true, false}
use mathlib.Core.List.{List}
use Rattle.std.proofs.Common.{rules}
use Rattle.definition.specs.declared.Span.{Span}
use Rattle.std.specs.Prelude.{if◌then◌else◌}
use Rattle.definition.specs.Fold.{end, append, has_member, folded_below, folded_all}
use Rattle.layout.specs.Targets.{bases_at}
use Rattle.layout.specs.Places.{entry_in}
use Rattle.layout.specs.Children.{ChildrenEnd}
use Rattle.layout.specs.Shown.{standing, standing_at, shown_named, list_in, folded_rest, shown_at, Tree}
use Rattle.layout.proofs.FoldedLaws.{member-append, shown-named}
use Rattle.layout.proofs.ShownLaws.{walking-ends, walking_here}
use Rattle.layout.proofs.WidthLaws.{along-starts, along-before, along-sibling, along-on}
use Rattle.layout.proofs.unions.MarkedRows.has_member.Invariants.{Left}
use Rattle.layout.proofs.unions.MarkedRows.has_member.Goals as goal

start : {t : List ℕ} {w : List Row} {from to : ℕ} {name : Span} → Tree t w from to → {i : ℕ} → i ≡ from → Left t w from to name i
unfolding has_member
start {t} {w} {from} {to} {name} h e =
    subst (Left t w from to name) (sym e)
    (record { last = 0; done = end; along = along-starts t w from to h; is = refl })

module _ {t : List ℕ} {w : List Row} {from to : ℕ} {name : Span} {i : ℕ} (inv : Left t w from to name i) where
  done : to ≤ i → false ≡ has_member t name (folded_all t (list_in w from to))
  done h = sym (ap (has_member t name) (walking-ends inv.along.walk h) ∙ inv.is)

  -- row i is the next sibling, and has the name or not
  module _ {row j : ℕ} (at : row ≡ i) (h : ChildrenEnd w i to j) {r : Bool} (p : r ≡ shown_named t name (standing_at t w row) (entry_in w row)) where
    here : has_member t name (shown_at t w i j to inv.last) ≡ r
    here =
        shown-named t (entry_in w i) (folded_all t (list_in w (suc i) j)) name (standing t (bases_at w inv.last) (entry_in w i))
        (folded_below t (list_in w j to))
        ∙ sym
        (p
        ∙ ap (λ (k : ℕ). shown_named t name (standing_at t w k) (entry_in w k)) at
        ∙ ap (λ (n : ℕ). shown_named t name (standing t (bases_at w n) (entry_in w i)) (entry_in w i)) (along-before inv.along h))

    hit : r ≡ true → true ≡ has_member t name (folded_all t (list_in w from to))
    hit e =
        let shown = shown_at t w i j to inv.last in
        let rest = folded_rest t w j to (suc i) in
        sym
        (ap (has_member t name) (walking_here inv.along.walk h)
        ∙ member-append t name inv.done (append shown rest)
        ∙ ap (λ (b : Bool). if b then true else has_member t name (append shown rest)) inv.is
        ∙ member-append t name shown rest
        ∙ ap (λ (b : Bool). if b then true else has_member t name rest) (here ∙ e))

    next : r ≡ false → {k : ℕ} → k ≡ j → Left t w from to name k
    next e q =
        let shown = shown_at t w i j to inv.last in
        subst (Left t w from to name) (sym q)
        (record {
          last = i + 1;
          done = append inv.done shown;
          along = along-on inv.along h;
          is =
              member-append t name inv.done shown
              ∙ ap (λ (b : Bool). if b then true else has_member t name shown) inv.is
              ∙ here
              ∙ e;
        })

pub loop-sibling-init : goal.loop-sibling-init
loop-sibling-init c =
    let s = c.siblings-sibling-items.ensures in
    rw c.into_iter-sibling-iterator.ensures.into_iter_gives (tt, tt, s.0, start c.args.self.tree s.1)

pub new-requires : goal.new-requires
new-requires c =
    let inv = c.loop-sibling.invariant in
    let s = c.in-Some.ensures.steps in
    along-sibling inv.3.along (rw inv.2 at s.2) s.1

pub returns-then-is_shown_as : goal.returns-then-is_shown_as
returns-then-is_shown_as c =
    let inv = c.loop-sibling.invariant in
    let s = c.in-Some.ensures.steps in
    let n = c.new.ensures in
    hit inv.3 s.1 (rw inv.2 at s.2) (rw (n.0, n.1, n.2) at c.is_shown_as.ensures) (search rules)

pub loop-sibling-preserved : goal.loop-sibling-preserved
loop-sibling-preserved c =
    let inv = c.loop-sibling.invariant in
    let s = c.in-Some.ensures.steps in
    let n = c.new.ensures in
    (tt, tt, s.3 ∙ inv.2, next inv.3 s.1 (rw inv.2 at s.2) (rw (n.0, n.1, n.2) at c.is_shown_as.ensures) (search rules) s.4)

pub returns : goal.returns
returns c =
    let inv = c.loop-sibling.invariant in
    done inv.3 (rw inv.2 at c.in-None.ensures.steps.0)
