-- What the owner rule lays is what its entries tell: the items one by one, at each place, and the pieces in copybook
-- order.
-- Assumes nothing.
use Prim.Native.Nat.{ℕ, suc, ◌+◌, ◌*◌, ◌-◌, ◌∣◌}
use mathlib.Core.Path.{◌≡◌, refl, sym, ◌∙◌, ap, ap₂, subst}
use mathlib.Core.List.{List, [], ◌∷◌, ◌++◌}
use native.Mathlib.Omega.{arith}
use native.Mathlib.Nat.{add-zero}
use Rattle.definition.specs.declared.Statement.{Statement}
use Rattle.definition.specs.Basic.{fewest}
use Rattle.definition.specs.Tree.{Forest, leaf, item}
use Rattle.definition.specs.Storage.{place_alignment, alignment, width_alignment}
use Rattle.definition.specs.Fold.{Entries, end, entry, times, total}
use Rattle.definition.specs.Layout.{entry_of}
use Rattle.definition.specs.Record.{record_length}
use Rattle.definition.specs.Owner.{occurrence, slack_piece, extent, size, slack_before, laid_item, laid}
use Rattle.definition.specs.Search.{entries#}
use Rattle.definition.specs.Placed.{content_of, placed}
use Rattle.definition.specs.Demand.{Fewest, Tells, Spot, spot, gap, each, single, spots_of, spots}
use Rattle.definition.proofs.Alignment.{aligning-positive, fewest-slack, fewest-only, fewest-moved}
use Rattle.definition.proofs.Pieces.{extent-slack, copies, spots-append, spots-copies, slack-spots}
use Rattle.definition.proofs.Slack.{place-aligning, width-aligning, place-divides, kids-divide, later-divide}
use Rattle.definition.proofs.MovedLaws.{occurrence-divides}
use Rattle.definition.proofs.Cover.{Plain, list_at, one_at, first_at, once-wide, here-wide, entry_here, first-same}
use Rattle.definition.proofs.Cover.{leaf-here, item-own, item-total, placed-length}
use Rattle.definition.proofs.Seek.{entries-size}

module _ (text : List ℕ) where
  -- ---------------------------------------------------------------- the items

  pub place-fewest :
      (s : Statement) (kids : Forest) (p : ℕ) →
      Fewest (place_alignment text s kids) p (fewest (place_alignment text s kids) p)
  place-fewest s kids p =
      fewest-slack (place_alignment text s kids) p
      (aligning-positive (place_alignment text s kids) (place-aligning text s kids))

  width-fewest :
      (s : Statement) (kids : Forest) (long : ℕ) →
      Fewest (width_alignment text s kids) long (fewest (width_alignment text s kids) long)
  width-fewest s kids long =
      fewest-slack (width_alignment text s kids) long
      (aligning-positive (width_alignment text s kids) (width-aligning text s kids))

  -- the fewest bytes a multiple of the alignment later
  place-moved :
      (s : Statement) (kids : Forest) (p d n : ℕ) →
      place_alignment text s kids ∣ d →
      Fewest (place_alignment text s kids) p n →
      Fewest (place_alignment text s kids) (p + d) n
  place-moved s kids p d n h f =
      let a = place_alignment text s kids in
      let same : fewest a (p + d) ≡ n =
      fewest-moved a p d h ∙ sym (fewest-only a p (aligning-positive a (place-aligning text s kids)) n f) in
      subst (Fewest a (p + d)) same (place-fewest s kids (p + d))

  -- so what is told of a list is told of it there
  tells-moved :
      (f : Forest) (es : Entries) (base reached d : ℕ) →
      alignment text f ∣ d →
      Tells text base reached f es →
      Tells text (base + d) reached f es
  tells-moved leaf end base reached d h t = tt
  tells-moved leaf (entry e members others) base reached d h t = absurd t
  tells-moved (item s kids later) end base reached d h t = absurd t
  tells-moved (item s kids later) (entry e members others) base reached d h t =
      let ih = tells-moved kids members in
      let here : base + reached + d ≡ base + d + reached = omega arith in (
        t.0,
        t.1,
        subst (λ (x : ℕ). Fewest (place_alignment text s kids) x e.slack) here
            (place-moved s kids (base + reached) d e.slack (place-divides text s kids later d h) t.2),
        t.3,
        λ i l.
            let w = i * e.width in
            let there : base + e.offset + w + d ≡ base + d + e.offset + w = omega arith in
            subst (λ (x : ℕ). Tells text x 0 kids members) there
            (ih (base + e.offset + w) 0 d (kids-divide text s kids later d h) (t.4 i l)),
        tells-moved later others base (e.offset + total e) d (later-divide text s kids later d h) t.5,
      )

  pub tells-placed : (f : Forest) (k base place : ℕ) → Plain f → Tells text base place f (placed text k base place f)
  unfolding placed
  tells-placed leaf k base place p = tt
  tells-placed (item s kids later) k base place p =
      let e = entry_here text k base place s kids in
      let first = base + e.offset in
      let members = placed text (suc k) first 0 kids in
      let inner = extent (list_at text k kids first) in
      let c = content_of text s kids in
      let long : inner ≡ record_length members =
      sym (omega (
        arith,
        placed-length text (suc k) first 0 kids p.1,
        ap (λ (x : ℕ). extent (laid text (suc k) x kids))
            (add-zero first),
      )) in
      let own = laid_item text k (base + place) s kids (list_at text k kids) in
      let reached : place + extent own ≡ e.offset + total e = sym (item-total text k base place s kids p.0) in (
        ap (λ (x : ℕ). entry_of s c e.offset e.slack x e.slack_at_end) long,
        refl,
        place-fewest s kids (base + place),
        subst (λ (x : ℕ). Fewest (width_alignment text s kids) (c.width + x) e.slack_at_end) long
            (width-fewest s kids (c.width + inner)),
        λ i l.
            tells-moved kids members first 0 (i * e.width)
            (occurrence-divides text s kids (c.width + inner) i p.0.depending l)
            (tells-placed kids (suc k) first 0 p.1),
        subst (λ (x : ℕ). Tells text base x later
            (placed text (suc k + size kids) base (place + extent own) later)) reached
            (tells-placed later (suc k + size kids) base (place + extent own) p.2),
      )

  -- ---------------------------------------------------------------- the pieces

  once-spots :
      (k base place b : ℕ) (s : Statement) (kids : Forest) →
      let e = entry_here text k base place s kids in
      let first = base + e.offset in
      let members = placed text (suc k) first 0 kids in
      spots_of (suc k) b members ≡ spots b (list_at text k kids first) →
      single k e members b (spots_of (suc k) b members) ≡ spots b (one_at text k s kids first)
  unfolding placed
  once-spots k base place b s leaf ih = ap (λ (x : ℕ). spot (occurrence k) b x ∷ []) (leaf-here text k base place s)
  once-spots k base place b s (item t more later) ih =
      let kids = item t more later in
      let e = entry_here text k base place s kids in
      let list = list_at text k kids (base + e.offset) in
      let n = e.slack_at_end in
      let ends : b + (e.width - n) ≡ b + extent list = omega arith in
      ap₂ (λ (x : List Spot) (y : ℕ). x ++ gap k y n) ih ends
      ∙ ap (λ (x : List Spot). spots b list ++ x) (sym (slack-spots k (b + extent list) n))
      ∙ sym (spots-append list (slack_piece k n) b)

  pub told-laid :
      (f : Forest) (k base place b : ℕ) →
      Plain f →
      spots_of k b (placed text k base place f) ≡ spots (b + place) (laid text k (base + place) f)
  unfolding placed laid spots_of
  told-laid leaf k base place b p = refl
  told-laid (item s kids later) k base place b p =
      let e = entry_here text k base place s kids in
      let first = base + e.offset in
      let members = placed text (suc k) first 0 kids in
      let n = times s.clauses.occurs in
      let at = base + place in
      let slack = slack_before text k at s kids in
      let one = one_at text k s kids (first_at text s kids at) in
      let own = laid_item text k at s kids (list_at text k kids) in
      let rest = laid text (suc k + size kids) (at + extent own) later in
      let ih : (c : ℕ) → spots_of (suc k) c members ≡ spots c (list_at text k kids first) =
      λ c. told-laid kids (suc k) first 0 c p.1 ∙ ap₂ (λ (x y : ℕ). spots x (laid text (suc k) y kids)) (add-zero c)
      (add-zero first) in
      let wide : e.width ≡ extent one =
      here-wide text k base place s kids ∙ sym (once-wide text k (first_at text s kids at) s kids) in
      let gaps : gap k (b + (e.offset - e.slack)) e.slack ≡ spots (b + place) slack =
      ap (λ (x : ℕ). gap k x e.slack) (omega arith) ∙ sym (slack-spots k (b + place) e.slack) in
      let occurring : each n (b + e.offset) e.width (λ c. single k e members c (spots_of (suc k) c members)) ≡ spots
      (b + place + extent slack) (copies n one) =
      (λ i. each n (b + e.offset) e.width (λ c. once-spots k base place c s kids (ih c) i))
      ∙ ap (λ (x : ℕ). each n (b + e.offset) e.width (λ c. spots c (one_at text k s kids x)))
      (first-same text base place s kids)
      ∙ ap₂ (λ (x y : ℕ). each n x y (λ c. spots c one)) (omega (arith, extent-slack k e.slack)) wide
      ∙ sym (spots-copies n one (b + place + extent slack)) in
      let mine : spots (b + place) own ≡ spots (b + place) slack ++ spots (b + place + extent slack) (copies n one) =
      ap (spots (b + place)) (item-own text k at s kids p.0) ∙ spots-append slack (copies n one) (b + place) in
      let others : spots_of (suc k + entries# members) b (placed text (suc k + size kids) base (place + extent own) later)
      ≡ spots (b + place + extent own) rest =
      ap (λ (x : ℕ). spots_of (suc k + x) b (placed text (suc k + size kids) base (place + extent own) later))
      (entries-size text (suc k) first 0 kids)
      ∙ told-laid later (suc k + size kids) base (place + extent own) b p.2
      ∙ ap₂ (λ (x y : ℕ). spots x (laid text (suc k + size kids) y later)) (omega arith) (omega arith) in
      ap₂ (λ (x y : List Spot). x ++ y ++ spots_of (suc k + entries# members) b
      (placed text (suc k + size kids) base (place + extent own) later)) gaps occurring
      ∙ ap₂ (λ (x y : List Spot). x ++ y) (sym mine) others
      ∙ sym (spots-append own rest (b + place))
