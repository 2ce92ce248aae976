-- A list is its first item and the rest; what a laid list has of its statements.
-- Assumes nothing.
use Prim.Native.Nat.{ℕ, suc, ◌+◌, max, ◌≤◌}
use mathlib.Core.Path.{◌≡◌, refl, sym, ap, subst, ◌∙◌}
use mathlib.Core.Bool.{false}
use mathlib.Core.List.{List, [], ◌∷◌}
use native.Mathlib.Omega.{arith}
use Rattle.definition.specs.declared.Statement.{Statement}
use Rattle.definition.specs.declared.Entry.{Entry}
use Rattle.definition.specs.declared.Pictured.{Pictured}
use Rattle.definition.specs.declared.Refusal.{Refusal}
use Rattle.definition.specs.declared.TheConstants.{LARGEST}
use Rattle.definition.specs.Basic.{fewest, Answer, Err, Ok, ◌>>=◌, and_then, refuse_if}
use Rattle.definition.specs.Tree.{Forest, leaf, item}
use Rattle.definition.specs.Storage.{width_alignment}
use Rattle.definition.specs.Fold.{entry, entry_end, Place, place_of, fold_check}
use Rattle.definition.specs.Layout.{shallow, content, start, slack_from, entry_of, too_large, advance, Laid, lay}
use Rattle.definition.proofs.Answers.{through, given-same, not-refused}
use Rattle.layout.proofs.EntriesLaws.{EntryOf, Of}
use Rattle.layout.proofs.EndLaws.{within}
use Rattle.layout.specs.Bare.{ItemLaid, placed_entry, bare_item}

-- ---------------------------------------------------------------- the first item, and the rest

-- the same first step, and then ways of going on that agree up to `fin`
bind-along :
    {A B C : Type 0} (a : Answer A) (f : A → Answer C) (g : A → Answer B) (fin : B → Answer C) →
    ((x : A) → f x ≡ (g x >>= fin)) →
    (a >>= f) ≡ ((a >>= g) >>= fin)
unfolding and_then
bind-along (Err r) f g fin h = refl
bind-along (Ok x) f g fin h = h x

-- a check, what it lets through, and what comes next
check-along :
    {A B C : Type 0} (check : Answer (Unit {0})) (v : A) (g : A → Answer B) (fin : B → Answer C) (next : Answer C) →
    next ≡ (g v >>= fin) →
    (check >>= λ _. next) ≡ (((check >>= λ _. Ok v) >>= g) >>= fin)
unfolding and_then
check-along (Err r) v g fin next h = refl
check-along (Ok u) v g fin next h = h

module _ (text : List ℕ) (depth base : ℕ) (seen : List Place) (cursor reach : ℕ) (s : Statement) (kids later : Forest) where
  -- what comes after the first item
  abbrev pub rest_after : ItemLaid → Answer Laid
  rest_after x =
      lay text depth base (place_of x.own ∷ seen) (advance cursor x.own) (max reach (entry_end x.own)) later >>= λ l.
      Ok (record { entries = entry x.own x.members l.entries; width = l.width })

  pub bare-split :
      lay text depth base seen cursor reach (item s kids later)
      ≡ (bare_item text depth base seen cursor s kids >>= rest_after)
  unfolding lay bare_item placed_entry and_then
  bare-split =
      bind-along (content text s kids) _ _ rest_after λ c.
      bind-along (start text s kids seen base cursor) _ _ rest_after λ o.
      bind-along (shallow (suc depth) kids) _ _ rest_after λ _.
      bind-along (lay text (suc depth) (base + o) [] 0 0 kids) _ _ rest_after λ inner.
      bind-along (fold_check text [] inner.entries) _ _ rest_after λ _.
      let e = entry_of s c o (slack_from cursor s o) inner.width (fewest (width_alignment text s kids) (c.width + inner.width)) in
      check-along (refuse_if (too_large e) (Refusal.TooLarge s.at)) e (λ x. Ok (record { own = x; members = inner.entries })) rest_after _ refl

-- ---------------------------------------------------------------- an item that was laid

-- its inner list, what it holds, and its place
pub record ItemIs (text : List ℕ) (depth base : ℕ) (s : Statement) (kids : Forest) (x : ItemLaid) : Type 0 where
  pub contents : Pictured
  pub contents-are : content text s kids ≡ Ok contents
  pub offset : ℕ
  pub inner : Laid
  pub inner-laid : lay text (suc depth) (base + offset) [] 0 0 kids ≡ Ok inner
  pub members : inner.entries ≡ x.members
  pub slack : ℕ
  pub at_end : ℕ
  pub own : entry_of s contents offset slack inner.width at_end ≡ x.own
  pub fits : too_large (entry_of s contents offset slack inner.width at_end) ≡ false

pub item-is :
    (text : List ℕ) (depth base : ℕ) (seen : List Place) (cursor : ℕ) (s : Statement) (kids : Forest) {x : ItemLaid} →
    bare_item text depth base seen cursor s kids ≡ Ok x →
    ItemIs text depth base s kids x
unfolding bare_item placed_entry
item-is text depth base seen cursor s kids h =
    through _ _ h λ c e₁ h₁.
    through _ _ h₁ λ o e₂ h₂.
    through _ _ h₂ λ _ _ h₃.
    through _ _ h₃ λ inner e₄ h₄.
    through _ _ h₄ λ _ _ h₅.
    through _ _ h₅ λ e e₆ h₆.
    through _ _ e₆ λ _ e₇ h₇.
    let same : record { own = e; members = inner.entries } ≡ _ = given-same h₆ in
    let at_end = fewest (width_alignment text s kids) (c.width + inner.width) in
    record {
      contents = c;
      contents-are = e₁;
      offset = o;
      inner = inner;
      inner-laid = e₄;
      members = ap (λ (y : ItemLaid). y.members) same;
      slack = slack_from cursor s o;
      at_end = at_end;
      own = given-same h₇ ∙ ap (λ (y : ItemLaid). y.own) same;
      fits = not-refused (too_large (entry_of s c o (slack_from cursor s o) inner.width at_end)) _ e₇;
    }

-- ---------------------------------------------------------------- a laid list

-- what a laid list has of its forest
pub record BareIs (f : Forest) (l : Laid) : Type 0 where
  pub of : Of f l.entries
  pub width : l.width ≤ LARGEST

module _ (text : List ℕ) where
  pub bare-is :
      (f : Forest) (depth base : ℕ) (seen : List Place) (cursor reach : ℕ) {l : Laid} →
      reach ≤ LARGEST →
      lay text depth base seen cursor reach f ≡ Ok l →
      BareIs f l
  unfolding lay
  bare-is leaf depth base seen cursor reach h e = subst (BareIs leaf) (given-same e) (record { of = tt; width = h })
  bare-is (item s kids later) depth base seen cursor reach h e =
      through _ _ (sym (bare-split text depth base seen cursor reach s kids later) ∙ e) λ x e₁ h₁.
      through _ _ h₁ λ more e₂ h₂.
      let i = item-is text depth base seen cursor s kids e₁ in
      let members = bare-is kids (suc depth) (base + i.offset) [] 0 0 (omega arith) i.inner-laid in
      let ends = (within (entry_of s i.contents i.offset i.slack i.inner.width i.at_end) i.fits).ends in
      let ends' : entry_end x.own ≤ LARGEST = subst (λ (y : Entry). entry_end y ≤ LARGEST) i.own ends in
      let rest = bare-is later depth base (place_of x.own ∷ seen) (advance cursor x.own) (max reach (entry_end x.own)) (omega arith) e₂ in
      let own : EntryOf s x.own =
      record {
        place = i.offset;
        slack = i.slack;
        contents = i.contents;
        inner = i.inner.width;
        at_end = i.at_end;
        is = sym i.own;
      } in
      subst (BareIs (item s kids later)) (given-same h₂)
      (record { of = (own, subst (Of kids) i.members members.of, rest.of); width = rest.width })
