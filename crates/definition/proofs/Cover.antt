-- The layout of a forest without REDEFINES and DEPENDING ON lays what the owner rule lays.
-- Assumes nothing.
use Prim.Native.Nat.{ℕ, suc, ◌+◌, ◌*◌, ◌-◌, ◌<◌, max}
use mathlib.Core.Path.{◌≡◌, refl, sym, ◌∙◌, ap, ap₂}
use mathlib.Core.Bool.{Bool, false}
use mathlib.Core.List.{List, [], ◌∷◌, ◌++◌}
use native.Mathlib.Omega.{arith}
use native.Mathlib.Nat.{zero-add}
use Rattle.definition.specs.declared.Pictured.{Pictured}
use Rattle.definition.specs.declared.Statement.{Statement}
use Rattle.definition.specs.declared.Entry.{Entry}
use Rattle.std.specs.Prelude.{if◌then◌else◌}
use Rattle.definition.specs.Basic.{is_given, fewest, Ok}
use Rattle.definition.specs.Tree.{Forest, leaf, item}
use Rattle.definition.specs.Storage.{storage, place_alignment, width_alignment}
use Rattle.definition.specs.Fold.{Entries, end, entry, Place, place_of, times, total, entry_end}
use Rattle.definition.specs.Fold.{redefiners, fold_check, folded_list, folded_below, folded_all}
use Rattle.definition.specs.Layout.{Laid, content, start, slack_from, entry_of, too_large, advance, shallow, lay}
use Rattle.definition.specs.Record.{record_length, unfolded, layout}
use Rattle.definition.specs.Owner.{Piece, slack_piece, extent, repeated, size}
use Rattle.definition.specs.Owner.{slack_before, once, laid_item, laid, overlaid}
use Rattle.definition.specs.Placed.{content_of, entry_at, placed}
use Rattle.definition.proofs.Answers.{through, given-same, not-refused}
use Rattle.definition.proofs.Alignment.{fewest-one}
use Rattle.definition.proofs.Slack.{leaf-wide}
use Rattle.definition.proofs.Pieces.{extent-append, extent-slack, copies, extent-copies, repeated-copies}
use Rattle.definition.proofs.MovedLaws.{once-moved, laid-moved, occurrence-divides}

-- ---------------------------------------------------------------- plain forests

-- no statement, at any depth, has a REDEFINES or a DEPENDING ON
pub record PlainStatement (s : Statement) : Type 0 where
  pub redefines : is_given s.clauses.redefines ≡ false
  pub depending : is_given s.clauses.depending ≡ false

abbrev pub Plain : Forest → Type 0
Plain leaf = Unit {0}
Plain (item s kids later) = PlainStatement s × Plain kids × Plain later

pub plain : (f : Forest) → overlaid f ≡ false → Plain f
unfolding overlaid
plain leaf h = tt
plain (item s kids later) h = grind (arith, plain kids, plain later)

-- ---------------------------------------------------------------- without REDEFINES a fold changes nothing

-- no entry of the list itself redefines
abbrev pub Unfolded : Entries → Type 0
Unfolded end = Unit {0}
Unfolded (entry e members later) = (is_given e.redefines ≡ false) × Unfolded later

module _ (text : List ℕ) where
  no-redefiners : (base : Place) (es : Entries) → Unfolded es → redefiners text base es ≡ end
  unfolding redefiners
  no-redefiners base end u = refl
  no-redefiners base (entry e members later) u = grind (arith, no-redefiners base later u.1)

  pub fold-plain : (bases : List Place) (es : Entries) → Unfolded es → folded_list text bases es ≡ es
  unfolding folded_list
  fold-plain bases end u = refl
  fold-plain bases (entry e members later) u =
      grind (arith, fold-plain (place_of e ∷ bases) later u.1, no-redefiners (place_of e) later u.1)

  -- ---------------------------------------------------------------- one item

  -- where its first occurrence is, at a place
  abbrev pub first_at : Statement → Forest → ℕ → ℕ
  first_at s kids p = p + fewest (place_alignment text s kids) p

  -- how wide it is, with a list that is so long
  abbrev pub wide : Statement → Forest → ℕ → ℕ
  wide s kids inner =
      let long = (content_of text s kids).width + inner in long + fewest (width_alignment text s kids) long

  abbrev pub list_at : ℕ → Forest → ℕ → List Piece
  list_at k kids p = laid text (suc k) p kids

  -- an elementary item has no slack at its end
  pub leaf-padding : (s : Statement) (n : ℕ) → fewest (width_alignment text s leaf) n ≡ 0
  leaf-padding s n = ap (λ (x : ℕ). fewest x n) (leaf-wide text s) ∙ fewest-one n

  -- one occurrence
  abbrev pub one_at : ℕ → Statement → Forest → ℕ → List Piece
  one_at k s kids = once text k s kids (list_at k kids)

  pub once-wide :
      (k p : ℕ) (s : Statement) (kids : Forest) →
      extent (one_at k s kids p) ≡ wide s kids (extent (list_at k kids p))
  unfolding laid
  once-wide k p s leaf =
      let w = (storage text s).width in
      omega (arith, leaf-padding s (w + 0))
  once-wide k p s (item t more later) =
      let kids = item t more later in
      let list = list_at k kids p in
      let n = fewest (width_alignment text s kids) (0 + extent list) in
      omega (arith, extent-append list (slack_piece k n), extent-slack k n)

  -- all occurrences are alike, each at its own place,
  pub occurrence-alike :
      (k p : ℕ) (s : Statement) (kids : Forest) (i : ℕ) →
      is_given s.clauses.depending ≡ false →
      i < times s.clauses.occurs →
      one_at k s kids (p + i * extent (one_at k s kids p)) ≡ one_at k s kids p
  occurrence-alike k p s leaf i g l = refl
  occurrence-alike k p s (item t more later) i g l =
      let kids = item t more later in
      let long = 0 + extent (list_at k kids p) in
      let d = i * wide s kids (extent (list_at k kids p)) in
      ap (λ (x : ℕ). one_at k s kids (p + i * x)) (once-wide k p s kids)
      ∙ once-moved text k s kids d (list_at k kids)
      (laid-moved text kids (suc k) d (occurrence-divides text s kids long i g (omega arith))) p

  occurrences :
      (k p : ℕ) (s : Statement) (kids : Forest) →
      PlainStatement s →
      repeated (times s.clauses.occurs) p (one_at k s kids) ≡ copies (times s.clauses.occurs) (one_at k s kids p)
  occurrences k p s kids ps =
      repeated-copies (times s.clauses.occurs) p (one_at k s kids) (one_at k s kids p)
      (λ i l. occurrence-alike k p s kids i ps.depending l)

  -- its slack, then the occurrences
  abbrev pub own_at : ℕ → ℕ → Statement → Forest → List Piece
  own_at k p s kids =
      slack_before text k p s kids ++ copies (times s.clauses.occurs) (one_at k s kids (first_at s kids p))

  pub item-own :
      (k p : ℕ) (s : Statement) (kids : Forest) →
      PlainStatement s →
      laid_item text k p s kids (list_at k kids) ≡ own_at k p s kids
  item-own k p s kids ps =
      let slack = fewest (place_alignment text s kids) p in
      ap (λ (x : ℕ). slack_piece k slack ++ repeated (times s.clauses.occurs) (p + x) (one_at k s kids))
      (extent-slack k slack)
      ∙ ap (λ (x : List Piece). slack_piece k slack ++ x) (occurrences k (first_at s kids p) s kids ps)

  pub own-extent :
      (k p : ℕ) (s : Statement) (kids : Forest) →
      extent (own_at k p s kids)
      ≡ fewest (place_alignment text s kids) p + wide s kids
      (extent (list_at k kids (first_at s kids p))) * times s.clauses.occurs
  own-extent k p s kids =
      let n = times s.clauses.occurs in
      let one = one_at k s kids (first_at s kids p) in
      omega (
        arith,
        extent-append (slack_before text k p s kids) (copies n one),
        extent-slack k (fewest (place_alignment text s kids) p),
        extent-copies n one ∙ ap (λ (x : ℕ). x * n) (once-wide k (first_at s kids p) s kids),
      )

  pub content-given :
      (s : Statement) (kids : Forest) (c : Pictured) →
      content text s kids ≡ Ok c →
      c ≡ content_of text s kids
  content-given s kids c h = grind arith

  -- without REDEFINES an item starts after its slack
  pub start-given :
      (base place : ℕ) (seen : List Place) (s : Statement) (kids : Forest) →
      is_given s.clauses.redefines ≡ false →
      start text s kids seen base place ≡ Ok (place + fewest (place_alignment text s kids) (base + place))
  start-given base place seen s kids r = rw r

  -- its first occurrence stands there in the record
  pub first-same :
      (base place : ℕ) (s : Statement) (kids : Forest) →
      base + (place + fewest (place_alignment text s kids) (base + place)) ≡ first_at s kids (base + place)
  first-same base place s kids = omega arith

  abbrev pub entry_here : ℕ → ℕ → ℕ → Statement → Forest → Entry
  entry_here k base place s kids =
      entry_at text base place s kids
      (extent (list_at k kids (base + (place + fewest (place_alignment text s kids) (base + place)))))

  pub here-wide :
      (k base place : ℕ) (s : Statement) (kids : Forest) →
      (entry_here k base place s kids).width ≡ wide s kids (extent (list_at k kids (first_at s kids (base + place))))
  here-wide k base place s kids = ap (λ (x : ℕ). wide s kids (extent (list_at k kids x))) (first-same base place s kids)

  -- an elementary item is as wide as its picture says
  pub leaf-here : (k base place : ℕ) (s : Statement) → (entry_here k base place s leaf).width ≡ (storage text s).width
  unfolding laid
  leaf-here k base place s = omega (arith, leaf-padding s ((storage text s).width + 0))

  -- its occurrences end where the item is laid
  pub item-total :
      (k base place : ℕ) (s : Statement) (kids : Forest) →
      PlainStatement s →
      let e = entry_here k base place s kids in
      e.offset + total e ≡ place + extent (laid_item text k (base + place) s kids (list_at k kids))
  item-total k base place s kids p =
      omega (
        arith,
        ap (λ (x : ℕ). x * times s.clauses.occurs) (here-wide k base place s kids),
        ap extent (item-own k (base + place) s kids p),
        own-extent k (base + place) s kids,
      )

  pub item-end :
      (k base place : ℕ) (s : Statement) (kids : Forest) →
      PlainStatement s →
      entry_end (entry_here k base place s kids) ≡ place + extent
      (laid_item text k (base + place) s kids (list_at k kids))
  item-end k base place s kids p =
      let e = entry_here k base place s kids in
      ap (λ (b : Bool). e.offset + (if b then 0 else total e)) p.depending ∙ item-total k base place s kids p

  -- what the layout lays, and what the owner rule lays
  pub record Agrees (k base place : ℕ) (f : Forest) (l : Laid) : Type 0 where
    pub entries : l.entries ≡ placed text k base place f
    pub width : l.width ≡ place + extent (laid text k (base + place) f)

  placed-unfolded : (k base place : ℕ) (f : Forest) → Plain f → Unfolded (placed text k base place f)
  unfolding placed
  placed-unfolded k base place leaf p = tt
  placed-unfolded k base place (item s kids later) p = (
    p.0.redefines,
    placed-unfolded (suc k + size kids) base
        (place + extent (laid_item text k (base + place) s kids (list_at k kids))) later p.2,
  )

  -- the entry of an item, by the lines of `lay`
  abbrev pub entry_laid : Statement → Forest → ℕ → Pictured → ℕ → Laid → Entry
  entry_laid s kids cursor c offset inner =
      entry_of s c offset (slack_from cursor s offset) inner.width
      (fewest (width_alignment text s kids) (c.width + inner.width))

  -- what an item that was laid went through, line by line of `lay`
  pub record ItemLaid (depth base : ℕ) (seen : List Place) (cursor reach : ℕ) (s : Statement) (kids later : Forest)
      (l : Laid) : Type 0 where
    pub has : Pictured
    pub offset : ℕ
    pub inner : Laid
    pub rest : Laid
    pub contains : content text s kids ≡ Ok has
    pub begins : start text s kids seen base cursor ≡ Ok offset
    pub nested : shallow (suc depth) kids ≡ Ok tt
    pub inner-laid : lay text (suc depth) (base + offset) [] 0 0 kids ≡ Ok inner
    pub checked : fold_check text [] inner.entries ≡ Ok tt
    pub small : too_large (entry_laid s kids cursor has offset inner) ≡ false
    pub later-laid :
        let e = entry_laid s kids cursor has offset inner in
        lay text depth base (place_of e ∷ seen) (advance cursor e) (max reach (entry_end e)) later ≡ Ok rest
    pub result : l ≡ record {
      entries = entry (entry_laid s kids cursor has offset inner) inner.entries rest.entries;
      width = rest.width;
    }

  pub item-laid :
      (depth base : ℕ) (seen : List Place) (cursor reach : ℕ) (s : Statement) (kids later : Forest) (l : Laid) →
      lay text depth base seen cursor reach (item s kids later) ≡ Ok l →
      ItemLaid depth base seen cursor reach s kids later l
  unfolding lay
  item-laid depth base seen cursor reach s kids later l h =
      through _ _ h λ has e₁ h₁.
      through _ _ h₁ λ offset e₂ h₂.
      through _ _ h₂ λ _ e₃ h₃.
      through _ _ h₃ λ inner e₄ h₄.
      through _ _ h₄ λ _ e₅ h₅.
      through _ _ h₅ λ _ e₆ h₆.
      through _ _ h₆ λ rest e₇ h₇.
      record {
        has = has;
        offset = offset;
        inner = inner;
        rest = rest;
        contains = e₁;
        begins = e₂;
        nested = e₃;
        inner-laid = e₄;
        checked = e₅;
        small = not-refused (too_large (entry_laid s kids cursor has offset inner)) _ e₆;
        later-laid = e₇;
        result = sym (given-same h₇);
      }

  -- and what the fields of a record that was laid out went through, line by line of `unfolded`
  pub record LaidOut (f : Forest) (tree : Entries) : Type 0 where
    pub list : Laid
    pub list-laid : lay text 0 0 [] 0 0 f ≡ Ok list
    pub list-checked : fold_check text [] list.entries ≡ Ok tt
    pub is : list.entries ≡ tree

  pub laid-out : (f : Forest) (tree : Entries) → unfolded text f ≡ Ok tree → LaidOut f tree
  unfolding unfolded
  laid-out f tree h =
      through _ _ h λ l e₁ h₁.
      through _ _ h₁ λ _ e₂ h₂.
      through _ _ h₂ λ _ _ h₃.
      record { list = l; list-laid = e₁; list-checked = e₂; is = given-same h₃ }

  -- without REDEFINES it stands after its slack, and its entry is the one that the owner rule places
  module _ {depth base : ℕ} {seen : List Place} {place : ℕ} {s : Statement} {kids later : Forest} {l : Laid}
      (r : ItemLaid depth base seen place place s kids later l) (k : ℕ) (ps : PlainStatement s)
      (ih : Agrees (suc k) (base + r.offset) 0 kids r.inner) where
    same-offset : r.offset ≡ place + fewest (place_alignment text s kids) (base + place)
    same-offset = given-same (sym r.begins ∙ start-given base place seen s kids ps.redefines)

    inner-entries :
        r.inner.entries
        ≡ placed text (suc k) (base + (place + fewest (place_alignment text s kids) (base + place))) 0 kids
    inner-entries = ih.entries ∙ ap (λ (x : ℕ). placed text (suc k) (base + x) 0 kids) same-offset

    item-agrees : entry_laid s kids place r.has r.offset r.inner ≡ entry_here k base place s kids
    item-agrees =
        let slack = fewest (place_alignment text s kids) (base + place) in
        let same-has = content-given s kids r.has r.contains in
        let between : slack_from place s r.offset ≡ slack =
        ap (λ (b : Bool). if b then 0 else r.offset - place) ps.redefines ∙ omega (arith, same-offset) in
        let same-inner : r.inner.width ≡ extent (list_at k kids (base + (place + slack))) =
        ih.width
        ∙ zero-add (extent (laid text (suc k) (base + r.offset + 0) kids))
        ∙ ap (λ (x : ℕ). extent (laid text (suc k) x kids)) (omega (arith, same-offset)) in
        (λ i. entry_of s (same-has i) (same-offset i) (between i) (same-inner i)
        (fewest (width_alignment text s kids) ((same-has i).width + same-inner i)))

  -- a plain forest: the layout's entries are those that the owner rule places, and its width is what the owner rule
  -- lays
  pub lay-placed :
      (f : Forest) (depth base : ℕ) (seen : List Place) (k place : ℕ) (l : Laid) →
      Plain f →
      lay text depth base seen place place f ≡ Ok l →
      Agrees k base place f l
  unfolding lay laid placed
  lay-placed leaf depth base seen k place l p h = let e = given-same h in record { entries = cc; width = grind arith }
  lay-placed (item s kids later) depth base seen k place l p h =
      let r = item-laid depth base seen place place s kids later l h in
      let ih = lay-placed kids (suc depth) (base + r.offset) [] (suc k) 0 r.inner p.1 r.inner-laid in
      let a = item-agrees r k p.0 ih in
      let m = inner-entries r k p.0 ih in
      let e = entry_laid s kids place r.has r.offset r.inner in
      let own = laid_item text k (base + place) s kids (list_at k kids) in
      let ends : entry_end e ≡ place + extent own = ap entry_end a ∙ item-end k base place s kids p.0 in
      let moved : advance place e ≡ place + extent own =
      ap (λ (b : Bool). if b then place else entry_end e) p.0.redefines ∙ ends in
      let reached : max place (entry_end e) ≡ place + extent own = omega arith in
      let next =
      ap₂ (λ (x y : ℕ). lay text depth base (place_of e ∷ seen) x y later) (sym moved) (sym reached) ∙ r.later-laid in
      let ihs =
      lay-placed later depth base (place_of e ∷ seen) (suc k + size kids) (place + extent own) r.rest p.2 next in
      let here : base + (place + extent own) ≡ base + place + extent own = omega arith in
      let more = laid text (suc k + size kids) (base + place + extent own) later in
      record {
        entries = ap (λ (x : Laid). x.entries) r.result ∙ (λ i. entry (a i) (m i) (ihs.entries i));
        width =
            ap (λ (x : Laid). x.width) r.result
            ∙ ihs.width
            ∙ ap (λ (x : ℕ). place + extent own + extent (laid text (suc k + size kids) x later)) here
            ∙ omega (arith, extent-append own more);
      }

  -- the record length of the placed entries is what the owner rule lays
  pub placed-length :
      (k base place : ℕ) (f : Forest) →
      Plain f →
      max place (record_length (placed text k base place f)) ≡ place + extent (laid text k (base + place) f)
  unfolding placed laid record_length
  placed-length k base place leaf p = omega arith
  placed-length k base place (item s kids later) p =
      let own = laid_item text k (base + place) s kids (list_at k kids) in
      let here : base + (place + extent own) ≡ base + place + extent own = omega arith in
      omega (
        arith,
        item-end k base place s kids p.0,
        placed-length (suc k + size kids) base (place + extent own) later p.2,
        ap (λ (x : ℕ). extent (laid text (suc k + size kids) x later)) here,
        extent-append own (laid text (suc k + size kids) (base + place + extent own) later),
      )

  -- ---------------------------------------------------------------- the whole layout

  -- folding changes no list of it
  below_plain :
      (k base place : ℕ) (f : Forest) →
      Plain f →
      folded_below text (placed text k base place f) ≡ placed text k base place f
  unfolding placed folded_below
  below_plain k base place leaf p = refl
  below_plain k base place (item s kids later) p =
      let first = base + (place + fewest (place_alignment text s kids) (base + place)) in
      let next = place + extent (laid_item text k (base + place) s kids (list_at k kids)) in
      ap₂ (entry (entry_here k base place s kids))
      (ap (folded_list text []) (below_plain (suc k) first 0 kids p.1) ∙ fold-plain []
      (placed text (suc k) first 0 kids) (placed-unfolded (suc k) first 0 kids p.1))
      (below_plain (suc k + size kids) base next later p.2)

  pub layout-placed : (f : Forest) (es : Entries) → Plain f → layout text f ≡ Ok es → es ≡ placed text 0 0 0 f
  unfolding layout
  layout-placed f es p h =
      through _ _ h λ tree h₀ q.
      let r = laid-out f tree h₀ in
      let a = lay-placed f 0 0 [] 0 0 r.list p r.list-laid in
      sym (given-same q)
      ∙ ap (folded_all text) (sym r.is ∙ a.entries)
      ∙ ap (folded_list text []) (below_plain 0 0 0 f p)
      ∙ fold-plain [] (placed text 0 0 0 f) (placed-unfolded 0 0 0 f p)
