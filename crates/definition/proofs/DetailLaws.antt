-- Laws of the details: as many rows as the listing has entries; the first byte of a member is its group's plus its
-- offset; slack begins where the latest earlier item ended; and how deep an entry of a folded listing stands.
-- Assumes nothing.
use Prim.Native.Nat.{ℕ, suc, ◌+◌, ◌*◌, ◌-◌, max, ◌≤◌, ◌<◌}
use mathlib.Core.Path.{◌≡◌, refl, sym, ◌∙◌, ap, subst}
use mathlib.Core.Bool.{Bool, false}
use mathlib.Core.List.{List, [], ◌∷◌, ◌++◌, append_assoc, append-nil}
use Rattle.std.specs.Prelude.{Option, Some}
use native.Mathlib.Omega.{arith}
use lib.ListN.{length, length-append}
use Rattle.definition.specs.declared.Entry.{Entry}
use Rattle.definition.specs.declared.Statement.{Statement}
use Rattle.std.specs.Prelude.{if◌then◌else◌}
use Rattle.definition.specs.Basic.{is_given, le4, Ok}
use Rattle.definition.specs.Tree.{Forest, leaf, item}
use Rattle.definition.specs.Fold.{Entries, end, entry, append, entry_end, Place, place_of}
use Rattle.definition.specs.Fold.{redefiners, with_redefiners, folded_list, folded_below}
use Rattle.definition.specs.Fold.{folded_all}
use Rattle.definition.specs.Layout.{Laid, start, shallow, advance, lay}
use Rattle.definition.specs.Record.{unfolded}
use Rattle.definition.specs.Search.{entries#}
use Rattle.definition.specs.Details.{Detail, detail, details_in, detail_bytes, details_bytes, root_bytes, listing_details, group_around}
use Rattle.definition.specs.Details.{first_of, FirstBytes, Following, height}
use Rattle.definition.proofs.Answers.{given-same}
use Rattle.definition.proofs.Cover.{start-given, entry_laid, item-laid, laid-out}

-- ---------------------------------------------------------------- how many

pub detail-length : (x : Detail) → length (detail_bytes x) ≡ 63
unfolding detail_bytes
detail-length x = grind arith

pub rows-many : (es : Entries) (depth start : ℕ) → length (details_in depth start es) ≡ entries# es
unfolding details_in
rows-many end depth start = refl
rows-many (entry e members later) depth start =
    omega (
      arith,
      length-append (details_in (depth + 1) (start + e.offset) members) (details_in depth start later),
      rows-many members (depth + 1) (start + e.offset),
      rows-many later depth start,
    )

bytes-many : (xs : List Detail) → length (details_bytes xs) ≡ 63 * length xs
unfolding details_bytes
bytes-many [] = refl
bytes-many (x ∷ xs) = omega (arith, length-append (detail_bytes x) (details_bytes xs), detail-length x, bytes-many xs)

pub bytes-both : (xs ys : List Detail) → details_bytes (xs ++ ys) ≡ details_bytes xs ++ details_bytes ys
unfolding details_bytes
bytes-both [] ys = refl
bytes-both (x ∷ xs) ys = simp (bytes-both xs ys, append_assoc)

root-length : (root : Option Statement) → length (root_bytes root) ≡ 13
root-length root = grind arith

-- as many rows as the listing has entries, after the head
pub details-length : (root : Option Statement) (es : Entries) → length (listing_details root es) ≡ 17 + 63 * entries# es
unfolding listing_details
details-length root es =
    omega (
      arith,
      length-append (root_bytes root ++ le4 (entries# es)) (details_bytes (details_in 0 0 es)),
      length-append (root_bytes root) (le4 (entries# es)),
      root-length root,
      bytes-many (details_in 0 0 es),
      rows-many es 0 0,
    )

-- ---------------------------------------------------------------- the first byte of a member

module _ (depth : ℕ) (g : Detail) (before : List Detail) where
  around-hit : g.depth < depth → group_around depth (g ∷ before) ≡ Some g
  unfolding group_around
  around-hit h = grind arith

  around-miss : depth ≤ g.depth → group_around depth (g ∷ before) ≡ group_around depth before
  unfolding group_around
  around-miss h = grind arith

-- a list whose start is the first byte of the group around it, and rows after it
inside-list :
    (es : Entries) (depth start : ℕ) (before after : List Detail) →
    first_of (group_around depth before) ≡ start →
    ((now : List Detail) → ((d : ℕ) → d ≤ depth → group_around d now ≡ group_around d before) → FirstBytes now after) →
    FirstBytes before (details_in depth start es ++ after)
unfolding details_in
inside-list end depth start before after h k = k before (λ d _. refl)
inside-list (entry e members later) depth start before after h k =
    let x = detail e depth (entries# members) (start + e.offset) in
    let a = details_in (depth + 1) (start + e.offset) members in
    let b = details_in depth start later in
    let same : a ++ (b ++ after) ≡ (a ++ b) ++ after = sym (append_assoc a b after) in
    let past : (d : ℕ) → d ≤ depth → group_around d (x ∷ before) ≡ group_around d before =
    λ d l. around-miss d x before l in (
      ap (λ (n : ℕ). n + e.offset) (sym h),
      subst (FirstBytes (x ∷ before)) same
          (inside-list members (depth + 1) (start + e.offset) (x ∷ before) (b ++ after) (ap first_of (around-hit (depth + 1) x before (omega arith))) (λ now q.
          inside-list later depth start now after
          (ap first_of (q depth (omega arith) ∙ past depth (omega arith)) ∙ h)
          (λ last p. k last (λ d l. p d l ∙ q d (omega arith) ∙ past d l)))),
    )

pub inside : (es : Entries) → FirstBytes [] (details_in 0 0 es)
unfolding group_around
inside es = subst (FirstBytes []) (append-nil (details_in 0 0 es)) (inside-list es 0 0 [] [] refl (λ now _. tt))

-- ---------------------------------------------------------------- slack

module _ (text : List ℕ) where
  -- an item without REDEFINES does not start before the cursor
  start-low :
      (s : Statement) (kids : Forest) (base : ℕ) (seen : List Place) (cursor offset : ℕ) →
      is_given s.clauses.redefines ≡ false →
      start text s kids seen base cursor ≡ Ok offset →
      cursor ≤ offset
  start-low s kids base seen cursor offset g h =
      omega (arith, given-same (sym (start-given text base cursor seen s kids g) ∙ h))

  laid-following :
      (f : Forest) (depth base : ℕ) (seen : List Place) (cursor reach : ℕ) (l : Laid) →
      lay text depth base seen cursor reach f ≡ Ok l →
      Following cursor l.entries
  unfolding lay
  laid-following leaf depth base seen cursor reach l h =
      subst (λ (x : Laid). Following cursor x.entries) (given-same h) tt
  laid-following (item s kids later) depth base seen cursor reach l h =
      let r = item-laid text depth base seen cursor reach s kids later l h in
      let e = entry_laid text s kids cursor r.has r.offset r.inner in
      subst (λ (x : Laid). Following cursor x.entries) (sym r.result) (
        λ g. grind arith,
        λ g. grind (arith, start-low s kids base seen cursor r.offset g r.begins),
        laid-following kids (suc depth) (base + r.offset) [] 0 0 r.inner r.inner-laid,
        laid-following later depth base (place_of e ∷ seen) (advance cursor e)
            (max reach (entry_end e)) r.rest r.later-laid,
      )

  -- before folding, slack begins where the latest earlier item without REDEFINES ended
  pub following : (f : Forest) (es : Entries) → unfolded text f ≡ Ok es → Following 0 es
  following f es h =
      let r = laid-out text f es h in subst (Following 0) r.is (laid-following f 0 0 [] 0 0 r.list r.list-laid)

-- ---------------------------------------------------------------- how deep

module _ (text : List ℕ) where
  -- lists nest at most 65 deep: 20 refuses more
  laid-height :
      (f : Forest) (depth base : ℕ) (seen : List Place) (cursor reach : ℕ) (l : Laid) →
      lay text depth base seen cursor reach f ≡ Ok l →
      depth ≤ 64 →
      depth + height l.entries ≤ 65
  unfolding lay
  laid-height leaf depth base seen cursor reach l h d =
      omega (arith, ap (λ (x : Laid). height x.entries) (given-same h))
  laid-height (item s kids later) depth base seen cursor reach l h d =
      let r = item-laid text depth base seen cursor reach s kids later l h in
      let e = entry_laid text s kids cursor r.has r.offset r.inner in
      omega (
        arith,
        ap (λ (x : Laid). height x.entries) r.result,
        laid-height later depth base (place_of e ∷ seen) (advance cursor e)
            (max reach (entry_end e)) r.rest r.later-laid d,
        below kids (base + r.offset) r.nested r.inner-laid
            (laid-height kids (suc depth) (base + r.offset) [] 0 0 r.inner r.inner-laid),
      )
    where
      below :
          (kids : Forest) (start : ℕ) {inner : Laid} →
          shallow (suc depth) kids ≡ Ok tt →
          lay text (suc depth) start [] 0 0 kids ≡ Ok inner →
          (suc depth ≤ 64 → suc depth + height inner.entries ≤ 65) →
          suc depth + height inner.entries ≤ 65
      below kids start n e k = grind arith

  -- folding a list adds one at most
  append-height : (a b : Entries) → height (append a b) ≤ max (height a) (height b)
  unfolding append
  append-height end b = omega arith
  append-height (entry e m later) b = omega (arith, append-height later b)

  redefiners-height : (base : Place) (es : Entries) → height (redefiners text base es) ≤ height es
  unfolding redefiners
  redefiners-height base end = omega arith
  redefiners-height base (entry e m later) = grind (arith, redefiners-height base later)

  members-height :
      (b : Bool) (e : Entry) (m rs : Entries) →
      height (if b then append m rs else entry e m rs) ≤ max (suc (height m)) (height rs)
  members-height b e m rs = grind (arith, append-height m rs)

  union-height :
      (e : Entry) (m rs later : Entries) →
      height (with_redefiners text e m rs later) ≤ max (suc (max (suc (height m)) (height rs))) (height later)
  union-height e m rs later = grind (arith, members-height)

  fold-height : (es : Entries) (bases : List Place) → height (folded_list text bases es) ≤ suc (height es)
  unfolding folded_list
  fold-height end bases = omega arith
  fold-height (entry e m later) bases =
      grind (
        arith,
        fold-height later bases,
        fold-height later (place_of e ∷ bases),
        union-height e m (redefiners text (place_of e) later) (folded_list text (place_of e ∷ bases) later),
        redefiners-height (place_of e) later,
      )

  all-height :
      (es : Entries) →
      height (folded_below text es) ≤ 2 * height es - 1 →
      height (folded_all text es) ≤ 2 * height es
  unfolding folded_below folded_list
  all-height end h = omega arith
  all-height (entry e m later) h = omega (arith, fold-height (folded_below text (entry e m later)) [])

  below-height : (es : Entries) → height (folded_below text es) ≤ 2 * height es - 1
  unfolding folded_below
  below-height end = omega arith
  below-height (entry e m later) = omega (arith, all-height m (below-height m), below-height later)

  -- the lists of a listing nest at most 130 deep
  pub listing-height : (f : Forest) (es : Entries) → unfolded text f ≡ Ok es → height (folded_all text es) ≤ 130
  listing-height f es h =
      let r = laid-out text f es h in
      omega (
        arith,
        ap height r.is,
        laid-height f 0 0 [] 0 0 r.list r.list-laid (omega arith),
        all-height es (below-height es),
      )
