-- How large a folded listing is: folding adds an entry for two of the list at most, so a listing has at most three
-- entries for two statements, and at most 49 bytes an entry. Each redefiner stands under one base alone: that is what
-- is counted here.
-- Assumes nothing.
use Prim.Native.Nat.{ℕ, suc, ◌+◌, ◌*◌, ◌≤◌}
use mathlib.Core.Path.{◌≡◌, refl, sym, ◌∙◌, ap}
use mathlib.Core.Bool.{Bool, true, false}
use mathlib.Core.List.{List, [], ◌∷◌, ◌++◌}
use Rattle.std.specs.Prelude.{Option, None, Some}
use native.Mathlib.Omega.{arith}
use lib.ListN.{length, length-append}
use Rattle.definition.specs.declared.Span.{Span}
use Rattle.definition.specs.declared.Entry.{Entry}
use Rattle.std.specs.Prelude.{if◌then◌else◌}
use Rattle.definition.specs.Basic.{is_given}
use Rattle.definition.specs.Fold.{Entries, end, entry, append, same_name, Place, place_of, find, has_member, rebased}
use Rattle.definition.specs.Fold.{redefiners, with_redefiners, has_base, folded_list, folded_below, folded_all}
use Rattle.definition.specs.Listing.{members#, entry_bytes, entries_bytes}
use Rattle.definition.specs.Search.{entries#}
use Rattle.definition.proofs.LayoutLaws.{find_none, find-hit, find-miss, redefiners-none, redefiners-hit}
use Rattle.definition.proofs.LayoutLaws.{redefiners-miss, redefiners-ends, redefiners-next, append-none, append-entry}
use Rattle.definition.proofs.ListingLaws.{bytes-none, bytes-entry, entry_length}
use Rattle.text.proofs.SameLaws.{swapped, same_first}
use Rattle.layout.proofs.FoldedLaws.{list-base, list-alone, list-under}
use Rattle.fold.proofs.PutLaws.{details-most}

-- what the entries of a list weigh: two for each of them and those below, and one more for each of its own
abbrev weight : Entries → ℕ
weight es = 2 * entries# es + members# es

module _ (text : List ℕ) where
  -- ---------------------------------------------------------------- bases of other names

  -- no place has that name
  abbrev Absent : Span → List Place → Type 0
  Absent w [] = Unit {0}
  Absent w (p ∷ ps) = (same_name text w p.name ≡ false) × Absent w ps

  -- the places of other names
  abbrev others : Span → List Place → List Place
  others w [] = []
  others w (p ∷ ps) = if same_name text w p.name then others w ps else p ∷ others w ps

  -- leaving names out adds none
  absent-others : (w v : Span) (ps : List Place) → Absent w ps → Absent w (others v ps)
  absent-others w v [] a = tt
  absent-others w v (p ∷ ps) a = by_name (same_name text v p.name) (absent-others w v ps a.1)
    where
      by_name : (b : Bool) → Absent w (others v ps) → Absent w (if b then others v ps else p ∷ others v ps)
      by_name true ih = ih
      by_name false ih = (a.0, ih)

  others-absent : (w : Span) (ps : List Place) → Absent w (others w ps)
  others-absent w [] = tt
  others-absent w (p ∷ ps) = by_name (same_name text w p.name) refl (others-absent w ps)
    where
      by_name : (b : Bool) → same_name text w p.name ≡ b → Absent w (others w ps) → Absent w (if b then others w ps else p ∷ others w ps)
      by_name true h ih = ih
      by_name false h ih = (h, ih)

  -- a search for a name that no place has finds none
  absent_none : (w v : Span) (ps : List Place) → same_name text w v ≡ true → Absent w ps → find text v ps ≡ None
  absent_none w v [] h a = find_none text v
  absent_none w v (p ∷ ps) h a = find-miss text v p ps (sym (same_first text w v p.name h) ∙ a.0) ∙ absent_none w v ps h a.1

  -- ---------------------------------------------------------------- what stands under earlier bases

  -- the entries of a list, with those below them, that stand under one of these bases: a base of the list takes the
  -- place of one of its name
  unfoldable under : List Place → Entries → ℕ
  under vs end = 0
  under vs (entry y m later) =
      if is_given y.redefines then (if has_base (find text y.redefines vs) then 2 * suc (entries# m) + 1 else 0) + under vs later
      else under (others y.name vs) later

  module _ (vs : List Place) (y : Entry) (m later : Entries) where
    under-redefiner : is_given y.redefines ≡ true → under vs (entry y m later) ≡ (if has_base (find text y.redefines vs) then 2 * suc (entries# m) + 1 else 0) + under vs later
    unfolding under
    under-redefiner g = rw (g, under)

    under-found : is_given y.redefines ≡ true → {b : ℕ} → find text y.redefines vs ≡ Some b → under vs (entry y m later) ≡ 2 * suc (entries# m) + 1 + under vs later
    under-found g h = under-redefiner g ∙ rw h

    under_none : is_given y.redefines ≡ true → find text y.redefines vs ≡ None → under vs (entry y m later) ≡ under vs later
    under_none g h = under-redefiner g ∙ rw h (omega arith)

    under-base : is_given y.redefines ≡ false → under vs (entry y m later) ≡ under (others y.name vs) later
    unfolding under
    under-base g = rw (g, under)

  -- one base more takes the redefiners of its name
  module _ (x : Place) (ws : List Place) (y : Entry) (m later : Entries) (a : Absent x.name ws) where
    split-redefiner :
        is_given y.redefines ≡ true →
        weight (redefiners text x later) + under ws later ≡ under (x ∷ ws) later →
        (t : Bool) →
        same_name text x.name y.redefines ≡ t →
        weight (redefiners text x (entry y m later)) + under ws (entry y m later) ≡ under (x ∷ ws) (entry y m later)
    split-redefiner g ih true h =
        let hit : find text y.redefines (x ∷ ws) ≡ Some x.offset = find-hit text y.redefines x ws (swapped text y.redefines x.name ∙ h) in
        omega (
          arith,
          ap weight (redefiners-hit text x y m later g h),
          under_none ws y m later g (absent_none x.name y.redefines ws h a),
          under-found (x ∷ ws) y m later g hit,
        )
    split-redefiner g ih false h =
        let miss : find text y.redefines (x ∷ ws) ≡ find text y.redefines ws = find-miss text y.redefines x ws (swapped text y.redefines x.name ∙ h) in
        omega (
          arith,
          ap weight (redefiners-miss text x y m later g h),
          under-redefiner ws y m later g,
          under-redefiner (x ∷ ws) y m later g,
          ap (λ (o : Option ℕ). if has_base o then 2 * suc (entries# m) + 1 else 0) miss,
        )

    split-base :
        is_given y.redefines ≡ false →
        weight (redefiners text x later) + under (others y.name ws) later ≡ under (x ∷ others y.name ws) later →
        (t : Bool) →
        same_name text x.name y.name ≡ t →
        weight (redefiners text x (entry y m later)) + under ws (entry y m later) ≡ under (x ∷ ws) (entry y m later)
    split-base g ih true h =
        let out : others y.name (x ∷ ws) ≡ others y.name ws = rw (swapped text y.name x.name ∙ h) in
        omega (
          arith,
          ap weight (redefiners-ends text x y m later g h),
          under-base ws y m later g,
          under-base (x ∷ ws) y m later g,
          ap (λ (vs : List Place). under vs later) out,
        )
    split-base g ih false h =
        let stay : others y.name (x ∷ ws) ≡ x ∷ others y.name ws = rw (swapped text y.name x.name ∙ h) in
        omega (
          arith,
          ap weight (redefiners-next text x y m later g h),
          under-base ws y m later g,
          under-base (x ∷ ws) y m later g,
          ap (λ (vs : List Place). under vs later) stay,
        )

  split : (ys : Entries) (x : Place) (ws : List Place) → Absent x.name ws → weight (redefiners text x ys) + under ws ys ≡ under (x ∷ ws) ys
  unfolding under
  split end x ws a = omega (arith, ap weight (redefiners-none text x))
  split (entry y m later) x ws a = by-given (is_given y.redefines) refl (split later x ws a) (split later x (others y.name ws) (absent-others x.name y.name ws a))
    where
      by-given :
          (b : Bool) →
          is_given y.redefines ≡ b →
          weight (redefiners text x later) + under ws later ≡ under (x ∷ ws) later →
          weight (redefiners text x later) + under (others y.name ws) later ≡ under (x ∷ others y.name ws) later →
          weight (redefiners text x (entry y m later)) + under ws (entry y m later) ≡ under (x ∷ ws) (entry y m later)
      by-given true g ih ihs = split-redefiner x ws y m later a g ih (same_name text x.name y.redefines) refl
      by-given false g ih ihs = split-base x ws y m later a g ihs (same_name text x.name y.name) refl

  -- ---------------------------------------------------------------- folding adds no more entries than the list has

  -- what is found among the ones is found among the others
  abbrev Among : List Place → List Place → Type 0
  Among vs bases = (w : Span) → find text w bases ≡ None → find text w vs ≡ None

  append-size : (a b : Entries) → entries# (append a b) ≡ entries# a + entries# b
  append-size end b = omega (arith, ap entries# (append-none b))
  append-size (entry e m later) b = omega (arith, ap entries# (append-entry e m later b), append-size later b)

  -- a base with its redefiners: one entry more
  member-size : (b : Bool) (e : Entry) (m rs : Entries) → entries# (if b then append m rs else entry e m rs) ≤ 1 + entries# m + entries# rs
  member-size true e m rs = omega (arith, append-size m rs)
  member-size false e m rs = omega arith

  union-size : (e : Entry) (m rs later : Entries) → 2 * entries# (with_redefiners text e m rs later) ≤ 3 + 2 * entries# m + weight rs + 2 * entries# later
  union-size e m end later = omega arith
  union-size e m (entry r ms rs) later = omega (arith, member-size (has_member text e.name m) (rebased e.offset e) m (entry r ms rs))

  -- where a search finds none, no place has the name, nor has any of fewer places
  none_first : (w : Span) (p : Place) (ps : List Place) → find text w (p ∷ ps) ≡ None → (same_name text w p.name ≡ false) × (find text w ps ≡ None)
  none_first w p ps h = by_name (same_name text w p.name) refl
    where
      by_name : (b : Bool) → same_name text w p.name ≡ b → (same_name text w p.name ≡ false) × (find text w ps ≡ None)
      by_name true e = absurd (let hit = find-hit text w p ps e in let z : ◌≡◌ {A = ℕ} 0 1 = cc in omega arith)
      by_name false e = (e, sym (find-miss text w p ps e) ∙ h)

  none-others : (w v : Span) (ps : List Place) → find text w ps ≡ None → find text w (others v ps) ≡ None
  none-others w v [] h = h
  none-others w v (p ∷ ps) h = let f = none_first w p ps h in by_name (same_name text v p.name) f.0 (none-others w v ps f.1)
    where
      by_name : (b : Bool) → same_name text w p.name ≡ false → find text w (others v ps) ≡ None → find text w (if b then others v ps else p ∷ others v ps) ≡ None
      by_name true e ih = ih
      by_name false e ih = find-miss text w p (others v ps) e ∙ ih

  -- one base more, in place of those of its name
  among-base : (x : Place) (vs bases : List Place) → Among vs bases → Among (x ∷ others x.name vs) (x ∷ bases)
  among-base x vs bases a w h =
      let f = none_first w x bases h in
      find-miss text w x (others x.name vs) f.0 ∙ none-others w x.name vs (a w f.1)

  module _ (y : Entry) (m later : Entries) (vs bases : List Place) (a : Among vs bases) where
    -- a list that begins with this entry
    abbrev Fits : Type 0
    Fits = 2 * entries# (folded_list text bases (entry y m later)) + under vs (entry y m later) ≤ weight (entry y m later)

    module _ (g : is_given y.redefines ≡ true) (ih : 2 * entries# (folded_list text bases later) + under vs later ≤ weight later) where
      fits_under : {b : ℕ} → find text y.redefines bases ≡ Some b → (o : Option ℕ) → find text y.redefines vs ≡ o → Fits
      fits_under h None e = omega (arith, ap entries# (list-under text bases y m later g h), under_none vs y m later g e)
      fits_under h (Some c) e = omega (arith, ap entries# (list-under text bases y m later g h), under-found vs y m later g e)

      fits-redefiner : (o : Option ℕ) → find text y.redefines bases ≡ o → Fits
      fits-redefiner None h = omega (arith, ap entries# (list-alone text bases y m later g h), under_none vs y m later g (a y.redefines h))
      fits-redefiner (Some b) h = fits_under h (find text y.redefines vs) refl

    fits-base :
        is_given y.redefines ≡ false →
        2 * entries# (folded_list text (place_of y ∷ bases) later) + under (place_of y ∷ others y.name vs) later ≤ weight later →
        Fits
    fits-base g ih =
        omega (
          arith,
          ap entries# (list-base text bases y m later g),
          union-size y m (redefiners text (place_of y) later) (folded_list text (place_of y ∷ bases) later),
          under-base vs y m later g,
          split later (place_of y) (others y.name vs) (others-absent y.name vs),
        )

    fits-either :
        2 * entries# (folded_list text bases later) + under vs later ≤ weight later →
        2 * entries# (folded_list text (place_of y ∷ bases) later) + under (place_of y ∷ others y.name vs) later ≤ weight later →
        (b : Bool) →
        is_given y.redefines ≡ b →
        Fits
    fits-either ih ihs true g = fits-redefiner g ih (find text y.redefines bases) refl
    fits-either ih ihs false g = fits-base g ihs

  fold-size : (xs : Entries) (vs bases : List Place) → Among vs bases → 2 * entries# (folded_list text bases xs) + under vs xs ≤ weight xs
  unfolding under folded_list
  fold-size end vs bases a = omega arith
  fold-size (entry y m later) vs bases a =
      fits-either y m later vs bases a (fold-size later vs bases a) (fold-size later (place_of y ∷ others y.name vs) (place_of y ∷ bases) (among-base (place_of y) vs bases a)) (is_given y.redefines) refl

  -- ---------------------------------------------------------------- a whole listing

  below-members : (es : Entries) → members# (folded_below text es) ≡ members# es
  unfolding folded_below
  below-members end = refl
  below-members (entry e m later) = ap suc (below-members later)

  below-size : (es : Entries) → 2 * entries# (folded_below text es) + members# es ≤ 3 * entries# es
  unfolding folded_below under
  below-size end = omega arith
  below-size (entry e m later) =
      omega (arith, fold-size (folded_below text m) [] [] (λ w h. h), below-members m, below-size m, below-size later)

  -- a listing has at most three entries for two statements
  pub folded-size : (es : Entries) → 2 * entries# (folded_all text es) ≤ 3 * entries# es
  folded-size es = omega (arith, fold-size (folded_below text es) [] [] (λ w h. h), below-members es, below-size es)

-- an entry has at most 49 bytes
pub bytes-few : (es : Entries) → length (entries_bytes es) ≤ 49 * entries# es
bytes-few end = omega (arith, ap length bytes-none)
bytes-few (entry e m later) =
    omega (
      arith,
      ap length (bytes-entry e m later),
      length-append (entry_bytes e (members# m)) (entries_bytes m ++ entries_bytes later),
      length-append (entries_bytes m) (entries_bytes later),
      entry_length e (members# m),
      details-most e.kind,
      bytes-few m,
      bytes-few later,
    )

-- so the bytes of a listing's entries are at most 147 for two statements
pub listing-few : (text : List ℕ) (es : Entries) → 2 * length (entries_bytes (folded_all text es)) ≤ 147 * entries# es
listing-few text es = omega (arith, bytes-few (folded_all text es), folded-size text es)
