-- A copybook with no SYNC below the fields of its record, and no refusal inside a group whose target is missing, has
-- the entries that it had while alignment restarted in each list: no item below is aligned, so that no place counts,
-- and no group has slack at its end.
-- Assumes nothing.
use Prim.Native.Nat.{ℕ, zero, suc, ◌+◌, max, ◌≤◌}
use mathlib.Core.Path.{◌≡◌, refl, sym, ◌∙◌, ap, subst}
use mathlib.Core.Bool.{true, false, ◌&&◌, ◌||◌, not}
use mathlib.Core.List.{List, [], ◌∷◌, map}
use lib.ListN.{length, replicate, length-append, length-replicate}
use borrow.Author.Tests.{ltb-false}
use mathlib.Core.Logic.{◌⊎◌, inl, inr}
use native.Mathlib.Omega.{arith}
use lib.Dec.{ltb}
use Rattle.std.proofs.lemmas.Bool.{and_parts}
use Rattle.std.specs.Prelude.{Option, None, Some, if◌then◌else◌}
use Rattle.definition.specs.declared.Span.{Span}
use Rattle.definition.specs.declared.Usage.{Usage}
use Rattle.definition.specs.declared.SignKind.{SignKind}
use Rattle.definition.specs.Picture.{trim, expand, too_long, pictured, kinded, symbols, picture}
use Rattle.definition.specs.declared.Statement.{Statement}
use Rattle.definition.specs.declared.FieldKind.{FieldKind}
use Rattle.definition.specs.declared.Pictured.{Pictured}
use Rattle.definition.specs.declared.Entry.{Entry}
use Rattle.definition.specs.declared.Refusal.{Refusal}
use Rattle.definition.specs.declared.TheConstants.{MOST_SYMBOLS, LARGEST}
use Rattle.definition.specs.Basic.{upper, is_given, fewest, Answer, Err, Ok, ◌>>=◌, and_then, refuse_if, or_refuse}
use Rattle.definition.specs.Tree.{Forest, leaf, item}
use Rattle.definition.specs.Storage.{place_alignment, alignment, width_alignment}
use Rattle.definition.specs.Fold.{end, entry, entry_end, Place, place_of, same_name, find, fold_check}
use Rattle.definition.specs.Layout.{shallow, content, start, slack_from, entry_of, too_large, advance, Laid, lay}
use Rattle.definition.specs.Record.{unfolded, layout}
use Rattle.definition.specs.Calls.{record_tree, record_fields, entries}
use Rattle.theorems.specs.Restarted.{too_large_then, lay_restarted, layout_restarted, entries_restarted, unsynced}
use Rattle.theorems.specs.Restarted.{unsynced_below, some_named, is_laid, none_lost, plain_slack}
use Rattle.definition.proofs.Lists.{by_cases}
use Rattle.definition.proofs.Alignment.{fewest-one}
use Rattle.definition.proofs.PictureLaws.{tally-le, without-length}
use Rattle.definition.proofs.LayoutLaws.{find-hit, find-miss}
use Rattle.definition.proofs.Answers.{through, given-same, not-refused}

-- ---------------------------------------------------------------- a list without SYNC

-- a list that starts the record, or one without SYNC, and none below it
abbrev Calm : ℕ → Forest → Type 0
Calm base leaf = Unit {0}
Calm base (item s kids later) =
    ((base ≡ 0) ⊎ (s.clauses.sync ≡ false)) × (unsynced kids ≡ true) × Calm base later

calm-list : (base : ℕ) (f : Forest) → unsynced f ≡ true → Calm base f
calm-list base leaf h = tt
calm-list base (item s kids later) h = grind (arith, calm-list base later)

calm-top : (f : Forest) → unsynced_below f ≡ true → Calm 0 f
calm-top leaf h = tt
calm-top (item s kids later) h = grind (arith, calm-top later)

module _ (text : List ℕ) where
  unsynced-place : (s : Statement) (kids : Forest) → s.clauses.sync ≡ false → place_alignment text s kids ≡ 1
  unsynced-place s kids h = grind arith

  unsynced-list : (f : Forest) → unsynced f ≡ true → alignment text f ≡ 1
  unfolding alignment
  unsynced-list leaf h = refl
  unsynced-list (item s kids later) h = grind (arith, unsynced-place s kids, unsynced-list kids, unsynced-list later)

  start-calm :
      (s : Statement) (kids : Forest) (seen : List Place) (base cursor : ℕ) →
      (base ≡ 0) ⊎ (s.clauses.sync ≡ false) →
      start text s kids seen base cursor ≡ start text s kids seen 0 cursor
  start-calm s kids seen base cursor (inl z) = ap (λ (b : ℕ). start text s kids seen b cursor) z
  start-calm s kids seen base cursor (inr h) =
      let none : (b : ℕ) → fewest (place_alignment text s kids) b ≡ 0 =
      λ b. ap (λ (x : ℕ). fewest x b) (unsynced-place s kids h) ∙ fewest-one b in
      ap
      (λ (n : ℕ). if is_given s.clauses.redefines then or_refuse (Refusal.NoTarget s.at)
      (find text s.clauses.redefines seen)
      else Ok (cursor + n))
      (none (base + cursor) ∙ sym (none (0 + cursor)))

  calm-end :
      (s : Statement) (kids : Forest) (long : ℕ) →
      unsynced kids ≡ true →
      fewest (width_alignment text s kids) long ≡ 0
  calm-end s kids long h =
      let one : width_alignment text s kids ≡ 1 = grind (arith, unsynced-list kids h) in
      ap (λ (x : ℕ). fewest x long) one ∙ fewest-one long

  -- ---------------------------------------------------------------- targets

  -- a name that an earlier sibling has is found
  found-named :
      (w : Span) (seen : List Place) →
      some_named text w (map (λ p. p.name) seen) ≡ true →
      (n : ℕ) × (find text w seen ≡ Some n)
  found-named w [] h = absurd (cc)
  found-named w (p ∷ seen) h =
      by_cases (same_name text w p.name)
      (λ y. (p.offset, find-hit text w p seen y))
      (λ y. let r = found-named w seen (grind arith) in (r.0, find-miss text w p seen y ∙ r.1))

  -- an item that starts nowhere redefines what no earlier sibling is named
  lost :
      (s : Statement) (kids : Forest) (seen : List Place) (base cursor : ℕ) (r : Refusal) →
      start text s kids seen base cursor ≡ Err r →
      (not (is_given s.clauses.redefines) || some_named text s.clauses.redefines (map (λ p. p.name) seen)) ≡ false
  lost s kids seen base cursor r h =
      by_cases (is_given s.clauses.redefines)
      (λ g. by_cases (some_named text s.clauses.redefines (map (λ p. p.name) seen))
      (λ y. let n = found-named s.clauses.redefines seen y in absurd (grind (arith, n.1)))
      (λ y. rw (g, y)))
      (λ g. absurd (grind arith))

-- ---------------------------------------------------------------- widths

-- no more symbols than a picture may have
expand-long :
    (bs : List ℕ) (at n skip : ℕ) (l : List ℕ) →
    expand at n skip bs ≡ Ok l →
    n ≤ MOST_SYMBOLS →
    n + length l ≤ MOST_SYMBOLS
unfolding expand
expand-long [] at n skip l h k = omega (arith, ap length (given-same h))
expand-long (b ∷ bs) at n (suc skip) l h k = expand-long bs at n skip l h k
expand-long (b ∷ bs) at n zero l h k =
    through _ _ h λ r e₁ h₁.
    through _ _ h₁ λ _ e₂ h₂.
    through _ _ h₂ λ more e₃ h₃.
    let few : n + r.0 ≤ MOST_SYMBOLS =
    ltb-false MOST_SYMBOLS (n + r.0) (not-refused (ltb MOST_SYMBOLS (n + r.0)) _ e₂) in
    omega (
      arith,
      expand-long bs at (n + r.0) r.1 more e₃ few,
      ap length (given-same h₃),
      length-append (replicate r.0 (upper b)) more,
      length-replicate r.0 (upper b),
    )

kinded-width :
    (u : Usage) (sign : Option SignKind) (l : List ℕ) →
    length l ≤ MOST_SYMBOLS →
    too_long u l ≡ false →
    (kinded u sign l).width ≤ LARGEST
unfolding kinded
kinded-width u sign l h k = grind (arith, tally-le, without-length)

picture-width :
    (at : ℕ) (u : Usage) (sign : Option SignKind) (bs : List ℕ) (c : Pictured) →
    picture at u sign bs ≡ Ok c →
    c.width ≤ LARGEST
unfolding picture symbols
picture-width at u sign bs c h =
    through _ _ h λ l e h₁.
    through _ _ e λ l' e₁ g₁.
    through _ _ g₁ λ _ e₂ g₂.
    through _ _ g₂ λ _ e₃ g₃.
    through _ _ g₃ λ _ e₄ g₄.
    let few = expand-long (trim bs) at 0 0 l' e₁ (omega arith) in
    let short = not-refused (too_long u l') _ e₄ in
    let same : l' ≡ l = given-same g₄ in
    subst (λ (x : Pictured). x.width ≤ LARGEST) (ap (kinded u sign) same ∙ given-same h₁)
    (kinded-width u sign l' (omega arith) short)

module _ (text : List ℕ) where
  content-width : (s : Statement) (kids : Forest) (c : Pictured) → content text s kids ≡ Ok c → c.width ≤ LARGEST
  unfolding and_then
  content-width s kids c h = grind (arith, picture-width)

  list-width :
      (f : Forest) (depth : ℕ) (seen : List Place) (cursor reach : ℕ) (l : Laid) →
      reach ≤ LARGEST →
      lay_restarted text depth seen cursor reach f ≡ Ok l →
      l.width ≤ LARGEST
  unfolding lay_restarted
  list-width leaf depth seen cursor reach l k h = omega (arith, ap (λ (x : Laid). x.width) (given-same h))
  list-width (item s kids later) depth seen cursor reach l k h =
      through _ _ h λ _ _ h₁.
      through _ _ h₁ λ inner _ h₂.
      through _ _ h₂ λ _ _ h₃.
      through _ _ h₃ λ c _ h₄.
      through _ _ h₄ λ offset _ h₅.
      let e = entry_of s c offset (slack_from cursor s offset) inner.width 0 in
      through _ _ h₅ λ _ small h₆.
      through _ _ h₆ λ rest later_laid h₇.
      let fits : entry_end e ≤ LARGEST = grind (arith, not-refused (too_large_then e) _ small) in
      let ih =
      list-width later depth (place_of e ∷ seen) (advance cursor e) (max reach (entry_end e)) rest
      (omega arith) later_laid in
      omega (arith, ap (λ (x : Laid). x.width) (given-same h₇))

  -- ---------------------------------------------------------------- one item

  -- its start said before its list is laid, and after
  swapped :
      (begins : Answer ℕ) (deep : Answer (Unit {0})) (list : Answer Laid) (check : Laid → Answer (Unit {0}))
      (now before : ℕ → Laid → Answer Laid) →
      ((r : Refusal) → begins ≡ Err r → (i : Laid) × (deep ≡ Ok tt) × (list ≡ Ok i) × (check i ≡ Ok tt)) →
      ((offset : ℕ) (i : Laid) → list ≡ Ok i → now offset i ≡ before offset i) →
      (begins >>= λ offset. deep >>= λ _. list >>= λ i. check i >>= λ _. now offset i)
      ≡ (deep >>= λ _. list >>= λ i. check i >>= λ _. begins >>= λ offset. before offset i)
  unfolding and_then
  swapped begins deep list check now before lost same = grind (arith, lost, same)

  too-large-same : (e : Entry) → e.width ≤ LARGEST → too_large e ≡ too_large_then e
  too-large-same e h = grind arith

  -- the rest of an item, once its list is laid
  abbrev rest_now : ℕ → ℕ → List Place → ℕ → ℕ → Statement → Forest → Forest → Pictured → ℕ → Laid → Answer Laid
  rest_now depth base seen cursor reach s kids later c offset inner = do
    let slack_at_end = fewest (width_alignment text s kids) (c.width + inner.width)
    let e = entry_of s c offset (slack_from cursor s offset) inner.width slack_at_end
    _ ← refuse_if (too_large e) (Refusal.TooLarge s.at)
    l ← lay text depth base (place_of e ∷ seen) (advance cursor e) (max reach (entry_end e)) later
    Ok (record { entries = entry e inner.entries l.entries; width = l.width })

  abbrev rest_then : ℕ → List Place → ℕ → ℕ → Statement → Forest → Pictured → ℕ → Laid → Answer Laid
  rest_then depth seen cursor reach s later c offset inner = do
    let e = entry_of s c offset (slack_from cursor s offset) inner.width 0
    _ ← refuse_if (too_large_then e) (Refusal.TooLarge s.at)
    l ← lay_restarted text depth (place_of e ∷ seen) (advance cursor e) (max reach (entry_end e)) later
    Ok (record { entries = entry e inner.entries l.entries; width = l.width })

  rest-same :
      (depth base : ℕ) (seen : List Place) (cursor reach : ℕ) (s : Statement) (kids later : Forest) (c : Pictured)
      (offset : ℕ) (inner : Laid) →
      unsynced kids ≡ true →
      c.width + inner.width ≤ LARGEST →
      ((n cursor' reach' : ℕ) →
      let seen' = record { name = s.name; offset = n } ∷ seen in
      lay text depth base seen' cursor' reach' later ≡ lay_restarted text depth seen' cursor' reach' later) →
      rest_now depth base seen cursor reach s kids later c offset inner
      ≡ rest_then depth seen cursor reach s later c offset inner
  rest-same depth base seen cursor reach s kids later c offset inner calm fits ih =
      let e = entry_of s c offset (slack_from cursor s offset) inner.width 0 in
      ap
      (λ (n : ℕ). do
        let e = entry_of s c offset (slack_from cursor s offset) inner.width n
        _ ← refuse_if (too_large e) (Refusal.TooLarge s.at)
        l ← lay text depth base (place_of e ∷ seen) (advance cursor e) (max reach (entry_end e)) later
        Ok (record { entries = entry e inner.entries l.entries; width = l.width }))
      (calm-end text s kids (c.width + inner.width) calm)
      ∙ (λ i. do
        _ ← refuse_if (too-large-same e (omega arith) i) (Refusal.TooLarge s.at)
        l ← ih offset (advance cursor e) (max reach (entry_end e)) i
        Ok (record { entries = entry e inner.entries l.entries; width = l.width }))

  -- ---------------------------------------------------------------- a list

  -- what comes of an answer is the same where it is that
  bind-same :
      {A B : Type 0} (a : Answer A) (f g : A → Answer B) →
      ((x : A) → a ≡ Ok x → f x ≡ g x) →
      (a >>= f) ≡ (a >>= g)
  unfolding and_then
  bind-same (Err r) f g h = refl
  bind-same (Ok x) f g h = h x refl

  -- a list of a group that is lost was laid
  was-laid :
      (depth : ℕ) (kids : Forest) →
      is_laid text depth kids ≡ true →
      (i : Laid) × (shallow depth kids ≡ Ok tt) × (lay_restarted text depth [] 0 0 kids ≡ Ok i) ×
      (fold_check text [] i.entries ≡ Ok tt)
  unfolding and_then
  was-laid depth kids h =
      by-answers (shallow depth kids) (lay_restarted text depth [] 0 0 kids) (λ i. fold_check text [] i.entries) h
    where
      by-answers :
          (deep : Answer (Unit {0})) (list : Answer Laid) (check : Laid → Answer (Unit {0})) →
          elim (deep >>= λ _. list >>= λ inner. check inner) [ Ok done ↦ true | Err r ↦ false ] ≡ true →
          (i : Laid) × (deep ≡ Ok tt) × (list ≡ Ok i) × (check i ≡ Ok tt)
      by-answers (Err r) list check h = absurd (cc)
      by-answers (Ok u) (Err r) check h = absurd (cc)
      by-answers (Ok u) (Ok i) check h = (i, refl, refl, grind arith)

  -- an item, where the lists below and after it are laid the same
  item-same :
      (kids : Forest) (depth base : ℕ) (seen : List Place) (cursor reach : ℕ) (s : Statement) (later : Forest) →
      (base ≡ 0) ⊎ (s.clauses.sync ≡ false) →
      unsynced kids ≡ true →
      none_lost text depth (map (λ p. p.name) seen) (item s kids later) ≡ true →
      ((o : ℕ) → lay text (suc depth) (base + o) [] 0 0 kids ≡ lay_restarted text (suc depth) [] 0 0 kids) →
      ((n cursor' reach' : ℕ) →
      let seen' = record { name = s.name; offset = n } ∷ seen in
      lay text depth base seen' cursor' reach' later ≡ lay_restarted text depth seen' cursor' reach' later) →
      lay text depth base seen cursor reach (item s kids later) ≡ lay_restarted text depth seen cursor reach
      (item s kids later)
  unfolding lay lay_restarted none_lost fold_check and_then
  item-same leaf depth base seen cursor reach s later calm quiet h below after =
      let inner : Laid = record { entries = end; width = 0 } in
      ap (λ (a : Answer ℕ). content text s leaf >>= λ c. a >>= λ offset. rest_now depth base seen cursor reach s leaf later c offset inner)
      (start-calm text s leaf seen base cursor calm)
      ∙ bind-same (content text s leaf) _ _ (λ k e. bind-same (start text s leaf seen 0 cursor) _ _ (λ offset _.
      rest-same depth base seen cursor reach s leaf later k offset inner refl
      (omega (arith, content-width s leaf k e)) after))
  item-same (item t more rest) depth base seen cursor reach s later calm quiet h below after =
      let kids = item t more rest in
      let k : Pictured = pictured FieldKind.Group None 0 in
      let deep = shallow (suc depth) kids in
      let list = lay_restarted text (suc depth) [] 0 0 kids in
      let check : Laid → Answer (Unit {0}) = λ i. fold_check text [] i.entries in
      let now : ℕ → Laid → Answer Laid = λ o i. rest_now depth base seen cursor reach s kids later k o i in
      let before : ℕ → Laid → Answer Laid = λ o i. rest_then depth seen cursor reach s later k o i in
      (λ i. start-calm text s kids seen base cursor calm i >>= λ o. deep >>= λ _. below o i >>= λ l. check l >>= λ _. now o l)
      ∙ swapped (start text s kids seen 0 cursor) deep list check now before
      (λ r e. was-laid (suc depth) kids (grind (arith, lost text s kids seen 0 cursor r e)))
      (λ o i e. rest-same depth base seen cursor reach s kids later k o i quiet
      (omega (arith, list-width kids (suc depth) [] 0 0 i (omega arith) e)) after)

  lay-same :
      (f : Forest) (depth base : ℕ) (seen : List Place) (cursor reach : ℕ) →
      Calm base f →
      none_lost text depth (map (λ p. p.name) seen) f ≡ true →
      lay text depth base seen cursor reach f ≡ lay_restarted text depth seen cursor reach f
  unfolding lay lay_restarted none_lost
  lay-same leaf depth base seen cursor reach c h = refl
  lay-same (item s kids later) depth base seen cursor reach c h =
      item-same kids depth base seen cursor reach s later c.0 c.1 h
      (λ o. lay-same kids (suc depth) (base + o) [] 0 0 (calm-list (base + o) kids c.1) (grind arith))
      (λ n cursor' reach'. lay-same later depth base (record { name = s.name; offset = n } ∷ seen) cursor' reach' c.2
      (grind arith))

-- ---------------------------------------------------------------- the entries

-- a copybook with no SYNC below the fields of its record, and no refusal inside a group whose target is missing, has the
-- entries that it had
pub same-slack : (text : List ℕ) (work : ℕ) → plain_slack text ≡ true → entries_restarted text work ≡ entries text work
unfolding entries_restarted layout_restarted entries record_fields record_tree layout unfolded and_then
same-slack text work h =
    let same : (f : Forest) → (unsynced_below f && none_lost text 0 [] f) ≡ true → lay text 0 0 [] 0 0 f
    ≡ lay_restarted text 0 [] 0 0 f =
    λ f h. let both = and_parts (unsynced_below f) (none_lost text 0 [] f) h in
    lay-same text f 0 0 [] 0 0 (calm-top f both.0) both.1 in
    grind (arith, same)
