-- Four bytes hold each number of an accepted copybook's listing: places lie in a text of at most 65,535 bytes, there are
-- at most 800 statements, and 29 refuses what is larger than `LARGEST`.
-- Assumes nothing.
use Prim.Native.Nat.{ℕ, suc, ◌+◌, ◌*◌, ◌≤◌, ◌<◌, max}
use mathlib.Core.Path.{◌≡◌, refl, sym, ◌∙◌, ap, subst}
use mathlib.Core.Bool.{Bool, true, false}
use mathlib.Core.List.{List, [], ◌∷◌}
use native.Mathlib.Omega.{arith}
use lib.Dec.{ltb, leb}
use lib.ListN.{length}
use Rattle.std.specs.Prelude.{Option, None, Some, if◌then◌else◌}
use Rattle.definition.specs.declared.Span.{Span}
use Rattle.definition.specs.declared.Token.{Token}
use Rattle.definition.specs.declared.Token.TheVariants.{Word, Stop, Open}
use Rattle.definition.specs.declared.NamedUsage.{NamedUsage}
use Rattle.definition.specs.declared.FieldKind.{FieldKind}
use Rattle.definition.specs.declared.Pictured.{Pictured}
use Rattle.definition.specs.declared.Statement.{Statement}
use Rattle.definition.specs.declared.Entry.{Entry}
use Rattle.definition.specs.declared.Refusal.{Refusal}
use Rattle.definition.specs.declared.TheConstants.{MOST_STATEMENTS, LARGEST}
use Rattle.definition.specs.Basic.{is_given, Answer, Ok, ◌>>=◌, refuse_if}
use Rattle.definition.specs.Words.{tokens_of, on_first, sentences, statement_words}
use Rattle.definition.specs.Statement.{statements}
use Rattle.definition.specs.Tree.{Forest, leaf, item, above, not_above, forest, fields}
use Rattle.definition.specs.Usages.{inheriting, inherit, inherited}
use Rattle.definition.specs.Fold.{Entries, end, entry, append, times, total, entry_end, Place, place_of, find, has_member}
use Rattle.definition.specs.Fold.{rebased, redefiners, widest, union, union_members, with_redefiners, has_base, folded_list}
use Rattle.definition.specs.Fold.{folded_below, folded_all}
use Rattle.definition.specs.Layout.{content, slack_from, entry_of, too_large, advance, Laid, lay}
use Rattle.definition.specs.Record.{record_length, ends_fit, unfolded, layout}
use Rattle.definition.specs.Listing.{listing}
use Rattle.definition.specs.Owner.{size}
use Rattle.definition.specs.Demand.{EachSpan}
use Rattle.definition.specs.Cards.{view_in}
use Rattle.definition.specs.declared.Form.{Form}
use Rattle.definition.specs.Calls.{kept_statements, record_tree, record_fields, entries, called}
use Rattle.definition.proofs.Answers.{through, given-same, not-refused}
use Rattle.definition.proofs.CallsLaws.{passes, called-as}
use Rattle.definition.proofs.Lists.{by_cases}
use Rattle.definition.proofs.OrderLaws.{Along, along-low, tokens-along}
use Rattle.definition.proofs.Cover.{entry_laid, item-laid}
use Rattle.definition.proofs.SpanLaws.{Sentences, statements-spans, record-spans, layout-spans, ForestSpans}
use Rattle.theorems.specs.ReadBack.{read_listing, listed}
use Rattle.theorems.proofs.ReadBackLaws.{Small, SmallPlace, SmallCount, list#, OnlyGroups, Fits, reads_back}

-- ---------------------------------------------------------------- words

-- every word lies in a text of n bytes
module _ (n : ℕ) where
  abbrev pub In : Span → Type 0
  In w = (w.start ≤ n) × (w.len ≤ n)

  abbrev AllIn : List Token → Type 0
  AllIn [] = Unit {0}
  AllIn (Word w ∷ ts) = In w × AllIn ts
  AllIn (Stop p ∷ ts) = AllIn ts
  AllIn (Open p ∷ ts) = Unit {0}

  all-in : (text : List ℕ) (m : ℕ) (ts : List Token) → length text ≤ n → Along text m ts → AllIn ts
  all-in text m [] l a = tt
  all-in text m (Word w ∷ ts) l a =
      let e = along-low text (w.start + w.len) ts a.3 in
      ((omega arith, omega arith), all-in text (w.start + w.len) ts l a.3)
  all-in text m (Stop p ∷ ts) l a = all-in text (p + 1) ts l a.2
  all-in text m (Open p ∷ ts) l a = tt

  first-in : (w : Span) (wss : List (List Span)) → In w → Sentences In wss → Sentences In (on_first w wss)
  first-in w wss e a = grind arith

  sentences-in : (ts : List Token) → AllIn ts → Sentences In (sentences ts)
  unfolding sentences
  sentences-in [] a = tt
  sentences-in (Stop p ∷ ts) a = (tt, sentences-in ts a)
  sentences-in (Word w ∷ ts) a = first-in w (sentences ts) a.0 (sentences-in ts a.1)
  sentences-in (Open p ∷ ts) a = tt

  words-in : (text : List ℕ) → length text ≤ n → Sentences In (statement_words text)
  unfolding statement_words
  words-in text l = sentences-in (tokens_of text) (all-in text 0 (tokens_of text) l (tokens-along text))

-- ---------------------------------------------------------------- statements

after-statement :
    (text : List ℕ) (n : ℕ) (wss : List (List Span)) {ss : List Statement} (r : Option Statement) →
    ((m : ℕ) (ts : List Statement) → m ≤ MOST_STATEMENTS → statements text m wss ≡ Ok ts → m + length ts ≤ MOST_STATEMENTS) →
    n ≤ MOST_STATEMENTS →
    ◌≡◌ {A = Answer (List Statement)} (elim r [
      | None ↦ statements text n wss
      | Some s ↦
          refuse_if (leb MOST_STATEMENTS n) (Refusal.TooManyStatements s.at) >>= λ _. statements text (suc n) wss >>= λ ts. Ok (s ∷ ts)
    ]) (Ok ss) →
    n + length ss ≤ MOST_STATEMENTS
after-statement text n wss None ih l h = ih n _ l h
after-statement text n wss {ss} (Some s) ih l h =
    through _ _ h λ _ e h₁.
    through _ _ h₁ λ ts t h₂.
    let low : n < MOST_STATEMENTS = grind (arith, not-refused (leb MOST_STATEMENTS n) (Refusal.TooManyStatements s.at) e) in
    omega (arith, ih (suc n) ts (omega (arith, low)) t, ap (λ (l : List Statement). length l) (given-same h₂))

few-statements :
    (wss : List (List Span)) (text : List ℕ) (n : ℕ) (ss : List Statement) →
    n ≤ MOST_STATEMENTS →
    statements text n wss ≡ Ok ss →
    n + length ss ≤ MOST_STATEMENTS
unfolding statements
few-statements [] text n ss l h = omega (arith, ap (λ (l : List Statement). length l) (given-same h))
few-statements (ws ∷ wss) text n ss l h =
    through _ _ h λ r e k.
    after-statement text n wss r (λ m ts q x. few-statements wss text m ts q x) l k

size-both : (n : ℕ) (f : Forest) → size (above n f) + size (not_above n f) ≡ size f
unfolding above not_above
size-both n leaf = omega arith
size-both n (item s kids later) = grind (arith, size-both n later)

size-forest : (ss : List Statement) → size (forest ss) ≡ length ss
unfolding forest
size-forest [] = refl
size-forest (s ∷ ss) = omega (arith, size-both s.level (forest ss), size-forest ss)

size-inherit : (f : Forest) (outer : Option NamedUsage) → size (inherit outer f) ≡ size f
unfolding inherit
size-inherit leaf outer = refl
size-inherit (item s kids later) outer = omega (arith, size-inherit kids (inheriting outer s).usage, size-inherit later outer)

size-fields : (f : Forest) → size (fields f) ≤ size f
unfolding fields
size-fields f = grind arith

-- what a record that is read has
pub record ReadFields (text : List ℕ) (f : Forest) : Type 0 where
  pub few : size f ≤ 800
  pub places : ForestSpans (In 65535) f

pub read-fields : (text : List ℕ) (work : ℕ) (f : Forest) → record_fields text work ≡ Ok f → ReadFields text f
unfolding record_fields record_tree kept_statements
read-fields text work f h =
    through _ _ h λ t h₀ q.
    through _ _ h₀ λ _ checks h₁.
    through _ _ h₁ λ ss kept h₂.
    through _ _ kept λ _ _ h₃.
    let short : length text ≤ 65535 = (passes text work refl checks).short in
    let few = few-statements (statement_words text) text 0 ss (omega arith) h₃ in
    let spans = statements-spans (In 65535) (omega arith, omega arith) (statement_words text) text 0 (words-in 65535 text short) h₃ in
    subst (ReadFields text) (ap fields (given-same h₂) ∙ given-same q)
    (record {
      few = omega (
        arith,
        few,
        size-forest ss,
        size-inherit (forest ss) None,
        size-fields (inherited (forest ss)),
      );
      places = record-spans (In 65535) ss spans;
    })

-- ---------------------------------------------------------------- entries before folding

-- only a group has members
abbrev Members : FieldKind → Entries → Type 0
Members FieldKind.Text es = es ≡ end
Members (FieldKind.Int signed sign) es = es ≡ end
Members (FieldKind.Binary signed) es = es ≡ end
Members (FieldKind.Decimal precision scale repr sign) es = es ≡ end
Members (FieldKind.Edited precision scale signed) es = es ≡ end
Members FieldKind.Group es = Unit {0}
Members (FieldKind.Float bits) es = es ≡ end

members-none : (k : FieldKind) → Members k end
members-none k = grind arith

record Own (e : Entry) (ms : Entries) : Type 0 where
  offset : e.offset ≤ LARGEST
  width : e.width ≤ LARGEST
  count : times e.occurs ≤ LARGEST
  all : total e ≤ LARGEST
  only : Members e.kind ms

-- at most n entries in each list below
abbrev Good : ℕ → Entries → Type 0
Good n end = Unit {0}
Good n (entry e ms later) = Own e ms × (list# ms ≤ n) × Good n ms × Good n later

module _ (text : List ℕ) where
  -- only an item with children lays members
  content-members :
      (s : Statement) (kids : Forest) (c : Pictured) (es : Entries) →
      content text s kids ≡ Ok c →
      (kids ≡ leaf → es ≡ end) →
      Members c.kind es
  content-members s (item t kids later) c es h n =
      subst (λ (x : Pictured). Members x.kind es) (given-same h) tt
  content-members s leaf c es h n = subst (Members c.kind) (sym (n refl)) (members-none c.kind)

  laid-leaf : (depth base : ℕ) (l : Laid) → lay text depth base [] 0 0 leaf ≡ Ok l → l.entries ≡ end
  unfolding lay
  laid-leaf depth base l h = ap (λ (x : Laid). x.entries) (sym (given-same h))

  entry-own :
      (s : Statement) (c : Pictured) (offset slack inner at_end : ℕ) (ms : Entries) →
      too_large (entry_of s c offset slack inner at_end) ≡ false →
      Members c.kind ms →
      Own (entry_of s c offset slack inner at_end) ms
  entry-own s c offset slack inner at_end ms h m =
      record { offset = grind arith; width = grind arith; count = grind arith; all = grind arith; only = m }

  record Lays (n : ℕ) (f : Forest) (l : Laid) : Type 0 where
    good : Good n l.entries
    few : list# l.entries ≤ size f
    wide : l.width ≤ LARGEST

  lays :
      (f : Forest) (n depth base : ℕ) (seen : List Place) (cursor reach : ℕ) (l : Laid) →
      size f ≤ n →
      reach ≤ LARGEST →
      lay text depth base seen cursor reach f ≡ Ok l →
      Lays n f l
  unfolding lay
  lays leaf n depth base seen cursor reach l z r h =
      subst (Lays n leaf) (given-same h) (record { good = tt; few = omega arith; wide = r })
  lays (item s kids later) n depth base seen cursor reach l z r h =
      let i = item-laid text depth base seen cursor reach s kids later l h in
      let e = entry_laid text s kids cursor i.has i.offset i.inner in
      let inner = lays kids n (suc depth) (base + i.offset) [] 0 0 i.inner (omega arith) (omega arith) i.inner-laid in
      let none : kids ≡ leaf → i.inner.entries ≡ end =
      λ k. laid-leaf (suc depth) (base + i.offset) i.inner
      (subst (λ (f : Forest). lay text (suc depth) (base + i.offset) [] 0 0 f ≡ Ok i.inner) k i.inner-laid) in
      let own = entry-own s i.has i.offset (slack_from cursor s i.offset) i.inner.width e.slack_at_end i.inner.entries
      i.small (content-members s kids i.has i.inner.entries i.contains none) in
      let ends : entry_end e ≤ LARGEST = grind (arith, i.small) in
      let rest = lays later n depth base (place_of e ∷ seen) (advance cursor e) (max reach (entry_end e)) i.rest (omega arith)
      (omega (arith, r, ends)) i.later-laid in
      subst (Lays n (item s kids later)) (sym i.result)
      (record {
        good = (own, omega (arith, inner.few), inner.good, rest.good);
        few = omega (arith, rest.few);
        wide = rest.wide;
      })

  -- ---------------------------------------------------------------- entries after folding

  -- at most n entries in each list of the entries of a list, and in each below that as many as folding may leave
  abbrev Level : ℕ → Entries → Type 0
  Level n end = Unit {0}
  Level n (entry e ms later) = Own e ms × (list# ms ≤ n) × Good (2 * n + 1) ms × Level n later

  level-good : (n : ℕ) (es : Entries) → Level n es → Good (2 * n + 1) es
  level-good n end h = tt
  level-good n (entry e ms later) h = (h.0, omega (arith, h.1), h.2, level-good n later h.3)

  rebased-own : (start : ℕ) (e : Entry) (ms : Entries) → Own e ms → Own (rebased start e) ms
  rebased-own start e ms o =
      record { offset = omega (arith, o.offset); width = o.width; count = o.count; all = o.all; only = o.only }

  redefiners-level : (base : Place) (n : ℕ) (es : Entries) → Level n es → Level n (redefiners text base es)
  unfolding redefiners
  redefiners-level base n end h = tt
  redefiners-level base n (entry e ms later) h =
      grind (arith, rebased-own base.offset e ms h.0, redefiners-level base n later h.3)

  redefiners-few : (base : Place) (es : Entries) → list# (redefiners text base es) ≤ list# es
  unfolding redefiners
  redefiners-few base end = omega arith
  redefiners-few base (entry e ms later) = grind (arith, redefiners-few base later)

  append-good : (n : ℕ) (a b : Entries) → Good n a → Good n b → Good n (append a b)
  unfolding append
  append-good n end b h k = k
  append-good n (entry e ms later) b h k = (h.0, h.1, h.2, append-good n later b h.3 k)

  append-few : (a b : Entries) → list# (append a b) ≡ list# a + list# b
  unfolding append
  append-few end b = omega arith
  append-few (entry e ms later) b = omega (arith, append-few later b)

  widest-small : (n : ℕ) (es : Entries) → Good n es → widest es ≤ LARGEST
  unfolding widest
  widest-small n end h = omega arith
  widest-small n (entry e ms later) h = omega (arith, h.0.all, widest-small n later h.3)

  -- the members of a union
  record Joined (n : ℕ) (us : Entries) : Type 0 where
    good : Good (2 * n + 1) us
    few : list# us ≤ 2 * n + 1

  joined-if : (n : ℕ) (b : Bool) (x y : Entries) → Joined n x → Joined n y → Joined n (if b then x else y)
  joined-if n true x y h k = h
  joined-if n false x y h k = k

  members-joined :
      (n : ℕ) (e : Entry) (ms rs : Entries) →
      Own e ms →
      list# ms ≤ n →
      Good (2 * n + 1) ms →
      Good (2 * n + 1) rs →
      list# rs ≤ n →
      Joined n (union_members text e ms rs)
  members-joined n e ms rs o m g k r =
      joined-if n (has_member text e.name ms) _ _
      (record { good = append-good (2 * n + 1) ms rs g k; few = omega (arith, append-few ms rs, m, r) })
      (record { good = (rebased-own e.offset e ms o, omega (arith, m), g, k); few = omega (arith, r) })

  union-own : (n : ℕ) (e : Entry) (ms us : Entries) → Own e ms → Good n us → Own (union e (widest us)) us
  union-own n e ms us o g =
      let w = widest-small n us g in
      record { offset = o.offset; width = w; count = omega arith; all = omega (arith, w); only = tt }

  with-good :
      (n : ℕ) (e : Entry) (ms rs later : Entries) →
      Own e ms →
      list# ms ≤ n →
      Good (2 * n + 1) ms →
      Good (2 * n + 1) rs →
      list# rs ≤ n →
      Good (2 * n + 1) later →
      Good (2 * n + 1) (with_redefiners text e ms rs later)
  with-good n e ms end later o m g k r l = (o, omega (arith, m), g, l)
  with-good n e ms (entry x xs more) later o m g k r l =
      let j = members-joined n e ms (entry x xs more) o m g k r in
      let us = union_members text e ms (entry x xs more) in
      (union-own (2 * n + 1) e ms us o j.good, j.few, j.good, l)

  good-if : (n : ℕ) (b : Bool) (x y : Entries) → Good n x → Good n y → Good n (if b then x else y)
  good-if n true x y h k = h
  good-if n false x y h k = k

  fold-redefiner :
      (e : Entry) (ms later : Entries) (bases : List Place) →
      is_given e.redefines ≡ true →
      folded_list text bases (entry e ms later)
      ≡ (if has_base (find text e.redefines bases) then folded_list text bases later
      else entry e ms (folded_list text bases later))
  unfolding folded_list
  fold-redefiner e ms later bases g = rw (g, folded_list)

  fold-base :
      (e : Entry) (ms later : Entries) (bases : List Place) →
      is_given e.redefines ≡ false →
      folded_list text bases (entry e ms later)
      ≡ with_redefiners text e ms (redefiners text (place_of e) later) (folded_list text (place_of e ∷ bases) later)
  unfolding folded_list
  fold-base e ms later bases g = rw (g, folded_list)

  folded-good :
      (es : Entries) (n : ℕ) (bases : List Place) →
      Level n es →
      list# es ≤ n →
      Good (2 * n + 1) (folded_list text bases es)
  unfolding folded_list
  folded-good end n bases h z = tt
  folded-good (entry e ms later) n bases h z =
      let rs = redefiners text (place_of e) later in
      let under = level-good n rs (redefiners-level (place_of e) n later h.3) in
      let few : list# rs ≤ n = omega (arith, redefiners-few (place_of e) later, z) in
      let more = folded-good later n bases h.3 (omega arith) in
      let kept : Good (2 * n + 1) (entry e ms (folded_list text bases later)) =
      (h.0, omega (arith, h.1), h.2, more) in
      let based = with-good n e ms rs (folded_list text (place_of e ∷ bases) later) h.0 h.1 h.2 under few
      (folded-good later n (place_of e ∷ bases) h.3 (omega arith)) in
      by_cases (is_given e.redefines)
      (λ g.
      subst (Good (2 * n + 1)) (sym (fold-redefiner e ms later bases g))
      (good-if (2 * n + 1) (has_base (find text e.redefines bases)) _ _ more kept))
      (λ g. subst (Good (2 * n + 1)) (sym (fold-base e ms later bases g)) based)

  folded-few : (es : Entries) (bases : List Place) → list# (folded_list text bases es) ≤ list# es
  unfolding folded_list
  folded-few end bases = omega arith
  folded-few (entry e ms later) bases =
      grind (
        arith,
        folded-few later bases,
        folded-few later (place_of e ∷ bases),
        with-few e ms (redefiners text (place_of e) later) (folded_list text (place_of e ∷ bases) later),
      )
    where
      with-few : (e : Entry) (ms rs later : Entries) → list# (with_redefiners text e ms rs later) ≡ suc (list# later)
      with-few e ms end later = refl
      with-few e ms (entry x xs more) later = refl

  below-few : (es : Entries) → list# (folded_below text es) ≡ list# es
  unfolding folded_below
  below-few end = refl
  below-few (entry e ms later) = ap suc (below-few later)

  -- what has no members has none after folding
  below-end : (ms : Entries) → ms ≡ end → folded_list text [] (folded_below text ms) ≡ end
  unfolding folded_list folded_below
  below-end end h = refl
  below-end (entry e ms later) h = absurd (cc)

  below-members : (k : FieldKind) (ms : Entries) → Members k ms → Members k (folded_list text [] (folded_below text ms))
  below-members k ms h = grind (arith, below-end ms)

  below-level : (n : ℕ) (es : Entries) → Good n es → Level n (folded_below text es)
  unfolding folded_below
  below-level n end h = tt
  below-level n (entry e ms later) h =
      let few : list# (folded_below text ms) ≤ n = omega (arith, below-few ms, h.1) in (
        record {
          offset = h.0.offset;
          width = h.0.width;
          count = h.0.count;
          all = h.0.all;
          only = below-members e.kind ms h.0.only;
        },
        omega (arith, folded-few (folded_below text ms) [], few),
        folded-good (folded_below text ms) n [] (below-level n ms h.2) few,
        below-level n later h.3,
      )

  ends-small : (es : Entries) → ends_fit es ≡ Ok tt → record_length es ≤ LARGEST
  unfolding ends_fit record_length
  ends-small end h = omega arith
  ends-small (entry e ms later) h =
      through _ _ h λ _ e₁ h₁.
      let small : entry_end e ≤ LARGEST = grind (arith, not-refused (ltb LARGEST (entry_end e)) (Refusal.TooLarge e.at) e₁) in
      omega (arith, small, ends-small later h₁)

-- ---------------------------------------------------------------- the listing

small-count : (o : Option ℕ) → times o ≤ LARGEST → SmallCount o
small-count None h = tt
small-count (Some n) h = record { below = omega (arith, h) }

only-groups : (k : FieldKind) (es : Entries) → Members k es → list# es ≤ 1601 → OnlyGroups k es
only-groups FieldKind.Text es h l = h
only-groups (FieldKind.Int signed sign) es h l = h
only-groups (FieldKind.Binary signed) es h l = h
only-groups (FieldKind.Decimal precision scale repr sign) es h l = h
only-groups (FieldKind.Edited precision scale signed) es h l = h
only-groups FieldKind.Group es h l = record { below = omega (arith, l) }
only-groups (FieldKind.Float bits) es h l = h

small-place : (w : Span) → In 65535 w → SmallPlace w
small-place w h = (record { below = omega (arith, h.0) }, record { below = omega (arith, h.1) })

fits-all : (es : Entries) → Good 1601 es → EachSpan (In 65535) es → Fits es
fits-all end g s = tt
fits-all (entry e ms later) g s = (
  record {
    name = small-place e.name s.0.name;
    offset = record { below = omega (arith, g.0.offset) };
    width = record { below = omega (arith, g.0.width) };
    occurs = small-count e.occurs g.0.count;
    depending = small-place e.depending s.0.depending;
    redefines = small-place e.redefines s.0.redefines;
    picture = small-place e.picture s.0.picture;
  },
  only-groups e.kind ms g.0.only g.1,
  fits-all ms g.2 s.1,
  fits-all later g.3 s.2,
)

-- what holds of an accepted copybook's listing
pub record Fitting (es : Entries) : Type 0 where
  pub all : Fits es
  pub long : Small (record_length es)
  pub many : Small (list# es)

layout-fits :
    (text : List ℕ) (f : Forest) (es : Entries) → ReadFields text f → layout text f ≡ Ok es → Fitting es
unfolding layout unfolded
layout-fits text f es r h =
    let spans = layout-spans (In 65535) (omega arith, omega arith) text f es r.places h in
    through _ _ h λ tree read q.
    through _ _ read λ l e₁ h₁.
    through _ _ h₁ λ _ _ h₂.
    through _ _ h₂ λ _ e₃ h₃.
    let same : folded_all text l.entries ≡ es = ap (folded_all text) (given-same h₃) ∙ given-same q in
    let laid = lays text f 800 0 0 [] 0 0 l r.few (omega arith) e₁ in
    let few : list# (folded_below text l.entries) ≤ 800 = omega (arith, below-few text l.entries, laid.few, r.few) in
    let good = folded-good text (folded_below text l.entries) 800 [] (below-level text 800 l.entries laid.good) few in
    let long = ends-small text (folded_all text l.entries) e₃ in
    record {
      all = fits-all es (subst (Good 1601) same good) spans;
      long = record { below = omega (arith, subst (λ (x : Entries). record_length x ≤ LARGEST) same long) };
      many = record {
        below = omega (
          arith,
          ap (λ (x : Entries). list# x) same,
          folded-few text (folded_below text l.entries) [],
          few,
        );
      };
    }

pub fitting : (text : List ℕ) (work : ℕ) (es : Entries) → entries text work ≡ Ok es → Fitting es
unfolding entries
fitting text work es h =
    through _ _ h λ f read laid_out. layout-fits text f es (read-fields text work f read) laid_out

-- so it can be read back
pub read_back :
    (form : Form) (text : List ℕ) (work : ℕ) (es : Entries) →
    called form (λ t. entries t work) text work ≡ Ok es →
    read_listing (listing es) ≡ listed es
read_back form text work es h =
    let laying : List ℕ → Answer Entries = λ t. entries t work in
    let accepted : entries (view_in form text) work ≡ Ok es = sym (called-as laying laying form text work h) ∙ h in
    let f = fitting (view_in form text) work es accepted in
    reads_back es f.all f.long f.many
