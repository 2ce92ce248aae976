-- The theorems of a set's key: the answered offset and width are those of the one top-level entry of that name in each
-- copybook, and its kind and details are the same in all; and where all copybooks of a set have one key, it is
-- answered.
-- Assumes nothing.
use Prim.Native.Nat.{ℕ, zero, suc, ◌+◌, ◌≤◌, ◌<◌}
use mathlib.Core.Path.{◌≡◌, refl, sym, ◌∙◌, ap, subst}
use mathlib.Core.Bool.{Bool, true, false, ◌||◌}
use mathlib.Core.List.{List, [], ◌∷◌}
use Rattle.std.specs.Prelude.{Option, None, Some}
use native.Mathlib.Omega.{arith}
use lib.Dec.{eqb}
use lib.ListN.{length, get_or, take, drop}
use Rattle.std.proofs.lemmas.List.{drop-drop}
use mathlib.Core.Logic.{◌⊎◌, inl, inr}
use Rattle.std.proofs.lemmas.Bool.{and_parts}
use Rattle.definition.specs.declared.Span.{Span}
use Rattle.definition.specs.declared.KeyColumn.{KeyColumn}
use Rattle.definition.specs.declared.Refusal.{Refusal}
use Rattle.definition.specs.declared.SignKind.{SignKind}
use Rattle.definition.specs.declared.NumRepr.{NumRepr}
use Rattle.definition.specs.declared.FieldKind.{FieldKind}
use Rattle.definition.specs.declared.Entry.{Entry}
use Rattle.std.specs.Prelude.{if◌then◌else◌}
use Rattle.definition.specs.Basic.{same, upper, uppers, is_given, sum, Err, Ok, and_then, or_refuse}
use Rattle.definition.specs.Fold.{Entries, end, entry, append, name_of}
use Rattle.definition.specs.Calls.{entries, text_checks}
use Rattle.definition.specs.Record.{variable}
use Rattle.definition.specs.Key.{is_named, is_group, key_mask, Named, named, named_in, may_be_key, Key, key_of}
use Rattle.definition.specs.Key.{one_key, key_among, key_in, kind_details, same_key, agree, all_agree, common, keys_in}
use Rattle.definition.specs.Key.{copybooks, is_set, key_of_texts}
use Rattle.theorems.specs.Keys.{added, IsSet, copybook, Lower, Alike, spelling, IsNamed, NoEntryNamed, NoneDepends, Masked}
use Rattle.theorems.specs.Keys.{IsKey, HasKey, Read, Common, KeyAnswers}
use Rattle.theorems.proofs.MaskLaws.{HasMask, EachMask, Masks, masks}
use Rattle.definition.proofs.Answers.{through, given-same}
use Rattle.definition.proofs.Lists.{by_cases, take-drop}
use Rattle.definition.proofs.WordLaws.{never, same-equal, same_self}

-- ---------------------------------------------------------------- a kind from its details

abbrev sign_back : ℕ → SignKind
sign_back n =
    if eqb n 1 then SignKind.Embedded
    else if eqb n 2 then SignKind.LeadingSeparate
    else if eqb n 3 then SignKind.TrailingSeparate
    else SignKind.Unsigned

abbrev storage_back : ℕ → NumRepr
storage_back n = if eqb n 1 then NumRepr.Comp3 else if eqb n 2 then NumRepr.Zoned else NumRepr.Display

abbrev kind_back : List ℕ → FieldKind
kind_back l =
    let k = get_or l 0 0 in
    if eqb k 1 then FieldKind.Text
    else if eqb k 2 then FieldKind.Int (eqb (get_or l 1 0) 1) (sign_back (get_or l 2 0))
    else if eqb k 3 then FieldKind.Binary (eqb (get_or l 1 0) 1)
    else if eqb k 4 then
    FieldKind.Decimal (get_or l 1 0) (get_or l 2 0) (storage_back (get_or l 3 0)) (sign_back (get_or l 4 0))
    else if eqb k 5 then FieldKind.Edited (get_or l 1 0) (get_or l 2 0) (eqb (get_or l 3 0) 1)
    else if eqb k 7 then FieldKind.Float (get_or l 1 0)
    else FieldKind.Group

kind-back : (k : FieldKind) → kind_back (kind_details k) ≡ k
kind-back k = grind arith

-- kinds with the same details are the same
kind-same : (a b : FieldKind) → same (kind_details a) (kind_details b) ≡ true → a ≡ b
kind-same a b h = cc (kind-back a, kind-back b, same-equal (kind_details a) (kind_details b) h)

-- keys that agree are the same
key-same : (a b : Key) → same_key a b ≡ true → a ≡ b
key-same a b h =
    let offsets : a.offset ≡ b.offset = grind arith in
    let widths : a.width ≡ b.width = grind arith in
    let kinds = kind-same a.kind b.kind (grind arith) in
    let masks = same-equal a.mask b.mask (grind arith) in
    λ i. record { offset = offsets i; width = widths i; kind = kinds i; mask = masks i }

-- ---------------------------------------------------------------- one entry of the name, by the definition's tests

-- no entry of a list has the name
abbrev NoneNamed : List ℕ → List ℕ → Entries → Type 0
NoneNamed text name end = Unit {0}
NoneNamed text name (entry e members later) = (is_named text name e ≡ false) × NoneNamed text name later

-- k is the key of a listing
record Found (text name : List ℕ) (es : Entries) (k : Key) : Type 0 where
  own : Entry
  before : Entries
  members : Entries
  after : Entries
  stands : es ≡ append before (entry own members after)
  name-is : is_named text name own ≡ true
  none_before : NoneNamed text name before
  none_after : NoneNamed text name after
  fixed : variable before ≡ false
  once : own.occurs ≡ None
  plain : is_given own.redefines ≡ false
  no-group : is_group own.kind ≡ false
  offset-is : own.offset ≡ k.offset
  width_is : own.width ≡ k.width
  kind-is : own.kind ≡ k.kind
  mask_is : key_mask text own.kind own.picture ≡ k.mask

module _ (text name : List ℕ) where
  none_named : (es : Entries) (v : Bool) → named_in text name v es ≡ [] → NoneNamed text name es
  unfolding named_in
  none_named end v h = tt
  none_named (entry e ms later) v h = grind (arith, none_named later (v || (is_given e.depending || variable ms)))

  -- the one entry of the name, and what stands before and after it
  record One (es : Entries) (v : Bool) (x : Named) : Type 0 where
    own : Entry
    before : Entries
    members : Entries
    after : Entries
    stands : es ≡ append before (entry own members after)
    name-is : is_named text name own ≡ true
    none_before : NoneNamed text name before
    none_after : NoneNamed text name after
    is : x ≡ named own (v || variable before)

  first_one :
      (e : Entry) (ms later : Entries) (v : Bool) (x : Named) →
      is_named text name e ≡ true →
      named e v ≡ x →
      NoneNamed text name later →
      One (entry e ms later) v x
  unfolding variable append
  first_one e ms later v x is h others =
      record {
        own = e;
        before = end;
        members = ms;
        after = later;
        stands = refl;
        name-is = is;
        none_before = tt;
        none_after = others;
        is = grind arith;
      }

  later-one :
      (e : Entry) (ms later : Entries) (v : Bool) (x : Named) →
      is_named text name e ≡ false →
      One later (v || (is_given e.depending || variable ms)) x →
      One (entry e ms later) v x
  unfolding variable append
  later-one e ms later v x is o =
      record {
        own = o.own;
        before = entry e ms o.before;
        members = o.members;
        after = o.after;
        stands = ap (entry e ms) o.stands;
        name-is = o.name-is;
        none_before = (is, o.none_before);
        none_after = o.none_after;
        is = o.is ∙ ap (named o.own) (grind arith);
      }

  one-named : (es : Entries) (v : Bool) (x : Named) → named_in text name v es ≡ x ∷ [] → One es v x
  unfolding named_in
  one-named end v x h = absurd (cc)
  one-named (entry e ms later) v x h =
      let v' = v || (is_given e.depending || variable ms) in
      by_cases (is_named text name e)
      (λ is. let only = rw is at h in first_one e ms later v x is (cc) (none_named later v' (cc)))
      (λ is. let others = rw is at h in later-one e ms later v x is (one-named later v' x others))

  -- ---------------------------------------------------------------- the key of a copybook

  record Taken (ns : List Named) (k : Key) : Type 0 where
    only : Named
    alone : ns ≡ only ∷ []
    may : may_be_key only ≡ true
    is : key_of text only.own ≡ k

  taken : (ns : List Named) (k : Key) → one_key text ns ≡ Some k → Taken ns k
  taken ns k h = grind arith

  is_key : (es : Entries) (k : Key) → key_among text name es ≡ Some k → Found text name es k
  is_key es k h =
      let t = taken (named_in text name false es) k h in
      let o = one-named es false t.only t.alone in
      let m = subst (λ (x : Named). may_be_key x ≡ true) o.is t.may in
      let s = subst (λ (x : Named). key_of text x.own ≡ k) o.is t.is in
      record {
        own = o.own;
        before = o.before;
        members = o.members;
        after = o.after;
        stands = o.stands;
        name-is = o.name-is;
        none_before = o.none_before;
        none_after = o.none_after;
        fixed = grind arith;
        once = grind arith;
        plain = grind arith;
        no-group = grind arith;
        offset-is = ap (λ (x : Key). x.offset) s;
        width_is = ap (λ (x : Key). x.width) s;
        kind-is = ap (λ (x : Key). x.kind) s;
        mask_is = ap (λ (x : Key). x.mask) s;
      }

  -- ---------------------------------------------------------------- and back

  none_in : (es : Entries) (v : Bool) → NoneNamed text name es → named_in text name v es ≡ []
  unfolding named_in
  none_in end v h = refl
  none_in (entry e ms later) v h = grind (arith, none_in later)

  one_in :
      (before : Entries) (own : Entry) (members after : Entries) →
      NoneNamed text name before →
      variable before ≡ false →
      is_named text name own ≡ true →
      NoneNamed text name after →
      named_in text name false (append before (entry own members after)) ≡ named own false ∷ []
  unfolding named_in append variable
  one_in end own members after nb vb is na = grind (arith, none_in)
  one_in (entry e ms later) own members after nb vb is na = grind (arith, one_in later own members after)

  key-among : (es : Entries) (k : Key) → Found text name es k → key_among text name es ≡ Some k
  key-among es k h =
      let one = one_in h.before h.own h.members h.after h.none_before h.fixed h.name-is h.none_after in
      ap (key_among text name) h.stands
      ∙ ap (one_key text) one
      ∙ rw (h.once, h.plain, h.no-group)
      (λ i. Some (record { offset = h.offset-is i; width = h.width_is i; kind = h.kind-is i; mask = h.mask_is i }))

-- ---------------------------------------------------------------- the same of bytes

upper-alike : (x y : ℕ) → upper x ≡ upper y → (x ≡ y) ⊎ (Lower x y ⊎ Lower y x)
upper-alike x y h = grind (arith, inl, inr)

alike-upper : (x y : ℕ) → (x ≡ y) ⊎ (Lower x y ⊎ Lower y x) → upper x ≡ upper y
alike-upper x y h = grind arith

alike-of : (xs ys : List ℕ) → uppers xs ≡ uppers ys → Alike xs ys
alike-of [] [] h = tt
alike-of [] (y ∷ ys) h = absurd (cc)
alike-of (x ∷ xs) [] h = absurd (cc)
alike-of (x ∷ xs) (y ∷ ys) h = (upper-alike x y (cc), alike-of xs ys (cc))

of-alike : (xs ys : List ℕ) → Alike xs ys → uppers xs ≡ uppers ys
of-alike [] [] h = refl
of-alike [] (y ∷ ys) h = absurd h
of-alike (x ∷ xs) [] h = absurd h
of-alike (x ∷ xs) (y ∷ ys) h = cc (alike-upper x y h.0, of-alike xs ys h.1)

module _ (text name : List ℕ) where
  named-so : (e : Entry) → is_named text name e ≡ true → IsNamed text name e
  named-so e h = alike-of name (spelling text e.name) (same-equal (uppers name) (uppers (name_of text e.name)) h)

  so_named : (e : Entry) → IsNamed text name e → is_named text name e ≡ true
  so_named e h =
      subst (λ (l : List ℕ). same (uppers name) l ≡ true) (of-alike name (spelling text e.name) h) (same_self (uppers name))

  not-named : (e : Entry) → is_named text name e ≡ false → IsNamed text name e → ⊥
  not-named e h n = never (sym h ∙ so_named e n)

  named_not : (e : Entry) → (IsNamed text name e → ⊥) → is_named text name e ≡ false
  named_not e h = by_cases (is_named text name e) (λ y. absurd (h (named-so e y))) (λ n. n)

  none-so : (es : Entries) → NoneNamed text name es → NoEntryNamed text name es
  none-so end h = tt
  none-so (entry e members later) h = (not-named e h.0, none-so later h.1)

  so-none : (es : Entries) → NoEntryNamed text name es → NoneNamed text name es
  so-none end h = tt
  so-none (entry e members later) h = (named_not e h.0, so-none later h.1)

  depends-none : (es : Entries) → variable es ≡ false → NoneDepends es
  unfolding variable
  depends-none end h = tt
  depends-none (entry e members later) h = (grind arith, depends-none members (grind arith), depends-none later (grind arith))

  none-depends : (es : Entries) → NoneDepends es → variable es ≡ false
  unfolding variable
  none-depends end h = refl
  none-depends (entry e members later) h = grind (arith, none-depends members h.1, none-depends later h.2)

  masked-so : (k : FieldKind) (w : Span) → HasMask text w k → Masked text k w (key_mask text k w)
  masked-so k w h = grind arith

  so_masked : (k : FieldKind) (w : Span) (m : List ℕ) → Masked text k w m → key_mask text k w ≡ m
  so_masked k w m h = grind arith

  group-no : (k : FieldKind) → is_group k ≡ false → k ≡ FieldKind.Group → ⊥
  group-no k h g = never (sym h ∙ ap is_group g)

  no_group : (k : FieldKind) → (k ≡ FieldKind.Group → ⊥) → is_group k ≡ false
  no_group k h = grind arith

  -- the mask of the entry that stands there
  mask-there :
      (checked : text_checks text ≡ Ok tt) (before : Entries) (own : Entry) (members after : Entries) →
      EachMask text checked (append before (entry own members after)) →
      HasMask text own.picture own.kind
  unfolding append
  mask-there checked end own members after h = h.0
  mask-there checked (entry e ms later) own members after h = mask-there checked later own members after h.1

  found-key : (es : Entries) (k : Key) → Masks text es → Found text name es k → IsKey text name es k
  found-key es k ms f =
      let there = mask-there ms.checked f.before f.own f.members f.after (subst (EachMask text ms.checked) f.stands ms.each) in
      record {
        own = f.own;
        before = f.before;
        members = f.members;
        after = f.after;
        stands = f.stands;
        name-is = named-so f.own f.name-is;
        none_before = none-so f.before f.none_before;
        none_after = none-so f.after f.none_after;
        fixed = depends-none f.before f.fixed;
        once = f.once;
        plain = grind (arith, f.plain);
        no-group = group-no f.own.kind f.no-group;
        offset-is = f.offset-is;
        width_is = f.width_is;
        kind-is = f.kind-is;
        mask_is = subst (Masked text f.own.kind f.own.picture) f.mask_is (masked-so f.own.kind f.own.picture there);
      }

  key_found : (es : Entries) (k : Key) → IsKey text name es k → Found text name es k
  key_found es k f =
      record {
        own = f.own;
        before = f.before;
        members = f.members;
        after = f.after;
        stands = f.stands;
        name-is = so_named f.own f.name-is;
        none_before = so-none f.before f.none_before;
        none_after = so-none f.after f.none_after;
        fixed = none-depends f.before f.fixed;
        once = f.once;
        plain = grind (arith, f.plain);
        no-group = no_group f.own.kind f.no-group;
        offset-is = f.offset-is;
        width_is = f.width_is;
        kind-is = f.kind-is;
        mask_is = so_masked f.own.kind f.own.picture k.mask f.mask_is;
      }

-- ---------------------------------------------------------------- the key of a set

abbrev AllHave : ℕ → List ℕ → Key → List (List ℕ) → Type 0
AllHave work name k [] = Unit {0}
AllHave work name k (text ∷ texts) = HasKey work name k text × AllHave work name k texts

module _ (work : ℕ) (name : List ℕ) where
  has_key : (text : List ℕ) (k : Key) → key_in work name text ≡ Ok (Some k) → HasKey work name k text
  unfolding key_in
  has_key text k h =
      through _ _ h λ es read rest.
      record {
        listing = es;
        read = read;
        key = found-key text name es k (masks text work es read) (is_key text name es k (given-same rest));
      }

  agreed : (k : Key) (b : Option Key) → agree (Some k) b ≡ true → b ≡ Some k
  agreed k None h = never h
  agreed k (Some x) h = ap Some (sym (key-same k x h))

  all_have :
      (k : Key) (texts : List (List ℕ)) (ks : List (Option Key)) →
      keys_in work name texts ≡ Ok ks →
      all_agree (Some k) ks ≡ true →
      AllHave work name k texts
  unfolding keys_in all_agree
  all_have k [] ks h a = tt
  all_have k (text ∷ texts) ks h a =
      let ih = all_have k texts in
      through _ _ h λ x first h₁.
      through _ _ h₁ λ more rest h₂.
      let both = and_parts (agree (Some k) x) (all_agree (Some k) more)
      (subst (λ (l : List (Option Key)). all_agree (Some k) l ≡ true) (sym (given-same h₂)) a) in
      (has_key text k (first ∙ ap Ok (agreed k x both.0)), ih more rest both.1)

  from_first :
      (k : Key) (text : List ℕ) (texts : List (List ℕ)) (x : Option Key) (more : List (Option Key)) (b : Bool) →
      all_agree x more ≡ b →
      (if b then x else None) ≡ Some k →
      key_in work name text ≡ Ok x →
      keys_in work name texts ≡ Ok more →
      AllHave work name k (text ∷ texts)
  from_first k text texts x more b e h first rest =
      (has_key text k (grind arith), all_have k texts more rest (grind arith))

  all-common :
      (k : Key) (texts : List (List ℕ)) (ks : List (Option Key)) →
      keys_in work name texts ≡ Ok ks →
      common ks ≡ Some k →
      AllHave work name k texts
  unfolding keys_in
  all-common k [] ks h a = tt
  all-common k (text ∷ texts) ks h a =
      through _ _ h λ x first h₁.
      through _ _ h₁ λ more rest h₂.
      from_first k text texts x more (all_agree x more) refl
      (subst (λ (l : List (Option Key)). common l ≡ Some k) (sym (given-same h₂)) a) first rest

found_some : {A : Type 0} (r : Refusal) (o : Option A) {a : A} → or_refuse r o ≡ Ok a → o ≡ Some a
found_some r o h = grind arith

-- ---------------------------------------------------------------- and back

key-agrees : (k : Key) → same_key k k ≡ true
key-agrees k = grind (arith, same_self)

-- the keys of copybooks that all have k
abbrev each : Key → List (List ℕ) → List (Option Key)
each k [] = []
each k (text ∷ texts) = Some k ∷ each k texts

each-agrees : (k : Key) (texts : List (List ℕ)) → all_agree (Some k) (each k texts) ≡ true
unfolding all_agree
each-agrees k [] = refl
each-agrees k (text ∷ texts) = cc (key-agrees k, each-agrees k texts)

module _ (work : ℕ) (name : List ℕ) (k : Key) where
  key-read : (text : List ℕ) → HasKey work name k text → key_in work name text ≡ Ok (Some k)
  unfolding key_in and_then
  key-read text h = rw h.read (ap Ok (key-among text name h.listing k (key_found text name h.listing k h.key)))

  keys-read : (texts : List (List ℕ)) → AllHave work name k texts → keys_in work name texts ≡ Ok (each k texts)
  unfolding keys_in and_then
  keys-read [] h = refl
  keys-read (text ∷ texts) h = cc (key-read text h.0, keys-read texts h.1)

-- ---------------------------------------------------------------- copybook by copybook

-- copybook i of those that are cut
abbrev piece : List ℕ → List ℕ → ℕ → List ℕ
piece [] bs i = []
piece (n ∷ ns) bs zero = take n bs
piece (n ∷ ns) bs (suc i) = piece ns (drop n bs) i

piece-is : (ns bs : List ℕ) (i : ℕ) → i < length ns → piece ns bs i ≡ copybook bs ns i
piece-is [] bs i h = absurd (omega arith)
piece-is (n ∷ ns) bs zero h = ap (λ (m : ℕ). take m bs) (omega arith)
piece-is (n ∷ ns) bs (suc i) h =
    let a = added (take i ns) in
    let b = added (take (suc i) ns) in
    piece-is ns (drop n bs) i (omega arith)
    ∙ ap (drop a) (take-drop b n bs)
    ∙ drop-drop a n (take (n + b) bs)

module _ (name : List ℕ) (work : ℕ) where
  abbrev ReadIn : List ℕ → List ℕ → ℕ → Type 0
  ReadIn ns bs i = (es : Entries) × (entries (piece ns bs i) work ≡ Ok es)

  key-refused : (text : List ℕ) {r : Refusal} → entries text work ≡ Err r → key_in work name text ≡ Err r
  unfolding key_in and_then
  key-refused text h = rw h

  key-given : (text : List ℕ) (es : Entries) → entries text work ≡ Ok es → key_in work name text ≡ Ok (key_among text name es)
  unfolding key_in and_then
  key-given text es h = rw h

  keys-refused :
      (ns bs : List ℕ) (i : ℕ) {r : Refusal} →
      i < length ns →
      ((j : ℕ) → j < i → ReadIn ns bs j) →
      entries (piece ns bs i) work ≡ Err r →
      keys_in work name (copybooks ns bs) ≡ Err r
  unfolding keys_in copybooks and_then
  keys-refused [] bs i l before h = absurd (omega arith)
  keys-refused (n ∷ ns) bs zero l before h = rw (key-refused (take n bs) h)
  keys-refused (n ∷ ns) bs (suc i) l before h =
      let first = before 0 (omega arith) in
      rw (
        key-given (take n bs) first.0 first.1,
        keys-refused ns (drop n bs) i (omega arith) (λ j m. before (suc j) (omega arith)) h,
      )

  keys-given :
      (ns bs : List ℕ) →
      ((j : ℕ) → j < length ns → ReadIn ns bs j) →
      (ks : List (Option Key)) × (keys_in work name (copybooks ns bs) ≡ Ok ks)
  unfolding keys_in copybooks and_then
  keys-given [] bs all = ([], refl)
  keys-given (n ∷ ns) bs all =
      let first = all 0 (omega arith) in
      let rest = keys-given ns (drop n bs) (λ j m. all (suc j) (omega arith)) in
      (key_among (take n bs) name first.0 ∷ rest.0, rw (key-given (take n bs) first.0 first.1, rest.1))

  have-each :
      (k : Key) (ns bs : List ℕ) (i : ℕ) →
      AllHave work name k (copybooks ns bs) →
      i < length ns →
      HasKey work name k (piece ns bs i)
  unfolding copybooks
  have-each k [] bs i h l = absurd (omega arith)
  have-each k (n ∷ ns) bs zero h l = h.0
  have-each k (n ∷ ns) bs (suc i) h l = have-each k ns (drop n bs) i h.1 (omega arith)

  each-have :
      (k : Key) (ns bs : List ℕ) →
      ((i : ℕ) → i < length ns → HasKey work name k (piece ns bs i)) →
      AllHave work name k (copybooks ns bs)
  unfolding copybooks
  each-have k [] bs h = tt
  each-have k (n ∷ ns) bs h =
      (h 0 (omega arith), each-have k ns (drop n bs) (λ i l. h (suc i) (omega arith)))

  module _ (texts lengths : List ℕ) where
    have-common : (k : Key) → AllHave work name k (copybooks lengths texts) → Common texts lengths name work k
    have-common k h i l =
        subst (HasKey work name k) (piece-is lengths texts i l) (have-each k lengths texts i h l)

    common-have : (k : Key) → Common texts lengths name work k → AllHave work name k (copybooks lengths texts)
    common-have k h =
        each-have k lengths texts (λ i l. subst (HasKey work name k) (sym (piece-is lengths texts i l)) (h i l))

    read-in : (i : ℕ) → i < length lengths → Read texts lengths name work i → ReadIn lengths texts i
    read-in i l r = (r.0, subst (λ (t : List ℕ). entries t work ≡ Ok r.0) (sym (piece-is lengths texts i l)) r.1)

    sum-added : (ns : List ℕ) → sum ns ≡ added ns
    unfolding sum
    sum-added [] = refl
    sum-added (n ∷ ns) = ap (λ (m : ℕ). n + m) (sum-added ns)

    set-is : IsSet texts lengths → is_set lengths texts ≡ true
    set-is s = grind (arith, sum-added lengths, s.more_than_one, s.few, s.whole)

    is-set : is_set lengths texts ≡ true → IsSet texts lengths
    is-set h =
        record {
          more_than_one = grind arith;
          few = grind arith;
          whole = grind (arith, sum-added lengths);
        }

    none-common :
        (ks : List (Option Key)) →
        keys_in work name (copybooks lengths texts) ≡ Ok ks →
        ((k : Key) → Common texts lengths name work k → ⊥) →
        (o : Option Key) →
        common ks ≡ o →
        or_refuse Refusal.NoCommonKey o ≡ Err Refusal.NoCommonKey
    none-common ks read without None q = refl
    none-common ks read without (Some k) q =
        absurd (without k (have-common k (all-common work name k (copybooks lengths texts) ks read q)))

    key-common :
        (ns bs : List ℕ) (k : Key) →
        2 ≤ length ns →
        common (each k (copybooks ns bs)) ≡ Some k
    unfolding copybooks
    key-common [] bs k h = absurd (omega arith)
    key-common (n ∷ ns) bs k h = rw (each-agrees k (copybooks ns (drop n bs)))

-- an answered offset and width are those of one key that every copybook of the set has
only :
    (texts lengths name : List ℕ) (work : ℕ) (c : KeyColumn) →
    key_of_texts texts lengths name work ≡ Ok c →
    IsSet texts lengths × ((k : Key) × Common texts lengths name work k × (c.offset ≡ k.offset) × (c.width ≡ k.width))
unfolding key_of_texts
only texts lengths name work c h =
    through _ _ h λ _ set h₁.
    through _ _ h₁ λ ks read h₂.
    through _ _ h₂ λ k found h₃.
    let p = given-same h₃ in
    let all = all-common work name k (copybooks lengths texts) ks read (found_some _ (common ks) found) in (
      is-set name work texts lengths (grind arith),
      (
        k,
        have-common name work texts lengths k all,
        sym (ap (λ (x : KeyColumn). x.offset) p),
        sym (ap (λ (x : KeyColumn). x.width) p),
      ),
    )

-- what a set of copybooks is answered
pub answers : (texts lengths name : List ℕ) (work : ℕ) → KeyAnswers texts lengths name work
unfolding key_of_texts and_then
answers texts lengths name work =
    record {
      no-set = λ without.
          by_cases (is_set lengths texts)
          (λ y. absurd (without (is-set name work texts lengths y)))
          (λ n. rw n);
      refused = λ s i l before r h.
          rw (
            set-is name work texts lengths s,
            keys-refused name work lengths texts i l
                (λ j m. read-in name work texts lengths j (omega arith) (before j m))
                (subst (λ (t : List ℕ). entries t work ≡ Err r) (sym (piece-is lengths texts i l)) h),
          );
      no-key = λ s all without.
          let ks = keys-given name work lengths texts (λ j m. read-in name work texts lengths j m (all j m)) in
          rw (
            set-is name work texts lengths s,
            ks.1,
            none-common name work texts lengths ks.0 ks.1 without (common ks.0) refl,
          );
      one-key = λ s k h.
          rw (
            set-is name work texts lengths s,
            keys-read work name k (copybooks lengths texts) (common-have name work texts lengths k h),
            key-common name work texts lengths lengths texts k s.more_than_one,
          );
      only = λ c h. only texts lengths name work c h;
    }
