-- The listing's bytes, read back, are the entries.
-- Assumes nothing.
use Prim.Native.Nat.{ℕ, zero, suc, ◌+◌, ◌*◌, ◌/◌, ◌%◌, ◌≤◌, ◌<◌}
use mathlib.Core.Path.{◌≡◌, refl, sym, ◌∙◌, ap, subst}
use mathlib.Core.Bool.{Bool}
use mathlib.Core.List.{List, [], ◌∷◌, ◌++◌, append_assoc, append-nil}
use native.Mathlib.Omega.{arith}
use lib.Dec.{eqb}
use lib.ListN.{length, drop, length-append}
use Rattle.std.specs.Prelude.{Option, None, Some}
use Rattle.definition.specs.declared.Span.{Span}
use Rattle.definition.specs.declared.SignKind.{SignKind}
use Rattle.definition.specs.declared.NumRepr.{NumRepr}
use Rattle.definition.specs.declared.FieldKind.{FieldKind}
use Rattle.definition.specs.declared.Entry.{Entry}
use Rattle.definition.specs.Basic.{absent, le4}
use Rattle.definition.specs.Fold.{Entries, end, entry}
use Rattle.definition.specs.Listing.{flag, sign_byte, storage_byte, span_bytes, occurs_bytes, kind_byte, members#, details, entry_bytes}
use Rattle.definition.specs.Listing.{entries_bytes, listing}
use Rattle.theorems.specs.ReadBack.{Shown, Tree, none, node, byte, number, sign, storage, details#, shown, members, read}
use Rattle.theorems.specs.ReadBack.{picture_of, shown_of, tree_of}
use Rattle.theorems.specs.ReadBack.{read_listing, listed}
use Rattle.definition.specs.Record.{record_length, variable}
use Rattle.definition.specs.Search.{entries#}
use Rattle.definition.proofs.ListingLaws.{entry_length, listing-length}

-- a number that four bytes hold
pub record Small (n : ℕ) : Type 0 where
  pub below : n < 4294967296

abbrev pub SmallPlace : Span → Type 0
SmallPlace w = Small w.start × Small w.len

abbrev pub SmallCount : Option ℕ → Type 0
SmallCount None = Unit {0}
SmallCount (Some n) = Small n

abbrev pub list# : Entries → ℕ
list# end = 0
list# (entry e members later) = suc (list# later)

-- four bytes hold each number of the entries, and the number of each list's entries; and only a group has members
pub record SmallEntry (e : Entry) : Type 0 where
  pub name : SmallPlace e.name
  pub offset : Small e.offset
  pub width : Small e.width
  pub occurs : SmallCount e.occurs
  pub depending : SmallPlace e.depending
  pub redefines : SmallPlace e.redefines
  pub picture : SmallPlace e.picture

abbrev pub OnlyGroups : FieldKind → Entries → Type 0
OnlyGroups FieldKind.Text es = es ≡ end
OnlyGroups (FieldKind.Int signed sign) es = es ≡ end
OnlyGroups (FieldKind.Binary signed) es = es ≡ end
OnlyGroups (FieldKind.Decimal precision scale repr sign) es = es ≡ end
OnlyGroups (FieldKind.Edited precision scale signed) es = es ≡ end
OnlyGroups FieldKind.Group es = Small (list# es)
OnlyGroups (FieldKind.Float bits) es = es ≡ end

abbrev pub Fits : Entries → Type 0
Fits end = Unit {0}
Fits (entry e members later) = SmallEntry e × OnlyGroups e.kind members × Fits members × Fits later

-- ---------------------------------------------------------------- bytes

-- a number from its four bytes
back : ℕ → ℕ
back n = n % 256 + n / 256 % 256 * 256 + n / 65536 % 256 * 65536 + n / 16777216 % 256 * 16777216

back-is : (n : ℕ) → Small n → back n ≡ n
unfolding back
back-is n s = omega (arith, s.below)

sign-is : (s : SignKind) → sign (sign_byte s) ≡ s
sign-is s = grind arith

storage-is : (r : NumRepr) → storage (storage_byte r) ≡ r
storage-is r = grind arith

flag-is : (b : Bool) → eqb (flag b) 1 ≡ b
flag-is b = grind arith

-- the bytes of an entry by its parts
raw : FieldKind → Span → ℕ → ℕ → Option ℕ → Span → Span → Span → ℕ → List ℕ → List ℕ
raw k name offset width o dep red pic n rest =
    kind_byte k ∷ span_bytes name ++ le4 offset ++ le4 width ++ occurs_bytes o ++ span_bytes dep ++ span_bytes red
    ++ details k pic n ++ rest

back_place : Span → Span
back_place w = record { start = back w.start; len = back w.len }

back_count : Option ℕ → Option ℕ
back_count None = None
back_count (Some n) = Some (back n)

top-is : (es : Entries) → members# es ≡ list# es
top-is end = refl
top-is (entry e ms later) = ap suc (top-is later)

group-members : (ms : Entries) {n : ℕ} → Small (list# ms) → n ≡ members# ms → back n ≡ list# ms
group-members ms {n} h q =
    let same : n ≡ list# ms = q ∙ top-is ms in back-is n (subst Small (sym same) h) ∙ same

module _ (name : Span) (offset width : ℕ) (dep red pic : Span) (n : ℕ) (rest : List ℕ) where
  abbrev made : FieldKind → Option ℕ → Span → Shown
  made k o w =
      record {
        kind = k;
        name = back_place name;
        offset = back offset;
        width = back width;
        occurs = back_count o;
        depending = back_place dep;
        redefines = back_place red;
        picture = w;
      }

  raw-shown :
      (k : FieldKind) (o : Option ℕ) →
      shown (raw k name offset width o dep red pic n rest) ≡ made k o (picture_of k (back_place pic))
  unfolding raw back back_place back_count
  raw-shown FieldKind.Text None = refl
  raw-shown FieldKind.Text (Some m) = refl
  raw-shown (FieldKind.Int s g) None = λ i. made (FieldKind.Int (flag-is s i) (sign-is g i)) None absent
  raw-shown (FieldKind.Int s g) (Some m) = λ i. made (FieldKind.Int (flag-is s i) (sign-is g i)) (Some m) absent
  raw-shown (FieldKind.Binary s) None = λ i. made (FieldKind.Binary (flag-is s i)) None absent
  raw-shown (FieldKind.Binary s) (Some m) = λ i. made (FieldKind.Binary (flag-is s i)) (Some m) absent
  raw-shown (FieldKind.Decimal p c r g) None = λ i. made (FieldKind.Decimal p c (storage-is r i) (sign-is g i)) None absent
  raw-shown (FieldKind.Decimal p c r g) (Some m) =
      λ i. made (FieldKind.Decimal p c (storage-is r i) (sign-is g i)) (Some m) absent
  raw-shown (FieldKind.Edited p c s) None = λ i. made (FieldKind.Edited p c (flag-is s i)) None (back_place pic)
  raw-shown (FieldKind.Edited p c s) (Some m) = λ i. made (FieldKind.Edited p c (flag-is s i)) (Some m) (back_place pic)
  raw-shown FieldKind.Group None = refl
  raw-shown FieldKind.Group (Some m) = refl
  raw-shown (FieldKind.Float b) None = refl
  raw-shown (FieldKind.Float b) (Some m) = refl

  raw-rest :
      (k : FieldKind) (o : Option ℕ) →
      let bs = raw k name offset width o dep red pic n rest in drop (38 + details# (byte bs 0)) bs ≡ rest
  unfolding raw
  raw-rest FieldKind.Text None = refl
  raw-rest FieldKind.Text (Some m) = refl
  raw-rest (FieldKind.Int s g) None = refl
  raw-rest (FieldKind.Int s g) (Some m) = refl
  raw-rest (FieldKind.Binary s) None = refl
  raw-rest (FieldKind.Binary s) (Some m) = refl
  raw-rest (FieldKind.Decimal p c r g) None = refl
  raw-rest (FieldKind.Decimal p c r g) (Some m) = refl
  raw-rest (FieldKind.Edited p c s) None = refl
  raw-rest (FieldKind.Edited p c s) (Some m) = refl
  raw-rest FieldKind.Group None = refl
  raw-rest FieldKind.Group (Some m) = refl
  raw-rest (FieldKind.Float b) None = refl
  raw-rest (FieldKind.Float b) (Some m) = refl

  raw-members :
      (k : FieldKind) (o : Option ℕ) (ms : Entries) →
      OnlyGroups k ms →
      n ≡ members# ms →
      members (raw k name offset width o dep red pic n rest) ≡ list# ms
  unfolding raw back
  raw-members FieldKind.Text o ms h q = ap list# (sym h)
  raw-members (FieldKind.Int s g) o ms h q = ap list# (sym h)
  raw-members (FieldKind.Binary s) o ms h q = ap list# (sym h)
  raw-members (FieldKind.Decimal p c r g) o ms h q = ap list# (sym h)
  raw-members (FieldKind.Edited p c s) o ms h q = ap list# (sym h)
  raw-members FieldKind.Group None ms h q = group-members ms h q
  raw-members FieldKind.Group (Some m) ms h q = group-members ms h q
  raw-members (FieldKind.Float b) o ms h q = ap list# (sym h)

-- ---------------------------------------------------------------- entries

place-is : (w : Span) → SmallPlace w → back_place w ≡ w
unfolding back_place
place-is w s = λ i. record { start = back-is w.start s.0 i; len = back-is w.len s.1 i }

count-is : (o : Option ℕ) → SmallCount o → back_count o ≡ o
unfolding back_count
count-is None s = refl
count-is (Some n) s = ap Some (back-is n s)

picture-is : (k : FieldKind) (w : Span) → SmallPlace w → picture_of k (back_place w) ≡ picture_of k w
picture-is k w s = ap (picture_of k) (place-is w s)

abbrev raw_of : Entry → ℕ → List ℕ → List ℕ
raw_of e n rest = raw e.kind e.name e.offset e.width e.occurs e.depending e.redefines e.picture n rest

entry-raw : (e : Entry) (n : ℕ) (rest : List ℕ) → entry_bytes e n ++ rest ≡ raw_of e n rest
unfolding entry_bytes raw
entry-raw e n rest = simp append_assoc

entry-shown : (e : Entry) (n : ℕ) (rest : List ℕ) → SmallEntry e → shown (raw_of e n rest) ≡ shown_of e
entry-shown e n rest s =
    let picture = picture-is e.kind e.picture s.picture in
    raw-shown e.name e.offset e.width e.depending e.redefines e.picture n rest e.kind e.occurs
    ∙ (λ i. record {
      kind = e.kind;
      name = place-is e.name s.name i;
      offset = back-is e.offset s.offset i;
      width = back-is e.width s.width i;
      occurs = count-is e.occurs s.occurs i;
      depending = place-is e.depending s.depending i;
      redefines = place-is e.redefines s.redefines i;
      picture = picture i;
    })

step :
    (f n m : ℕ) (bs d r q : List ℕ) (s : Shown) (t u : Tree) →
    shown bs ≡ s →
    members bs ≡ m →
    drop (38 + details# (byte bs 0)) bs ≡ d →
    read f m d ≡ (t, r) →
    read f n r ≡ (u, q) →
    read (suc f) (suc n) bs ≡ (node s t u, q)
unfolding read
step f n m bs d r q s t u a b c g h = rw (c, b, g, h, a)

read-none : (f : ℕ) (rest : List ℕ) → read f 0 rest ≡ (none, rest)
unfolding read
read-none zero rest = refl
read-none (suc f) rest = refl

reads :
    (es : Entries) (f : ℕ) (rest : List ℕ) →
    entries# es ≤ f →
    Fits es →
    read f (list# es) (entries_bytes es ++ rest) ≡ (tree_of es, rest)
unfolding entries_bytes
reads end f rest l h = read-none f rest
reads (entry e ms later) zero rest l h = absurd (omega arith)
reads (entry e ms later) (suc f) rest l h =
    let n = members# ms in
    let tail = entries_bytes ms ++ (entries_bytes later ++ rest) in
    let same : entries_bytes (entry e ms later) ++ rest ≡ raw_of e n tail =
    append_assoc (entry_bytes e n) (entries_bytes ms ++ entries_bytes later) rest
    ∙ ap (λ (l : List ℕ). entry_bytes e n ++ l) (append_assoc (entries_bytes ms) (entries_bytes later) rest)
    ∙ entry-raw e n tail in
    ap (read (suc f) (suc (list# later))) same
    ∙ step f (list# later) (list# ms) (raw_of e n tail) tail (entries_bytes later ++ rest) rest (shown_of e) (tree_of ms) (tree_of later)
    (entry-shown e n tail h.0)
    (raw-members e.name e.offset e.width e.depending e.redefines e.picture n tail e.kind e.occurs ms h.1 refl)
    (raw-rest e.name e.offset e.width e.depending e.redefines e.picture n tail e.kind e.occurs)
    (reads ms f (entries_bytes later ++ rest) (omega arith) h.2)
    (reads later f rest (omega arith) h.3)

entry-long : (e : Entry) (n : ℕ) → 1 ≤ length (entry_bytes e n)
entry-long e n = omega (arith, entry_length e n)

bytes-long : (es : Entries) → entries# es ≤ length (entries_bytes es)
unfolding entries_bytes
bytes-long end = omega arith
bytes-long (entry e ms later) =
    omega (
      arith,
      length-append (entry_bytes e (members# ms)) (entries_bytes ms ++ entries_bytes later),
      length-append (entries_bytes ms) (entries_bytes later),
      entry-long e (members# ms),
      bytes-long ms,
      bytes-long later,
    )

-- the listing, read back
pub reads_back :
    (es : Entries) → Fits es → Small (record_length es) → Small (list# es) → read_listing (listing es) ≡ listed es
unfolding listing back
reads_back es h long many =
    let bs = entries_bytes es in
    let count : number (listing es) 6 ≡ list# es = back-is (members# es) (subst Small (sym (top-is es)) many) ∙ top-is es in
    let fuel = length (listing es) in
    let room : entries# es ≤ suc fuel = omega (arith, listing-length es, bytes-long es) in
    let r : read (suc fuel) (list# es) bs ≡ (tree_of es, []) =
    ap (read (suc fuel) (list# es)) (sym (append-nil bs)) ∙ reads es (suc fuel) [] room h in
    let all : read (suc fuel) (number (listing es) 6) (drop 10 (listing es)) ≡ (tree_of es, []) =
    ap (λ (n : ℕ). read (suc fuel) n bs) count ∙ r in
    λ i. record {
      kind = 0;
      record_length = back-is (record_length es) long i;
      variable = flag-is (variable es) i;
      entries = (all i).0;
      behind = (all i).1;
    }
