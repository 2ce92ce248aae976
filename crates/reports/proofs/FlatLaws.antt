-- The details of the listing's entries one after the other are the definition's; how deep those entries stand; what the
-- table says of a record.
-- Assumes nothing.
use Rattle.rows.specs.declared.Row.{Row}
use Prim.Native.Nat.{ℕ, suc, ◌+◌, ◌*◌, ◌≤◌, ◌<◌}
use mathlib.Core.Path.{◌≡◌, refl, sym, ap, ap₂, subst, ◌∙◌}
use mathlib.Core.List.{List, [], ◌∷◌, ◌++◌, append_assoc, append-nil}
use native.Mathlib.Omega.{arith}
use lib.ListN.{length, get_or, set, replicate, length-set, length-replicate}
use lib.Seq.{get_or-set_same, get_or-set_other}
use Rattle.std.specs.Prelude.{Option, None, Some}
use Rattle.definition.specs.declared.SignWords.{SignWords}
use Rattle.definition.specs.declared.Statement.{Statement}
use Rattle.definition.specs.declared.Entry.{Entry}
use Rattle.definition.specs.Basic.{le4, le8}
use Rattle.definition.specs.Fold.{Entries, end, entry, folded_all}
use Rattle.definition.specs.Search.{entries#}
use Rattle.definition.specs.Details.{Detail, detail, details_in, detail_bytes, details_bytes, root_bytes, sign_words_byte, listing_details, height}
use Rattle.definition.proofs.DetailLaws.{bytes-both, detail-length, details-length}
use Rattle.layout.specs.Shown.{list_in}
use Rattle.fold.specs.declared.table.TableEntry.{TableEntry}
use Rattle.fold.specs.Entered.{Shown, flat_in, shown_all}
use Rattle.fold.proofs.FlatLaws.{flat-length}
use Rattle.reports.specs.Detailed.{standing_bytes, clause_places, held_bytes, head_bytes, flat_details, Within, Shallow, details_of}
use Rattle.reports.specs.Detailed.{RecordTabled}

-- the parts of an entry's details, in the order in which they are put
pub detail-parts :
    (x : Detail) →
    detail_bytes x
    ≡ standing_bytes x ++ le8 x.first ++ le4 x.own.slack ++ clause_places x.own ++ held_bytes x.own
unfolding detail_bytes
detail-parts x = refl

-- 17 bytes of a head
pub root-length : (root : Option Statement) → length (root_bytes root) ≡ 13
root-length root = grind arith

pub ruleset root_sizes = (root-length)

-- 63 bytes can be counted, and so can each of the parts
pub ruleset detail_sizes = (detail-length)

-- ---------------------------------------------------------------- how deep

within_both : (a b : List Shown) → Within a → Within b → Within (a ++ b)
within_both [] b p q = q
within_both (x ∷ a) b p q = (p.0, within_both a b p.1 q)

pub within-flat : (es : Entries) (d : ℕ) → d + height es ≤ 130 → Within (flat_in d es)
unfolding flat_in
within-flat end d h = tt
within-flat (entry e ms later) d h =
    (omega arith, within_both (flat_in (d + 1) ms) (flat_in d later) (within-flat ms (d + 1) (omega arith)) (within-flat later d (omega arith)))

-- ---------------------------------------------------------------- the details

-- a list at a depth, and entries after it, which find the lists around them as they were
record Flat (es : Entries) (d : ℕ) (starts : List ℕ) (after : List Shown) : Type 0 where
  now : List ℕ
  long : length now ≡ length starts
  same : (i : ℕ) → i ≤ d → get_or now i 0 ≡ get_or starts i 0
  is : flat_details starts (flat_in d es ++ after) ≡ details_bytes (details_in d (get_or starts d 0) es) ++ flat_details now after

-- four runs of bytes, the middle two as one
joined : (own : List ℕ) (xs ys : List Detail) (z : List ℕ) → own ++ (details_bytes xs ++ (details_bytes ys ++ z)) ≡ (own ++ details_bytes (xs ++ ys)) ++ z
joined own xs ys z =
    ap (λ (l : List ℕ). own ++ l) (sym (append_assoc (details_bytes xs) (details_bytes ys) z) ∙ ap (λ (l : List ℕ). l ++ z) (sym (bytes-both xs ys)))
    ∙ sym (append_assoc own (details_bytes (xs ++ ys)) z)

-- an entry, its members, and the later ones
flat-entry :
    (e : Entry) (ms later : Entries) (d : ℕ) (starts : List ℕ) (after : List Shown) (first : ℕ) →
    first ≡ get_or starts d 0 + e.offset →
    d + 1 < length starts →
    (inner : Flat ms (d + 1) (set starts (d + 1) first) (flat_in d later ++ after)) →
    Flat later d inner.now after →
    Flat (entry e ms later) d starts after
unfolding flat_in flat_details details_in details_bytes
flat-entry e ms later d starts after first f h inner rest =
    let kept : (i : ℕ) → i ≤ d → get_or inner.now i 0 ≡ get_or starts i 0 =
    λ i l. inner.same i (omega arith) ∙ get_or-set_other starts (d + 1) i first 0 (λ z. omega arith) in
    let own = detail_bytes (detail e d (entries# ms) first) in
    record {
      now = rest.now;
      long = rest.long ∙ inner.long ∙ length-set starts (d + 1) first;
      same = λ i l. rest.same i l ∙ kept i l;
      is =
          (λ i. detail_bytes (detail e d (entries# ms) (sym f i)) ++ flat_details (set starts (d + 1) (sym f i)) (append_assoc (flat_in (d + 1) ms) (flat_in d later) after i))
          ∙ ap (λ (l : List ℕ). own ++ l) inner.is
          ∙ ap (λ (l : List ℕ). own ++ (details_bytes (details_in (d + 1) (get_or (set starts (d + 1) first) (d + 1) 0) ms) ++ l)) rest.is
          ∙ ap₂ (λ (m n : ℕ). own ++ (details_bytes (details_in (d + 1) m ms) ++ (details_bytes (details_in d n later) ++ flat_details rest.now after)))
          (get_or-set_same starts (d + 1) first 0 h) (kept d (omega arith))
          ∙ joined own (details_in (d + 1) first ms) (details_in d (get_or starts d 0) later) (flat_details rest.now after)
          ∙ ap (λ (n : ℕ). (detail_bytes (detail e d (entries# ms) n) ++ details_bytes (details_in (d + 1) n ms ++ details_in d (get_or starts d 0) later)) ++ flat_details rest.now after) f;
    }

flat-list : (es : Entries) (d : ℕ) (starts : List ℕ) (after : List Shown) → d + height es < length starts → Flat es d starts after
unfolding flat_in details_in details_bytes
flat-list end d starts after h = record { now = starts; long = refl; same = λ i _. refl; is = refl }
flat-list (entry e ms later) d starts after h =
    let first = get_or starts d 0 + e.offset in
    let inner = flat-list ms (d + 1) (set starts (d + 1) first) (flat_in d later ++ after) (omega (arith, length-set starts (d + 1) first)) in
    flat-entry e ms later d starts after first refl (omega arith) inner
    (flat-list later d inner.now after (omega (arith, length-set starts (d + 1) first, inner.long)))

-- the first list starts at the record's start
pub flat-details : (es : Entries) → height es ≤ 130 → flat_details (replicate 131 0) (flat_in 0 es) ≡ details_bytes (details_in 0 0 es)
unfolding flat_details
flat-details es h =
    let f = flat-list es 0 (replicate 131 0) [] (omega (arith, length-replicate {A = ℕ} 131 0)) in
    ap (flat_details (replicate 131 0)) (sym (append-nil (flat_in 0 es))) ∙ f.is ∙ append-nil (details_bytes (details_in 0 0 es))

-- a head before them
headed :
    (root : Option Statement) (es : Entries) {n : ℕ} {bs : List ℕ} →
    n ≡ entries# es →
    bs ≡ details_bytes (details_in 0 0 es) →
    head_bytes root n ++ bs ≡ listing_details root es
unfolding listing_details
headed None es p q = cc (p, q)
headed (Some s) es p q = cc (p, q)

-- ---------------------------------------------------------------- the table of a record

all_length : (w : List Row) (t : List TableEntry) → length (shown_all w t) ≡ length t
unfolding shown_all
all_length w [] = refl
all_length w (x ∷ t) = ap suc (all_length w t)

module _ {text : List ℕ} {w : List Row} {t : List TableEntry} {from to : ℕ} (h : RecordTabled text w t from to) where
  abbrev es : Entries
  es = folded_all text (list_in w from to)

  pub table_shallow : Shallow w t
  table_shallow =
      record {
        deep = subst Within (sym h.table.is) (within-flat es 0 (omega (arith, h.deep)));
        few = omega (arith, h.table.few, h.few);
      }

  -- the table has as many entries as the listing
  table_count : length t ≡ entries# es
  table_count = sym (all_length w t) ∙ ap length h.table.is ∙ flat-length es 0

  module _ (root : Option Statement) where
    pub table_details :
        head_bytes root (length t) ++ flat_details (replicate 131 0) (shown_all w t) ≡ details_of root text w from to
    table_details =
        headed root es table_count (ap (flat_details (replicate 131 0)) h.table.is ∙ flat-details es h.deep)

    pub table_needs : 17 + 63 * length t ≡ length (details_of root text w from to)
    table_needs = omega (arith, table_count, details-length root es)
