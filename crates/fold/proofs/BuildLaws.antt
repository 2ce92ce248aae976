-- Laws of the table's blocks, over plain variables: an item closed; entries after others; an entry before its members;
-- room for the rest.
-- Assumes nothing.
use Rattle.rows.specs.declared.Row.{Row}
use Prim.Native.Nat.{ℕ, suc, ◌+◌, ◌-◌, ◌≤◌, ◌<◌}
use mathlib.Core.Path.{◌≡◌, refl, sym, ap, ap₂, subst, ◌∙◌}
use Rattle.std.specs.Prelude.{Option, None, Some}
use mathlib.Core.List.{List, [], ◌∷◌, ◌++◌, append-nil}
use native.Mathlib.Omega.{arith}
use lib.ListN.{length, set}
use lib.Seq.{sets, length-sets, set_comm}
use native.Mathlib.Numerals.{add-one}
use Rattle.std.proofs.Common.{add-zero}
use Rattle.std.specs.Prelude.{All}
use Rattle.std.proofs.lemmas.List.Elements.{All-append, All-cons}
use Rattle.definition.specs.declared.Entry.{Entry}
use Rattle.definition.specs.declared.TheConstants.{LARGEST}
use Rattle.definition.specs.Fold.{Entries, end, entry, append, total, rebased, union, widest}
use Rattle.definition.specs.Listing.{members#}
use Rattle.definition.specs.Search.{entries#}
use Rattle.layout.specs.Places.{entry_in}
use Rattle.layout.specs.Shown.{SizedRow}
use Rattle.layout.proofs.FoldedLaws.{count-append, widest-append}
use Rattle.fold.specs.declared.table.TableEntry.{TableEntry}
use Rattle.fold.specs.declared.entries.Block.{Block}
use Rattle.fold.specs.Entered.{Shown, flat_in, shown_of, shown_all, Sound, From}
use Rattle.fold.specs.Building.{stands_as, within, TableRoom, Built, own_item, union_item, ItemOpen}
use Rattle.fold.specs.Building.{ItemClosed}
use Rattle.fold.proofs.FlatLaws.{flat_append, flat-length, size-append, members-few}

-- ---------------------------------------------------------------- stores

sets-append : (v w out : List TableEntry) (k : ℕ) → sets out k (v ++ w) ≡ sets (sets out k v) (k + length v) w
sets-append [] w out k = rw (add-zero k)
sets-append (x ∷ v) w out k =
    let e : suc k + length v ≡ k + suc (length v) = omega arith in
    sets-append v w (set out k x) (suc k) ∙ ap (λ (n : ℕ). sets (sets (set out k x) (suc k) v) n w) e

-- what is put before what is there
set_before : (xs out : List TableEntry) (i j : ℕ) (x : TableEntry) → j < i → set (sets out i xs) j x ≡ sets (set out j x) i xs
set_before [] out i j x h = refl
set_before (y ∷ xs) out i j x h =
    set_before xs (set out i y) (suc i) j x (omega arith) ∙ ap (λ (l : List TableEntry). sets l (suc i) xs) (set_comm out i j y x (λ e. omega arith))

shown-append : (w : List Row) (a b : List TableEntry) → shown_all w (a ++ b) ≡ shown_all w a ++ shown_all w b
unfolding shown_all
shown-append w [] b = refl
shown-append w (x ∷ a) b = ap (λ (l : List Shown). shown_of w x ∷ l) (shown-append w a b)

inside-wider : {from : ℕ} (from' : ℕ) (a : List TableEntry) → from' ≤ from → All (From from) a → All (From from') a
inside-wider from' a l h = λ k x q. omega (arith, h k x q)

sound-wider : {to : ℕ} (to' : ℕ) (w : List Row) (a : List TableEntry) → to ≤ to' → All (Sound w to) a → All (Sound w to') a
sound-wider to' w a m h =
    λ k x q. record { there = omega (arith, (h k x q).there); small = (h k x q).small }

pub shown-length : (w : List Row) (a : List TableEntry) → length (shown_all w a) ≡ length a
unfolding shown_all
shown-length w [] = refl
shown-length w (x ∷ a) = ap suc (shown-length w a)

-- ---------------------------------------------------------------- entries after others

pub built-none : {from to : ℕ} (w : List Row) (out : List TableEntry) (b : Block) → b.widest ≤ LARGEST → Built from to w out b end b out
unfolding shown_all flat_in widest
built-none w out b h = record { items = []; rows = λ k x h. absurd (omega arith); inside = λ k x h. absurd (omega arith); is = refl; put = refl; next = omega arith; deep = refl; count = omega arith; most = omega arith; narrow = h }

pub built-as :
    {from to : ℕ} {w : List Row} {out : List TableEntry} {b : Block} {es fs : Entries} {r : Block} {after : List TableEntry} →
    es ≡ fs →
    Built from to w out b fs r after →
    Built from to w out b es r after
built-as {from} {to} {w} {out} {b} {es} {fs} {r} {after} e h =
    subst (λ (x : Entries). Built from to w out b x r after) (sym e) h

-- of rows that are among others
pub built-wider :
    (from' to' : ℕ) {from to : ℕ} {w : List Row} {out : List TableEntry} {b : Block} {es : Entries} {r : Block} {after : List TableEntry} →
    from' ≤ from →
    to ≤ to' →
    Built from to w out b es r after →
    Built from' to' w out b es r after
built-wider from' to' l m h =
    record {
      items = h.items;
      rows = sound-wider to' _ h.items m h.rows;
      inside = inside-wider from' h.items l h.inside;
      is = h.is;
      put = h.put;
      next = h.next;
      deep = h.deep;
      count = h.count;
      most = h.most;
      narrow = h.narrow;
    }

infixl 5 ◌then◌
module _ {from to : ℕ} {w : List Row} {out : List TableEntry} {b : Block} {es : Entries} {r : Block} {after : List TableEntry} (p : Built from to w out b es r after) where
  pub built-many : length p.items ≡ entries# es
  built-many = sym (shown-length w p.items) ∙ ap length p.is ∙ flat-length es b.depth

  pub built-length : length after ≡ length out
  built-length = ap length p.put ∙ length-sets out b.next p.items

  pub ◌then◌ :
      {fs : Entries} {r' : Block} {after' : List TableEntry} →
      Built from to w after r fs r' after' →
      Built from to w out b (append es fs) r' after'
  ◌then◌ {fs} {r'} {after'} q =
      let place : r.next ≡ b.next + length p.items = omega (arith, p.next, built-many) in
      record {
        items = p.items ++ q.items;
        rows = All-append (Sound w to) p.items q.items p.rows q.rows;
        inside = All-append (From from) p.items q.items p.inside q.inside;
        is =
            shown-append w p.items q.items
            ∙ ap₂ (λ (x y : List Shown). x ++ y) p.is (q.is ∙ ap (λ (n : ℕ). flat_in n fs) p.deep)
            ∙ sym (flat_append es fs b.depth);
        put =
            q.put
            ∙ (λ k. sets (p.put k) (place k) q.items)
            ∙ sym (sets-append p.items q.items out b.next);
        next = omega (arith, p.next, q.next, size-append es fs);
        deep = q.deep ∙ p.deep;
        count = omega (arith, p.count, q.count, count-append es fs);
        most = omega (arith, p.most, q.most, widest-append es fs);
        narrow = q.narrow;
      }

  -- room for the rest
  pub room-rest : {n last : ℕ} (m : ℕ) → n ≡ entries# es + m → TableRoom out b n last → TableRoom after r m last
  room-rest m e h =
      record {
        fits = omega (arith, h.fits, p.next, built-length);
        small = omega (arith, h.small, p.next);
        deep = omega (arith, h.deep, p.next, p.deep);
        few = omega (arith, h.few, p.next, p.count, members-few es);
        narrow = p.narrow;
        rows = h.rows;
      }

pub room-first : {out : List TableEntry} {b : Block} {n to : ℕ} (m k : ℕ) → n ≡ m + k → TableRoom out b n to → TableRoom out b m to
room-first m k e h = record { fits = omega (arith, h.fits); small = omega (arith, h.small); deep = h.deep; few = h.few; narrow = h.narrow; rows = h.rows }

pub room-part : {out : List TableEntry} {b : Block} {n to : ℕ} (to' : ℕ) → to' ≤ to → TableRoom out b n to → TableRoom out b n to'
room-part to' e h = record { fits = h.fits; small = h.small; deep = h.deep; few = h.few; narrow = h.narrow; rows = omega (arith, h.rows) }

-- ---------------------------------------------------------------- an entry before its members

pub room_within : {out : List TableEntry} {b : Block} {n to : ℕ} → TableRoom out b (suc (n + 0)) to → TableRoom out (within b) n to
room_within h =
    record { fits = omega (arith, h.fits); small = omega (arith, h.small); deep = omega (arith, h.deep); few = omega arith; narrow = omega arith; rows = h.rows }

module _ (b : Block) {from to : ℕ} {w : List Row} {out : List TableEntry} {ms : Entries} {inner : Block} {mid : List TableEntry} (p : Built from to w out (within b) ms inner mid) where
  pub room_open : {last : ℕ} (i : ℕ) → i < last → TableRoom out b (suc (entries# ms + 0)) last → ItemOpen mid b inner i
  room_open i l h =
      record {
        fits = omega (arith, h.fits, built-length p);
        above = omega (arith, p.next);
        small = omega (arith, h.small, p.next);
        members = omega (arith, p.next, p.count, members-few ms);
        deep = h.deep;
        few = h.few;
        narrow = (h.narrow, p.narrow);
        row = omega (arith, h.rows);
      }

  module _ (e : Entry) (x : TableEntry) (f : Sound w to x) (s : shown_of w x ≡ record { own = e; members = members# ms; below = entries# ms; depth = b.depth }) where
    closed-put : {after : List TableEntry} → after ≡ set mid b.next x → after ≡ sets out b.next (x ∷ p.items)
    closed-put q =
        q
        ∙ ap (λ (l : List TableEntry). set l b.next x) (p.put ∙ ap (λ (n : ℕ). sets out n p.items) (add-one b.next))
        ∙ set_before p.items out (suc b.next) b.next x (omega arith)

    pub built-entry :
        {r : Block} {after : List TableEntry} {n : ℕ} →
        from ≤ x.row →
        n ≡ total e →
        ItemClosed mid b inner x n r after →
        Built from to w out b (entry e ms end) r after
    unfolding shown_all flat_in widest
    built-entry {r} low t c =
        record {
          items = x ∷ p.items;
          rows = All-cons (Sound w to) x p.items f p.rows;
          inside = All-cons (From from) x p.items low p.inside;
          is = (λ k. s k ∷ p.is k) ∙ ap (λ (l : List Shown). record { own = e; members = members# ms; below = entries# ms; depth = b.depth } ∷ l) (sym (append-nil (flat_in (b.depth + 1) ms)));
          put = closed-put c.put;
          next = omega (arith, c.next, p.next);
          deep = c.deep;
          count = omega (arith, c.count);
          most = omega (arith, c.most, t);
          narrow = c.narrow;
        }

  -- row i by itself or as a member of a union, and a union
  module _ (i : ℕ) (low : from ≤ i) (high : i < to) where
    members-counted : inner.count ≡ members# ms
    members-counted = omega (arith, p.count)

    below-counted : inner.next - b.next - 1 ≡ entries# ms
    below-counted = omega (arith, p.next)

    own-shown :
        (union : Option ℕ) →
        shown_of w (own_item w i union b inner) ≡ record { own = stands_as union (entry_in w i); members = members# ms; below = entries# ms; depth = b.depth }
    own-shown (Some start) = λ k. record { own = rebased start (entry_in w i); members = members-counted k; below = below-counted k; depth = b.depth }
    own-shown None = λ k. record { own = entry_in w i; members = members-counted k; below = below-counted k; depth = b.depth }

    own-total : (union : Option ℕ) → total (entry_in w i) ≡ total (stands_as union (entry_in w i))
    own-total (Some start) = refl
    own-total None = refl

    sound-own : SizedRow w i → (union : Option ℕ) → Sound w to (own_item w i union b inner)
    sound-own f (Some start) = record { there = high; small = f.small }
    sound-own f None = record { there = high; small = f.small }

    pub built-own :
        SizedRow w i →
        (union : Option ℕ) {r : Block} {after : List TableEntry} →
        ItemClosed mid b inner (own_item w i union b inner) (total (entry_in w i)) r after →
        Built from to w out b (entry (stands_as union (entry_in w i)) ms end) r after
    built-own f union c =
        built-entry (stands_as union (entry_in w i)) (own_item w i union b inner) (sound-own f union) (own-shown union) low (own-total union) c

    pub built-union :
        {r : Block} {after : List TableEntry} → ItemClosed mid b inner (union_item w i b inner) inner.widest r after → Built from to w out b (entry (union (entry_in w i) (widest ms)) ms end) r after
    built-union c =
        let wide : inner.widest ≡ widest ms = omega (arith, p.most) in
        built-entry
        (union (entry_in w i) (widest ms))
        (union_item w i b inner)
        (record { there = high; small = omega (arith, p.narrow) })
        (λ k. record { own = union (entry_in w i) (wide k); members = members-counted k; below = below-counted k; depth = b.depth })
        low
        (omega (arith, wide))
        c
