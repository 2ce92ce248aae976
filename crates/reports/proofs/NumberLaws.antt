-- Entry k of the listing, by the definition's own numbering, is what item k of the table says, and there is none past
-- them; and the row behind it.
-- Assumes nothing.
use Prim.Native.Nat.{ℕ, zero, suc, ◌+◌, ◌≤◌, ◌<◌}
use mathlib.Core.Path.{◌≡◌, refl, sym, ap, subst, ◌∙◌}
use mathlib.Core.List.{List, [], ◌∷◌, ◌++◌}
use Rattle.std.specs.Prelude.{Some}
use Rattle.std.specs.List.{slice_get}
use Rattle.std.specs.Option.{option_map}
use Rattle.std.proofs.lemmas.Option.{get_or_from_slice_get, slice_get_within}
use Rattle.std.proofs.lemmas.List.Elements.{All-get_or}
use Rattle.definition.specs.declared.Entry.{Entry}
use Rattle.definition.specs.Fold.{Entries, end, entry}
use Rattle.definition.specs.Reasons.{flat, numbered}
use Rattle.rows.specs.declared.Row.{Row}
use Rattle.rows.specs.Rows.{row_in}
use Rattle.fold.specs.declared.table.TableEntry.{TableEntry}
use Rattle.fold.specs.declared.table.Mark.TheVariants.{Own, Member, Union}
use Rattle.fold.specs.Entered.{Shown, flat_in, own_of, shown_all, Sound, From, listed, Entered}

-- ---------------------------------------------------------------- numbers

-- the entries themselves
abbrev owns : List Shown → List Entry
owns [] = []
owns (x ∷ xs) = x.own ∷ owns xs

owns-both : (a b : List Shown) → owns (a ++ b) ≡ owns a ++ owns b
owns-both [] b = refl
owns-both (x ∷ a) b = ap (λ (l : List Entry). x.own ∷ l) (owns-both a b)

-- they are the definition's, in the order of the listing
flat-owns : (es : Entries) (d : ℕ) → owns (flat_in d es) ≡ flat es
unfolding flat_in
flat-owns end d = refl
flat-owns (entry e ms later) d = simp (owns-both, flat-owns ms (d + 1), flat-owns later d)

items-numbered : (w : List Row) (t : List TableEntry) (k : ℕ) →
    numbered k (owns (shown_all w t)) ≡ option_map (own_of w) (slice_get t k)
unfolding shown_all
items-numbered w [] k = refl
items-numbered w (x ∷ xs) zero = refl
items-numbered w (x ∷ xs) (suc k) = items-numbered w xs k

module _ {text : List ℕ} {w : List Row} {from to : ℕ} {t : List TableEntry} (h : Entered text w from to t) (k : ℕ) where
  pub entered-numbered : numbered k (flat (listed text w from to)) ≡ option_map (own_of w) (slice_get t k)
  entered-numbered =
      ap (numbered k) (sym (flat-owns (listed text w from to) 0))
      ∙ ap (λ (xs : List Shown). numbered k (owns xs)) (sym h.is)
      ∙ items-numbered w t k

-- ---------------------------------------------------------------- rows

-- the statement behind an entry begins where its row says; a union begins where its base does
pub own-begins : (w : List Row) (x : TableEntry) → (own_of w x).at ≡ (row_in w x.row).statement.at
own-begins w x = by-mark x.mark refl
  where
    by-mark : (m : _) → x.mark ≡ m → (own_of w x).at ≡ (row_in w x.row).statement.at
    by-mark Own e = rw e refl
    by-mark (Member offset) e = rw e refl
    by-mark (Union width) e = rw e refl

-- the row behind an entry is one of the record's
pub row_inside :
    {text : List ℕ} {w : List Row} {from to : ℕ} {t : List TableEntry} →
    Entered text w from to t →
    (k : ℕ) (x : TableEntry) → slice_get t k ≡ Some x → (from ≤ x.row) × (x.row < to)
row_inside {w = w} {from = from} {to = to} {t = t} h k x e =
    let l = slice_get_within t k x e in
    let same = get_or_from_slice_get t k x x e in (
      subst (From from) same (All-get_or (From from) t k x l h.inside),
      (subst (Sound w to) same (All-get_or (Sound w to) t k x l h.rows)).there,
    )
