-- What the loop over the table keeps: the details of all entries are what was put and the details of the rest, by the
-- starts of the open lists.
-- Assumes nothing.
use Rattle.rows.specs.declared.Row.{Row}
use Prim.Native.Nat.{ℕ, zero, suc, ◌+◌, ◌*◌, ◌≤◌, ◌<◌}
use mathlib.Core.Path.{◌≡◌, sym, ap, subst, ◌∙◌}
use mathlib.Core.Logic.{⊎_elim}
use mathlib.Core.List.{List, ◌∷◌, ◌++◌}
use native.Mathlib.Omega.{arith}
use lib.ListN.{length, get_or, set, replicate, length-set, length-replicate}
use lib.Seq.{get_or-set_same, get_or-set_other}
use Rattle.definition.specs.Details.{detail_bytes}
use Rattle.definition.proofs.DetailLaws.{detail-length}
use Rattle.definition.proofs.Lists.{order}
use Rattle.output.specs.declared.Sink.{Sink}
use Rattle.output.specs.Puts.{Puts}
use Rattle.output.proofs.PutLaws.{Left, left-all, left-none, left-on}
use Rattle.fold.specs.declared.table.TableEntry.{TableEntry}
use Rattle.fold.specs.declared.table.Mark.{Mark}
use Rattle.fold.specs.Entered.{shown_of, shown_all}
use Rattle.fold.proofs.LoopLaws.{rest, none_left, rest-next}
use Rattle.reports.specs.Detailed.{detail_in, flat_details, Within, farthest, FirstByte, Shallow}

-- no list starts farther on than n
abbrev Low : List ℕ → ℕ → Type 0
Low starts n = (i : ℕ) → get_or starts i 0 ≤ n

low_zeros : (n : ℕ) → Low (replicate n 0) 0
low_zeros zero i = omega arith
low_zeros (suc n) zero = omega arith
low_zeros (suc n) (suc i) = low_zeros n i

low-set : (starts : List ℕ) (j v n m : ℕ) → Low starts n → n ≤ m → v ≤ m → j < length starts → Low (set starts j v) m
low-set starts j v n m h l k fits i =
    ⊎_elim
    (λ (a : i < j). omega (arith, get_or-set_other starts j i v 0 (λ z. omega arith), h i))
    (λ (a : j ≤ i).
    ⊎_elim
    (λ (b : j < i). omega (arith, get_or-set_other starts j i v 0 (λ z. omega arith), h i))
    (λ (b : i ≤ j). let e : i ≡ j = omega arith in omega (arith, ap (λ (x : ℕ). get_or (set starts j v) x 0) e, get_or-set_same starts j v 0 fits))
    (order j i))
    (order i j)

-- an item that is read past the table's end
abbrev pub no_item : TableEntry
no_item = record { row = 0; mark = Mark.Own; members = 0; below = 0; depth = 0 }

-- the loop is at item k
pub record Detailing (w : List Row) (t : List TableEntry) (s : Sink) (starts : List ℕ) (k : ℕ) (s' : Sink) : Type 0 where
  pub deep : Within (rest w t k)
  pub long : length starts ≡ 131
  pub low : (i : ℕ) → get_or starts i 0 ≤ k * 4294967296
  pub at : s'.at ≡ s.at + 63 * k
  pub left : Left s (flat_details (replicate 131 0) (shown_all w t)) (flat_details starts (rest w t k)) s'

pub starts : (w : List Row) (t : List TableEntry) (s : Sink) → Within (shown_all w t) → Detailing w t s (replicate 131 0) 0 s
starts w t s h =
    record {
      deep = h;
      long = length-replicate {A = ℕ} 131 0;
      low = λ i. omega (arith, low_zeros 131 i);
      at = omega arith;
      left = left-all s (flat_details (replicate 131 0) (shown_all w t));
    }

module _ {w : List Row} {t : List TableEntry} {s : Sink} {lists : List ℕ} {k : ℕ} {s' : Sink} (inv : Detailing w t s lists k s') where
  pub ends : length t ≤ k → Puts s (flat_details (replicate 131 0) (shown_all w t)) s'
  unfolding flat_details
  ends h = left-none inv.left (ap (flat_details lists) (none_left w t k h))

  pub place_small : Shallow w t → k < length t → s.at ≤ 17 → s'.at ≤ 4294967295
  place_small all h z = omega (arith, inv.at, all.few)

  module _ (all : Shallow w t) (d : TableEntry) (h : k < length t) where
    deep-next : ((get_or t k d).depth < 130) × Within (rest w t (k + 1))
    deep-next = subst Within (rest-next w t k d h) inv.deep

    pub there : (get_or t k d).depth < 130
    there = deep-next.0

    pub near : get_or lists (get_or t k d).depth 0 ≤ farthest
    near = omega (arith, inv.low (get_or t k d).depth, all.few)

    pub on :
        {first : ℕ} →
        FirstByte lists (shown_of w (get_or t k d)) first →
        {s'' : Sink} →
        Puts s' (detail_bytes (detail_in first (shown_of w (get_or t k d)))) s'' →
        Detailing w t s (set lists ((get_or t k d).depth + 1) first) (k + 1) s''
    unfolding flat_details
    on {first} f p =
        let x = shown_of w (get_or t k d) in
        let bs = detail_bytes (detail_in first x) in
        let next = (get_or t k d).depth + 1 in
        let step : flat_details lists (x ∷ rest w t (k + 1)) ≡ bs ++ flat_details (set lists next first) (rest w t (k + 1)) =
        (λ i. detail_bytes (detail_in (sym f.is i) x) ++ flat_details (set lists next (sym f.is i)) (rest w t (k + 1))) in
        record {
          deep = deep-next.1;
          long = length-set lists next first ∙ inv.long;
          low = low-set lists next first (k * 4294967296) ((k + 1) * 4294967296) inv.low (omega arith)
              (omega (arith, f.is, f.small, inv.low (get_or t k d).depth)) (omega (arith, inv.long, deep-next.0));
          at = omega (arith, p.put.next, inv.at, detail-length (detail_in first x));
          left = left-on inv.left (ap (flat_details lists) (rest-next w t k d h) ∙ step) p;
        }
