-- Laws of reading the table: the items that were put are read back; one item after the other.
-- Assumes nothing.
use Rattle.rows.specs.declared.Row.{Row}
use Prim.Native.Nat.{ℕ, ◌+◌, ◌*◌, ◌≤◌}
use mathlib.Core.Path.{◌≡◌, refl, sym, ap, subst, ◌∙◌}
use mathlib.Core.List.{List, append_assoc}
use native.Mathlib.Omega.{arith}
use lib.ListN.{length, take, drop}
use lib.Seq.{sets, sets-eq}
use Rattle.std.specs.Prelude.{All}
use Rattle.std.proofs.lemmas.List.{take_at}
use Rattle.std.proofs.Math.Seq.{drop-append_seam}
use Rattle.definition.specs.declared.TheConstants.{MOST_STATEMENTS}
use Rattle.definition.specs.Search.{entries#}
use Rattle.layout.specs.Places.{rows_forest}
use Rattle.layout.proofs.EntriesLaws.{size-stretch}
use Rattle.layout.specs.Shown.{list_in}
use Rattle.layout.proofs.ShownLaws.{entries-size}
use Rattle.fold.specs.declared.table.TableEntry.{TableEntry}
use Rattle.fold.specs.declared.entries.Block.{Block}
use Rattle.fold.specs.Entered.{shown_all, Sound, From, Entered}
use Rattle.fold.specs.Entered.{listed}
use Rattle.fold.specs.Building.{block, TableRoom, Built, Roomy}
use Rattle.fold.proofs.BuildLaws.{built-many}
use Rattle.fold.proofs.SizeLaws.{folded-size}

-- what was put at the start is read back
items-put : (xs t : List TableEntry) → length xs ≤ length t → take (length xs) (sets t 0 xs) ≡ xs
items-put xs t h = rw (sets-eq xs t 0 (omega arith), append_assoc) (take_at xs (drop (0 + length xs) t) (length xs) refl)

-- and behind it stands what stood there
pub items-rest : (xs t : List TableEntry) → length xs ≤ length t → drop (length xs) (sets t 0 xs) ≡ drop (length xs) t
items-rest xs t h =
    let same : 0 + length xs ≡ length xs = omega arith in
    rw (sets-eq xs t 0 (omega arith), append_assoc)
    (drop-append_seam xs (drop (0 + length xs) t) ∙ ap (λ (n : ℕ). drop n t) same)

-- ---------------------------------------------------------------- the whole table

module _ (text : List ℕ) (w : List Row) (from to : ℕ) where
  few-entries : 2 * entries# (listed text w from to) ≤ 3 * to
  few-entries = omega (arith, folded-size text (list_in w from to), entries-size w (rows_forest w from to) from, size-stretch w from to)

  pub room-all : (out : List TableEntry) → to ≤ MOST_STATEMENTS → Roomy out to → TableRoom out (block 0 0 0 0) (entries# (listed text w from to)) to
  room-all out h l =
      let few = few-entries in
      record { fits = omega arith; small = omega arith; deep = omega arith; few = omega arith; narrow = omega arith; rows = h }

  pub rest-kept :
      {out : List TableEntry} {r : Block} {after : List TableEntry} → to ≤ MOST_STATEMENTS → Roomy out to → Built from to w out (block 0 0 0 0) (listed text w from to) r after → drop r.next after ≡ drop r.next out
  rest-kept {out} {r} {after} h l p =
      let few = few-entries in
      let many : length p.items ≡ r.next = omega (arith, built-many p, p.next) in
      (λ k. drop (sym many k) (p.put k)) ∙ items-rest p.items out (omega (arith, p.next)) ∙ (λ k. drop (many k) out)

  pub entered :
      {out : List TableEntry} {r : Block} {after : List TableEntry} → to ≤ MOST_STATEMENTS → Roomy out to → Built from to w out (block 0 0 0 0) (listed text w from to) r after → Entered text w from to (take r.next after)
  entered {out} {r} {after} h l p =
      let few = few-entries in
      let many : length p.items ≡ r.next = omega (arith, built-many p, p.next) in
      let back : take r.next after ≡ p.items =
      (λ k. take (sym many k) (p.put k)) ∙ items-put p.items out (omega (arith, p.next)) in
      record {
        rows = subst (All (Sound w to)) (sym back) p.rows;
        inside = subst (All (From from)) (sym back) p.inside;
        few = omega (arith, ap length back, p.next);
        is = ap (shown_all w) back ∙ p.is;
      }
