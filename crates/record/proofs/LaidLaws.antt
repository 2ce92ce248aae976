-- A table that was laid: every row is linked, and none is too large; the record of the table.
-- Assumes nothing.
use Prim.Native.Nat.{ℕ, suc, ◌+◌, ◌-◌, max, ◌≤◌, ◌<◌}
use mathlib.Core.Path.{◌≡◌, refl, sym, ap, subst, ◌∙◌}
use mathlib.Core.Bool.{false}
use mathlib.Core.List.{List, [], ◌∷◌}
use mathlib.Core.Logic.{⊎_elim}
use native.Mathlib.Omega.{arith}
use lib.ListN.{length, get_or}
use Rattle.std.specs.Prelude.{Option}
use Rattle.text.specs.Fingerprints.{name_fingerprint}
use Rattle.definition.proofs.ParentLaws.{parents-forest}
use Rattle.definition.specs.declared.Refusal.{Refusal}
use Rattle.definition.specs.declared.Entry.{Entry}
use Rattle.definition.specs.declared.TheConstants.{MOST_STATEMENTS, LARGEST}
use Rattle.definition.specs.Basic.{Answer, Err, Ok, ◌>>=◌, and_then}
use Rattle.definition.specs.declared.Statement.{Statement}
use Rattle.definition.specs.Tree.{Forest, leaf, item, forest, fields, parents}
use Rattle.definition.specs.Fold.{Entries, end, entry, total, entry_end, Place, place_of, fold_check, folded_all}
use Rattle.definition.specs.Layout.{entry_of, too_large, advance, Laid, lay}
use Rattle.definition.specs.Owner.{size}
use Rattle.definition.proofs.Answers.{through, given-same}
use Rattle.definition.proofs.Lists.{order}
use Rattle.definition.specs.Calls.{kept_statements}
use Rattle.definition.specs.Usages.{inherited, inherit_along}
use Rattle.definition.proofs.UsageLaws.{length-along, along-forest}
use Rattle.rows.specs.declared.Row.{Row}
use Rattle.rows.specs.Rows.{row_in, row_of_code, row_code, new_row, no_statement, statement_at, statements_from}
use Rattle.rows.proofs.RowLaws.{code-back, statements-by}
use Rattle.statement.proofs.ReadingLaws.{Stored}
use Rattle.definition.specs.Record.{record_length, ends_fit, unfolded, layout}
use Rattle.layout.specs.Places.{put_places, entry_in, entries_in, rows_forest}
use Rattle.layout.specs.Outcomes.{stopped, lay_table, Room}
use Rattle.layout.specs.Children.{ChildrenEnd, BelowPut, uncounted}
use Rattle.layout.proofs.EntriesLaws.{Held, size-forest, size-stretch, counted_step}
use Rattle.layout.proofs.ListLaws.{bare-split, item-is}
use Rattle.layout.specs.declared.LaidList.{LaidList}
use Rattle.layout.proofs.LayLaws.{LaidRows, list-refused, HeldRows, held-rows}
use Rattle.layout.proofs.RowLaws.{children-end, forest-split, forest-empty}
use Rattle.layout.proofs.PlaceLaws.{length-places, known-places, statements-places, places-next}
use Rattle.layout.specs.Shown.{list_in}
use Rattle.layout.specs.Marks.{UnionsLinked}
use Rattle.layout.proofs.KeptLaws.{forest-kept, list-kept, Ready, marked-tree}
use Rattle.record.proofs.ParentLaws.{under-by, under_same}
use Rattle.record.specs.Laying.{Under, Fielded, FieldsFrom, tree_of, laid_of, Listed}

-- ---------------------------------------------------------------- no entry is too large

-- every entry of a list and of those below it has at most `LARGEST` bytes
abbrev SizedAll : Entries → Type 0
SizedAll end = Unit {0}
SizedAll (entry e members later) = (total e ≤ LARGEST) × SizedAll members × SizedAll later

total-within : (e : Entry) → too_large e ≡ false → total e ≤ LARGEST
total-within e h = grind arith

bare-sized :
    (text : List ℕ) (f : Forest) (depth base : ℕ) (seen : List Place) (cursor reach : ℕ) {l : Laid} →
    lay text depth base seen cursor reach f ≡ Ok l →
    SizedAll l.entries
unfolding lay
bare-sized text leaf depth base seen cursor reach e = subst (λ (l : Laid). SizedAll l.entries) (given-same e) tt
bare-sized text (item s kids later) depth base seen cursor reach e =
    through _ _ (sym (bare-split text depth base seen cursor reach s kids later) ∙ e) λ x e₁ h₁.
    through _ _ h₁ λ more e₂ h₂.
    let i = item-is text depth base seen cursor s kids e₁ in
    let members = bare-sized text kids (suc depth) (base + i.offset) [] 0 0 i.inner-laid in
    let rest = bare-sized text later depth base (place_of x.own ∷ seen) (advance cursor x.own) (max reach (entry_end x.own)) e₂ in
    let own : total x.own ≤ LARGEST = subst (λ (y : Entry). total y ≤ LARGEST) i.own (total-within (entry_of s i.contents i.offset i.slack i.inner.width i.at_end) i.fits) in
    subst (λ (l : Laid). SizedAll l.entries) (given-same h₂) (own, subst SizedAll i.members members, rest)

-- and no row that holds one
rows-sized : (w : List Row) (f : Forest) (k : ℕ) → SizedAll (entries_in w k f) → (m : ℕ) → k ≤ m → m < k + size f → total (entry_in w m) ≤ LARGEST
unfolding entries_in
rows-sized w leaf k h m l u = absurd (omega arith)
rows-sized w (item s kids later) k h m l u =
    let inner = rows-sized w kids (suc k) h.1 m in
    let rest = rows-sized w later (suc k + size kids) h.2 m in
    ⊎_elim
    (λ (p : k < m). ⊎_elim (λ (q : m < suc k + size kids). inner (omega arith) q) (λ (q : suc k + size kids ≤ m). rest q (omega arith)) (order m (suc k + size kids)))
    (λ (p : m ≤ k). subst (λ (n : ℕ). total (entry_in w n) ≤ LARGEST) (let e : k ≡ m = omega arith in e) h.0)
    (order k m)

-- ---------------------------------------------------------------- a list that was laid

module _ (text : List ℕ) (w : List Row) (a b depth base : ℕ) {r : LaidList} {w₁ : List Row} (h : a ≤ b) (room : Room text w a b) (n : LaidRows text w a b depth base r w₁) where
  holds : HeldRows text w a b depth base n.laid w₁
  holds = held-rows text w a b depth base h room n

  -- the statements are as they were
  same-statements : (k : ℕ) → rows_forest w k b ≡ rows_forest w₁ k b
  same-statements k =
      ap forest (sym (statements-places text n.laid.entries w a 0 k (b - k)))
      ∙ ap (λ (x : List Row). rows_forest x k b) n.put

  pub same-parent : (k : ℕ) → (row_in w₁ k).parent ≡ (row_in w k).parent
  same-parent k =
      subst (λ (x : List Row). (row_in x k).parent ≡ (row_in w k).parent) n.put
      (ap (λ (y : Statement × ℕ × ℕ × Option ℕ). y.3) (known-places text n.laid.entries w a 0 k))

  pub laid-ready : Ready text w₁ a b
  laid-ready =
      let f = rows_forest w a b in
      let es = n.laid.entries in
      let sized : SizedAll (entries_in w₁ a (rows_forest w₁ a b)) = subst SizedAll (sym holds.held.entries) (bare-sized text f depth base [] 0 0 n.is) in
      let many₁ = size-stretch w₁ a b in
      record {
        fits = subst (λ (x : List Row). b ≤ length x) n.put (omega (arith, length-places text es w a 0, room.fits));
        linked = holds.held.linked;
        nexts = subst (λ (x : List Row). (k : ℕ) → a ≤ k → k < b → row_code (row_in x k).place.next ≡ 0) n.put (λ k l u. ap row_code (places-next text es w a 0 (omega (arith, holds.many, room.fits)) k l (omega (arith, holds.many))));
        sized = record { totals = λ k l u. rows-sized w₁ (rows_forest w₁ a b) a sized k l (omega (arith, many₁)) };
      }

-- ---------------------------------------------------------------- the fields of a record

-- an only root with children is dropped
only-root : (w : List Row) (n : ℕ) → 1 < n → ChildrenEnd w 0 n n → fields (rows_forest w 0 n) ≡ rows_forest w 1 n
unfolding fields
only-root w n h c =
    let k = children-end w 1 n h in
    let kids = forest-split w 1 n _ k in
    ap fields (forest-split w 0 n n c)
    ∙ ap (λ (f : Forest). fields (item (statement_at w 0) (rows_forest w 1 n) f)) (forest-empty w n n (omega arith))
    ∙ ap (λ (f : Forest). fields (item (statement_at w 0) f leaf)) kids
    ∙ sym kids

pub root-dropped : (w : List Row) (n : ℕ) {j : ℕ} → 2 ≤ n → ChildrenEnd w 0 n j → n ≤ j → FieldsFrom w n 1
root-dropped w n {j} h c l =
    let all = subst (ChildrenEnd w 0 n) (let e : j ≡ n = omega (arith, c.high) in e) c in
    record {
      low = omega arith;
      is = only-root w n (omega arith) all;
      under = λ u. (subst (Under w 0 0) (forest-split w 0 n n all) u).1;
      counted = λ u. (counted_step w 0 n n all u).1;
    }

-- of several roots none is
pub roots_kept : (w : List Row) (n : ℕ) {j : ℕ} → ChildrenEnd w 0 n j → j < n → FieldsFrom w n 0
unfolding fields
roots_kept w n {j} c l =
    let whole = forest-split w 0 n j c in
    let k = children-end w j n l in
    let later = forest-split w j n _ k in
    let both = whole ∙ ap (item (statement_at w 0) (rows_forest w 1 j)) later in
    record {
      low = omega arith;
      is = ap fields both ∙ kept (rows_forest w 1 j) ∙ sym both;
      under = λ u. u;
      counted = λ u. u;
    }
  where
    kept : {s t : Statement} (kids : Forest) {more rest : Forest} → fields (item s kids (item t more rest)) ≡ item s kids (item t more rest)
    kept leaf = refl
    kept (item u a b) = refl

-- nor is a root without children
one-row : (w : List Row) (n : ℕ) {j : ℕ} → n < 2 → ChildrenEnd w 0 n j → fields (rows_forest w 0 n) ≡ rows_forest w 0 n
unfolding fields
one-row w n {j} h c =
    let later = ap (item (statement_at w 0) (rows_forest w 1 j)) (forest-empty w j n (omega (arith, c.low))) in
    let kids = ap (λ (f : Forest). item (statement_at w 0) f leaf) (forest-empty w 1 j (omega (arith, c.high))) in
    let both = forest-split w 0 n j c ∙ later ∙ kids in
    ap fields both ∙ sym both

pub few-rows : (w : List Row) (n : ℕ) → n < 2 → FieldsFrom w n 0
unfolding fields
few-rows w n h =
    record {
      low = omega arith;
      is =
          ⊎_elim
          (λ (p : 0 < n). one-row w n h (children-end w 0 n p))
          (λ (p : n ≤ 0). ap fields (forest-empty w 0 n p) ∙ sym (forest-empty w 0 n p))
          (order 0 n);
      under = λ u. u;
      counted = λ u. u;
    }

-- ---------------------------------------------------------------- the record

-- the layout is the record laid and then folded
pub layout_is : (text : List ℕ) (f : Forest) → layout text f ≡ (unfolded text f >>= λ es. Ok (folded_all text es))
unfolding layout
layout_is text f = refl

module _ (text : List ℕ) (w : List Row) (a b : ℕ) (dropped : fields (rows_forest w 0 b) ≡ rows_forest w a b) where
  -- the fields of the statements are those rows
  laid-same : laid_of text (Ok (rows_forest w 0 b)) ≡ unfolded text (rows_forest w a b)
  unfolding and_then
  laid-same = ap (unfolded text) dropped

  -- the list is refused
  pub fields-refused : {r : Refusal} → stopped r ≡ lay_table text w a b 0 0 → laid_of text (Ok (rows_forest w 0 b)) ≡ Err r
  unfolding unfolded and_then
  fields-refused p =
      laid-same
      ∙ ap (λ (y : Answer Laid). y >>= λ l. fold_check text [] l.entries >>= λ _. ends_fit (folded_all text l.entries) >>= λ _. Ok l.entries)
      (list-refused text w a b 0 0 (sym p))

  module _ (h : a ≤ b) (room : Room text w a b) {r : LaidList} {w₁ : List Row} (n : LaidRows text w a b 0 0 r w₁) where
    held_in : Held text w₁ a 0 (rows_forest w₁ a b) n.laid.entries
    held_in = (held-rows text w a b 0 0 h room n).held

    -- the checks of the list, as the rows hold it
    record-split :
        laid_of text (Ok (rows_forest w 0 b))
        ≡ (fold_check text [] (list_in w₁ a b) >>= λ _. ends_fit (folded_all text (list_in w₁ a b)) >>= λ _. Ok (list_in w₁ a b))
    unfolding unfolded and_then
    record-split =
        laid-same
        ∙ ap (λ (x : Answer Laid). x >>= λ l. fold_check text [] l.entries >>= λ _. ends_fit (folded_all text l.entries) >>= λ _. Ok l.entries) n.is
        ∙ ap (λ (es : Entries). fold_check text [] es >>= λ _. ends_fit (folded_all text es) >>= λ _. Ok es) (sym held_in.entries)

    module _ where
      p : r.checked ≡ fold_check text [] (list_in w₁ a b)
      p = n.check ∙ ap (fold_check text []) (sym held_in.entries)

      checked : (x : Answer (Unit {0})) → r.checked ≡ x → laid_of text (Ok (rows_forest w 0 b)) ≡ (x >>= λ _. ends_fit (folded_all text (list_in w₁ a b)) >>= λ _. Ok (list_in w₁ a b))
      checked x e =
          record-split
          ∙ ap (λ (y : Answer (Unit {0})). y >>= λ _. ends_fit (folded_all text (list_in w₁ a b)) >>= λ _. Ok (list_in w₁ a b)) (sym p ∙ e)

      -- 30
      pub fold-refused : {q : Refusal} → r.checked ≡ Err q → laid_of text (Ok (rows_forest w 0 b)) ≡ Err q
      unfolding and_then
      fold-refused {q} e = checked (Err q) e

      module _ (e : r.checked ≡ Ok tt) {w₂ : List Row} (m : UnionsLinked w₁ a b w₂) {d : Answer (Unit {0})} (q : d ≡ ends_fit (folded_all text (list_in w₂ a b))) where
        passed : (x : Answer (Unit {0})) → d ≡ x → laid_of text (Ok (rows_forest w 0 b)) ≡ (x >>= λ _. Ok (list_in w₂ a b))
        unfolding and_then
        passed x f =
            checked (Ok tt) e
            ∙ ap (λ (es : Entries). ends_fit (folded_all text es) >>= λ _. Ok es) (list-kept m.kept a b)
            ∙ ap (λ (y : Answer (Unit {0})). y >>= λ _. Ok (list_in w₂ a b)) (sym q ∙ f)

        -- 29
        pub end_refused : {x : Refusal} → d ≡ Err x → laid_of text (Ok (rows_forest w 0 b)) ≡ Err x
        unfolding and_then
        end_refused {x} f = passed (Err x) f

        -- the record is laid
        pub laid-listed :
            d ≡ Ok tt →
            b ≤ MOST_STATEMENTS →
            Under w a a (rows_forest w a b) →
            {l : ℕ} →
            l ≡ record_length (folded_all text (list_in w₂ a b)) →
            Listed text (Ok (rows_forest w 0 b)) w₂ a b l
        unfolding and_then
        laid-listed f few under long =
            let ready = laid-ready text w a b 0 0 h room n in
            let same : (k : ℕ) → rows_forest w k b ≡ rows_forest w₂ k b =
            λ k. same-statements text w a b 0 0 h room n k ∙ forest-kept m.kept k b in
            record {
              tree_is = ap Ok (same 0);
              fields_are = ap fields (sym (same 0)) ∙ dropped ∙ same a;
              low = h;
              under = subst (Under w₂ a a) (same a) (under_same w w₂ (λ k. sym (ap row_code (ap (λ (r : Row). r.parent) (m.kept.same k) ∙ same-parent text w a b 0 0 h room n k))) (rows_forest w a b) a a under);
              is = passed (Ok tt) f;
              tree = marked-tree text a b h ready m;
              few = few;
              long = long;
            }

-- the fields of a record that was laid, laid
pub listed-fields :
    {text : List ℕ} {read : Answer Forest} {w : List Row} {from to bytes : ℕ} →
    Listed text read w from to bytes →
    unfolded text (rows_forest w from to) ≡ Ok (list_in w from to)
unfolding and_then
listed-fields {text} l = ap (unfolded text) (sym l.fields_are) ∙ ap (laid_of text) (sym l.tree_is) ∙ l.is

-- ---------------------------------------------------------------- the rows of a text

-- the text is refused
pub reading-refused : (text : List ℕ) {r : Refusal} → kept_statements text ≡ Err r → tree_of text ≡ Err r
unfolding tree_of and_then
reading-refused text e = ap (λ (x : Answer (List Statement)). x >>= λ ss. Ok (inherited (forest ss))) e

-- its statements stand in n rows, which got the counts of the rows below them
module _ {text : List ℕ} {w₀ : List Row} {n : ℕ} (s : Stored text w₀ n) {w : List Row} (b : BelowPut w₀ n w) where
  abbrev held : List Statement
  held = inherit_along [] 0 s.kept

  many : n ≡ length held
  many = s.many ∙ sym (length-along [] 0 s.kept)

  -- but for the counts, they are the rows of the statements
  row-there : (j : ℕ) → j < n → uncounted (row_in w j) ≡ new_row text (get_or held j no_statement) (row_of_code (get_or (parents [] 0 held) j 0))
  row-there j l = b.same j ∙ ap uncounted (s.rows j l)

  row-at : (j : ℕ) → j < n → uncounted (row_in w (0 + j)) ≡ new_row text (get_or held j no_statement) (row_of_code (get_or (parents [] 0 held) j 0))
  row-at j l = ap (λ (m : ℕ). uncounted (row_in w m)) (let e : 0 + j ≡ j = omega arith in e) ∙ row-there j l

  whole : rows_forest w 0 n ≡ forest held
  whole =
      ap forest
      (ap (statements_from w 0) (let e : n - 0 ≡ length held = omega (arith, many) in e)
      ∙ statements-by w held 0 (λ j l. ap (λ (r : Row). r.statement) (row-at j (omega (arith, many)))))

  pub rows-read : tree_of text ≡ Ok (rows_forest w 0 n)
  unfolding tree_of and_then
  rows-read =
      ap (λ (x : Answer (List Statement)). x >>= λ ss. Ok (inherited (forest ss))) s.are
      ∙ ap Ok (sym (along-forest s.kept) ∙ sym whole)

  -- under their parents, and there is room to lay them
  pub rows-fielded : Fielded text w n
  rows-fielded =
      let size : size (forest held) ≡ n = size-forest held ∙ sym many in
      record {
        under =
            subst (Under w 0 0) (sym whole)
            (under-by w (forest held) 0 0
            (λ j l.
            ap (λ (ps : List ℕ). get_or ps j 0) (sym (parents-forest held))
            ∙ sym (code-back (get_or (parents [] 0 held) j 0))
            ∙ sym (ap (λ (r : Row). row_code r.parent) (row-at j (omega (arith, size))))));
        few = s.few;
        room =
            record {
              fits = omega (arith, s.there, b.long);
              small = omega (arith, s.few);
              fingerprinted =
                  record {
                    rows =
                        λ k l.
                        ap (λ (r : Row). r.fingerprint) (row-there k l)
                        ∙ sym (ap (λ (r : Row). name_fingerprint text r.statement.name) (row-there k l));
                  };
              counted = b.counted;
            };
      }
