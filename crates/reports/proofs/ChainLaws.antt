-- The chain of a row, by the rows, is the definition's chain of its statement.
-- Assumes nothing.
use Prim.Native.Nat.{ℕ, zero, suc, ◌+◌, ◌≤◌, ◌<◌}
use mathlib.Core.Path.{◌≡◌, refl, sym, ap, ap₂, subst, ◌∙◌}
use mathlib.Core.Bool.{Bool, true, false}
use mathlib.Core.List.{List, [], ◌∷◌, ◌++◌}
use mathlib.Core.Logic.{inl, inr, ⊎_elim}
use Rattle.std.specs.Prelude.{Option, None, Some}
use native.Mathlib.Omega.{arith}
use Rattle.definition.specs.declared.Span.{Span}
use Rattle.definition.specs.declared.Statement.{Statement}
use Rattle.definition.specs.declared.Entry.{Entry}
use Rattle.definition.specs.declared.Reason.{Reason}
use Rattle.std.specs.Prelude.{if◌then◌else◌}
use Rattle.definition.specs.Basic.{is_given}
use Rattle.definition.specs.Tree.{Forest, leaf, item}
use Rattle.definition.specs.Fold.{entry_end, same_name}
use Rattle.definition.specs.Owner.{size}
use Rattle.definition.specs.Demand.{Among}
use Rattle.definition.specs.Reasons.{adds as bytes_added, after, slack_of, over, inside, latest, plain, has_name, or_first}
use Rattle.definition.specs.Reasons.{placing, own, Chain, chain, chains}
use Rattle.definition.specs.Explained.{Because, Explains}
use Rattle.definition.proofs.Lists.{order}
use Rattle.definition.proofs.Pieces.{among-left, among-right}
use Rattle.definition.proofs.Why.{latest-hit, latest-miss, latest-next, latest-empty, added-own, added-slack}
use Rattle.rows.specs.declared.Row.{Row}
use Rattle.rows.specs.Rows.{row_code, row_in, row_of_code}
use Rattle.rows.proofs.RowLaws.{row-back}
use Rattle.layout.specs.Targets.{plain_after, target_from}
use Rattle.layout.proofs.SearchLaws.{found, found_none, found-step, row-most}
use Rattle.layout.specs.Places.{entry_in, entries_in, RowLinked, Linked}
use Rattle.record.specs.Laying.{Under}
use Rattle.reports.specs.Chained.{plain_at, target_at, added_at, over_row, after_row, placing_at, own_at, group_at}
use Rattle.reports.specs.Chained.{outward_at, chain_of, RowSettled}
use Rattle.reports.proofs.OutwardLaws.{outward-step}

-- the rows hold the statements' REDEFINES
abbrev pub Redefining : List Row → ℕ → Forest → Type 0
Redefining w k leaf = Unit {0}
Redefining w k (item s kids later) =
    (is_given s.clauses.redefines ≡ is_given (row_in w k).statement.clauses.redefines)
    × Redefining w (suc k) kids
    × Redefining w (suc k + size kids) later

module _ (text : List ℕ) (w : List Row) where
  -- the entry of a row, which is given with 1, or none for 0
  abbrev pub row_entry : ℕ → Option Entry
  row_entry zero = None
  row_entry (suc k) = Some (entry_in w k)

  -- the earlier siblings, which the definition has as entries, are those that the rows name from `last` back
  pub record Seen (seen : List Entry) (last : ℕ) : Type 0 where
    pub plain-is : latest plain seen ≡ row_entry (plain_after w last)
    pub plain-low : plain_after w last ≤ last
    pub named : (s : Span) → latest (has_name text s) seen ≡ row_entry (found text w s false last)

  pub seen_none : Seen [] 0
  seen_none =
      record {
        plain-is = latest-empty plain;
        plain-low = omega arith;
        named =
            λ s. latest-empty (has_name text s) ∙ ap row_entry (sym (found_none text w s false));
      }

  -- ---------------------------------------------------------------- a row

  module _ (k last : ℕ) (kids : Forest) (seen : List Entry) (link : RowLinked text w k last kids) (low : last ≤ k)
      (few : k < 65536) (it : Seen seen last) where
    target-low : target_from text (row_in w k).statement.clauses.redefines w last ≤ last
    target-low = by-test (is_given (row_in w k).statement.clauses.redefines)
      where
        by-test : (b : Bool) → (if b then found text w (row_in w k).statement.clauses.redefines false last else 0) ≤ last
        by-test true = row-most text w (row_in w k).statement.clauses.redefines false last last
        by-test false = omega arith

    plain-kept : plain_at w k ≡ plain_after w last
    plain-kept = link.plain

    target-kept : target_at w k ≡ target_from text (row_in w k).statement.clauses.redefines w last
    target-kept = link.target

    -- the siblings after it
    seen_next : Seen (entry_in w k ∷ seen) (suc k)
    seen_next = by-redefines (is_given (row_in w k).statement.clauses.redefines) refl
      where
        by_name : (s : Span) (b : Bool) → same_name text s (row_in w k).statement.name ≡ b →
            latest (has_name text s) (entry_in w k ∷ seen) ≡ row_entry (found text w s false (suc k))
        by_name s true y =
            latest-hit (has_name text s) (entry_in w k) seen y
            ∙ ap row_entry
            (sym (found-step text w s false k last link.before low
            ∙ ap (λ (b : Bool). if b then suc k else found text w s false last) y))
        by_name s false y =
            latest-miss (has_name text s) (entry_in w k) seen y
            ∙ it.named s
            ∙ ap row_entry
            (sym (found-step text w s false k last link.before low
            ∙ ap (λ (b : Bool). if b then suc k else found text w s false last) y))

        by-redefines : (b : Bool) → is_given (row_in w k).statement.clauses.redefines ≡ b → Seen (entry_in w k ∷ seen) (suc k)
        by-redefines true g =
            let here : plain_after w (suc k) ≡ plain_after w last =
            ap (λ (b : Bool). if b then plain_at w k else suc k) g ∙ plain-kept in
            record {
              plain-is = latest-next (entry_in w k) seen true g ∙ it.plain-is ∙ ap row_entry (sym here);
              plain-low = omega (arith, here, it.plain-low);
              named = λ s. by_name s (same_name text s (row_in w k).statement.name) refl;
            }
        by-redefines false g =
            let here : plain_after w (suc k) ≡ suc k = ap (λ (b : Bool). if b then plain_at w k else suc k) g in
            record {
              plain-is = latest-next (entry_in w k) seen false g ∙ ap row_entry (sym here);
              plain-low = omega (arith, here);
              named = λ s. by_name s (same_name text s (row_in w k).statement.name) refl;
            }

    module _ (base : ℕ) (s : Statement) (because : Because text base s kids seen (entry_in w k))
        (redefines : is_given s.clauses.redefines ≡ is_given (row_in w k).statement.clauses.redefines) where
      -- what the placing reason adds
      adds : bytes_added (placing text seen (entry_in w k)) + (row_in w k).place.slack ≡ (row_in w k).place.offset
      adds =
          omega (arith, added-own text base s kids seen (entry_in w k) because, added-slack (row_in w k).place.slack)

      -- the rows that may place it, as the numbers name them
      over-row : (n : ℕ) → placing text seen (entry_in w k) ≡ or_first over (row_entry n) →
          placing text seen (entry_in w k) ≡ over_row w (added_at w k) (row_of_code n)
      over-row zero e = e
      over-row (suc j) e =
          let same : (row_in w j).place.offset ≡ added_at w k = omega (arith, adds, ap bytes_added e) in
          e ∙ ap (Reason.Over (row_in w j).statement.name) same ∙ ap (over_row w (added_at w k)) (sym (row-back j))

      after-row : (n : ℕ) → placing text seen (entry_in w k) ≡ or_first after (row_entry n) →
          placing text seen (entry_in w k) ≡ after_row w (added_at w k) (row_of_code n)
      after-row zero e = e
      after-row (suc j) e =
          let same : entry_end (entry_in w j) ≡ added_at w k = omega (arith, adds, ap bytes_added e) in
          e ∙ ap (Reason.After (row_in w j).statement.name) same ∙ ap (after_row w (added_at w k)) (sym (row-back j))

      is-placing : placing text seen (entry_in w k) ≡ placing_at w k
      unfolding placing_at
      is-placing = by-redefines (is_given (row_in w k).statement.clauses.redefines) refl
        where
          by-redefines : (b : Bool) → is_given (row_in w k).statement.clauses.redefines ≡ b → placing text seen (entry_in w k)
              ≡ placing_at w k
          by-redefines true g =
              let r = (row_in w k).statement.clauses.redefines in
              let n = target_at w k in
              let found_it : found text w r false last ≡ n =
              sym (target-kept ∙ ap (λ (b : Bool). if b then found text w r false last else 0) g) in
              let e : placing text seen (entry_in w k) ≡ or_first over (row_entry n) =
              ap (λ (b : Bool). if b then or_first over (latest (has_name text r) seen) else or_first after
              (latest plain seen)) g
              ∙ ap (or_first over) (it.named r ∙ ap row_entry found_it) in
              over-row n e
              ∙ sym (ap
              (λ (b : Bool). if b then over_row w (added_at w k) (row_of_code n)
              else after_row w (added_at w k) (row_of_code (plain_at w k)))
              g)
          by-redefines false g =
              let r = (row_in w k).statement.clauses.redefines in
              let n = plain_at w k in
              let e : placing text seen (entry_in w k) ≡ or_first after (row_entry n) =
              ap (λ (b : Bool). if b then or_first over (latest (has_name text r) seen) else or_first after
              (latest plain seen)) g
              ∙ ap (or_first after) (it.plain-is ∙ ap row_entry (sym plain-kept)) in
              after-row n e
              ∙ sym (ap
              (λ (b : Bool). if b then over_row w (added_at w k) (row_of_code (target_at w k))
              else after_row w (added_at w k) (row_of_code n))
              g)

      is-own : own text seen (entry_in w k) ≡ own_at w k
      unfolding own_at
      is-own = ap (λ (r : Reason). r ∷ slack_of (row_in w k).place.slack) is-placing

      settled : (p : ℕ) → row_code (row_in w k).parent ≡ p → p ≤ k → RowSettled w k
      settled p e h =
          record {
            slack = omega (arith, adds);
            plain = omega (arith, plain-kept, it.plain-low);
            target = omega (arith, target-kept, target-low);
            parent = omega (arith, e);
          }

  -- ---------------------------------------------------------------- a list

  module _ (from : ℕ) where
    -- the chains of the rows of a list, from row k on, and of those below it
    abbrev pub row_chains : ℕ → Forest → List Chain
    row_chains k leaf = []
    row_chains k (item s kids later) =
        chain (row_in w k).statement.at (chain_of w from k) ∷ (row_chains (suc k) kids ++ row_chains (suc k + size kids) later)

    abbrev pub AllSettled : ℕ → Forest → Type 0
    AllSettled k leaf = Unit {0}
    AllSettled k (item s kids later) = RowSettled w k × AllSettled (suc k) kids × AllSettled (suc k + size kids) later

    pub record ListExplained (k p : ℕ) (seen : List Entry) (f : Forest) : Type 0 where
      pub same : chains text (outward_at w from p) seen (entries_in w k f) ≡ row_chains k f
      pub settled : AllSettled k f

    pub list-explained :
        (f : Forest) (k base last p : ℕ) (seen : List Entry) →
        Linked text w k last f →
        Under w p k f →
        Redefining w k f →
        Explains text base seen f (entries_in w k f) →
        Seen seen last →
        from ≤ k →
        last ≤ k →
        p ≤ k →
        k + size f ≤ 65535 →
        ListExplained k p seen f
    unfolding entries_in chains group_at chain_of
    list-explained leaf k base last p seen l u q x it h m n few = record { same = refl; settled = tt }
    list-explained (item s kids later) k base last p seen l u q x it h m n few =
        let e = entry_in w k in
        let own_is = is-own k last kids seen l.0 m (omega arith) it base s x.1 q.0 in
        let here : own text seen e ++ outward_at w from p ≡ chain_of w from k =
        ap₂ (λ (a : List Reason) (b : ℕ). a ++ outward_at w from b) own_is (sym u.0) in
        let parent : row_code (row_in w k).parent ≤ k = omega (arith, u.0) in
        let outward : inside e ∷ (own text seen e ++ outward_at w from p) ≡ outward_at w from (suc k) =
        ap (λ (rs : List Reason). inside e ∷ rs) here ∙ sym (outward-step w from k h parent) in
        let inner =
        list-explained kids (suc k) (base + e.offset) 0 (suc k) [] l.1 u.1 q.1 x.2 seen_none (omega arith) (omega arith)
        (omega arith) (omega arith) in
        let rest =
        list-explained later (suc k + size kids) base (suc k) p (e ∷ seen) l.2 u.2 q.2 x.3
        (seen_next k last kids seen l.0 m (omega arith) it) (omega arith) (omega arith) (omega arith)
        (omega arith) in
        record {
          same =
              λ i. chain (row_in w k).statement.at (here i) ∷
              ((ap (λ (o : List Reason). chains text o [] (entries_in w (suc k) kids)) outward ∙ inner.same)
              i ++ rest.same i);
          settled = (
            settled k last kids seen l.0 m (omega arith) it base s x.1 q.0 p
                u.0 n,
            inner.settled,
            rest.settled,
          );
        }

    -- each row of the list
    pub settled_at : (f : Forest) (k : ℕ) → AllSettled k f → (m : ℕ) → k ≤ m → m < k + size f → RowSettled w m
    settled_at leaf k h m l u = absurd (omega arith)
    settled_at (item s kids later) k h m l u =
        let inner = settled_at kids (suc k) h.1 m in
        let rest = settled_at later (suc k + size kids) h.2 m in
        ⊎_elim
        (λ (p : k < m). ⊎_elim (λ (q : m < suc k + size kids). inner (omega arith) q)
        (λ (q : suc k + size kids ≤ m). rest q (omega arith)) (order m (suc k + size kids)))
        (λ (p : m ≤ k). subst (RowSettled w) (let e : k ≡ m = omega arith in e) h.0)
        (order k m)

    pub chain-among : (f : Forest) (k m : ℕ) → k ≤ m → m < k + size f →
        Among (chain (row_in w m).statement.at (chain_of w from m)) (row_chains k f)
    chain-among leaf k m l u = absurd (omega arith)
    chain-among (item s kids later) k m l u =
        let a = row_chains (suc k) kids in
        let b = row_chains (suc k + size kids) later in
        let c = chain (row_in w m).statement.at (chain_of w from m) in
        let inner = chain-among kids (suc k) m in
        let rest = chain-among later (suc k + size kids) m in
        ⊎_elim
        (λ (p : k < m).
        ⊎_elim
        (λ (q : m < suc k + size kids). inr (among-left c a b (inner (omega arith) q)))
        (λ (q : suc k + size kids ≤ m). inr (among-right c a b (rest q (omega arith))))
        (order m (suc k + size kids)))
        (λ (p : m ≤ k).
        let e : m ≡ k = omega arith in
        inl (ap (λ (n : ℕ). chain (row_in w n).statement.at (chain_of w from n)) e))
        (order k m)
