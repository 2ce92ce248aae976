-- Laws of the reading into rows: one kept statement more; and what a caller has of an answer.
-- Assumes nothing.
use Prim.Native.Nat.{ℕ, zero, suc, ◌+◌, ◌≤◌, ◌<◌}
use mathlib.Core.Path.{◌≡◌, refl, sym, ap, ◌∙◌}
use mathlib.Core.List.{List, [], ◌∷◌, ◌++◌}
use native.Mathlib.Numerals.{add-one}
use native.Mathlib.Omega.{arith}
use lib.ListN.{length, get_or, take}
use Rattle.definition.specs.declared.TheConstants.{MOST_STATEMENTS}
use Rattle.definition.specs.Calls.{kept_statements}
use Rattle.definition.proofs.Answers.{given-same}
use Rattle.definition.proofs.ParentLaws.{length-parents}
use Rattle.definition.proofs.UsageLaws.{length-along}
use Rattle.std.proofs.lemmas.List.{get_or-take, length-take-le}
use Rattle.std.proofs.Common.{append_assoc}
use Rattle.definition.specs.declared.Refusal.{Refusal}
use Rattle.definition.specs.declared.Statement.{Statement}
use Rattle.definition.specs.Basic.{Answer, Err, Ok, ◌>>=◌, and_then}
use Rattle.definition.specs.Tree.{Open, opened, still_open, innermost, parents}
use Rattle.definition.specs.Usages.{inheriting, around, inherit_along}
use Rattle.rows.specs.declared.Row.{Row}
use Rattle.rows.specs.Rows.{row_of_code, row_in, new_row, no_statement, blank}
use Rattle.statement.specs.TreeReading.{new_rows, rows_for, rows_read, Few, RowsOf}

-- rows before those that an answer gives
abbrev pub behind : List Row → Answer (List Row) → Answer (List Row)
behind rs (Err r) = Err r
behind rs (Ok more) = Ok (rs ++ more)

pub behind_none : (a : Answer (List Row)) → behind [] a ≡ a
behind_none (Err r) = refl
behind_none (Ok rs) = refl

pub behind_behind : (rs : List Row) (r : Row) (a : Answer (List Row)) → behind rs (behind (r ∷ []) a) ≡ behind (rs ++ r ∷ []) a
behind_behind rs r (Err q) = refl
behind_behind rs r (Ok more) = ap Ok (sym (append_assoc rs (r ∷ []) more))

-- one kept statement more
pub rows_kept :
    (text : List ℕ) (n : ℕ) (s : Statement) (os : List Open) (a : Answer (List Statement)) →
    let outer = still_open s.level os in
    let t = inheriting (around outer) s in
    rows_for text n os (a >>= λ ss. Ok (s ∷ ss))
    ≡ behind (new_row text t (row_of_code (innermost outer)) ∷ []) (rows_for text (n + 1) (opened s.level (suc n) t.usage ∷ outer) a)
unfolding and_then new_rows parents inherit_along
rows_kept text n s os (Err r) = refl
rows_kept text n s os (Ok ss) = rw (add-one n) refl

-- ---------------------------------------------------------------- what an answer says

length-new : (text : List ℕ) (ds : List ℕ) (ss : List Statement) → length ds ≡ length ss → length (new_rows text ds ss) ≡ length ss
unfolding new_rows
length-new text [] [] e = refl
length-new text (d ∷ ds) [] e = refl
length-new text [] (s ∷ ss) e = absurd (omega arith)
length-new text (d ∷ ds) (s ∷ ss) e = ap suc (length-new text ds ss (omega arith))

new-in :
    (text : List ℕ) (ds : List ℕ) (ss : List Statement) (j : ℕ) →
    length ds ≡ length ss →
    j < length ss →
    row_in (new_rows text ds ss) j ≡ new_row text (get_or ss j no_statement) (row_of_code (get_or ds j 0))
unfolding new_rows
new-in text ds [] j e l = absurd (omega arith)
new-in text [] (s ∷ ss) j e l = absurd (omega arith)
new-in text (d ∷ ds) (s ∷ ss) zero e l = refl
new-in text (d ∷ ds) (s ∷ ss) (suc j) e l = new-in text ds ss j (omega arith) (omega arith)

-- n rows hold the kept statements, each with the usage that holds for it, under their parents in the forest
pub record Stored (text : List ℕ) (w : List Row) (n : ℕ) : Type 0 where
  pub kept : List Statement
  pub are : kept_statements text ≡ Ok kept
  pub many : n ≡ length kept
  pub few : n ≤ MOST_STATEMENTS
  pub there : n ≤ length w
  pub rows :
      (j : ℕ) →
      j < n →
      row_in w j ≡ new_row text (get_or (inherit_along [] 0 kept) j no_statement) (row_of_code (get_or (parents [] 0 (inherit_along [] 0 kept)) j 0))

module _ (text : List ℕ) (w : List Row) where
  by_answer :
      (n : ℕ) (a : Answer (List Statement)) →
      kept_statements text ≡ a →
      rows_read (Ok n) w ≡ rows_for text 0 [] a →
      Few (Ok n) w →
      Stored text w n
  by_answer n (Err r) e p h = absurd (let z : ◌≡◌ {A = ℕ} 0 1 = cc in omega arith)
  by_answer n (Ok ss) e p h =
      let held = inherit_along [] 0 ss in
      let same : take n w ≡ new_rows text (parents [] 0 held) held = given-same p in
      let size = length-parents [] 0 held in
      let all = length-along [] 0 ss in
      let long : length (take n w) ≡ n = length-take-le n w h.1 in
      let many : n ≡ length held = omega (arith, long, ap length same, length-new text (parents [] 0 held) held size) in
      record {
        kept = ss;
        are = e;
        many = omega arith;
        few = h.0;
        there = h.1;
        rows =
            λ j l.
            sym (get_or-take n w j blank l)
            ∙ ap (λ (x : List Row). row_in x j) same
            ∙ new-in text (parents [] 0 held) held j size (omega arith);
      }

  pub stored : {w₀ : List Row} {n : ℕ} → RowsOf text w₀ (kept_statements text) (Ok n) w → Stored text w n
  stored {n = n} r = by_answer n (kept_statements text) refl r.is r.few

  by-refusal : (r : Refusal) (a : Answer (List Statement)) → Err r ≡ rows_for text 0 [] a → a ≡ Err r
  by-refusal r (Err q) p = cc
  by-refusal r (Ok ss) p = absurd (let z : ◌≡◌ {A = ℕ} 0 1 = cc in omega arith)

  pub turned_down : {w₀ : List Row} {r : Refusal} → RowsOf text w₀ (kept_statements text) (Err r) w → kept_statements text ≡ Err r
  turned_down {r = r} h = by-refusal r (kept_statements text) h.is
