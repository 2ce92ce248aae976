use Prim.Native.Nat.{ℕ, ◌+◌, ◌≤◌, ◌<◌}
use mathlib.Core.Path.{◌≡◌, refl, sym, ap, subst, ◌∙◌}
use mathlib.Core.List.{List, [], ◌∷◌, ◌++◌}
use native.Mathlib.Numerals.{add-one}
use native.Mathlib.Omega.{arith}
use lib.ListN.{length, length-set, take, drop}
use Rattle.std.proofs.Common.{append-nil}
use Rattle.std.proofs.lemmas.List.{take_all, take_more_set, drop-set-lt}
use Rattle.std.proofs.lemmas.Grind.{drop_more_same}
use Rattle.definition.specs.declared.Refusal.{Refusal}
use Rattle.definition.specs.declared.Mode.TheVariants.{Fresh}
use Rattle.definition.specs.declared.LiteralState.TheVariants.{Before}
use Rattle.definition.specs.declared.Statement.{Statement}
use Rattle.definition.specs.declared.TheConstants.{MOST_BYTES, MOST_STATEMENTS}
use Rattle.definition.specs.Basic.{Answer, Err, Ok, ◌>>=◌}
use Rattle.definition.proofs.Answers.{handed_on}
use Rattle.definition.specs.Tree.{Open, innermost}
use Rattle.definition.specs.Words.{first_open, statement_words}
use Rattle.definition.proofs.ParentLaws.{Fit}
use Rattle.definition.proofs.WordLaws.{end-sentences}
use Rattle.definition.proofs.StatementLaws.{statements-none, statements-refused, statements-skipped, statements-full}
use Rattle.definition.proofs.StatementLaws.{statements-kept}
use Rattle.definition.specs.Usages.{inherit_along}
use Rattle.text.specs.declared.tokens.Cursor.{Cursor}
use Rattle.text.specs.Tokens.{at_start, tokens_at}
use Rattle.text.proofs.TokenLaws.{ends_open}
use Rattle.statement.specs.declared.StatementRead.{StatementRead}
use Rattle.statement.specs.declared.StatementRead.TheVariants.{Kept, Skipped, End}
use Rattle.statement.specs.Reading.{FirstKept, FirstSkipped, FirstRefused, FirstNone, FirstStatement}
use Rattle.statement.specs.declared.tree.OpenLevels.{OpenLevels}
use Rattle.statement.specs.Levels.{top_down, stack_of, NoneOpen, Nested}
use Rattle.rows.specs.declared.Row.{Row}
use Rattle.rows.specs.Rows.{row_of_code, row_code, new_row}
use Rattle.statement.specs.TreeReading.{periods, rows_needed, Added, outer_of, held_of, new_rows, rows_for, StatementsAre}
use Rattle.statement.proofs.LevelLaws.{down-none}
use Rattle.statement.proofs.PeriodLaws.{few-sentences}
use Rattle.statement.proofs.ReadingLaws.{behind, behind_none, behind_behind, rows_kept}
use Rattle.statement.proofs.tree.read_statements.Invariants.{whole, rest, Left}
use Rattle.statement.proofs.tree.read_statements.Goals as goal

-- before the first statement
start : {t : List ℕ} {w : List Row} {from : Cursor} {o : OpenLevels} → length t ≤ MOST_BYTES → rows_needed t ≤ length w → from ≡ at_start → NoneOpen o → Left t w w from 0 o
unfolding statement_words rows_needed
start {t} {w} {from} {o} s r b p =
    let none : stack_of w o ≡ [] = ap (λ (n : ℕ). top_down w o.levels n (row_code o.row)) p.count ∙ down-none w o.levels (row_code o.row) in
    record {
      within = rw b (omega arith);
      short = s;
      room = r;
      left = rw b (let few = few-sentences t (Before 0) Fresh 0 t in let whole = ap periods (take_all MOST_BYTES t s) in omega (arith, few, whole));
      few = omega arith;
      untouched = refl;
      nested = record { few = omega (arith, p.count); fit = subst (Fit 0) (sym none) tt; there = omega arith };
      opens = rw b;
      same = rw b (sym (behind_none (rows_for t 0 (stack_of w o) (whole t)) ∙ ap (λ (os : List Open). rows_for t 0 os (whole t)) none));
    }

module _ {t : List ℕ} {w₀ w : List Row} {from : Cursor} {n : ℕ} {o : OpenLevels} (inv : Left t w₀ w from n o) where
  onward : {a : Answer (List Statement)} → rest t from n ≡ a → rows_for t 0 [] (whole t) ≡ behind (take n w) (rows_for t n (stack_of w o) a)
  onward p = inv.same ∙ ap (λ (x : Answer (List Statement)). behind (take n w) (rows_for t n (stack_of w o) x)) p

  -- a refusal of what is left is one of the whole
  refused-so : (q : Refusal) (m : Cursor) → rest t from n ≡ Err q → StatementsAre t w₀ (Err q) w m
  refused-so q m p = record { rows = record { is = sym (onward p); few = tt; untouched = tt }; end = tt }

  -- no statement is left
  done : {next : Cursor} → FirstNone (tokens_at t from) t next → StatementsAre t w₀ (Ok n) w next
  unfolding new_rows inherit_along
  done {next} g =
      let p : rest t from n ≡ Ok [] = rw (g.ends, end-sentences next.literals) (statements-none t n) in
      record {
        rows = record { is = sym (onward p ∙ ap Ok (append-nil (take n w))); few = (inv.few, inv.nested.there); untouched = inv.untouched };
        end = (g.within, ends_open t next (inv.opens ∙ ap first_open g.ends));
      }

  -- the next statement is refused
  bad : {q : Refusal} (m : Cursor) → FirstRefused (tokens_at t from) t q → StatementsAre t w₀ (Err q) w m
  bad {q} m first = refused-so q m (rw first.all_are (statements-refused t n _ _ first.is))

  -- the next statement is skipped
  skip : {next : Cursor} → FirstSkipped (tokens_at t from) t (from.at + 1) next → Left t w₀ w next n o
  skip {next} g =
      record {
        within = g.followed.within;
        short = inv.short;
        room = inv.room;
        left = omega (arith, inv.left, ap length g.followed.all_are);
        few = inv.few;
        untouched = inv.untouched;
        nested = inv.nested;
        opens = inv.opens ∙ g.followed.opens;
        same = onward (rw g.followed.all_are (statements-skipped t n _ _ g.is));
      }

  -- the next statement is kept
  module _ {s : Statement} {next : Cursor} (kept : FirstKept (tokens_at t from) t (from.at + 1) s next) where
    -- `MOST_STATEMENTS` were kept before it
    full : (m : Cursor) → MOST_STATEMENTS ≤ n → StatementsAre t w₀ (Err (Refusal.TooManyStatements s.at)) w m
    full m l = refused-so (Refusal.TooManyStatements s.at) m (rw kept.followed.all_are (statements-full t n _ _ kept.is l))

    -- it is the next row
    there : n < MOST_STATEMENTS → n < length w
    unfolding rows_needed
    there l = omega (arith, inv.room, inv.left, ap length kept.followed.all_are)

    add : n < MOST_STATEMENTS → {w' : List Row} {o' : OpenLevels} → Added t w n o s w' o' → Left t w₀ w' next (n + 1) o'
    add l {w'} {o'} d =
        let later = rest t next (n + 1) in
        let row = new_row t (held_of w o s) (row_of_code (innermost (outer_of w o s))) in
        let p : rest t from n ≡ (later >>= λ ss. Ok (s ∷ ss)) =
        rw (kept.followed.all_are, add-one n) (statements-kept t n _ _ kept.is l) in
        let sized : length w' ≡ length w = ap length d.row ∙ length-set w n row in
        let first : take (n + 1) w' ≡ take n w ++ row ∷ [] =
        ap (take (n + 1)) d.row ∙ take_more_set w n row (there l) in
        record {
          within = kept.followed.within;
          short = inv.short;
          room = omega (arith, inv.room, sized);
          left = omega (arith, inv.left, ap length kept.followed.all_are);
          few = omega arith;
          untouched =
              ap (drop (n + 1)) d.row ∙ drop-set-lt (n + 1) w n row (omega arith)
              ∙ drop_more_same w w₀ n inv.untouched;
          nested = subst (λ (m : ℕ). Nested w' m o') (sym (add-one n)) d.nested;
          opens = inv.opens ∙ kept.followed.opens;
          same =
              onward p
              ∙ ap (behind (take n w)) (rows_kept t n s (stack_of w o) later)
              ∙ behind_behind (take n w) row _
              ∙ (λ i. behind (sym first i) (rows_for t (n + 1) (sym d.levels i) later));
        }

pub loop-s-init : goal.loop-s-init
loop-s-init c = search start

-- what was read is this
this : (t : List ℕ) (from next : Cursor) {y : StatementRead} (z : StatementRead) → y ≡ z → FirstStatement (tokens_at t from) t (from.at + 1) (Ok y) next → FirstStatement (tokens_at t from) t (from.at + 1) (Ok z) next
this t from next z e f = subst (λ (x : StatementRead). FirstStatement (tokens_at t from) t (from.at + 1) (Ok x) next) e f

pub returns-then-n-ge-MOST_STATEMENTS : goal.returns-then-n-ge-MOST_STATEMENTS
returns-then-n-ge-MOST_STATEMENTS c = rw c.from.ensures (full c.loop-s.invariant (this c.args.text.now c.loop-s.from c.read_statement.new.cursor (Kept c.in-Kept.s) c.in-Kept.is c.in_ok-s.ensures) _ c.if-n-ge-MOST_STATEMENTS.true)

pub add_row-requires : goal.add_row-requires
add_row-requires c =
    let l = c.if-n-ge-MOST_STATEMENTS.false in
    (there c.loop-s.invariant (this c.args.text.now c.loop-s.from c.read_statement.new.cursor (Kept c.in-Kept.s) c.in-Kept.is c.in_ok-s.ensures) l, l, c.loop-s.invariant.nested)

pub loop-s-preserved : goal.loop-s-preserved
loop-s-preserved c = add c.loop-s.invariant (this c.args.text.now c.loop-s.from c.read_statement.new.cursor (Kept c.in-Kept.s) c.in-Kept.is c.in_ok-s.ensures) c.if-n-ge-MOST_STATEMENTS.false c.add_row.ensures

pub loop-s-preserved-in-Skipped : goal.loop-s-preserved-in-Skipped
loop-s-preserved-in-Skipped c = skip c.loop-s.invariant (this c.args.text.now c.loop-s.from c.read_statement.new.cursor Skipped c.in-Skipped.is c.in_ok-s.ensures)

pub returns-in-End : goal.returns-in-End
returns-in-End c = done c.loop-s.invariant (this c.args.text.now c.loop-s.from c.read_statement.new.cursor End c.in-End.is c.in_ok-s.ensures)

pub returns-in_err-s : goal.returns-in_err-s
returns-in_err-s c =
    rw (handed_on _ c.from_residual.ensures.1) (bad c.loop-s.invariant _ c.in_err-s.ensures)
