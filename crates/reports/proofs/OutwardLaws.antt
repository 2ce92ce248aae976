-- Laws of the reasons by the rows: the groups outward one by one, the bytes of reasons one after the other, and what is
-- put of them.
-- Assumes nothing.
use Prim.Native.Nat.{ℕ, zero, suc, ◌+◌, ◌*◌, ◌≤◌, ◌<◌}
use mathlib.Core.Path.{◌≡◌, refl, sym, ap, subst, ◌∙◌}
use mathlib.Core.List.{List, [], ◌∷◌, ◌++◌, append_assoc, append-nil}
use mathlib.Core.Logic.{⊎_elim}
use native.Mathlib.Omega.{arith}
use lib.ListN.{length, length-append}
use Rattle.std.specs.Prelude.{Option, None, Some, MatchOption}
use borrow.Author.Tests.{eq-eqb, ne_eqb, lt-ltb, le-ltb}
use Rattle.definition.specs.declared.Reason.{Reason}
use Rattle.definition.specs.Reasons.{slack_of, reason_bytes, reasons_bytes}
use Rattle.definition.proofs.Lists.{order}
use Rattle.definition.specs.declared.Span.{Span}
use Rattle.output.specs.declared.Sink.{Sink}
use Rattle.output.specs.Puts.{Puts}
use Rattle.output.proofs.PutLaws.{◌and◌}
use Rattle.rows.specs.declared.Row.{Row}
use Rattle.rows.specs.Rows.{row_code, row_in}
use Rattle.reports.specs.declared.reasons.LaidRow.{LaidRow}
use Rattle.reports.specs.Chained.{placing_at, own_at, group_at, outward_in, outward_at, chain_of}

-- ---------------------------------------------------------------- outward

module _ (w : List Row) (from : ℕ) where
  outward-skip : (k p : ℕ) → (p ≡ suc k → ⊥) → outward_in w from (suc k) p ≡ outward_in w from k p
  unfolding outward_in
  outward-skip k p h = rw (ne_eqb p (suc k) h, outward_in)

  -- rows after it do not count
  outward-low : (n p : ℕ) → p ≤ n → outward_in w from n p ≡ outward_at w from p
  outward-low zero p h = ap (λ (m : ℕ). outward_in w from m p) (let e : 0 ≡ p = omega arith in e)
  outward-low (suc k) p h =
      let ih = outward-low k p in
      ⊎_elim
      (λ (l : p < suc k). outward-skip k p (λ e. omega arith) ∙ ih (omega arith))
      (λ (l : suc k ≤ p). ap (λ (m : ℕ). outward_in w from m p) (let e : suc k ≡ p = omega arith in e))
      (order p (suc k))

  -- a group and those around it
  pub outward-step :
      (k : ℕ) → from ≤ k → row_code (row_in w k).parent ≤ k → outward_at w from (suc k)
      ≡ group_at w k ++ outward_at w from (row_code (row_in w k).parent)
  unfolding outward_in
  outward-step k h l =
      rw (eq-eqb (suc k) (suc k) refl, lt-ltb from (suc k) (omega arith), outward_in)
      (ap (λ (rs : List Reason). group_at w k ++ rs) (outward-low k (row_code (row_in w k).parent) l))

  -- the fields of the record stand in no group
  pub outward-none : (p : ℕ) → p ≤ from → outward_at w from p ≡ []
  unfolding outward_in
  outward-none zero h = refl
  outward-none (suc k) h = rw (eq-eqb (suc k) (suc k) refl, le-ltb from (suc k) h, outward_in)

-- ---------------------------------------------------------------- bytes

pub bytes-both : (xs ys : List Reason) → reasons_bytes (xs ++ ys) ≡ reasons_bytes xs ++ reasons_bytes ys
unfolding reasons_bytes
bytes-both [] ys = refl
bytes-both (x ∷ xs) ys =
    ap (λ (bs : List ℕ). reason_bytes x ++ bs) (bytes-both xs ys)
    ∙ sym (append_assoc (reason_bytes x) (reasons_bytes xs) (reasons_bytes ys))

pub bytes-cons : (x : Reason) (xs : List Reason) → reasons_bytes (x ∷ xs) ≡ reason_bytes x ++ reasons_bytes xs
unfolding reasons_bytes
bytes-cons x xs = refl

pub bytes-none : reasons_bytes [] ≡ []
unfolding reasons_bytes
bytes-none = refl

pub bytes_one : (x : Reason) → reasons_bytes (x ∷ []) ≡ reason_bytes x
unfolding reasons_bytes
bytes_one x = refl

-- no slack is none, and any is one reason
slack-none : (n : ℕ) → n ≡ 0 → reasons_bytes (slack_of n) ≡ []
slack-none zero e = bytes-none
slack-none (suc n) e = absurd (omega arith)

slack_one : (n : ℕ) → (n ≡ 0 → ⊥) → reasons_bytes (slack_of n) ≡ reason_bytes (Reason.Slack n)
slack_one zero h = absurd (h refl)
slack_one (suc n) h = bytes_one (Reason.Slack (suc n))

module _ (w : List Row) (k : ℕ) where
  -- a row's own reasons
  pub own-alone : (r : Reason) (n : ℕ) → r ≡ placing_at w k → n ≡ (row_in w k).place.slack → n ≡ 0 →
      reason_bytes r ≡ reasons_bytes (own_at w k)
  unfolding own_at
  own-alone r n e s z =
      sym (bytes-cons (placing_at w k) (slack_of (row_in w k).place.slack)
      ∙ ap (λ (bs : List ℕ). reason_bytes (placing_at w k) ++ bs) (slack-none (row_in w k).place.slack (sym s ∙ z))
      ∙ append-nil (reason_bytes (placing_at w k))
      ∙ ap reason_bytes (sym e))

  pub own-slack : (r : Reason) (n : ℕ) → r ≡ placing_at w k → n ≡ (row_in w k).place.slack → (n ≡ 0 → ⊥) →
      reason_bytes r ++ reason_bytes (Reason.Slack n) ≡ reasons_bytes (own_at w k)
  unfolding own_at
  own-slack r n e s z =
      sym (bytes-cons (placing_at w k) (slack_of (row_in w k).place.slack)
      ∙ ap (λ (bs : List ℕ). reason_bytes (placing_at w k) ++ bs) (ap (λ (m : ℕ). reasons_bytes (slack_of m))
      (sym s) ∙ slack_one n z)
      ∙ ap (λ (x : Reason). reason_bytes x ++ reason_bytes (Reason.Slack n)) (sym e))

  -- a group's
  pub group-own : (name : Span) → name ≡ (row_in w k).statement.name →
      reason_bytes (Reason.Inside name) ++ reasons_bytes (own_at w k) ≡ reasons_bytes (group_at w k)
  unfolding group_at
  group-own name e =
      ap (λ (x : Span). reason_bytes (Reason.Inside x) ++ reasons_bytes (own_at w k)) e
      ∙ sym (bytes-cons (Reason.Inside (row_in w k).statement.name) (own_at w k))

-- the same of what was put
pub own-put :
    (w : List Row) (k : ℕ) {s s' : Sink} {r : Reason} {n : ℕ} →
    Puts s (reason_bytes r) s' → r ≡ placing_at w k → n ≡ (row_in w k).place.slack → n ≡ 0 →
    Puts s (reasons_bytes (own_at w k)) s'
own-put w k {s} {s'} {r} {n} p e m z = subst (λ (bs : List ℕ). Puts s bs s') (own-alone w k r n e m z) p

pub slack-put :
    (w : List Row) (k : ℕ) {s s' s'' : Sink} {r : Reason} {n : ℕ} →
    Puts s (reason_bytes r) s' → r ≡ placing_at w k → n ≡ (row_in w k).place.slack → (n ≡ 0 → ⊥) →
    Puts s' (reason_bytes (Reason.Slack n)) s'' →
    Puts s (reasons_bytes (own_at w k)) s''
slack-put w k {s} {s'} {s''} {r} {n} p e m z q = subst (λ (bs : List ℕ). Puts s bs s'') (own-slack w k r n e m z)
    (p and q)

pub group-put :
    (w : List Row) (k : ℕ) {s s' s'' : Sink} {name : Span} →
    Puts s (reason_bytes (Reason.Inside name)) s' → name ≡ (row_in w k).statement.name →
    Puts s' (reasons_bytes (own_at w k)) s'' →
    Puts s (reasons_bytes (group_at w k)) s''
group-put w k {s} {s'} {s''} {name} p e q = subst (λ (bs : List ℕ). Puts s bs s'') (group-own w k name e) (p and q)

slack-long : (n : ℕ) → length (reasons_bytes (slack_of n)) ≤ 13
unfolding reasons_bytes
slack-long zero = omega arith
slack-long (suc n) = omega arith

module _ (w : List Row) (k : ℕ) where
  -- a row has two reasons at most, and its group three
  pub own-long : length (reasons_bytes (own_at w k)) ≤ 26
  unfolding own_at
  own-long =
      omega (
        arith,
        ap length (bytes-cons (placing_at w k) (slack_of (row_in w k).place.slack)),
        length-append (reason_bytes (placing_at w k)) (reasons_bytes (slack_of (row_in w k).place.slack)),
        slack-long (row_in w k).place.slack,
      )

  pub group-long : length (reasons_bytes (group_at w k)) ≤ 39
  unfolding group_at
  group-long =
      let r = Reason.Inside (row_in w k).statement.name in
      omega (
        arith,
        ap length (bytes-cons r (own_at w k)),
        length-append (reason_bytes r) (reasons_bytes (own_at w k)),
        own-long,
      )

-- ---------------------------------------------------------------- the loop outward

-- the group that is left, by its row, which is given with 1; 0 for none
abbrev pub outer_code : Option LaidRow → ℕ
outer_code None = 0
outer_code (Some x) = suc x.row

-- what a row's `outer` answers
abbrev pub OuterOf : LaidRow → Option LaidRow → Type 0
OuterOf r outer =
    MatchOption outer (row_code (row_in r.rows.all.now r.row).parent ≤ r.from)
    (λ x. (x.rows ≡ r.rows) × (x.from ≡ r.from) × (row_code (row_in r.rows.all.now r.row).parent ≡ x.row + 1))

-- the groups that are left from there are those from the row's parent outward
outer-groups : (r : LaidRow) (outer : Option LaidRow) → OuterOf r outer →
    outward_at r.rows.all.now r.from (row_code (row_in r.rows.all.now r.row).parent)
    ≡ outward_at r.rows.all.now r.from (outer_code outer)
outer-groups r None h =
    outward-none r.rows.all.now r.from (row_code (row_in r.rows.all.now r.row).parent) h
    ∙ sym (outward-none r.rows.all.now r.from 0 (omega arith))
outer-groups r (Some x) h =
    ap (λ (n : ℕ). outward_at r.rows.all.now r.from n) (let e : row_code (row_in r.rows.all.now r.row).parent ≡ suc x.row = omega (arith, h.2) in e)

outer-low : (r : LaidRow) (outer : Option LaidRow) → OuterOf r outer → outer_code outer ≤ r.row
outer-low r None h = omega arith
outer-low r (Some x) h = omega (arith, h.2, (r.settled.rows r.row r.inside.0 r.inside.1).parent)

-- a group is one of the same record
abbrev pub OfSame : LaidRow → Option LaidRow → Type 0
OfSame r outer = MatchOption outer (Unit {0}) (λ x. (x.rows ≡ r.rows) × (x.from ≡ r.from))

outer-same : (r x : LaidRow) → x.rows ≡ r.rows → x.from ≡ r.from → (outer : Option LaidRow) → OuterOf x outer → OfSame r outer
outer-same r x e f None h = tt
outer-same r x e f (Some y) h = (h.0 ∙ e, h.1 ∙ f)

-- what was put of the chain of a row, and the groups that are left, from one outward
pub record Going (r : LaidRow) (first now : Sink) (outer : Option LaidRow) : Type 0 where
  pub of_same : OfSame r outer
  pub room : now.at + 39 * outer_code outer ≤ 65536
  pub done : List Reason
  pub put : Puts first (reasons_bytes done) now
  pub same : chain_of r.rows.all.now r.from r.row ≡ done ++ outward_at r.rows.all.now r.from (outer_code outer)

pub going-starts :
    (r : LaidRow) {first now : Sink} {outer : Option LaidRow} →
    first.at ≡ 0 → Puts first (reasons_bytes (own_at r.rows.all.now r.row)) now → OuterOf r outer →
    Going r first now outer
unfolding chain_of
going-starts r {first} {now} {outer} z p h =
    let low = outer-low r outer h in
    record {
      of_same = outer-same r r refl refl outer h;
      room = omega (arith, low, r.inside.1, r.settled.few, p.put.next, own-long r.rows.all.now r.row);
      done = own_at r.rows.all.now r.row;
      put = p;
      same = ap (λ (rs : List Reason). own_at r.rows.all.now r.row ++ rs) (outer-groups r outer h);
    }

module _ {r : LaidRow} {first now : Sink} {outer : Option LaidRow} (g : Going r first now outer) where
  -- the fields of the record stand in no group
  pub going-ends : outer ≡ None → Puts first (reasons_bytes (chain_of r.rows.all.now r.from r.row)) now
  going-ends e =
      subst (λ (rs : List Reason). Puts first (reasons_bytes rs) now)
      (sym (g.same
      ∙ ap (λ (rs : List Reason). g.done ++ rs) (ap (λ (o : Option LaidRow). outward_at r.rows.all.now r.from (outer_code o)) e
      ∙ outward-none r.rows.all.now r.from 0 (omega arith)) ∙ append-nil g.done))
      g.put

  module _ {x : LaidRow} (e : outer ≡ Some x) where
    number : outer_code outer ≡ suc x.row
    number = ap outer_code e

    -- it is of the same record
    with-it : (x.rows ≡ r.rows) × (x.from ≡ r.from)
    with-it = subst (OfSame r) e g.of_same

    pub going-room : now.at + 26 ≤ 65536
    going-room = omega (arith, g.room, number)

    module _ (next : Option LaidRow) (h : OuterOf x next) where
      pub going-falls : outer_code next < outer_code outer
      going-falls = omega (arith, number, outer-low x next h)

      here : outward_at x.rows.all.now x.from (suc x.row) ≡ group_at x.rows.all.now x.row ++ outward_at x.rows.all.now x.from (outer_code next)
      here =
          outward-step x.rows.all.now x.from x.row x.inside.0 (x.settled.rows x.row x.inside.0 x.inside.1).parent
          ∙ ap (λ (rs : List Reason). group_at x.rows.all.now x.row ++ rs) (outer-groups x next h)

      pub going_on : {then : Sink} → Puts now (reasons_bytes (group_at x.rows.all.now x.row)) then → Going r first then next
      going_on {then} q =
          let low = outer-low x next h in
          let group = group_at x.rows.all.now x.row in
          record {
            of_same = outer-same r x with-it.0 with-it.1 next h;
            room = omega (arith, low, g.room, number, q.put.next, group-long x.rows.all.now x.row);
            done = g.done ++ group;
            put =
                subst (λ (bs : List ℕ). Puts first bs then) (sym (bytes-both g.done group))
                (g.put and q);
            same =
                g.same
                ∙ ap (λ (m : ℕ). g.done ++ outward_at r.rows.all.now r.from m) number
                ∙ (λ k. g.done ++ outward_at (sym with-it.0 k).all.now (sym with-it.1 k) (suc x.row))
                ∙ ap (λ (rs : List Reason). g.done ++ rs) here
                ∙ sym (append_assoc g.done group (outward_at x.rows.all.now x.from (outer_code next)))
                ∙ (λ k. (g.done ++ group) ++ outward_at (with-it.0 k).all.now (with-it.1 k) (outer_code next));
          }
