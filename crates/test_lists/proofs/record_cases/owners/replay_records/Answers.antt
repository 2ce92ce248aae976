-- A record more, and the end of the list.
use Rattle.std.proofs.Common.{ℕ, List, Bool, true, false, ◌≤◌, ◌<◌, ◌+◌, ◌≡◌, refl, arith}
use Rattle.std.specs.Prelude.{◌↔◌, IsTrue}
use Rattle.std.proofs.lemmas.Bool.Decides.{nat_tests}
use Rattle.std.proofs.lemmas.Grind.{common_steps}
use Rattle.definition.specs.declared.Token.{Token}
use Rattle.replay.specs.Bare.{bare_ahead}
use Rattle.replay.specs.declared.bare.BareCases.{BareCases}
use Rattle.replay.specs.declared.tally.Tally.{Tally}
use Rattle.replay.specs.Tallies.{most, counted, agreeing}
use Rattle.replay.specs.Counting.{Onward}
use Rattle.replay.proofs.TallyLaws.{going-on, going-ends}
use Rattle.test_lists.proofs.record_cases.owners.replay_records.Goals as goal

-- a record differs only where a position more differs
no-more :
    (cases agree cases' agree' : ℕ) (p q : Tally) (b : Bool) →
    cases' ≡ counted cases →
    agree' ≡ agreeing cases agree b →
    Onward p q →
    (IsTrue b ↔ (q.cases + p.agree ≤ p.cases + q.agree)) →
    cases + p.agree ≤ p.cases + agree →
    cases' + q.agree ≤ q.cases + agree'
no-more n m n' m' p q true c a o t h = let d = o.differing in grind (arith, nat_tests, common_steps)
no-more n m n' m' p q false c a o t h = let d = o.differing in grind (arith, nat_tests, common_steps)

-- where each record agrees, so does each position
none-more :
    (cases agree cases' agree' : ℕ) (p q : Tally) (b : Bool) →
    cases' ≡ counted cases →
    agree' ≡ agreeing cases agree b →
    agree ≤ cases →
    (IsTrue b ↔ (q.cases + p.agree ≤ p.cases + q.agree)) →
    (cases < most → agree ≡ cases → p.agree ≡ p.cases) →
    cases' < most →
    agree' ≡ cases' →
    q.agree ≡ q.cases
none-more n m n' m' p q true c a l t h few same =
    let part = q.part in
    let before : n < most = grind (arith, nat_tests) in
    let all : m ≡ n = grind (arith, nat_tests, common_steps) in
    let e = h before all in
    let d = t.0 refl in
    omega arith
none-more n m n' m' p q false c a l t h few same = grind (arith, nat_tests, common_steps)

abbrev to_come : BareCases → List Token
to_come cs = bare_ahead cs.rest.list.now cs.rest.at

pub loop-case-preserved : goal.loop-case-preserved
loop-case-preserved c =
    let s = c.in-Some.ensures.steps in (
      going-on _ _ _ (to_come c.loop-case.case-iterator) _ (to_come c.next.new.self)
          c.add.ensures.cases s.0 s.2 s.4 c.loop-case.invariant.0,
      no-more _ _ _ _ _ _ _ c.add.ensures.cases c.add.ensures.agree c.agrees.ensures.onward c.agrees.ensures.agrees
          c.loop-case.invariant.1,
      none-more _ _ _ _ c.loop-case.positions c.agrees.new.positions _ c.add.ensures.cases c.add.ensures.agree
          c.loop-case.records.part c.agrees.ensures.agrees c.loop-case.invariant.2,
    )

pub returns-clause-records : goal.returns-clause-records
returns-clause-records c =
    going-ends _ _ (to_come c.loop-case.case-iterator) c.loop-case.records.few c.in-None.ensures.steps.0
    c.loop-case.invariant.0
