-- `symbols::count_symbols` meets its contract.
use Prim.Native.Nat.{ℕ, ◌+◌, ◌-◌, ◌≤◌, ◌<◌}
use mathlib.Core.Path.{◌≡◌, refl, sym, ap, ◌∙◌}
use mathlib.Core.List.{List, [], ◌∷◌, ◌++◌, append-nil}
use native.Mathlib.Omega.{arith}
use lib.ListN.{length, take, drop, replicate}
use Rattle.definition.specs.declared.Refusal.{Refusal}
use Rattle.definition.specs.declared.TheConstants.{MOST_SYMBOLS}
use Rattle.definition.specs.Basic.{upper, Err, Ok, and_then}
use Rattle.definition.specs.Picture.{expand, tally, before_point}
use Rattle.definition.proofs.Answers.{handed_on}
use Rattle.definition.proofs.Lists.{rest_part}
use Rattle.definition.proofs.PictureLaws.{onto, onto-nil, onto-onto}
use Rattle.picture.specs.declared.symbols.Tallies.{Tallies}
use Rattle.picture.specs.declared.symbols.Half.{Half}
use Rattle.picture.specs.Repeats.{Runs, Stops}
use Rattle.picture.specs.Shape.{tallies, run_of, joined, halves, counts, Small, Adds}
use Rattle.picture.proofs.Counting.{small, tallies-more}
use Rattle.picture.proofs.Halves.{halves-append}
use Rattle.picture.proofs.Patterns.{first_rest, none-left}
use Rattle.picture.proofs.symbols.count_symbols.Invariants.{Seen}
use Rattle.picture.proofs.symbols.count_symbols.Goals as goal

-- no symbol was seen
start : (t : List ℕ) (at : ℕ) → Seen t at (tallies []) Half.Nothing t
unfolding halves tally before_point
start t at = record { few = omega arith; seen = []; counted = refl; halved = refl; same = sym (onto-nil (expand at 0 0 t)) }

module _ {t : List ℕ} {at : ℕ} {s : Tallies} {half : Half} {left : List ℕ} (inv : Seen t at s half left) where
  small-s : Small s
  small-s = rw inv.counted (small inv.seen (omega (arith, ap (λ (x : Tallies). x.symbols) inv.counted)))

  done : left ≡ [] → Ok (s, half) ≡ counts at t
  unfolding and_then expand
  done none = rw (inv.same, none, append-nil, ← inv.counted, ← inv.halved)

  -- the next run begins with this byte
  module _ {first : ℕ} {rest : List ℕ} (whole : left ≡ first ∷ rest) where
    same : expand at 0 0 t ≡ onto inv.seen (expand at s.symbols 0 (first ∷ rest))
    same = inv.same ∙ ap (λ l. onto inv.seen (expand at s.symbols 0 l)) whole

    refused : {x : Refusal} → Stops at (first ∷ rest) x → Err x ≡ counts at t
    unfolding and_then
    refused stops = rw (same, stops s.symbols)

    module _ {n : ℕ} (skip : ℕ) (run : Runs at (first ∷ rest) n first (drop skip rest)) where
      many : MOST_SYMBOLS - s.symbols < n → Err (Refusal.TooManySymbols at) ≡ counts at t
      unfolding and_then
      many m = rw (same, run.many s.symbols inv.few (omega (arith, inv.few)))

      module _ (m : n ≤ MOST_SYMBOLS - s.symbols) where
        adds : Adds s n
        adds = record { small = small-s; few = omega arith }

        go_on :
            {b : ℕ} →
            b ≡ upper first →
            {half' : Half} →
            half' ≡ halves half (replicate n b) →
            {s' : Tallies} →
            s' ≡ joined s (run_of b n) →
            Seen t at s' half' (take (length rest - skip) (drop skip rest))
        go_on {b} p {half'} hs {s'} grown =
            let many : s'.symbols ≡ s.symbols + n = ap (λ (x : Tallies). x.symbols) grown in
            rw (rest_part rest skip)
            (record {
              few = omega (arith, inv.few);
              seen = inv.seen ++ replicate n b;
              counted = grown ∙ ap (λ (x : Tallies). joined x (run_of b n)) inv.counted ∙ sym (tallies-more inv.seen b n);
              halved = hs ∙ ap (λ (x : Half). halves x (replicate n b)) inv.halved ∙ sym (halves-append Half.Nothing inv.seen (replicate n b));
              same =
                  same ∙
                  ap (onto inv.seen) (run.more s.symbols (omega (arith, inv.few))) ∙
                  rw (← p, many) (onto-onto inv.seen (replicate n b) (expand at (s.symbols + n) 0 (drop skip rest)));
            })

pub loop-left-init : goal.loop-left-init
unfolding tally before_point
loop-left-init c = start c.args.picture.now c.args.at

pub returns-in_err-n-clause-same : goal.returns-in_err-n-clause-same
returns-in_err-n-clause-same c =
    handed_on _ c.from_residual.ensures.1
    ∙ refused c.loop-left.invariant (first_rest _ c.in-len1-up.len_at_least) c.in_err-n.ensures.run

pub returns-then-room-n-clause-same : goal.returns-then-room-n-clause-same
returns-then-room-n-clause-same c =
    many c.loop-left.invariant (first_rest _ c.in-len1-up.len_at_least) _ c.in_ok-n.ensures.run c.if-room-n.true

pub add-requires : goal.add-requires
add-requires c =
    adds c.loop-left.invariant (first_rest _ c.in-len1-up.len_at_least) _ c.in_ok-n.ensures.run c.if-room-n.false

pub loop-left-preserved : goal.loop-left-preserved
loop-left-preserved c =
    go_on c.loop-left.invariant (first_rest _ c.in-len1-up.len_at_least) _ c.in_ok-n.ensures.run c.if-room-n.false
    c.upper-b.ensures c.after-half.ensures c.add.ensures

pub returns-clause-same : goal.returns-clause-same
returns-clause-same c = done c.loop-left.invariant (none-left _ c.in_default.len_below)

pub returns-clause-small : goal.returns-clause-small
returns-clause-small c = small-s c.loop-left.invariant
