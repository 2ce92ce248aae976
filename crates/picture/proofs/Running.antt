-- Laws of a run of one symbol: it is read by a repeat, or it is written out.
-- Assumes nothing.
use Prim.Native.Nat.{ℕ, zero, suc, ◌+◌, ◌-◌, ◌≤◌, ◌<◌}
use mathlib.Core.Path.{◌≡◌, refl, sym, ap, ap₂, subst, ◌∙◌}
use mathlib.Core.Bool.{Bool, true, false}
use lib.Dec.{eqb}
use borrow.Author.Tests.{eqb-true}
use Rattle.std.specs.Prelude.{cond, Result, MatchResult}
use Rattle.std.specs.List.{prefix_len}
use Rattle.std.proofs.lemmas.List.Sums.{prefix_len-le-length}
use mathlib.Core.List.{List, [], ◌∷◌, ◌++◌}
use mathlib.Core.Logic.{⊎_elim}
use native.Mathlib.Nat.{add-zero}
use native.Mathlib.Omega.{arith}
use lib.ListN.{length, drop, replicate}
use Rattle.definition.specs.declared.Refusal.{Refusal}
use Rattle.definition.specs.declared.TheConstants.{MOST_SYMBOLS}
use Rattle.definition.specs.Basic.{upper, Err, Ok, and_then}
use Rattle.definition.specs.Picture.{repeat, expand}
use Rattle.definition.proofs.Lists.{order}
use Rattle.definition.proofs.PictureLaws.{onto, onto-nil, onto-onto}
use Rattle.picture.specs.Repeats.{opens, Runs, Stops}
use Rattle.picture.proofs.Repeating.{expand-refused, expand-many, expand-more, repeat-other, repeat-once}

module _ (at b : ℕ) where
  -- a symbol with its repeat
  pub by-repeat : (rest : List ℕ) {n skip : ℕ} → repeat at rest ≡ Ok (n, skip) → Runs at (b ∷ rest) n b (drop skip rest)
  by-repeat rest e = record { more = λ k m. expand-more at k b rest e m; many = λ k few m. expand-many at k b rest e m }

  pub by-refusal : (rest : List ℕ) {r : Refusal} → repeat at rest ≡ Err r → Stops at (b ∷ rest) r
  by-refusal rest e k = expand-refused at k b rest e

  -- the same symbol once more in front
  one_more : (n : ℕ) (bs rest : List ℕ) → repeat at bs ≡ Ok (1, 0) → Runs at bs n b rest → Runs at (b ∷ bs) (suc n) b rest
  unfolding and_then
  one_more n bs rest once run =
      record {
        more =
            λ k m.
            let next : k + 1 + n ≤ MOST_SYMBOLS = omega arith in
            let count : k + 1 + n ≡ k + suc n = omega arith in
            expand-more at k b bs once (omega arith)
            ∙ ap (onto (replicate 1 (upper b))) (run.more (k + 1) next)
            ∙ onto-onto (replicate 1 (upper b)) (replicate n (upper b)) (expand at (k + 1 + n) 0 rest)
            ∙ ap (λ (j : ℕ). onto (replicate (suc n) (upper b)) (expand at j 0 rest)) count;
        many =
            λ k few m.
            ⊎_elim
            (λ (l : MOST_SYMBOLS < k + 1). expand-many at k b bs once l)
            (λ (l : k + 1 ≤ MOST_SYMBOLS).
            expand-more at k b bs once l ∙ ap (onto (replicate 1 (upper b))) (run.many (k + 1) l (omega arith)))
            (order MOST_SYMBOLS (k + 1));
      }

  -- none yet
  none : (rest : List ℕ) → Runs at rest 0 b rest
  none rest =
      record {
        more = λ k m. sym (onto-nil (expand at k 0 rest)) ∙ ap (λ (n : ℕ). onto [] (expand at n 0 rest)) (sym (add-zero k));
        many = λ k few m. absurd (let z : ◌≡◌ {A = ℕ} 0 1 = omega arith in omega arith);
      }

  module _ (other : b ≡ 40 → ⊥) (rest : List ℕ) (once : repeat at rest ≡ Ok (1, 0)) where
    -- copies of it, each but the last followed by the next
    after-copies : (n : ℕ) → repeat at (replicate n b ++ rest) ≡ Ok (1, 0)
    after-copies zero = once
    after-copies (suc n) = repeat-other at b (replicate n b ++ rest) other

    pub copies : (n : ℕ) → Runs at (replicate n b ++ rest) n b rest
    copies zero = none rest
    copies (suc n) = one_more n (replicate n b ++ rest) rest (after-copies n) (copies n)

-- ---------------------------------------------------------------- the run that is read

-- the copies in front of a list
abbrev front : ℕ → List ℕ → ℕ
front b l = prefix_len (λ x. eqb x b) l

front-rest : (b : ℕ) (l : List ℕ) → l ≡ replicate (front b l) b ++ drop (front b l) l
front-rest b [] = refl
front-rest b (x ∷ xs) = go (eqb x b) refl (front-rest b xs)
  where
    go :
        (t : Bool) → eqb x b ≡ t → xs ≡ replicate (front b xs) b ++ drop (front b xs) xs →
        x ∷ xs ≡ replicate (cond t (1 + front b xs) 0) b ++ drop (cond t (1 + front b xs) 0) (x ∷ xs)
    go true e ih =
        let one : suc (front b xs) ≡ 1 + front b xs = omega arith in
        subst (λ n. x ∷ xs ≡ replicate n b ++ drop n (x ∷ xs)) one (ap₂ (λ y ys. y ∷ ys) (eqb-true x b e) ih)
    go false e ih = refl

-- a copy in front is a copy after the others
swap : (b n : ℕ) (t : List ℕ) → b ∷ replicate n b ++ t ≡ replicate n b ++ b ∷ t
swap b zero t = refl
swap b (suc n) t = ap (λ l. b ∷ l) (swap b n t)

drop-copies : (b n : ℕ) (t : List ℕ) → drop n (replicate n b ++ t) ≡ t
drop-copies b zero t = refl
drop-copies b (suc n) t = drop-copies b n t

module _ (at b : ℕ) (rest : List ℕ) where
  pub run-repeat :
      (r : Result (ℕ × ℕ) Refusal) → r ≡ repeat at rest →
      MatchResult r (λ r. Runs at (b ∷ rest) r.0 b (drop r.1 rest)) (λ e. Stops at (b ∷ rest) e)
  run-repeat (Ok p) e = by-repeat at b rest (sym e)
  run-repeat (Err x) e = by-refusal at b rest (sym e)

  module _ (more : ℕ) (is : more ≡ front b rest) (other : b ≡ 40 → ⊥) where
    whole : rest ≡ replicate more b ++ drop more rest
    whole = subst (λ n. rest ≡ replicate n b ++ drop n rest) (sym is) (front-rest b rest)

    -- all but the last, which has a repeat
    pub but-the-last : (more ≡ 0 → ⊥) → Runs at (b ∷ rest) more b (drop (more - 1) rest)
    but-the-last some = go more refl whole
      where
        go : (n : ℕ) → more ≡ n → rest ≡ replicate n b ++ drop more rest → Runs at (b ∷ rest) n b (drop (n - 1) rest)
        go zero e w = absurd (some e)
        go (suc n) e w =
            let run = copies at b other (b ∷ drop more rest) (repeat-other at b (drop more rest) other) (suc n) in
            let left : drop n rest ≡ b ∷ drop more rest =
            ap (drop n) (w ∙ swap b n (drop more rest)) ∙ drop-copies b n (b ∷ drop more rest) in
            let less : n ≡ suc n - 1 = omega arith in
            subst (λ m. Runs at (b ∷ rest) (suc n) b (drop m rest)) less
            (subst (λ l. Runs at l (suc n) b (drop n rest)) (sym (ap (λ l. b ∷ l) w ∙ swap b (suc n) (drop more rest)))
            (subst (Runs at (replicate (suc n) b ++ b ∷ drop more rest) (suc n) b) (sym left) run))

    -- all of them, and no `(` after the last
    pub all-of-them : opens (drop more rest) ≡ false → Runs at (b ∷ rest) (more + 1) b (drop more rest)
    all-of-them h =
        let run = copies at b other (drop more rest) (repeat-once at (drop more rest) h) (suc more) in
        let size : suc more ≡ more + 1 = omega arith in
        subst (λ n. Runs at (b ∷ rest) n b (drop more rest)) size
        (subst (λ l. Runs at l (suc more) b (drop more rest)) (sym (ap (λ l. b ∷ l) whole)) run)

-- no more than there are
pub front-le : (b : ℕ) (l : List ℕ) → front b l ≤ length l
front-le b l = prefix_len-le-length (λ x. eqb x b) l

pub ruleset run_steps = (run-repeat, but-the-last, all-of-them, front-le)
