-- Laws of a symbol's repeat: the first `)`, and one more symbol of the expansion.
-- Assumes nothing.
use Prim.Native.Nat.{ℕ, zero, suc, ◌+◌, ◌≤◌, ◌<◌}
use mathlib.Core.Path.{◌≡◌, refl, sym, ap, subst, ◌∙◌}
use mathlib.Core.Bool.{Bool, true, false}
use mathlib.Core.List.{List, [], ◌∷◌}
use native.Mathlib.Omega.{arith}
use lib.Dec.{eqb}
use lib.ListN.{length, take, drop, replicate}
use borrow.Author.Tests.{ne_eqb, lt-ltb, le-ltb}
use Rattle.std.specs.Prelude.{Option, None, Some, cond, position, if◌then◌else◌}
use Rattle.std.specs.List.{position_from}
use Rattle.std.proofs.lemmas.Iterator.Adapters.{position_from-zero}
use Rattle.definition.specs.declared.Refusal.{Refusal}
use Rattle.definition.specs.declared.TheConstants.{MOST_SYMBOLS}
use Rattle.definition.specs.Basic.{upper, count, Err, Ok, and_then}
use Rattle.definition.specs.Picture.{trim, before_close, in_front, repeat, expand}
use Rattle.definition.proofs.PictureLaws.{onto, repeat-none, repeat-plain}
use Rattle.std.proofs.lemmas.Bool.Decides.{nat_tests}
use Rattle.picture.specs.Repeats.{opens}

-- ---------------------------------------------------------------- one more symbol

-- bytes that are passed over
pub expand-skip : (at n k : ℕ) (bs : List ℕ) → expand at n k bs ≡ expand at n 0 (drop k bs)
unfolding expand
expand-skip at n zero bs = refl
expand-skip at n (suc k) [] = refl
expand-skip at n (suc k) (b ∷ bs) = expand-skip at n k bs

module _ (at n b : ℕ) (bs : List ℕ) where
  pub expand-refused : {r : Refusal} → repeat at bs ≡ Err r → expand at n 0 (b ∷ bs) ≡ Err r
  unfolding expand and_then
  expand-refused e = rw e

  module _ {k j : ℕ} (e : repeat at bs ≡ Ok (k, j)) where
    pub expand-many : MOST_SYMBOLS < n + k → expand at n 0 (b ∷ bs) ≡ Err (Refusal.TooManySymbols at)
    unfolding expand and_then
    expand-many m = rw (e, lt-ltb MOST_SYMBOLS (n + k) m)

    pub expand-more : n + k ≤ MOST_SYMBOLS → expand at n 0 (b ∷ bs) ≡ onto (replicate k (upper b)) (expand at (n + k) 0 (drop j bs))
    unfolding expand and_then
    expand-more m = rw (e, le-ltb MOST_SYMBOLS (n + k) m, expand-skip at (n + k) j bs)

-- ---------------------------------------------------------------- the repeat

-- another byte than `(`
pub repeat-other : (at b : ℕ) (bs : List ℕ) → (b ≡ 40 → ⊥) → repeat at (b ∷ bs) ≡ Ok (1, 0)
unfolding repeat
repeat-other at b bs h = rw (ne_eqb b 40 h, repeat)

-- after no `(` or none
pub repeat-once : (at : ℕ) (rest : List ℕ) → opens rest ≡ false → repeat at rest ≡ Ok (1, 0)
unfolding repeat
repeat-once at [] h = refl
repeat-once at (b ∷ bs) h = rw (h, repeat)

-- ---------------------------------------------------------------- the first `)`

abbrev is_close : ℕ → Bool
is_close b = eqb b 41

-- where a list of bytes ends that begins at a place
abbrev ended : ℕ → Option (List ℕ) → Option ℕ
ended i None = None
ended i (Some l) = Some (i + length l)

close_from : (s : List ℕ) (i : ℕ) → position_from is_close i s ≡ ended i (before_close s)
unfolding before_close
close_from [] i = refl
close_from (x ∷ xs) i = go (eqb x 41) (close_from xs (i + 1))
  where
    more : (o : Option (List ℕ)) → ended (i + 1) o ≡ ended i (in_front x o)
    more None = refl
    more (Some l) = ap Some (omega arith)

    go :
        (t : Bool) →
        position_from is_close (i + 1) xs ≡ ended (i + 1) (before_close xs) →
        cond t (Some i) (position_from is_close (i + 1) xs) ≡ ended i (if t then Some [] else in_front x (before_close xs))
    go true e = ap Some (omega arith)
    go false e = e ∙ more (before_close xs)

close_at : (s : List ℕ) → position is_close s ≡ ended 0 (before_close s)
close_at s = position_from-zero is_close s ∙ close_from s 0

-- what stands before it stands in front
in-front : (s l : List ℕ) → before_close s ≡ Some l → l ≡ take (length l) s
unfolding before_close
in-front [] l e = absurd (let z : ◌≡◌ {A = ℕ} 0 1 = cc in omega arith)
in-front (x ∷ xs) l e = go (eqb x 41) (before_close xs) refl e (in-front xs)
  where
    go :
        (t : Bool) (o : Option (List ℕ)) → before_close xs ≡ o → (if t then Some [] else in_front x o) ≡ Some l →
        ((m : List ℕ) → before_close xs ≡ Some m → m ≡ take (length m) xs) → l ≡ take (length l) (x ∷ xs)
    go true o q e ih = let y : [] ≡ l = cc in subst (λ m. m ≡ take (length m) (x ∷ xs)) y refl
    go false None q e ih = absurd (let z : ◌≡◌ {A = ℕ} 0 1 = cc in omega arith)
    go false (Some m) q e ih =
        let y : x ∷ m ≡ l = cc in
        subst (λ n. n ≡ take (length n) (x ∷ xs)) y (ap (λ n. x ∷ n) (ih m q))

module _ (s : List ℕ) where
  unclosed : position is_close s ≡ None → before_close s ≡ None
  unclosed e = go (before_close s) refl (sym (close_at s) ∙ e)
    where
      go : (o : Option (List ℕ)) → before_close s ≡ o → ended 0 o ≡ None → o ≡ None
      go None q h = refl
      go (Some l) q h = absurd (let z : ◌≡◌ {A = ℕ} 0 1 = cc in omega arith)

  closed : {k : ℕ} → position is_close s ≡ Some k → (before_close s ≡ Some (take k s)) × (length (take k s) ≡ k)
  closed {k} e = go (before_close s) refl (sym (close_at s) ∙ e)
    where
      go : (o : Option (List ℕ)) → before_close s ≡ o → ended 0 o ≡ Some k → (o ≡ Some (take k s)) × (length (take k s) ≡ k)
      go None q h = absurd (let z : ◌≡◌ {A = ℕ} 0 1 = cc in omega arith)
      go (Some l) q h =
          let m : 0 + length l ≡ k = cc in
          let n : length l ≡ k = omega (arith, m) in
          let y : l ≡ take k s = in-front s l q ∙ ap (λ j. take j s) n in
          (ap Some y, ap length (sym y) ∙ n)

-- ---------------------------------------------------------------- the repeat after a `(`

module _ (at : ℕ) (inside : List ℕ) where
  pub repeat-unclosed : position is_close inside ≡ None → repeat at (40 ∷ inside) ≡ Err (Refusal.UnclosedRepeat at)
  unfolding repeat and_then
  repeat-unclosed e = rw (unclosed inside e)

  module _ {k : ℕ} (e : position is_close inside ≡ Some k) where
    pub repeat-bad : count (trim (take k inside)) ≡ None → repeat at (40 ∷ inside) ≡ Err (Refusal.BadRepeat at)
    unfolding repeat and_then
    repeat-bad h = rw ((closed inside e).0, h)

    pub repeat-given : {n : ℕ} → count (trim (take k inside)) ≡ Some n → repeat at (40 ∷ inside) ≡ Ok (n, k + 2)
    unfolding repeat and_then
    repeat-given h = rw ((closed inside e).0, h, (closed inside e).1)

pub ruleset repeat_steps = (nat_tests, repeat-none, repeat-plain, repeat-unclosed, repeat-bad, repeat-given)
