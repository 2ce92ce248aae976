-- What the loops over the table keep: what is asked of all entries is what was found and what is asked of the rest.
-- Assumes nothing.
use Rattle.rows.specs.declared.Row.{Row}
use Prim.Native.Nat.{ℕ, ◌+◌, max, ◌≤◌, ◌<◌}
use mathlib.Core.Path.{◌≡◌, refl, ap, ◌∙◌}
use mathlib.Core.Bool.{Bool, ◌||◌}
use mathlib.Core.List.{List, [], ◌∷◌}
use native.Mathlib.Omega.{arith}
use lib.ListN.{length, length-append, drop, get_or}
use borrow.Author.Tests.{lt-ltb, le-ltb}
use Rattle.std.specs.List.{list_any, fold}
use Rattle.std.proofs.lemmas.List.{at_drop_more, at_drop_all}
use Rattle.definition.specs.declared.Refusal.{Refusal}
use Rattle.definition.specs.declared.TheConstants.{LARGEST}
use Rattle.definition.specs.Basic.{is_given, Ok, Err, and_then}
use Rattle.definition.specs.Listing.{entry_bytes}
use Rattle.output.specs.declared.Sink.{Sink}
use Rattle.output.specs.Puts.{Puts}
use Rattle.output.proofs.PutLaws.{Left, left-all, left-none, left-on}
use Rattle.fold.specs.declared.table.TableEntry.{TableEntry}
use Rattle.fold.specs.Entered.{Shown, flat_bytes, flat_varies, top_end, flat_length, flat_fits, own_of, shown_of}
use Rattle.fold.specs.Entered.{shown_all}

-- the entries from item k on
abbrev pub rest : List Row → List TableEntry → ℕ → List Shown
rest w t k = shown_all w (drop k t)

module _ (w : List Row) (t : List TableEntry) (k : ℕ) where
  pub none_left : length t ≤ k → rest w t k ≡ []
  unfolding shown_all
  none_left h = at_drop_all (shown_all w) t k h

  pub rest-next : (x : TableEntry) → k < length t → rest w t k ≡ shown_of w (get_or t k x) ∷ rest w t (k + 1)
  unfolding shown_all
  rest-next x h = at_drop_more (shown_all w) t k x h

-- ---------------------------------------------------------------- the bytes

-- the bytes of the entries before item k were put
pub record Putting (w : List Row) (t : List TableEntry) (s : Sink) (k : ℕ) (s' : Sink) : Type 0 where
  pub left : Left s (flat_bytes (shown_all w t)) (flat_bytes (rest w t k)) s'

pub putting_starts : (w : List Row) (t : List TableEntry) (s : Sink) → Putting w t s 0 s
putting_starts w t s = record { left = left-all s (flat_bytes (shown_all w t)) }

module _ {w : List Row} {t : List TableEntry} {s : Sink} {k : ℕ} {s' : Sink} (inv : Putting w t s k s') where
  pub putting_ends : length t ≤ k → Puts s (flat_bytes (shown_all w t)) s'
  unfolding flat_bytes
  putting_ends h = left-none inv.left (ap flat_bytes (none_left w t k h))

  pub putting_small : s.at + length (flat_bytes (shown_all w t)) < 4294967296 → s'.at ≤ 4294967295
  putting_small m =
      let l = inv.left in
      omega (arith, l.put.put.next, ap length l.same, length-append l.done (flat_bytes (rest w t k)))

  pub putting_on :
      (x : TableEntry) → k < length t →
      {s'' : Sink} →
      Puts s' (entry_bytes (own_of w (get_or t k x)) (get_or t k x).members) s'' →
      Putting w t s (k + 1) s''
  unfolding flat_bytes
  putting_on x h p = record { left = left-on inv.left (ap flat_bytes (rest-next w t k x h)) p }

-- ---------------------------------------------------------------- what is asked of them, one at a time

module _ (w : List Row) (t : List TableEntry) (k : ℕ) where
  pub fits_none : length t ≤ k → flat_fits (rest w t k) ≡ Ok tt
  unfolding flat_fits
  fits_none h = ap flat_fits (none_left w t k h)

  module _ (x : TableEntry) (h : k < length t) where
    -- one that ends too far, and one that does not
    pub fits_over :
        LARGEST < top_end (shown_of w (get_or t k x)) →
        flat_fits (rest w t k) ≡ Err (Refusal.TooLarge (own_of w (get_or t k x)).at)
    unfolding flat_fits and_then
    fits_over l = ap flat_fits (rest-next w t k x h) ∙ rw (lt-ltb LARGEST (top_end (shown_of w (get_or t k x))) l)

    pub fits_next : top_end (shown_of w (get_or t k x)) ≤ LARGEST → flat_fits (rest w t k) ≡ flat_fits (rest w t (k + 1))
    unfolding flat_fits and_then
    fits_next l = ap flat_fits (rest-next w t k x h) ∙ rw (le-ltb LARGEST (top_end (shown_of w (get_or t k x))) l)

-- whether one varies, and the largest end at the top, as the code asks
pub varies_any : (w : List Row) (t : List TableEntry) → list_any (λ x. is_given (own_of w x).depending) t ≡ flat_varies (shown_all w t)
unfolding shown_all flat_varies
varies_any w [] = refl
varies_any w (x ∷ t) = ap (λ (b : Bool). is_given (own_of w x).depending || b) (varies_any w t)

length_from : (w : List Row) (t : List TableEntry) (m : ℕ) → fold (λ n x. max n (top_end (shown_of w x))) m t ≡ max m (flat_length (shown_all w t))
unfolding shown_all flat_length
length_from w [] m = omega arith
length_from w (x ∷ t) m = omega (arith, length_from w t (max m (top_end (shown_of w x))))

pub length_fold : (w : List Row) (t : List TableEntry) → fold (λ n x. max n (top_end (shown_of w x))) 0 t ≡ flat_length (shown_all w t)
length_fold w t = omega (arith, length_from w t 0)

-- where the largest end is not too large, none is
fits_all : (xs : List Shown) → flat_length xs ≤ LARGEST → flat_fits xs ≡ Ok tt
unfolding flat_length flat_fits and_then
fits_all [] h = refl
fits_all (x ∷ xs) h = rw (le-ltb LARGEST (top_end x) (omega arith)) (fits_all xs (omega arith))

pub length_fits : (w : List Row) (t : List TableEntry) → flat_length (shown_all w t) ≤ LARGEST → flat_fits (shown_all w t) ≡ Ok tt
length_fits w t = fits_all (shown_all w t)

pub ruleset fitting = (fits_none, fits_over, fits_next, length_fits)

pub ruleset putting = (putting_starts, putting_ends, putting_small, putting_on)
