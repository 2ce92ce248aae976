-- Laws of the items of a search, as they are held and in the definition's words: how they are put together.
-- Assumes nothing.
use Prim.Native.Nat.{ℕ, suc, ◌+◌, ◌<◌, ◌≤◌}
use mathlib.Core.Path.{◌≡◌, refl, sym, ◌∙◌, ap}
use mathlib.Core.List.{List, [], ◌∷◌, ◌++◌}
use native.Mathlib.Omega.{arith}
use lib.ListN.{length, get_or, take, drop, set}
use lib.Seq.{take_all}
use Rattle.std.proofs.lemmas.List.{drop_more, drop_all, take_more_set, length-set}
use Rattle.definition.specs.Extract.{WeightedItem, items}
use Rattle.extract.specs.declared.subsets.WeightedItem.{WeightedItem as Held}
use Rattle.extract.specs.Sums.{listed, Paired}

pub listed-length : (hs : List Held) → length (listed hs) ≡ length hs
listed-length [] = refl
listed-length (h ∷ hs) = ap suc (listed-length hs)

listed-more :
    (hs : List Held) (h : Held) (is : List WeightedItem) →
    listed (hs ++ h ∷ []) ++ is ≡ listed hs ++ record { width = h.width; weight = h.weight } ∷ is
listed-more [] h is = refl
listed-more (g ∷ hs) h is =
    ap (λ (l : List WeightedItem). record { width = g.width; weight = g.weight } ∷ l) (listed-more hs h is)

none-there : (bs ws : List ℕ) (k : ℕ) → length bs ≤ k → items (drop k bs) (drop k ws) ≡ []
none-there bs ws k h = ap (λ (l : List ℕ). items l (drop k ws)) (drop_all k bs h)

listed-whole : (hs : List Held) (is : List WeightedItem) → is ≡ [] → listed hs ++ is ≡ listed hs
listed-whole [] is e = e
listed-whole (g ∷ hs) is e =
    ap (λ (l : List WeightedItem). record { width = g.width; weight = g.weight } ∷ l) (listed-whole hs is e)

-- the first k items are put together, and the others are still two lists
pub record Putting (hs : List Held) (bs ws : List ℕ) (k : ℕ) : Type 0 where
  pub paired : Paired (length hs) bs ws
  pub same : items bs ws ≡ listed (take k hs) ++ items (drop k bs) (drop k ws)

pub putting-starts : {hs : List Held} {bs ws : List ℕ} → Paired (length hs) bs ws → Putting hs bs ws 0
putting-starts p = record { paired = p; same = refl }

module _ {hs : List Held} {bs ws : List ℕ} {k : ℕ} (l : Putting hs bs ws k) where
  pub putting-goes-on :
      k < length hs →
      Putting (set hs k (record { width = get_or bs k 0; weight = get_or ws k 0 })) bs ws (k + 1)
  putting-goes-on h =
      let h' : Held = record { width = get_or bs k 0; weight = get_or ws k 0 } in
      let wide : k < length bs = omega (arith, l.paired.wide) in
      let heavy : k < length ws = omega (arith, l.paired.heavy) in
      record {
        paired = rw (length-set hs k h') l.paired;
        same =
            l.same
            ∙ rw (drop_more bs k 0 wide, drop_more ws k 0 heavy, take_more_set hs k h' h)
            (sym (listed-more (take k hs) h' (items (drop (k + 1) bs) (drop (k + 1) ws))));
      }

  pub putting-ends : length hs ≤ k → listed hs ≡ items bs ws
  putting-ends h =
      sym
      (l.same ∙
      listed-whole (take k hs) _ (none-there bs ws k (omega (arith, l.paired.wide))) ∙
      ap listed (take_all k hs h))

pub ruleset put_steps = (putting-starts, putting-goes-on, putting-ends)
