-- Laws of a list of pieces: exactly one piece covers a position, a record is cut and joined, pieces laid many times are
-- looked up by a division.
-- Assumes nothing.
use Prim.Native.Nat.{ℕ, zero, suc, ◌+◌, ◌*◌, ◌-◌, ◌/◌, ◌%◌, ◌≤◌, ◌<◌}
use mathlib.Core.Path.{◌≡◌, refl, sym, ◌∙◌, ap, ap₂}
use mathlib.Core.List.{List, [], ◌∷◌, ◌++◌, append_assoc, map}
use mathlib.Core.Logic.{◌⊎◌, inl, inr, ⊎_elim}
use native.Mathlib.Omega.{arith}
use native.Mathlib.Nat.{mod-eq_of_lt, div-eq_of_lt, div-eq-sub-div, mod-eq-sub-mod, mul-suc, mul-zero, zero-mul}
use native.Mathlib.Nat.{add-mul}
use lib.ListN.{length, take, drop, length-take, length-drop, take-append-drop}
use Rattle.std.proofs.Common.{drop-drop}
use Rattle.std.specs.Prelude.{Option, None, Some}
use Rattle.definition.specs.declared.Owner.{Owner}
use Rattle.definition.specs.Owner.{Holder, Piece, slack_piece, extent, onward, repeated, answer, owner_from, cut}
use Rattle.definition.specs.Owner.{join}
use Rattle.definition.specs.Demand.{Spot, spot, width_of, gap, each, spots, parts, Among, One, naming}
use Rattle.definition.proofs.Lists.{order}

pub extent-append : (ps qs : List Piece) → extent (ps ++ qs) ≡ extent ps + extent qs
extent-append [] qs = omega arith
extent-append (p ∷ ps) qs = omega (arith, extent-append ps qs)

pub extent-slack : (k n : ℕ) → extent (slack_piece k n) ≡ n
extent-slack k n = grind arith

-- the same pieces n times
abbrev pub copies : ℕ → List Piece → List Piece
copies zero ps = []
copies (suc n) ps = ps ++ copies n ps

pub extent-copies : (n : ℕ) (ps : List Piece) → extent (copies n ps) ≡ extent ps * n
extent-copies zero ps = omega arith
extent-copies (suc n) ps = rw extent-append (omega (arith, extent-copies n ps, mul-suc (extent ps) n))

-- occurrences that are alike wherever they are laid
pub repeated-copies :
    (n : ℕ) (place : ℕ) (one : ℕ → List Piece) (ps : List Piece) →
    ((i : ℕ) → i < n → one (place + i * extent ps) ≡ ps) →
    repeated n place one ≡ copies n ps
repeated-copies zero place one ps h = refl
repeated-copies (suc n) place one ps h =
    let here : one place ≡ ps = ap one (omega arith) ∙ h 0 (omega arith) in
    ap (λ (x : List Piece). onward place x (λ p. repeated n p one)) here
    ∙ ap (λ (x : List Piece). ps ++ x) (repeated-copies n (place + extent ps) one ps (λ i l.
    ap one (omega (arith, add-mul 1 i (extent ps))) ∙ h (suc i) (omega arith)))

-- the two clauses of the search
module _ (first : ℕ) (p : Piece) (ps : List Piece) (q : ℕ) where
  pub owner_here : q < p.width → owner_from first (p ∷ ps) q ≡ Some (answer p.holder first q)
  unfolding owner_from
  owner_here h = grind arith

  pub owner-later : p.width ≤ q → owner_from first (p ∷ ps) q ≡ owner_from (first + p.width) ps (q - p.width)
  unfolding owner_from
  owner-later h = grind arith

-- ---------------------------------------------------------------- one owner

pub among-append : {A : Type 0} (y : A) (xs ys : List A) → Among y (xs ++ ys) → Among y xs ⊎ Among y ys
among-append y [] ys a = inr a
among-append y (x ∷ xs) ys a = grind (arith, among-append y xs ys)

pub among-left : {A : Type 0} (y : A) (xs ys : List A) → Among y xs → Among y (xs ++ ys)
among-left y [] ys a = absurd a
among-left y (x ∷ xs) ys a = grind (arith, among-left y xs ys)

pub among-right : {A : Type 0} (y : A) (xs ys : List A) → Among y ys → Among y (xs ++ ys)
among-right y [] ys a = a
among-right y (x ∷ xs) ys a = inr (among-right y xs ys a)

-- what is laid from a byte on starts there or later
laid-after : (ps : List Piece) (b : ℕ) (y : Spot) → Among y (spots b ps) → b ≤ y.first
laid-after [] b y a = absurd a
laid-after (p ∷ ps) b y a = grind (arith, laid-after ps (b + p.width) y)

pub laid-before : (ps : List Piece) (b : ℕ) (y : Spot) → Among y (spots b ps) → y.first + y.width ≤ b + extent ps
laid-before [] b y a = absurd a
laid-before (p ∷ ps) b y a = grind (arith, laid-before ps (b + p.width) y)

-- exactly one spot has the byte, and the search names it
pub record Found (xs : List Spot) (q : ℕ) (o : Option Owner) : Type 0 where
  pub one : One xs q
  pub names : o ≡ Some (naming one.owner.holder one.owner.first q)

answer-naming : (h : Holder) (b q : ℕ) → answer h b (q - b) ≡ naming h b q
answer-naming h b q = grind arith

pub found : (ps : List Piece) (b q : ℕ) → b ≤ q → q < b + extent ps → Found (spots b ps) q (owner_from b ps (q - b))
found [] b q g h = absurd (omega arith)
found (p ∷ ps) b q g h =
    let w = p.width in
    let here = spot p.holder b w in
    let ih = found ps (b + w) q in
    ⊎_elim
    (λ (l : q < b + w).
    record {
      one = record {
        owner = here;
        listed = inl refl;
        has = record { starts = omega arith; ends = omega arith };
        only = λ y a y-has. grind (arith, laid-after ps (b + w) y);
      };
      names = owner_here b p ps (q - b) (omega arith) ∙ ap Some (answer-naming p.holder b q);
    })
    (λ (l : b + w ≤ q).
    let f = ih l (omega arith) in
    let o = f.one in
    record {
      one = record {
        owner = o.owner;
        listed = inr o.listed;
        has = o.has;
        only = λ y a y-has. grind (arith, o.only y);
      };
      names = owner-later b p ps (q - b) (omega arith) ∙ ap (owner_from (b + w) ps) (omega arith) ∙ f.names;
    })
    (order q (b + w))

-- and a byte behind the pieces has none
pub owner_none : (first : ℕ) (ps : List Piece) (q : ℕ) → extent ps ≤ q → owner_from first ps q ≡ None
unfolding owner_from
owner_none first [] q h = refl
owner_none first (p ∷ ps) q h = owner-later first p ps q (omega arith) ∙ owner_none (first + p.width) ps (q - p.width) (omega arith)

-- ---------------------------------------------------------------- cut and join

-- a record as long as the pieces is what its parts join to
pub join-cut : (ps : List Piece) (bs : List ℕ) → length bs ≡ extent ps → join (cut ps bs) ≡ bs
join-cut [] [] h = refl
join-cut [] (b ∷ bs) h = absurd (omega arith)
join-cut (p ∷ ps) bs h =
    ap (λ (l : List ℕ). take p.width bs ++ l) (join-cut ps (drop p.width bs) (rw length-drop (omega arith)))
    ∙ take-append-drop p.width bs

-- each part is the record's bytes at its spot, and as wide
pub cut-parts : (ps : List Piece) (b : ℕ) (bs : List ℕ) → cut ps (drop b bs) ≡ parts (spots b ps) bs
cut-parts [] b bs = refl
cut-parts (p ∷ ps) b bs =
    ap (λ (l : List ℕ). take p.width (drop b bs) ∷ cut ps l) (drop-drop p.width b bs)
    ∙ ap (λ (l : List (List ℕ)). take p.width (drop b bs) ∷ l) (cut-parts ps (b + p.width) bs)

pub cut-wide :
    (ps : List Piece) (b : ℕ) (bs : List ℕ) →
    length bs ≡ extent ps →
    map length (cut ps bs) ≡ map width_of (spots b ps)
cut-wide [] b bs h = refl
cut-wide (p ∷ ps) b bs h =
    ap₂ (λ (n : ℕ) (ns : List ℕ). n ∷ ns)
    (rw length-take (omega arith))
    (cut-wide ps (b + p.width) (drop p.width bs) (rw length-drop (omega arith)))

-- ---------------------------------------------------------------- pieces after pieces, and pieces laid many times

module _ (qs : List Piece) where
  pub owner-left :
      (first : ℕ) (ps : List Piece) (q : ℕ) →
      q < extent ps →
      owner_from first (ps ++ qs) q ≡ owner_from first ps q
  owner-left first [] q h = absurd (omega arith)
  owner-left first (p ∷ ps) q h = grind (arith, owner_here, owner-later, owner-left (first + p.width) ps (q - p.width))

  pub owner-right :
      (first : ℕ) (ps : List Piece) (q : ℕ) →
      extent ps ≤ q →
      owner_from first (ps ++ qs) q ≡ owner_from (first + extent ps) qs (q - extent ps)
  owner-right first [] q h = grind arith
  owner-right first (p ∷ ps) q h = grind (arith, owner-later, owner-right (first + p.width) ps (q - p.width))

pub positive : (w n q : ℕ) → q < w * n → 0 < w
positive w n q h = grind (arith, zero-mul)

-- pieces of w bytes, laid n times: the byte q falls into occurrence q / w, which starts at q / w * w, at the place q %
-- w
pub owner-copies :
    (first n : ℕ) (ps : List Piece) (q : ℕ) →
    q < extent ps * n →
    owner_from first (copies n ps) q ≡ owner_from (first + q / extent ps * extent ps) ps (q % extent ps)
owner-copies first zero ps q h = absurd (omega (arith, mul-zero (extent ps)))
owner-copies first (suc n) ps q h =
    let w = extent ps in
    let pos = positive w (suc n) q h in
    let ih = owner-copies (first + w) n ps (q - w) in
    ⊎_elim
    (λ (l : q < w).
    owner-left (copies n ps) first ps q l
    ∙ ap₂ (λ (a b : ℕ). owner_from a ps b) (rw (div-eq_of_lt l) (omega arith)) (sym (mod-eq_of_lt l)))
    (λ (l : w ≤ q).
    owner-right (copies n ps) first ps q l
    ∙ ih (omega (arith, mul-suc w n))
    ∙ ap₂ (λ (a b : ℕ). owner_from a ps b) (rw (div-eq-sub-div pos l) (omega (arith, add-mul ((q - w) / w) 1 w))) (sym (mod-eq-sub-mod l)))
    (order q w)

-- ---------------------------------------------------------------- where pieces stand

pub spots-append : (ps qs : List Piece) (b : ℕ) → spots b (ps ++ qs) ≡ spots b ps ++ spots (b + extent ps) qs
spots-append [] qs b = grind arith
spots-append (p ∷ ps) qs b = grind (arith, spots-append ps qs (b + p.width), append_assoc)

pub spots-copies :
    (n : ℕ) (ps : List Piece) (b : ℕ) →
    spots b (copies n ps) ≡ each n b (extent ps) (λ c. spots c ps)
spots-copies zero ps b = refl
spots-copies (suc n) ps b = cc (spots-append ps (copies n ps) b, spots-copies n ps (b + extent ps))

pub slack-spots : (k b n : ℕ) → spots b (slack_piece k n) ≡ gap k b n
slack-spots k b n = grind arith
