-- The view of cards is what is seen of their lines.
-- Assumes nothing.
use Prim.Native.Nat.{ℕ, zero, suc, ◌+◌, ◌-◌, ◌<◌}
use mathlib.Core.Path.{◌≡◌, refl, sym, ◌∙◌, ap}
use mathlib.Core.Bool.{Bool, true, false, ◌&&◌, ◌||◌, not}
use mathlib.Core.List.{List, [], ◌∷◌, ◌++◌, map}
use native.Mathlib.Omega.{arith}
use lib.Dec.{eqb, leb, ltb}
use lib.ListN.{length, take}
use Rattle.std.specs.Prelude.{Option, None, Some, if◌then◌else◌}
use Rattle.definition.specs.Cards.{view_from, view, line_ends, other_indicator, first_other}
use Rattle.definition.specs.Calls.{indicator_check}
use Rattle.definition.proofs.Lists.{by_cases}
use Rattle.theorems.specs.CardLines.{onto_first, lines, join, blanks, visible, has_other, first_other_of, refused_at}

-- what is seen of the rest of a line, from column n on, on a line of code or not
abbrev rest : ℕ → Bool → List ℕ → List ℕ
rest n code [] = []
rest n code (b ∷ l) = (if code && leb n 72 then b else 32) ∷ rest (n + 1) (if eqb n 7 then eqb b 32 else code) l

abbrev rests : List (List ℕ) → List (List ℕ)
rests ls = map (rest 1 false) ls

abbrev shown : ℕ → Bool → List (List ℕ) → List ℕ
shown n code [] = []
shown n code (l ∷ ls) = join (rest n code l ∷ rests ls)

some_line : (bs : List ℕ) → (l : List ℕ) × (ls : List (List ℕ)) × (lines bs ≡ l ∷ ls)
some_line [] = ([], [], refl)
some_line (b ∷ bs) =
    by_cases (eqb b 10)
    (λ y. ([], lines bs, rw y))
    (λ y. let r = some_line bs in (b ∷ r.0, r.1, rw (y, r.2)))

-- a byte before the first of joined lines
joined-first : (x : ℕ) (l : List ℕ) (ls : List (List ℕ)) → join ((x ∷ l) ∷ ls) ≡ x ∷ join (l ∷ ls)
joined-first x l [] = refl
joined-first x l (m ∷ ls) = refl

shown-all : (ls : List (List ℕ)) (l : List ℕ) (ms : List (List ℕ)) → ls ≡ l ∷ ms → shown 1 false ls ≡ join (rests ls)
shown-all [] l ms h = refl
shown-all (l' ∷ ls) l ms h = refl

-- an ended line before the others
ended-line : (n : ℕ) (code : Bool) (ls : List (List ℕ)) (l : List ℕ) (ms : List (List ℕ)) → ls ≡ l ∷ ms → shown n code ([] ∷ ls) ≡ 10 ∷ join (rests ls)
ended-line n code [] l ms h = absurd (cc)
ended-line n code (l' ∷ ls) l ms h = refl

one_more :
    (n : ℕ) (code : Bool) (b : ℕ) (ls : List (List ℕ)) (l : List ℕ) (ms : List (List ℕ)) →
    ls ≡ l ∷ ms →
    shown n code (onto_first b ls)
    ≡ (if code && leb n 72 then b else 32) ∷ shown (n + 1) (if eqb n 7 then eqb b 32 else code) ls
one_more n code b [] l ms h = absurd (cc)
one_more n code b (l' ∷ ls) l ms h = joined-first (if code && leb n 72 then b else 32) (rest (n + 1) (if eqb n 7 then eqb b 32 else code) l') (rests ls)

view-shown : (bs : List ℕ) (n : ℕ) (code : Bool) → view_from n code bs ≡ shown n code (lines bs)
unfolding view_from
view-shown [] n code = refl
view-shown (b ∷ bs) n code =
    let s = some_line bs in
    by_cases (eqb b 10)
    (λ y.
    let ih : view_from 1 false bs ≡ join (rests (lines bs)) = view-shown bs 1 false ∙ shown-all (lines bs) s.0 s.1 s.2 in
    let e = ended-line n code (lines bs) s.0 s.1 s.2 in
    grind (arith, ih, e))
    (λ y.
    let ih = view-shown bs (n + 1) (if eqb n 7 then eqb b 32 else code) in
    let e = one_more n code b (lines bs) s.0 s.1 s.2 in
    grind (arith, ih, e))

-- ---------------------------------------------------------------- one line

-- behind the indicator of a line that is no code
rest-blank : (l : List ℕ) (n : ℕ) → 7 < n → rest n false l ≡ blanks (length l)
rest-blank [] n h = refl
rest-blank (b ∷ l) n h =
    let other : eqb n 7 ≡ false = grind arith in
    rw other (ap (λ (m : List ℕ). 32 ∷ m) (rest-blank l (n + 1) (omega arith)))

-- past the last column
rest-past : (l : List ℕ) (n : ℕ) (code : Bool) → 72 < n → rest n code l ≡ blanks (length l)
rest-past [] n code h = refl
rest-past (b ∷ l) n code h =
    let other : eqb n 7 ≡ false = grind arith in
    let past : leb n 72 ≡ false = grind arith in
    let ih = rest-past l (n + 1) code (omega arith) in
    grind (arith, ih)

-- behind that of a line of code
rest-code :
    (l : List ℕ) (n k : ℕ) → 7 < n → n + k ≡ 73 → rest n true l ≡ take k l ++ blanks (length l - k)
rest-code [] n zero h e = refl
rest-code [] n (suc k) h e = let z : 0 - suc k ≡ 0 = omega arith in rw z
rest-code (b ∷ l) n zero h e =
    let whole : suc (length l) - 0 ≡ suc (length l) = omega arith in rw whole (rest-past (b ∷ l) n true (omega arith))
rest-code (b ∷ l) n (suc k) h e =
    let other : eqb n 7 ≡ false = grind arith in
    let within : leb n 72 ≡ true = grind arith in
    let less : suc (length l) - suc k ≡ length l - k = omega arith in
    let ih = rest-code l (n + 1) k (omega arith) (omega arith) in
    rw (other, within, less) (ap (λ (m : List ℕ). b ∷ m) ih)

behind-indicator :
    (l : List ℕ) (b : Bool) →
    rest 8 b l ≡ (if b then take 65 l ++ blanks (length l - 65) else blanks (length l))
behind-indicator l true = rest-code l 8 65 (omega arith) (omega arith)
behind-indicator l false = rest-blank l 8 (omega arith)

line-seen : (l : List ℕ) → rest 1 false l ≡ visible l
line-seen [] = refl
line-seen (a ∷ []) = refl
line-seen (a ∷ b ∷ []) = refl
line-seen (a ∷ b ∷ c ∷ []) = refl
line-seen (a ∷ b ∷ c ∷ d ∷ []) = refl
line-seen (a ∷ b ∷ c ∷ d ∷ e ∷ []) = refl
line-seen (a ∷ b ∷ c ∷ d ∷ e ∷ f ∷ []) = refl
line-seen (a ∷ b ∷ c ∷ d ∷ e ∷ f ∷ g ∷ l) =
    let more = behind-indicator l (eqb g 32) in
    let blank : ℕ → List ℕ = λ n. 32 ∷ 32 ∷ 32 ∷ 32 ∷ 32 ∷ 32 ∷ 32 ∷ blanks n in
    let less : 7 + length l - 72 ≡ length l - 65 = omega arith in
    by_cases (eqb g 32)
    (λ y. grind (arith, more, less))
    (λ y. grind (arith, more))

lines-seen : (ls : List (List ℕ)) → rests ls ≡ map visible ls
lines-seen [] = refl
lines-seen (l ∷ ls) = cc (line-seen l, lines-seen ls)

pub view_seen : (cards : List ℕ) → view cards ≡ join (map visible (lines cards))
view_seen cards =
    let s = some_line cards in
    view-shown cards 1 false ∙ shown-all (lines cards) s.0 s.1 s.2 ∙ ap join (lines-seen (lines cards))

-- ---------------------------------------------------------------- the indicator

-- the byte b of column 7, before the rest l of its line
abbrev other_byte : ℕ → List ℕ → Bool
other_byte b l = not (eqb b 32 || eqb b 42 || eqb b 47 || eqb b 68 || eqb b 13 && eqb (length l) 0)

-- the first such byte of a line from column n on, or what comes behind it
abbrev in_line : ℕ → ℕ → List ℕ → (ℕ → Option ℕ) → Option ℕ
in_line p n [] next = next p
in_line p n (b ∷ l) next = if eqb n 7 && other_byte b l then Some p else in_line (p + 1) (n + 1) l next

-- and of lines
abbrev in_lines : ℕ → List (List ℕ) → Option ℕ
in_lines p [] = None
in_lines p (l ∷ ls) = in_line p 1 l (λ q. in_lines (q + 1) ls)

abbrev in_text : ℕ → ℕ → List (List ℕ) → Option ℕ
in_text p n [] = None
in_text p n (l ∷ ls) = in_line p n l (λ q. in_lines (q + 1) ls)

-- a line ends where its rest is empty
ends-line : (bs : List ℕ) (l : List ℕ) (ls : List (List ℕ)) → lines bs ≡ l ∷ ls → line_ends bs ≡ eqb (length l) 0
ends-line [] l ls h = grind arith
ends-line (b ∷ bs) l ls h =
    let s = some_line bs in
    by_cases (eqb b 10)
    (λ y. grind (arith, s.2))
    (λ y. grind (arith, s.2))

other-same : (b : ℕ) (bs l : List ℕ) → eqb b 10 ≡ false → line_ends bs ≡ eqb (length l) 0 → other_indicator b bs ≡ other_byte b l
other-same b bs l y h = grind arith

line-first : (ls : List (List ℕ)) (p : ℕ) → in_text p 1 ls ≡ in_lines p ls
line-first [] p = refl
line-first (l ∷ ls) p = refl

first-in : (bs : List ℕ) (p n : ℕ) → first_other p n bs ≡ in_text p n (lines bs)
unfolding first_other
first-in [] p n = refl
first-in (b ∷ bs) p n =
    let s = some_line bs in
    by_cases (eqb b 10)
    (λ y.
    let ih : first_other (p + 1) 1 bs ≡ in_lines (p + 1) (lines bs) = first-in bs (p + 1) 1 ∙ line-first (lines bs) (p + 1) in
    let none : other_indicator b bs ≡ false = grind arith in
    rw (none, y) (grind (arith, ih)))
    (λ y.
    let ih : first_other (p + 1) (n + 1) bs ≡ in_line (p + 1) (n + 1) s.0 (λ q. in_lines (q + 1) s.1) =
    first-in bs (p + 1) (n + 1) ∙ ap (in_text (p + 1) (n + 1)) s.2 in
    let bad = eqb n 7 && other_byte b s.0 in
    let same = other-same b bs s.0 y (ends-line bs s.0 s.1 s.2) in
    rw (same, y)
    (ap (λ (o : Option ℕ). if bad then Some p else o) ih
    ∙ sym (ap (λ (ls : List (List ℕ)). in_text p n (onto_first b ls)) s.2)))

-- past column 7 nothing is refused
past-indicator : (l : List ℕ) (p n : ℕ) (next : ℕ → Option ℕ) → 7 < n → in_line p n l next ≡ next (p + length l)
past-indicator [] p n next h = ap next (omega arith)
past-indicator (b ∷ l) p n next h =
    let other : eqb n 7 ≡ false = grind arith in
    rw other (past-indicator l (p + 1) (n + 1) next (omega arith) ∙ ap next (omega arith))

line-other :
    (l : List ℕ) (p : ℕ) (next : ℕ → Option ℕ) →
    in_line p 1 l next ≡ (if has_other l then Some (p + 6) else next (p + length l))
line-other [] p next = ap next (omega arith)
line-other (a ∷ []) p next = ap next (omega arith)
line-other (a ∷ b ∷ []) p next = ap next (omega arith)
line-other (a ∷ b ∷ c ∷ []) p next = ap next (omega arith)
line-other (a ∷ b ∷ c ∷ d ∷ []) p next = ap next (omega arith)
line-other (a ∷ b ∷ c ∷ d ∷ e ∷ []) p next = ap next (omega arith)
line-other (a ∷ b ∷ c ∷ d ∷ e ∷ f ∷ []) p next = ap next (omega arith)
line-other (a ∷ b ∷ c ∷ d ∷ e ∷ f ∷ g ∷ l) p next =
    let at : p + 1 + 1 + 1 + 1 + 1 + 1 ≡ p + 6 = omega arith in
    let more = past-indicator l (p + 6 + 1) 8 next (omega arith) in
    let end : p + 6 + 1 + length l ≡ p + (7 + length l) = omega arith in
    let long : eqb (7 + length l) 7 ≡ eqb (length l) 0 = grind arith in
    let some : ltb 6 (7 + length l) ≡ true = grind arith in
    grind (arith, at, more, end, long, some)

lines-other : (ls : List (List ℕ)) (p : ℕ) → in_lines p ls ≡ first_other_of p ls
lines-other [] p = refl
lines-other (l ∷ ls) p =
    let ih = lines-other ls (p + length l + 1) in
    line-other l p (λ q. in_lines (q + 1) ls) ∙ ap (λ (o : Option ℕ). if has_other l then Some (p + 6) else o) ih

pub other_refused : (cards : List ℕ) → indicator_check cards ≡ refused_at (first_other_of 0 (lines cards))
unfolding indicator_check
other_refused cards =
    let s = some_line cards in
    let e : first_other 0 1 cards ≡ first_other_of 0 (lines cards) =
    first-in cards 0 1 ∙ ap (in_text 0 1) s.2 ∙ lines-other (s.0 ∷ s.1) 0 ∙ sym (ap (first_other_of 0) s.2) in
    grind (arith, e)
