-- The innermost list in which an entry is still to come is the last one of the list of lists.
-- Assumes nothing.
use Rattle.std.proofs.Common.{ℕ, List, Option, None, Some, zero, suc, ◌≡◌, ◌≢◌, ◌≤◌, ◌<◌, ◌+◌, ◌-◌, get_or, length}
use Rattle.std.proofs.Common.{unwrap_or, ap, sym, ◌∙◌, refl, arith}
use Rattle.std.proofs.lemmas.Bool.Decides.{nat_tests}
use Rattle.printing.specs.Depths.{still_open}

stays : (left : List ℕ) (d : ℕ) → get_or left d 0 ≢ 0 → still_open left d ≡ d
unfolding still_open
stays left zero n = refl
stays left (suc d) n = grind (arith, nat_tests)

further_out : (left : List ℕ) (d : ℕ) → get_or left (suc d) 0 ≡ 0 → still_open left (suc d) ≡ still_open left d
unfolding still_open
further_out left d e = rw e refl

-- one is to come in list i, and none in the j below it
above :
    (left : List ℕ) (i j : ℕ) →
    get_or left i 0 ≢ 0 →
    ((k : ℕ) → i < k → k ≤ i + j → get_or left k 0 ≡ 0) →
    still_open left (i + j) ≡ i
above left i zero n none =
    let e : i + 0 ≡ i = omega arith in
    ap (still_open left) e ∙ stays left i n
above left i (suc j) n none =
    let e : i + suc j ≡ suc (i + j) = omega arith in
    ap (still_open left) e
    ∙ further_out left (i + j) (none (suc (i + j)) (omega arith) (omega arith))
    ∙ above left i j n (λ k l u. none k l (omega arith))

-- none is to come in any
at_top : (left : List ℕ) (d : ℕ) → ((k : ℕ) → k ≤ d → get_or left k 0 ≡ 0) → still_open left d ≡ 0
unfolding still_open
at_top left zero none = refl
at_top left (suc d) none =
    further_out left d (none (suc d) (omega arith)) ∙ at_top left d (λ k l. none k (omega arith))

-- found from the back
pub found :
    (left : List ℕ) (r : Option ℕ) →
    length left ≡ 256 →
    ((i : ℕ) → r ≡ Some i → i < length left) →
    ((i : ℕ) → r ≡ Some i → get_or left i 0 ≢ 0) →
    ((i : ℕ) → r ≡ Some i → (k : ℕ) → i + 1 ≤ k → k < length left → get_or left k 0 ≡ 0) →
    (r ≡ None → (k : ℕ) → k < length left → get_or left k 0 ≡ 0) →
    unwrap_or r 0 ≡ still_open left 255
found left None whole within some behind none =
    sym (at_top left 255 (λ k l. none refl k (omega (arith, whole))))
found left (Some i) whole within some behind none =
    let inside = within i refl in
    let e : 255 ≡ i + (255 - i) = omega (arith, whole, inside) in
    let last = above left i (255 - i) (some i refl) (λ k l u. behind i refl k (omega arith) (omega (arith, whole))) in
    sym (ap (still_open left) e ∙ last)
