-- A number that is read in a part of a listing is the one that is read in the listing.
-- Assumes nothing.
use Rattle.std.proofs.Common.{ℕ, List, ◌≡◌, ◌≤◌, ◌+◌, length, take, drop, ap, ◌∙◌, arith}
use Rattle.std.proofs.Common.{take-take, drop-drop, length-take-le, length-drop}
use Rattle.std.proofs.lemmas.Bool.Decides.{nat_tests}
use Rattle.std.proofs.lemmas.List.{drop-take}
use Rattle.printing.specs.Read.{four}

four_bytes :
    (bytes : List ℕ) (at k m : ℕ) →
    4 ≤ m →
    take 4 (drop k (take (k + m) (drop at bytes))) ≡ take 4 (drop (at + k) bytes)
four_bytes bytes at k m l =
    ap (take 4) (drop-take k m (drop at bytes))
    ∙ take-take 4 m (drop k (drop at bytes)) l
    ∙ ap (take 4) (drop-drop k at bytes)

pub four_first :
    (bytes : List ℕ) (at : ℕ) → at + 8 ≤ length bytes → four (take 8 (drop at bytes)) 0 ≡ four bytes at
four_first bytes at l =
    let n = length-take-le 8 (drop at bytes) (grind (arith, nat_tests, length-drop at bytes)) in
    grind (arith, nat_tests, n, four_bytes bytes at 0 8 (omega arith))

pub four_last :
    (bytes : List ℕ) (at : ℕ) → at + 8 ≤ length bytes → four (take 8 (drop at bytes)) 4 ≡ four bytes (at + 4)
four_last bytes at l =
    let n = length-take-le 8 (drop at bytes) (grind (arith, nat_tests, length-drop at bytes)) in
    grind (arith, nat_tests, n, four_bytes bytes at 4 4 (omega arith))

pub ruleset part_steps = (nat_tests, four_first, four_last)
