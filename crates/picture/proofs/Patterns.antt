-- What the pattern `[first, rest @ ..]` says of a text that a loop goes over: it is the first byte before the rest; and
-- one that it does not fit is empty.
-- Assumes nothing.
use Prim.Native.Nat.{ℕ, ◌-◌, ◌≤◌, ◌<◌}
use mathlib.Core.Path.{◌≡◌, ap, sym, ◌∙◌}
use mathlib.Core.List.{List, [], ◌∷◌}
use native.Mathlib.Omega.{arith}
use lib.ListN.{length, get_or, take, drop}
use Rattle.std.proofs.lemmas.List.{nil_from_length}
use Rattle.std.proofs.lemmas.List.{drop_more}
use Rattle.definition.proofs.Lists.{rest_part}

pub first_rest : (l : List ℕ) → 1 ≤ length l → l ≡ get_or l 0 0 ∷ take (length l - 1) (drop 1 l)
first_rest l h = drop_more l 0 0 (omega arith) ∙ ap (λ r. get_or l 0 0 ∷ r) (sym (rest_part l 1))

pub none-left : (l : List ℕ) → length l < 1 → l ≡ []
none-left l h = nil_from_length l (omega arith)
