-- What the words of a case say of a call that writes bytes, or that is refused.
-- Assumes nothing.
use Rattle.std.specs.Prelude.{ℕ, ◌+◌, Bool, ◌&&◌, List, [], ◌∷◌, ◌++◌, leb, length, take, drop}
use Rattle.std.specs.Prelude.{Option, None, Some, Result, Ok, Err, if◌then◌else◌}
use Rattle.definition.specs.declared.Token.{Token}
use Rattle.definition.specs.declared.Refusal.{Refusal}
use Rattle.definition.specs.Refusals.{refusal_number, refusal_position, refusal_needed}
use Rattle.replay.specs.Inputs.{input}
use Rattle.replay.specs.Lent.{untouched}
use Rattle.replay.specs.Words.{says, behind_numbers}

-- an input behind so many bytes of an output, if it has room
abbrev pub taken : Option (List ℕ) → ℕ → List ℕ → Option (List ℕ)
taken None before out = None
taken (Some w) before out =
    if leb (before + length (input w)) (length out) then Some (take before out ++ input w) else None

-- a refusal: 0, its number, its position and the needed length
abbrev pub refusal_numbers : Refusal → List ℕ
refusal_numbers r = 0 ∷ refusal_number r ∷ refusal_position r ∷ refusal_needed r ∷ []

-- so many bytes at the start of an output, which else holds the pattern: their number and they themselves
abbrev pub written_numbers : ℕ → List ℕ → List ℕ
written_numbers n out = n ∷ take n out

abbrev pub written : List ℕ → List Token → ℕ → List ℕ → Bool
written list ts n out = leb n (length out) && (says list (written_numbers n out) ts && untouched n (drop n out))

-- what is left behind them, or behind the first that is another; all, where the output has fewer bytes
abbrev pub behind_written : List ℕ → List Token → ℕ → List ℕ → List Token
behind_written list ts n out = if leb n (length out) then behind_numbers list (written_numbers n out) ts else ts

-- 1 and what was written; or the refusal, and then all of the output holds the pattern
abbrev pub writing : List ℕ → List Token → Result ℕ Refusal → List ℕ → Bool
writing list ts (Ok n) out = says list (1 ∷ []) ts && written list (behind_numbers list (1 ∷ []) ts) n out
writing list ts (Err r) out = says list (refusal_numbers r) ts && untouched 0 out

-- what is left behind these
abbrev pub behind_writing : List ℕ → List Token → Result ℕ Refusal → List ℕ → List Token
behind_writing list ts (Ok n) out =
    if says list (1 ∷ []) ts then behind_written list (behind_numbers list (1 ∷ []) ts) n out
    else behind_numbers list (1 ∷ []) ts
behind_writing list ts (Err r) out = behind_numbers list (refusal_numbers r) ts
