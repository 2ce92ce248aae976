-- The fingerprint of a name: its length and five bits of each of its last three bytes, case aside, as one number of 32
-- bits. Names that are the same have the same one.
-- Assumes nothing.
use Rattle.std.specs.Prelude.{ℕ, suc, ◌+◌, ◌*◌, ◌-◌, ◌%◌, List, ltb, length, get_or, if◌then◌else◌}
use Rattle.definition.specs.declared.Span.{Span}
use Rattle.definition.specs.Basic.{uppers}
use Rattle.definition.specs.Fold.{name_of}

-- five bits of the byte k places before the last, or 0 where there is none
abbrev pub byte_back : List ℕ → ℕ → ℕ
byte_back l k = if ltb k (length l) then get_or l (length l - suc k) 0 % 32 else 0

unfoldable pub fingerprint_of : List ℕ → ℕ
fingerprint_of l = ((length l % 256 * 256 + byte_back l 2) * 256 + byte_back l 1) * 256 + byte_back l 0

abbrev pub name_fingerprint : List ℕ → Span → ℕ
name_fingerprint text w = fingerprint_of (uppers (name_of text w))
