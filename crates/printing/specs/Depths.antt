-- How deep the entries of a listing stand, from how many are still to come in each open list.
-- Assumes nothing.
use Rattle.std.specs.Prelude.{ℕ, zero, suc, ◌+◌, ◌-◌, List, eqb, ltb, get_or, set, Option, None, Some, if◌then◌else◌}

-- the innermost list, up to a depth, in which an entry is still to come, and the top list where there is none
unfoldable pub still_open : List ℕ → ℕ → ℕ
still_open left zero = 0
still_open left (suc d) = if eqb (get_or left (suc d) 0) 0 then still_open left d else suc d

-- one entry less to come in the list at a depth
abbrev pub taken : List ℕ → ℕ → List ℕ
taken left d = set left d (get_or left d 0 - 1)

-- a group's members are a list of their own, one deeper, down to depth 255
abbrev pub opened : List ℕ → ℕ → Option ℕ → List ℕ
opened left d None = left
opened left d (Some n) = if ltb d 255 then set left (d + 1) n else left
