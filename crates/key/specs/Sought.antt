-- What the search of a table for a key comes to: the entries of the name one by one, and the key that was found.
-- Assumes nothing.
use Rattle.std.specs.Prelude.{ℕ, Bool, ◌||◌, List, [], ◌∷◌, eqb, if◌then◌else◌}
use Rattle.std.specs.Prelude.{Option, None, Some}
use Rattle.definition.specs.declared.Entry.{Entry}
use Rattle.definition.specs.declared.KeyColumn.{KeyColumn}
use Rattle.definition.specs.Basic.{is_given}
use Rattle.definition.specs.Key.{is_named, Named, named, may_be_key, key_mask, Key}
use Rattle.fold.specs.Entered.{Shown}
use Rattle.key.specs.declared.Candidate.{Candidate}
use Rattle.key.specs.declared.Sought.{Sought}

-- ---------------------------------------------------------------- a column

-- an entry as a column, its place, and the key that a column of a text is
abbrev pub column_of : Entry → Candidate
column_of e = record { offset = e.offset; width = e.width; kind = e.kind; picture = e.picture }

abbrev pub key_column : Candidate → KeyColumn
key_column c = record { offset = c.offset; width = c.width }

abbrev pub key_at : List ℕ → Candidate → Key
key_at text c =
    record { offset = c.offset; width = c.width; kind = c.kind; mask = key_mask text c.kind c.picture }

-- ---------------------------------------------------------------- the search

-- the one that was found
abbrev pub candidate : Sought → Option Candidate
candidate Sought.Nothing = None
candidate (Sought.One c) = Some c
candidate Sought.Spoilt = None

-- the key that was found
abbrev pub found_key : List ℕ → Sought → Option Key
found_key text Sought.Nothing = None
found_key text (Sought.One c) = Some (key_at text c)
found_key text Sought.Spoilt = None

-- what is found with one more entry of the name
abbrev pub met : Sought → Named → Sought
met Sought.Nothing x = if may_be_key x then Sought.One (column_of x.own) else Sought.Spoilt
met (Sought.One c) x = Sought.Spoilt
met Sought.Spoilt x = Sought.Spoilt

-- with one more entry of the listing, which counts where it stands at the top and has the name
abbrev pub sought_at : List ℕ → List ℕ → Bool → Sought → Shown → Sought
sought_at text name behind found x =
    if eqb x.depth 0 then (if is_named text name x.own then met found (named x.own behind) else found)
    else found

-- with all of them
unfoldable pub sought_in : List ℕ → List ℕ → Bool → Sought → List Shown → Sought
sought_in text name behind found [] = found
sought_in text name behind found (x ∷ xs) =
    sought_in text name (behind || is_given x.own.depending) (sought_at text name behind found x) xs
