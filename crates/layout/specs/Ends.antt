-- Where an entry ends, or refusal 29.
-- Assumes nothing.
use Rattle.std.specs.Prelude.{ℕ, if◌then◌else◌}
use Rattle.definition.specs.declared.Entry.{Entry}
use Rattle.definition.specs.declared.Refusal.{Refusal}
use Rattle.definition.specs.Basic.{Answer, Err, Ok}
use Rattle.definition.specs.Fold.{entry_end}
use Rattle.definition.specs.Layout.{too_large}

-- where an entry ends, or 29 for the item at its position
abbrev pub end_of : Entry → Answer ℕ
end_of e = if too_large e then Err (Refusal.TooLarge e.at) else Ok (entry_end e)
