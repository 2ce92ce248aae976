-- What a caller is told of a refusal: its number, a position, and the length that the output should have had.
-- Assumes nothing.
use Rattle.std.specs.Prelude.{ℕ}
use Rattle.definition.specs.declared.Refusal.{Refusal}

-- its number
abbrev pub refusal_number : Refusal → ℕ
refusal_number Refusal.TextTooLong = 1
refusal_number (Refusal.WideByte p) = 2
refusal_number Refusal.WorkTooShort = 3
refusal_number (Refusal.BadLevel p) = 10
refusal_number (Refusal.BadCount p) = 11
refusal_number (Refusal.BadBound p) = 12
refusal_number (Refusal.NoDependingName p) = 13
refusal_number (Refusal.TooManyStatements p) = 14
refusal_number (Refusal.TooDeep p) = 20
refusal_number (Refusal.NoPicture p) = 21
refusal_number (Refusal.UnclosedRepeat p) = 22
refusal_number (Refusal.BadRepeat p) = 23
refusal_number (Refusal.TooManySymbols p) = 24
refusal_number (Refusal.BadSymbol p) = 25
refusal_number (Refusal.MixedPicture p) = 26
refusal_number (Refusal.TooLong p) = 27
refusal_number (Refusal.NoTarget p) = 28
refusal_number (Refusal.TooLarge p) = 29
refusal_number (Refusal.StartsBeforeBase p) = 30
refusal_number (Refusal.OutputTooShort n) = 31
refusal_number Refusal.Overlaid = 40
refusal_number Refusal.OutsideRecord = 41
refusal_number Refusal.RecordTooShort = 42
refusal_number (Refusal.UnclosedLiteral p) = 50
refusal_number (Refusal.BadIndicator p) = 51
refusal_number (Refusal.FloatWithPicture p) = 52
refusal_number Refusal.NoSuchEntry = 53
refusal_number Refusal.NotASet = 56
refusal_number Refusal.NoCommonKey = 57
refusal_number Refusal.WrongItems = 58
refusal_number Refusal.BadWeight = 59
refusal_number Refusal.NoBudget = 60

-- the position that it is about, 0 where there is none
abbrev pub refusal_position : Refusal → ℕ
refusal_position (Refusal.WideByte p) = p
refusal_position (Refusal.BadLevel p) = p
refusal_position (Refusal.BadCount p) = p
refusal_position (Refusal.BadBound p) = p
refusal_position (Refusal.NoDependingName p) = p
refusal_position (Refusal.TooManyStatements p) = p
refusal_position (Refusal.TooDeep p) = p
refusal_position (Refusal.NoPicture p) = p
refusal_position (Refusal.UnclosedRepeat p) = p
refusal_position (Refusal.BadRepeat p) = p
refusal_position (Refusal.TooManySymbols p) = p
refusal_position (Refusal.BadSymbol p) = p
refusal_position (Refusal.MixedPicture p) = p
refusal_position (Refusal.TooLong p) = p
refusal_position (Refusal.NoTarget p) = p
refusal_position (Refusal.TooLarge p) = p
refusal_position (Refusal.StartsBeforeBase p) = p
refusal_position (Refusal.UnclosedLiteral p) = p
refusal_position (Refusal.BadIndicator p) = p
refusal_position (Refusal.FloatWithPicture p) = p
refusal_position _ = 0

-- the length that the output should have had, 0 where it is not about the output
abbrev pub refusal_needed : Refusal → ℕ
refusal_needed (Refusal.OutputTooShort n) = n
refusal_needed _ = 0
