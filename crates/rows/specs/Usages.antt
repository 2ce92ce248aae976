-- The numbers of usages and of what is said of a sign; a clause that is not there is 0, any other its number and 1.
-- Assumes nothing.
use Rattle.std.specs.Prelude.{ℕ, ◌-◌, Bool, true, false, eqb, if◌then◌else◌, Option, None, Some}
use Rattle.definition.specs.declared.Usage.{Usage}
use Rattle.definition.specs.declared.ItemUsage.{ItemUsage}
use Rattle.definition.specs.declared.SignWords.{SignWords}

-- a picture's usage: 0 DISPLAY, 1 COMP-3, 2 COMP
abbrev pub usage_byte : Usage → ℕ
usage_byte Usage.Display = 0
usage_byte Usage.Comp3 = 1
usage_byte Usage.Comp = 2

abbrev pub usage_at : ℕ → Usage
usage_at n = if eqb n 0 then Usage.Display else if eqb n 1 then Usage.Comp3 else Usage.Comp

-- an item's usage: its picture's, 3 COMP-1, 4 COMP-2
abbrev pub item_usage_byte : ItemUsage → ℕ
item_usage_byte (ItemUsage.Picture u) = usage_byte u
item_usage_byte ItemUsage.Comp1 = 3
item_usage_byte ItemUsage.Comp2 = 4

abbrev pub item_usage_at : ℕ → ItemUsage
item_usage_at n =
    if eqb n 3 then ItemUsage.Comp1 else if eqb n 4 then ItemUsage.Comp2 else ItemUsage.Picture (usage_at n)

-- what a clause says, from its number: 0 where it isn't there
abbrev pub clause_at : {A : Type 0} → (ℕ → A) → ℕ → Option A
clause_at at n = if eqb n 0 then None else Some (at (n - 1))

-- what is said of the sign, whether LEADING and whether SEPARATE
abbrev pub some_sign : Bool → Bool → Option SignWords
some_sign leading separate = Some (record { leading = leading; separate = separate })

-- what is said of the sign, from its number
abbrev pub sign_words_at : ℕ → Option SignWords
sign_words_at n =
    if eqb n 1 then some_sign false false
    else if eqb n 2 then some_sign true false
    else if eqb n 3 then some_sign false true
    else if eqb n 4 then some_sign true true
    else None
