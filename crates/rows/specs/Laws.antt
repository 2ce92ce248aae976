-- What has a number of one byte is read back from it: flags, signs, storages, usages and what is said of a sign.
-- Assumes nothing. Laws of the trait `Coded`.
use Rattle.std.specs.Prelude.{◌≡◌, refl, Bool, true, false, Option, None, Some}
use Rattle.definition.specs.declared.SignKind.{SignKind}
use Rattle.definition.specs.declared.NumRepr.{NumRepr}
use Rattle.definition.specs.declared.Usage.{Usage}
use Rattle.definition.specs.declared.ItemUsage.{ItemUsage}
use Rattle.definition.specs.declared.SignWords.{SignWords}
use Rattle.definition.specs.Listing.{flag, sign_byte, storage_byte}
use Rattle.rows.specs.Kinds.{flag_at, sign_at, storage_at}
use Rattle.rows.specs.Usages.{usage_byte, usage_at, item_usage_byte, item_usage_at, some_sign, sign_words_at}
use Rattle.definition.specs.Details.{sign_words_byte}

pub flag-back : (b : Bool) → flag_at (flag b) ≡ b
flag-back true = refl
flag-back false = refl

pub sign-back : (s : SignKind) → sign_at (sign_byte s) ≡ s
sign-back SignKind.Unsigned = refl
sign-back SignKind.Embedded = refl
sign-back SignKind.LeadingSeparate = refl
sign-back SignKind.TrailingSeparate = refl

pub storage-back : (r : NumRepr) → storage_at (storage_byte r) ≡ r
storage-back NumRepr.Display = refl
storage-back NumRepr.Comp3 = refl
storage-back NumRepr.Zoned = refl

pub picture-usage-back : (u : Usage) → usage_at (usage_byte u) ≡ u
picture-usage-back Usage.Display = refl
picture-usage-back Usage.Comp3 = refl
picture-usage-back Usage.Comp = refl

pub usage-back : (u : ItemUsage) → item_usage_at (item_usage_byte u) ≡ u
usage-back (ItemUsage.Picture Usage.Display) = refl
usage-back (ItemUsage.Picture Usage.Comp3) = refl
usage-back (ItemUsage.Picture Usage.Comp) = refl
usage-back ItemUsage.Comp1 = refl
usage-back ItemUsage.Comp2 = refl

some_sign-back : (leading separate : Bool) → sign_words_at (sign_words_byte (some_sign leading separate)) ≡ some_sign leading separate
some_sign-back true true = refl
some_sign-back true false = refl
some_sign-back false true = refl
some_sign-back false false = refl

pub sign-words-back : (s : Option SignWords) → sign_words_at (sign_words_byte s) ≡ s
sign-words-back None = refl
sign-words-back (Some s) = some_sign-back s.leading s.separate
