-- What holds of every call for the layout listing, free text or cards, accepted or refused: a call that writes leaves
-- in the output the listing of some entries; one that is refused leaves the output as it was. Where the reader has no
-- refusal, 31 aside, and the copybook has no REDEFINES and no DEPENDING ON, a dropped root's own aside, those entries
-- are the owner rule's, and every call for a byte's owner on the same text answers with the one piece, or slack, that
-- has the byte.
-- Assumes nothing.
use Rattle.std.specs.Prelude.{ℕ, ◌≤◌, ◌<◌, ◌≡◌, true, false, ◌⊎◌, List, [], length, take, drop}
use Rattle.definition.specs.declared.Owner.{Owner}
use Rattle.definition.specs.declared.Refusal.{Refusal}
use Rattle.definition.specs.declared.TheConstants.{LEAST_WORK}
use Rattle.definition.specs.Basic.{Answer, Err, Ok}
use Rattle.definition.specs.declared.Form.{Form}
use Rattle.definition.specs.Calls.{left, entries, called, owner_call}
use Rattle.definition.specs.Demand.{naming, Kept}
use Rattle.definition.specs.Fold.{Entries}
use Rattle.definition.specs.Listing.{listing}
use Rattle.definition.specs.Owner.{overlaid}
use Rattle.definition.specs.Record.{record_length}

-- every call for the owner of position q answers so, whatever work memory of at least `LEAST_WORK` numbers it is lent
abbrev pub Owns : Form → List ℕ → ℕ → Answer Owner → Type 0
Owns form text q a =
    (work : List ℕ) (r : Answer Owner) (work' : List ℕ) →
    LEAST_WORK ≤ length work →
    left r [] work' ≡ owner_call form text q work →
    r ≡ a

-- what holds of an accepted copybook, whose listing shows these entries
pub record Accepted (form : Form) (text work : List ℕ) (shown : Entries) : Type 0 where
  -- the fields that were read, and what is demanded of the entries
  pub kept : Kept form text (length work) shown
  -- without a REDEFINES or DEPENDING ON every byte below the record length has exactly one owner, and the byte owner
  -- names it;
  pub names :
      (free : overlaid kept.of ≡ false) (q : ℕ) (l : q < record_length shown) →
      let x = ((kept.demand free).one-owner q l).owner in
      Owns form text q (Ok (naming x.holder x.first q))
  -- there is no byte behind them, and it says so;
  pub ends : overlaid kept.of ≡ false → (q : ℕ) → record_length shown ≤ q → Owns form text q (Err Refusal.OutsideRecord)
  -- with one, it refuses every position
  pub refuses : overlaid kept.of ≡ true → (q : ℕ) → Owns form text q (Err Refusal.Overlaid)

-- after a call that wrote n bytes, they are the listing of these entries, and the bytes behind them are as they were
pub record ListingWritten (form : Form) (text out work : List ℕ) (n : ℕ) (out' : List ℕ) : Type 0 where
  pub shown : Entries
  pub written : take n out' ≡ listing shown
  pub behind : drop n out' ≡ drop n out
  pub accepted : Accepted form text work shown

-- the output is too short for the listing of these entries, and the refusal is 31 with the length that is needed
pub record TooShort (form : Form) (text out work : List ℕ) (r : Refusal) : Type 0 where
  pub shown : Entries
  pub short : length out < length (listing shown)
  pub tells : r ≡ Refusal.OutputTooShort (length (listing shown))
  pub accepted : Accepted form text work shown

-- what holds after a call for the listing: a refusal changes no byte of the output, and is that 31 or the reader's
abbrev pub Answered : Form → List ℕ → List ℕ → List ℕ → Answer ℕ → List ℕ → Type 0
Answered form text out work (Ok n) out' = ListingWritten form text out work n out'
Answered form text out work (Err r) out' =
    (out' ≡ out)
    × (TooShort form text out work r ⊎ (called form (λ t. entries t (length work)) text (length work) ≡ Err r))
