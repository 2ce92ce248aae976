-- For each law whose premise is a test: texts that meet it, and texts that do not, at some of which the two readings
-- that the law compares differ; as one table that antt computes.
-- Assumes nothing.
use Rattle.std.specs.Prelude.{ℕ, zero, suc, Bool, true, false, ◌&&◌, not, Option, None, Some, List, [], ◌∷◌, ◌++◌}
use Prim.Native.String.{String}
use Rattle.definition.specs.declared.Span.{Span}
use Rattle.definition.specs.declared.Owner.{Owner}
use Rattle.definition.specs.Basic.{bytes, same, Answer, Err, Ok}
use Rattle.definition.specs.Words.{statement_words}
use Rattle.definition.specs.Unquoted.{bare_words, plain_text}
use Rattle.definition.specs.Tree.{Forest}
use Rattle.definition.specs.Fold.{Entries}
use Rattle.definition.specs.Record.{layout}
use Rattle.definition.specs.Refusals.{refusal_number, refusal_position}
use Rattle.definition.specs.Listing.{listing}
use Rattle.definition.specs.Owner.{extent, pieces, owner_of, overlaid}
use Rattle.definition.specs.Search.{seek}
use Rattle.definition.specs.Cards.{view}
use Rattle.definition.specs.Calls.{entries, record_fields, entry_checks}
use Rattle.theorems.specs.Restarted.{entries_restarted, plain_slack}
use Rattle.theorems.specs.Ungrouped.{entries_alone, plain_usages}
use Rattle.theorems.specs.Original.{entries_then}

-- ---------------------------------------------------------------- readings, in numbers

abbrev pub words_shown : List (List Span) → List ℕ
words_shown [] = []
words_shown ([] ∷ wss) = 0 ∷ words_shown wss
words_shown ((w ∷ ws) ∷ wss) = 1 ∷ w.start ∷ w.len ∷ words_shown (ws ∷ wss)

abbrev pub entries_shown : Answer Entries → List ℕ
entries_shown (Err r) = refusal_number r ∷ refusal_position r ∷ []
entries_shown (Ok es) = listing es

abbrev pub owner_shown : Option Owner → List ℕ
owner_shown None = []
owner_shown (Some (Owner.Piece k first place)) = 1 ∷ k ∷ first ∷ place ∷ []
owner_shown (Some (Owner.Slack k)) = 2 ∷ k ∷ []

-- the owners of the first bytes are the same by both searches
abbrev pub same_owners : ℕ → List ℕ → Forest → Entries → Bool
same_owners zero text f es = true
same_owners (suc q) text f es =
    same (owner_shown (seek 0 0 es q)) (owner_shown (owner_of (pieces text f) q)) && same_owners q text f es

abbrev pub passes : Answer (Unit {0}) → Bool
passes (Err r) = false
passes (Ok u) = true

abbrev pub is : Bool → Bool → Bool
is true b = b
is false b = not b

-- ---------------------------------------------------------------- the table

pub data Premise : Type 0 where
  -- a text; whether it is plain, and whether its words are those without literals
  words : String → Bool → Bool → Premise
  -- a copybook; whether its usages are plain, and whether its entries are those that each statement alone has
  usages : String → Bool → Bool → Premise
  -- a copybook; whether its slack is plain, and whether its entries are those of an alignment that restarts in each list
  restarts : String → Bool → Bool → Premise
  -- a copybook; whether both its slack and its usages are plain, and whether its entries are those of an alignment that
  -- restarts in each list and of each statement's own usage alone
  originals : String → Bool → Bool → Premise
  -- a copybook; whether it is overlaid, and whether the search among its entries finds the owners that the pieces have
  owners : String → Bool → Bool → Premise
  -- cards; whether they pass the checks, and whether what is seen of them does
  cards : List ℕ → Bool → Bool → Premise

abbrev pub owners_right : List ℕ → Bool → Bool → Answer Forest → Bool
owners_right text o s (Err r) = false
owners_right text o s (Ok f) =
    elim (layout text f) [
      | Err r ↦ false
      | Ok es ↦ is o (overlaid f) && is s (same_owners (extent (pieces text f)) text f es)
    ]

abbrev pub right : Premise → Bool
right (words t p s) =
    is p (plain_text (bytes t))
    && is s (same (words_shown (statement_words (bytes t))) (words_shown (bare_words (bytes t))))
right (usages t p s) =
    is p (plain_usages (bytes t))
    && is s (same (entries_shown (entries (bytes t) 16384)) (entries_shown (entries_alone (bytes t) 16384)))
right (restarts t p s) =
    is p (plain_slack (bytes t))
    && is s (same (entries_shown (entries (bytes t) 16384)) (entries_shown (entries_restarted (bytes t) 16384)))
right (originals t p s) =
    is p (plain_slack (bytes t) && plain_usages (bytes t))
    && is s (same (entries_shown (entries (bytes t) 16384)) (entries_shown (entries_then (bytes t) 16384)))
right (owners t o s) = owners_right (bytes t) o s (record_fields (bytes t) 16384)
right (cards t c v) = is c (passes (entry_checks t 16384)) && is v (passes (entry_checks (view t) 16384))

abbrev pub all_right : List Premise → Bool
all_right [] = true
all_right (p ∷ ps) = elim (right p) [ true ↦ all_right ps | false ↦ false ]

unfoldable pub premises : List Premise
premises =
    words "" true true
    ∷ words "1 A PIC X VALUE 'a b'. 1 B PIC X." true true
    ∷ words "1 A PIC X. * a '. line\n1 B PIC X *> '. end\n." true true
    ∷ words "1 A PIC X VALUE 'St. 4'. 1 B PIC X." false false
    ∷ words "1 A PIC X VALUE '*>'. 1 B PIC X." false false
    ∷ words "1 A PIC X VALUE 'a. b" false false
    -- a literal left open has no other words than it had
    ∷ words "1 A PIC X VALUE 'a" false true
    ∷ usages "01 R. 05 A PIC 9(5) COMP. 05 B PIC 9(5) DISPLAY." true true
    ∷ usages "01 R COMP. 05 A PIC 9(5)." false false
    ∷ usages "05 A PIC 9(5) COMP DISPLAY." false false
    ∷ usages "05 A COMP-1." false false
    -- the same entries, though a group names a usage
    ∷ usages "01 R DISPLAY. 05 A PIC 9(5)." false true
    ∷ restarts "01 R. 05 A PIC X. 05 B PIC 9(5) COMP SYNC. 05 G OCCURS 2. 10 C PIC X." true true
    ∷ restarts "01 R. 05 A PIC X. 05 G. 10 B PIC 9(5) COMP SYNC." false false
    ∷ restarts "01 R. 05 G OCCURS 2. 10 B PIC 9(5) COMP SYNC. 10 C PIC X." false false
    ∷ restarts "01 R. 05 A PIC X. 05 G REDEFINES B. 10 C." false false
    -- the same entries, though an item below a group has SYNC
    ∷ restarts "01 R. 05 A PIC X(4). 05 G. 10 B PIC 9(5) COMP SYNC." false true
    ∷ originals "01 R. 05 A PIC X. 05 B PIC 9(5) COMP SYNC. 05 G OCCURS 2. 10 C PIC X." true true
    ∷ originals "01 R. 05 A PIC X. 05 G. 10 B PIC 9(5) COMP SYNC." false false
    ∷ originals "01 R COMP. 05 A PIC 9(5)." false false
    -- the same entries, though a group names a usage and an item below another has SYNC
    ∷ originals "01 R DISPLAY. 05 A PIC X(4). 05 G. 10 B PIC 9(5) COMP SYNC." false true
    ∷ owners "01 FISH. 05 TAG PIC X(5). 05 SIRE PIC 9(4) COMP SYNC. 05 WT OCCURS 3 PIC 9(3)V9." false true
    ∷ owners "01 R REDEFINES X OCCURS 2 DEPENDING ON N. 05 A PIC X." false true
    ∷ owners "05 A PIC X(2). 05 B REDEFINES A PIC X(2). 05 C PIC X." true false
    ∷ owners "05 N PIC 9. 05 T OCCURS 2 DEPENDING ON N PIC X. 05 Z PIC X." true false
    ∷ owners "05 G. 10 A PIC X(2). 10 B REDEFINES A PIC X(2). 05 C PIC X." true false
    ∷ cards (bytes "000100 05 A PIC X.") true true
    ∷ cards (200 ∷ bytes "00100 05 A PIC X.") false true
    ∷ cards (bytes "000100 05 A PIC X" ++ 200 ∷ []) false false
    ∷ []
