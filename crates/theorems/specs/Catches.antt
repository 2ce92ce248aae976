-- The catches: traps of the rules by name, the worked example, and the examples and limits of each request, as one table:
-- antt computes the definition at each row.
-- Assumes nothing.
use Rattle.std.specs.Prelude.{ℕ, zero, suc, ◌+◌, ◌*◌, ◌-◌, ◌/◌, Bool, true, false, ◌&&◌, List, [], ◌∷◌, ◌++◌, eqb, ltb, length, if◌then◌else◌}
use Prim.Native.Char.{code}
use Prim.Native.String.{String, [] as ε, ◌∷◌ as ◌∷ᶜ◌}
use Rattle.std.specs.Prelude.{Option, None, Some}
use Rattle.definition.specs.declared.Usage.{Usage}
use Rattle.definition.specs.declared.SignKind.{SignKind}
use Rattle.definition.specs.declared.NumRepr.{NumRepr}
use Rattle.definition.specs.declared.FieldKind.{FieldKind}
use Rattle.definition.specs.declared.FieldKind.TheVariants.{Text, Int, Binary, Decimal, Edited, Group, Float}
use Rattle.definition.specs.declared.Pictured.{Pictured}
use Rattle.definition.specs.declared.Owner.{Owner}
use Rattle.definition.specs.declared.Extract.{Extract}
use Rattle.definition.specs.declared.Span.{Span}
use Rattle.definition.specs.Basic.{bytes, among, is_given, same, span, absent, le4, le8}
use Rattle.definition.specs.Basic.{Answer, Err, Ok, ◌>>=◌}
use Rattle.definition.specs.Tree.{Forest, leaf, item}
use Rattle.definition.specs.Fold.{Entries, end, entry, Place, search_back}
use Rattle.definition.specs.Record.{record_length, variable}
use Rattle.definition.specs.Listing.{flag, span_bytes, kind_byte, details}
use Rattle.definition.specs.Details.{digits_bytes, sign_words_byte}
use Rattle.definition.specs.declared.TheConstants.{LEAST_WORK}
use Rattle.definition.specs.declared.Form.{Form}
use Rattle.definition.specs.Refusals.{refusal_number, refusal_position, refusal_needed}
use Rattle.definition.specs.declared.Report.{Report}
use Rattle.definition.specs.Calls.{entries, Question, asked, report, picture_answer, picture_mask, owner_in}
use Rattle.definition.specs.Calls.{record_fields, words_in, extract_in, indicator_check, called}
use Rattle.definition.specs.Key.{key_of_texts}
use Rattle.theorems.specs.Ungrouped.{plain_usages}
use Rattle.theorems.specs.Restarted.{plain_slack}

-- ---------------------------------------------------------------- answers in numbers

-- the value of a hexadecimal digit
abbrev hex_digit : ℕ → ℕ
hex_digit c = if ltb c 58 then c - 48 else c - 87

-- bytes written in pairs of hexadecimal digits, with blanks between pairs; `high` is the first digit of a pair
abbrev hex_from : Option ℕ → String → List ℕ
hex_from high ε = []
hex_from None (c ∷ᶜ s) = elim (eqb (code c) 32) [ true ↦ hex_from None s | false ↦ hex_from (Some (hex_digit (code c))) s ]
hex_from (Some high) (c ∷ᶜ s) = (high * 16 + hex_digit (code c)) ∷ hex_from None s

abbrev pub hex : String → List ℕ
hex s = hex_from None s

-- a column: its offset, the width of one occurrence, and what it holds
abbrev pub column : ℕ → ℕ → FieldKind → List ℕ
column offset width kind = offset ∷ width ∷ kind_byte kind ∷ details kind absent 0

abbrev pub columns : Entries → List (List ℕ)
columns end = []
columns (entry e members later) = column e.offset e.width e.kind ∷ (columns members ++ columns later)

abbrev pub same_columns : List (List ℕ) → List (List ℕ) → Bool
same_columns [] [] = true
same_columns [] (d ∷ ds) = false
same_columns (c ∷ cs) [] = false
same_columns (c ∷ cs) (d ∷ ds) = same c d && same_columns cs ds

-- what the details say of an entry's clauses: the slack at its end, its digits, those after the point and whether they
-- are signed, the place of the usage word, and SIGN
abbrev pub clause_facts : Entries → List (List ℕ)
clause_facts end = []
clause_facts (entry e members later) =
    (e.slack_at_end ∷ digits_bytes e.digits ++ e.usage.start ∷ e.usage.len ∷ sign_words_byte e.sign ∷ [])
    ∷ (clause_facts members ++ clause_facts later)

-- an owner in numbers
abbrev pub owner_shown : Owner → List ℕ
owner_shown (Owner.Piece k first place) = 1 ∷ k ∷ first ∷ place ∷ []
owner_shown (Owner.Slack k) = 2 ∷ k ∷ []

-- an extract in numbers
abbrev pub extract_shown : Extract → List ℕ
extract_shown a = a.subset ∷ a.weight ∷ a.examined ∷ a.off ∷ []

-- no sign, and each of the four
abbrev pub every_sign : List (Option SignKind)
every_sign =
    None
    ∷ Some SignKind.Unsigned
    ∷ Some SignKind.Embedded
    ∷ Some SignKind.LeadingSeparate
    ∷ Some SignKind.TrailingSeparate
    ∷ []

-- the width in a picture answer, or none
abbrev pub width_in : Answer Pictured → List ℕ
width_in (Err r) = []
width_in (Ok p) = p.width ∷ []

-- the widths of a picture: under DISPLAY with each of these signs, under COMP-3, under COMP
abbrev pub widths_of : List ℕ → List (Option SignKind) → List ℕ
widths_of bs [] =
    width_in (picture_answer Usage.Comp3 None bs) ++ width_in (picture_answer Usage.Comp None bs)
widths_of bs (c ∷ cs) = width_in (picture_answer Usage.Display c bs) ++ widths_of bs cs

-- how many names each search for a target compares in a list, after the earlier siblings, the latest first
abbrev pub compared_in : List ℕ → List Place → Forest → List ℕ
compared_in text seen leaf = []
compared_in text seen (item s kids later) =
    let more = compared_in text (record { name = s.name; offset = 0 } ∷ seen) later in
    let redefines = s.clauses.redefines in
    if is_given redefines then (search_back text redefines seen).compared ∷ more else more

-- the answer is such a value, or that refusal: number, position and needed length
abbrev pub gives : {A : Type 0} → (A → Bool) → Answer A → Bool
gives f (Err r) = false
gives f (Ok a) = f a

abbrev pub refuses : {A : Type 0} → ℕ → ℕ → ℕ → Answer A → Bool
refuses n p l (Err r) =
    eqb (refusal_number r) n && (eqb (refusal_position r) p && eqb (refusal_needed r) l)
refuses n p l (Ok a) = false

-- ---------------------------------------------------------------- the table

pub data Catch : Type 0 where
  -- a copybook, its record length, whether it is variable, and its columns in the order of the listing
  accepted : String → ℕ → Bool → List (List ℕ) → Catch
  -- a copybook, and the number and position of its refusal
  turned_down : String → ℕ → ℕ → Catch
  -- a copybook, the length of the lent output, and the bytes of its listing
  listed : String → ℕ → List ℕ → Catch
  -- a copybook, the length of the lent output, and the needed length of its refusal 31
  no_room : String → ℕ → ℕ → Catch
  -- a copybook, and the bytes of its details
  detailed : String → List ℕ → Catch
  -- a copybook, and what the details say of the clauses of its entries, in the order of the listing
  said : String → List (List ℕ) → Catch
  -- a copybook, the length of the lent output, and the needed length of the details' refusal 31
  no_details : String → ℕ → ℕ → Catch
  -- a copybook, and of each statement its end and then each word's start and length
  worded : String → List (List ℕ) → Catch
  -- a copybook, the length of the lent output, and the words' refusal: number, position, needed length
  not_worded : String → ℕ → ℕ → ℕ → ℕ → Catch
  -- a picture with a usage and a sign, its width, and what it holds
  pictured : String → Usage → Option SignKind → ℕ → FieldKind → Catch
  -- a picture, and its widths: under DISPLAY with no sign and with each of the four, under COMP-3, under COMP
  widths : String → List ℕ → Catch
  -- a picture with a usage, and the number of its refusal
  unread : String → Usage → ℕ → Catch
  -- a picture under DISPLAY, and its mask
  masked : String → String → Catch
  -- a copybook, a position, and the byte's owner
  owned : String → ℕ → Owner → Catch
  -- a copybook, a position, and the number of the refusal
  not_owned : String → ℕ → ℕ → Catch
  -- a copybook, and how many names the searches for a target compare among the record's fields, in their order
  searched : String → List ℕ → Catch
  -- a copybook, the number of an entry, and the bytes of its reasons
  reasoned : String → ℕ → List ℕ → Catch
  -- a copybook, the number of an entry, the length of the lent output, and the refusal: number, position, needed length
  not_reasoned : String → ℕ → ℕ → ℕ → ℕ → ℕ → Catch
  -- a copybook, weights, a limit and a budget; the subset's number, its weight, how many were looked at, how far off
  extracts : String → List ℕ → ℕ → ℕ → List ℕ → Catch
  -- a copybook, weights, a limit and a budget, and the number of the refusal
  not_extracted : String → List ℕ → ℕ → ℕ → ℕ → Catch
  -- a name, a set of copybooks, and the offset and width of their key
  keyed : String → List String → ℕ → ℕ → Catch
  -- a name, a set of copybooks, and the number and position of the refusal
  not_keyed : String → List String → ℕ → ℕ → Catch
  -- bytes, the stated lengths of copybooks, the length of the lent work memory, and the refusal of a key K in them
  not_a_set : String → List ℕ → ℕ → ℕ → ℕ → Catch
  -- a row of one of these kinds whose copybook is cards
  cards : Catch → Catch
  -- cards whose last line ends with the text, with a carriage return, with byte 10 or with both, and their columns
  ending : String → List (List ℕ) → Catch
  -- of the bytes below 128, those that may follow six columns of a card
  indicators : String → Catch
  -- a copybook, and whether it is one that group usages, DISPLAY and floats leave as it was
  as_before : String → Bool → Catch
  -- and whether it is one that aligning from the record's start leaves so
  slack_as_before : String → Bool → Catch

-- numbers of four bytes
abbrev numbers : List ℕ → List ℕ
numbers [] = []
numbers (n ∷ ns) = le4 n ++ numbers ns

-- the words' bytes: of each statement how many words, and then its numbers
abbrev words_written : List (List ℕ) → List ℕ
words_written [] = []
words_written (ns ∷ nss) = le4 (length ns / 2) ++ numbers ns ++ words_written nss

-- a call for a copybook, and what is asked of one, with as much work memory lent as it asks for
abbrev calls : {A : Type 0} → Form → (List ℕ → Answer A) → List ℕ → Answer A
calls form call text = called form call text LEAST_WORK

abbrev asks : {A : Type 0} → Form → Question A → List ℕ → Answer A
asks form question = calls form (λ t. asked question t LEAST_WORK)

-- copybooks one after the other, and their lengths
abbrev one_after_other : List String → List ℕ
one_after_other [] = []
one_after_other (s ∷ ss) = bytes s ++ one_after_other ss

abbrev lengths_of : List String → List ℕ
lengths_of [] = []
lengths_of (s ∷ ss) = length (bytes s) ∷ lengths_of ss

-- its columns are these
abbrev has_columns : Form → List ℕ → List (List ℕ) → Bool
has_columns form text cs = gives (λ es. same_columns (columns es) cs) (calls form (λ t. entries t LEAST_WORK) text)

-- of the first n bytes, those among `ok` are taken for an indicator, or end the line, and the others are refused
abbrev indicated : String → ℕ → Bool
indicated ok zero = true
indicated ok (suc b) =
    let check = indicator_check (bytes "123456" ++ b ∷ []) in
    (if among ok b then gives (λ _. true) check else refuses 51 6 0 check) && indicated ok b

abbrev right_in : Form → Catch → Bool
right_in form (accepted text len is_variable cs) =
    gives
    (λ es. eqb (record_length es) len && (eqb (flag (variable es)) (flag is_variable) && same_columns (columns es) cs))
    (calls form (λ t. entries t LEAST_WORK) (bytes text))
right_in form (turned_down text n p) = refuses n p 0 (calls form (λ t. entries t LEAST_WORK) (bytes text))
right_in form (listed text room l) = gives (same l) (asks form (report Report.Listing room) (bytes text))
right_in form (no_room text room needed) =
    refuses 31 0 needed (asks form (report Report.Listing room) (bytes text))
right_in form (detailed text l) = gives (same l) (asks form (report Report.Details (length l)) (bytes text))
right_in form (said text l) =
    gives (λ es. same_columns (clause_facts es) l) (calls form (λ t. entries t LEAST_WORK) (bytes text))
right_in form (no_details text room needed) =
    refuses 31 0 needed (asks form (report Report.Details room) (bytes text))
right_in form (worded text nss) =
    let l = words_written nss in gives (same l) (calls form (λ t. words_in t LEAST_WORK (length l)) (bytes text))
right_in form (not_worded text room n p needed) =
    refuses n p needed (calls form (λ t. words_in t LEAST_WORK room) (bytes text))
right_in form (pictured text u s width kind) =
    gives (λ p. same (column 0 p.width p.kind) (column 0 width kind)) (picture_answer u s (bytes text))
right_in form (widths text ws) = same (widths_of (bytes text) every_sign) ws
right_in form (unread text u n) = refuses n 0 0 (picture_answer u None (bytes text))
right_in form (masked text m) = gives (same (bytes m)) (picture_mask Usage.Display (bytes text) (length (bytes m)))
right_in form (owned text p o) =
    gives (λ a. same (owner_shown a) (owner_shown o)) (asks form (owner_in p) (bytes text))
right_in form (not_owned text p n) = refuses n 0 0 (asks form (owner_in p) (bytes text))
right_in form (searched text counts) =
    gives (same counts) (calls form (λ t. record_fields t LEAST_WORK >>= λ f. Ok (compared_in t [] f)) (bytes text))
right_in form (reasoned text k l) =
    gives (same l) (asks form (report (Report.Reasons k) (length l)) (bytes text))
right_in form (not_reasoned text k room n p needed) =
    refuses n p needed (asks form (report (Report.Reasons k) room) (bytes text))
right_in form (extracts text weights limit budget l) =
    gives (λ a. same (extract_shown a) l) (asks form (extract_in weights limit budget) (bytes text))
right_in form (not_extracted text weights limit budget n) =
    refuses n 0 0 (asks form (extract_in weights limit budget) (bytes text))
right_in form (keyed name texts offset width) =
    gives (λ k. eqb k.offset offset && eqb k.width width)
    (key_of_texts (one_after_other texts) (lengths_of texts) (bytes name) LEAST_WORK)
right_in form (not_keyed name texts n p) =
    refuses n p 0 (key_of_texts (one_after_other texts) (lengths_of texts) (bytes name) LEAST_WORK)
right_in form (not_a_set texts lengths work n p) = refuses n p 0 (key_of_texts (bytes texts) lengths (bytes "K") work)
right_in form (cards row) = right_in Form.Cards row
right_in form (ending text cs) =
    has_columns Form.Cards (bytes text) cs
    && has_columns Form.Cards (bytes text ++ bytes "\r") cs
    && has_columns Form.Cards (bytes text ++ bytes "\n") cs
    && has_columns Form.Cards (bytes text ++ bytes "\r\n") cs
right_in form (indicators ok) = indicated ok 128
right_in form (as_before text plain) = eqb (flag (plain_usages (bytes text))) (flag plain)
right_in form (slack_as_before text plain) = eqb (flag (plain_slack (bytes text))) (flag plain)

abbrev pub right : Catch → Bool
right row = right_in Form.FreeText row

abbrev pub all : List Catch → Bool
all [] = true
all (r ∷ rs) = elim (right r) [ true ↦ all rs | false ↦ false ]

-- a text after another
abbrev joined : String → String → String
joined ε t = t
joined (c ∷ᶜ s) t = c ∷ᶜ joined s t

-- the worked example: 129 bytes; byte 5 is slack before SIRE
abbrev pub fish : String
fish = "01 FISH. 05 TAG PIC X(5). 05 SIRE PIC 9(4) COMP SYNC. 05 WT OCCURS 3 PIC 9(3)V9."

abbrev pub fish_listing : List ℕ
fish_listing =
    hex "00 14000000 00 03000000"
    ++ hex "01 0c000000 03000000 00000000 05000000 00 00000000 00000000 00000000 00000000 00000000"
    ++ hex "03 1d000000 04000000 06000000 02000000 00 00000000 00000000 00000000 00000000 00000000 00"
    ++ hex "04 39000000 02000000 08000000 04000000 01 03000000 00000000 00000000 00000000 00000000 04 01 00 00"

-- the worked example as cards, with sequence numbers, text behind column 72, a comment, a page eject, a debugging line,
-- short lines and carriage returns
abbrev pub card_fish : String
card_fish =
    joined "000100 01 FISH.                                                         FISH0001\r\n"
    (joined "000200* 05 NO PIC X.\n000300/\n000400D 05 NO PIC X.\n\n0005\r\n"
    "000600     05 TAG PIC X(5).\n       05 SIRE PIC 9(4)\n           COMP SYNC. 05 WT OCCURS 3 PIC 9(3)V9.")

-- a group that stands twice after a byte, with slack in each and at each end; then an item that stands 0 times after
-- its slack
abbrev pub tank : String
tank =
    joined "05 A PIC X. 05 G OCCURS 2. 10 B PIC X. 10 C PIC 9(5) COMP SYNC. 05 D PIC X. "
    "05 E OCCURS 0 PIC 9(9) COMP SYNC. 05 F PIC X."

-- counts in a record of COMP: two aligned items, one of them in a group
abbrev pub counts : String
counts = "01 R COMP. 05 A PIC X. 05 B PIC 9(5) SYNC. 05 G. 10 C PIC X. 10 D PIC 9(4) SYNC."

-- an aligned item and a byte that stand three times, each time with slack at the end, and an item after them
abbrev pub padded3 : String
padded3 = "05 G OCCURS 3. 10 A PIC 9(4) COMP SYNC. 10 B PIC X. 05 C PIC X."

-- a group with OCCURS in another, each with slack at its end
abbrev pub in_padded : String
in_padded = "01 R. 05 G OCCURS 2. 10 H OCCURS 2. 15 A PIC 9(4) COMP SYNC. 15 B PIC X. 10 C COMP-1 SYNC. 10 D PIC X."

-- an aligned item above 32 bits, in groups with OCCURS 0
abbrev pub far_aligned : String
far_aligned =
    joined "05 P PIC X OCCURS 2147483647. 05 G OCCURS 0. 10 P PIC X OCCURS 2147483640. "
    "10 H OCCURS 0. 15 P PIC X(4). 15 B COMP-2 SYNC."

-- groups in groups down to depth 64
abbrev pub deep_groups : String
deep_groups =
    joined "1 A PIC X. 1 A. 2 A. 3 A. 4 A. 5 A. 6 A. 7 A. 8 A. 9 A. 10 A. 11 A. 12 A. 13 A. 14 A. 15 A. 16 A. 17 A. "
    (joined "18 A. 19 A. 20 A. 21 A. 22 A. 23 A. 24 A. 25 A. 26 A. 27 A. 28 A. 29 A. 30 A. 31 A. 32 A. 33 A. 34 A. "
    (joined "35 A. 36 A. 37 A. 38 A. 39 A. 40 A. 41 A. 42 A. 43 A. 44 A. 45 A. 46 A. 47 A. 48 A. 49 A. 50 A. 51 A. "
    "52 A. 53 A. 54 A. 55 A. 56 A. 57 A. 58 A. 59 A. 60 A. 61 A. 62 A. 63 A. 64 A. "))

-- two aligned floats after odd places
abbrev pub floats : String
floats = "05 A PIC X. 05 B SYNC COMP-1. 05 C PIC X. 05 D COMP-2 SYNC. 05 E PIC X."

-- five digits, packed
abbrev packed5 : FieldKind
packed5 = Decimal 5 0 NumRepr.Comp3 SignKind.Embedded

-- that many numbers, all the same
abbrev many : ℕ → ℕ → List ℕ
many zero w = []
many (suc n) w = w ∷ many n w

-- 16 items at the top, of one byte each
abbrev pub sixteen : String
sixteen =
    joined "5 A PIC X. 5 B PIC X. 5 C PIC X. 5 D PIC X. 5 E PIC X. 5 F PIC X. 5 G PIC X. 5 H PIC X. "
    "5 I PIC X. 5 J PIC X. 5 K PIC X. 5 L PIC X. 5 M PIC X. 5 N PIC X. 5 O PIC X. 5 P. 10 Q PIC X."

-- the details of FISH: its root is dropped, and slack stands before the second of its three entries
abbrev pub fish_details : List ℕ
fish_details =
    hex "00000000 01 03000000 04000000 03000000"
    ++ hex "09000000 05 00 00 00000000 0000000000000000 00000000 14000000 04000000 00000000 00000000 00000000 00000000"
    ++ hex "00000000 00 00 00 00000000 00000000 00"
    ++ hex "1a000000 05 00 00 00000000 0600000000000000 01000000 26000000 04000000 00000000 00000000 00000000 00000000"
    ++ hex "00000000 04 00 00 2b000000 04000000 00"
    ++ hex "36000000 05 00 00 00000000 0800000000000000 00000000 49000000 06000000 00000000 00000000 00000000 00000000"
    ++ hex "00000000 04 01 00 00000000 00000000 00"

-- a head of details: the dropped root's position, its level and the place of its name, and how many entries there are
abbrev pub head : ℕ → ℕ → Span → ℕ → List ℕ
head at level name n = le4 at ++ (level ∷ span_bytes name) ++ le4 n

-- no root was dropped
abbrev pub rootless : ℕ → List ℕ
rootless n = head 0 0 absent n

-- an entry's details, but for the last 16: position, level, depth, made by folding, entries below, first byte, slack,
-- and the three places
abbrev pub facts : ℕ → ℕ → ℕ → Bool → ℕ → ℕ → ℕ → Span → Span → Span → List ℕ
facts at level depth folded below first slack picture over depending =
    le4 at ++ (level ∷ depth ∷ flag folded ∷ le4 below) ++ le8 first ++ le4 slack ++ span_bytes picture
    ++ span_bytes over ++ span_bytes depending

-- the last 16: the slack at the end; the digits, those after the point, and whether they are signed; the place of the
-- usage word; SIGN
abbrev pub more : ℕ → ℕ → ℕ → Bool → Span → ℕ → List ℕ
more slack_at_end digits scale signed usage sign =
    le4 slack_at_end ++ (digits ∷ scale ∷ flag signed ∷ span_bytes usage) ++ (sign ∷ [])

-- there is none of these
abbrev pub no_more : List ℕ
no_more = more 0 0 0 false absent 0

-- a group laid over an item, with an aligned item in it, and an item after both: A, folded with B, has entries 0 and 1
abbrev pub overlay : String
overlay = "05 A PIC X(2). 05 B REDEFINES a. 10 C PIC X. 10 D PIC 9(4) COMP SYNC. 05 E PIC X."

-- groups in a group, under a root that is dropped
abbrev pub nests : String
nests = "01 R. 05 A PIC X(3). 05 G. 10 B PIC X. 10 H OCCURS 2. 15 C PIC X. 15 D PIC 9(4) COMP SYNC. 05 E PIC X."

-- a redefiner of a redefiner, and an item after them
abbrev pub layers : String
layers = "05 A PIC X. 05 B PIC X(4). 05 C REDEFINES B PIC X(2). 05 D REDEFINES c PIC X(9). 05 E PIC X."

-- a group with a member of its own name, redefined: it counts as already folded
abbrev pub homonym : String
homonym = "05 Z PIC X. 05 G. 10 G PIC X. 10 H PIC X. 05 B REDEFINES G PIC X(5). 05 C PIC X."

-- first bytes above 32 bits, in groups with OCCURS 0 and with DEPENDING ON
abbrev pub faraway : String
faraway =
    joined "05 P PIC X(2) OCCURS 1000000000. 05 G OCCURS 0. 10 P PIC X(2) OCCURS 1000000000. "
    "10 H OCCURS 0 TO 1 DEPENDING ON N. 15 P PIC X(2) OCCURS 1000000000. 15 Q PIC X."

-- items without a name beside FILLER
abbrev pub nameless : String
nameless = "05. 10 A PIC X. 05 FILLER PIC X(2). 05 B REDEFINES FILLER PIC X. 05 C PIC X. 05. 10 D PIC X."

-- a reason's bytes: its kind, the start and length of the name, and what it adds
abbrev pub why : ℕ → ℕ → ℕ → ℕ → List ℕ
why kind start len adds = kind ∷ le4 start ++ le4 len ++ le4 adds

-- n times the same copybook, and a pair of copybooks
abbrev copies : ℕ → String → List String
copies zero s = []
copies (suc n) s = s ∷ copies n s

abbrev pair : String → String → List String
pair s t = s ∷ t ∷ []

unfoldable pub table : List Catch
table =
    -- empty text: length 0, listing 10 bytes
    accepted "" 0 false []
    ∷ listed "" 10 (hex "00 00000000 00 00000000")
    ∷ no_room "" 9 10
    -- a dropped root's OCCURS
    ∷ accepted "01 R OCCURS 9. 05 A PIC X." 1 false (column 0 1 Text ∷ [])
    -- pictures
    ∷ accepted "05 A PIC ZZ9.99." 6 false (column 0 6 (Edited 5 2 false) ∷ [])
    ∷ pictured "$$$9" Usage.Display None 4 (Edited 3 0 false)
    ∷ pictured "9(4)" Usage.Comp None 2 (Binary false)
    ∷ pictured "9(5)" Usage.Comp None 4 (Binary false)
    ∷ pictured "9(9)" Usage.Comp None 4 (Binary false)
    ∷ pictured "9(10)" Usage.Comp None 8 (Binary false)
    ∷ pictured "S" Usage.Comp3 None 1 (Decimal 0 0 NumRepr.Comp3 SignKind.Embedded)
    ∷ pictured "9(5)" Usage.Comp3 None 3 (Decimal 5 0 NumRepr.Comp3 SignKind.Embedded)
    ∷ pictured "S9(4)" Usage.Display (Some SignKind.TrailingSeparate) 5 (Int true SignKind.TrailingSeparate)
    ∷ pictured "9(4)" Usage.Display (Some SignKind.LeadingSeparate) 4 (Int false SignKind.Unsigned)
    ∷ accepted "05 A PIC S9(4) SIGN TRAILING SEPARATE." 5 false (column 0 5 (Int true SignKind.TrailingSeparate) ∷ [])
    ∷ accepted "05 A PIC 9(4) SIGN LEADING SEPARATE." 4 false (column 0 4 (Int false SignKind.Unsigned) ∷ [])
    -- P holds no byte of a number; precision and scale count it
    ∷ widths "99P" (2 ∷ 2 ∷ 2 ∷ 2 ∷ 2 ∷ 2 ∷ 2 ∷ [])
    ∷ widths "P(3)9" (1 ∷ 1 ∷ 1 ∷ 1 ∷ 1 ∷ 1 ∷ 2 ∷ [])
    ∷ widths "VP9" (1 ∷ 1 ∷ 1 ∷ 1 ∷ 1 ∷ 1 ∷ 2 ∷ [])
    ∷ widths "S9P(4)" (1 ∷ 1 ∷ 1 ∷ 2 ∷ 2 ∷ 1 ∷ 2 ∷ [])
    ∷ widths "P" (0 ∷ 0 ∷ 0 ∷ 0 ∷ 0 ∷ 1 ∷ 2 ∷ [])
    ∷ widths "9(4)P" (4 ∷ 4 ∷ 4 ∷ 4 ∷ 4 ∷ 3 ∷ 2 ∷ [])
    ∷ widths "9(5)P" (5 ∷ 5 ∷ 5 ∷ 5 ∷ 5 ∷ 3 ∷ 4 ∷ [])
    ∷ widths "9(9)P" (9 ∷ 9 ∷ 9 ∷ 9 ∷ 9 ∷ 5 ∷ 4 ∷ [])
    ∷ widths "9(10)P" (10 ∷ 10 ∷ 10 ∷ 10 ∷ 10 ∷ 6 ∷ 8 ∷ [])
    ∷ pictured "99P" Usage.Display None 2 (Decimal 3 1 NumRepr.Display SignKind.Unsigned)
    ∷ pictured "P(3)9" Usage.Display None 1 (Decimal 4 3 NumRepr.Display SignKind.Unsigned)
    ∷ pictured "VP9" Usage.Comp3 None 1 (Decimal 2 2 NumRepr.Comp3 SignKind.Embedded)
    ∷ pictured "S9P(4)" Usage.Display None 1 (Decimal 5 4 NumRepr.Zoned SignKind.Embedded)
    ∷ pictured "S9P(4)" Usage.Display (Some SignKind.LeadingSeparate) 2
    (Decimal 5 4 NumRepr.Display SignKind.LeadingSeparate)
    ∷ pictured "P" Usage.Display None 0 (Decimal 1 1 NumRepr.Display SignKind.Unsigned)
    -- nor of an edited item, whose mask keeps it
    ∷ pictured "ZZ9P" Usage.Display None 3 (Edited 4 1 false)
    ∷ masked "ZZ9P" "ZZ9P"
    ∷ pictured "zp(2)9.9" Usage.Display None 4 (Edited 5 3 false)
    ∷ masked "zp(2)9.9" "ZPP9.9"
    ∷ masked "SVZ" "Z"
    -- 31 digits and no more, P included
    ∷ widths "9(31)" (31 ∷ 31 ∷ 31 ∷ 31 ∷ 31 ∷ 16 ∷ 8 ∷ [])
    ∷ widths "S9(31)" (31 ∷ 31 ∷ 31 ∷ 32 ∷ 32 ∷ 16 ∷ 8 ∷ [])
    ∷ widths "9(30)V9" (31 ∷ 31 ∷ 31 ∷ 31 ∷ 31 ∷ 16 ∷ 8 ∷ [])
    ∷ widths "9(30)P" (30 ∷ 30 ∷ 30 ∷ 30 ∷ 30 ∷ 16 ∷ 8 ∷ [])
    ∷ widths "Z(31)" (31 ∷ 31 ∷ 31 ∷ 31 ∷ 31 ∷ 16 ∷ 8 ∷ [])
    ∷ widths "*(31)" (31 ∷ 31 ∷ 31 ∷ 31 ∷ 31 ∷ 16 ∷ 8 ∷ [])
    ∷ widths "$(32)" (32 ∷ 32 ∷ 32 ∷ 32 ∷ 32 ∷ 16 ∷ 8 ∷ [])
    ∷ widths "+(32)" (32 ∷ 32 ∷ 32 ∷ 32 ∷ 32 ∷ 16 ∷ 8 ∷ [])
    ∷ widths "-(32)" (32 ∷ 32 ∷ 32 ∷ 32 ∷ 32 ∷ 16 ∷ 8 ∷ [])
    ∷ pictured "9(31)" Usage.Comp3 None 16 (Decimal 31 0 NumRepr.Comp3 SignKind.Embedded)
    ∷ pictured "9(30)P" Usage.Display None 30 (Decimal 31 1 NumRepr.Display SignKind.Unsigned)
    ∷ unread "9(32)" Usage.Display 27
    ∷ unread "9(32)" Usage.Comp3 27
    ∷ unread "9(32)" Usage.Comp 27
    ∷ unread "9(31)V9" Usage.Display 27
    ∷ unread "9(31)P" Usage.Display 27
    ∷ unread "P(32)" Usage.Comp 27
    ∷ unread "Z(32)" Usage.Display 27
    ∷ unread "*(32)" Usage.Comp3 27
    ∷ unread "$(33)" Usage.Display 27
    ∷ unread "+(33)" Usage.Display 27
    ∷ unread "-(33)" Usage.Comp 27
    ∷ turned_down "05 Z PIC X. 05 A PIC 9(32)." 27 12
    ∷ pictured "X(32)" Usage.Display None 32 Text
    -- a mask of 255 bytes and no more, P included
    ∷ pictured "B(255)" Usage.Display None 255 (Edited 1 0 false)
    ∷ pictured "9,(254)" Usage.Display None 255 (Edited 1 0 false)
    ∷ pictured "0(255)" Usage.Display None 255 (Edited 1 0 false)
    ∷ pictured "/(254)Z" Usage.Display None 255 (Edited 1 0 false)
    ∷ pictured "B(253)9P" Usage.Display None 254 (Edited 2 1 false)
    ∷ unread "B(256)" Usage.Display 27
    ∷ unread "9,(255)" Usage.Display 27
    ∷ unread "0(256)" Usage.Display 27
    ∷ unread "/(255)Z" Usage.Display 27
    ∷ unread "B(254)9P" Usage.Display 27
    ∷ pictured "B(256)9" Usage.Comp None 2 (Binary false)
    -- SEPARATE counts after VALUE, which ends the reading of the other clauses
    ∷ accepted "05 A PIC S9(4) SIGN TRAILING VALUE 5 SEPARATE COMP." 5 false
    (column 0 5 (Int true SignKind.TrailingSeparate) ∷ [])
    -- PIC is the name; levels
    ∷ turned_down "05 PIC X." 21 0
    ∷ accepted "255 A PIC X." 1 false (column 0 1 Text ∷ [])
    ∷ turned_down "256 A PIC X." 10 0
    -- REDEFINES and DEPENDING ON
    ∷ accepted "05 A PIC X(2). 05 B REDEFINES A PIC X(5). 05 C PIC X." 5 false
    (column 0 5 Group ∷ column 0 2 Text ∷ column 0 5 Text ∷ column 2 1 Text ∷ [])
    ∷ turned_down "05 A PIC X. 05 B PIC X. 05 B REDEFINES A PIC X. 05 C REDEFINES B PIC X." 30 48
    -- 28 before 29
    ∷ turned_down "05 A PIC X. 05 B REDEFINES C OCCURS 2147483648 PIC X." 28 12
    ∷ turned_down "05 A PIC X. 05 B REDEFINES A OCCURS 2147483648 PIC X." 29 12
    ∷ accepted "05 N PIC 9(2). 05 T OCCURS 1 TO 5 DEPENDING ON N PIC X(3). 05 Z PIC X." 3 true
    (column 0 2 (Int false SignKind.Unsigned) ∷ column 2 3 Text ∷ column 2 1 Text ∷ [])
    -- the search for a target ends at the first match back from the item: directly before, the third back, the later of
    -- two, a redefiner; and it compares all earlier siblings, and no name in a group, where none has the name
    ∷ searched "05 A PIC X. 05 B REDEFINES A PIC X." (1 ∷ [])
    ∷ searched "05 A PIC X. 05 B PIC X. 05 C PIC X. 05 D REDEFINES A PIC X." (3 ∷ [])
    ∷ searched "05 A PIC X. 05 a PIC X. 05 B PIC X. 05 C REDEFINES A PIC X." (2 ∷ [])
    ∷ accepted "05 A PIC X. 05 a PIC X. 05 B PIC X. 05 C REDEFINES A PIC X." 3 false
    (column 0 1 Text ∷ column 1 1 Group ∷ column 0 1 Text ∷ column 0 1 Text ∷ column 2 1 Text ∷ [])
    ∷ searched "05 A PIC X. 05 B REDEFINES A PIC X. 05 C REDEFINES A PIC X. 05 D REDEFINES B PIC X." (1 ∷ 2 ∷ 2 ∷ [])
    ∷ searched "05 A PIC X. 05 B PIC X. 05 C PIC X. 05 D PIC X. 05 E REDEFINES F PIC X." (4 ∷ [])
    ∷ turned_down "05 A PIC X. 05 B PIC X. 05 C PIC X. 05 D PIC X. 05 E REDEFINES F PIC X." 28 48
    ∷ searched "05 A REDEFINES A PIC X." (0 ∷ [])
    ∷ searched "05 G. 10 A PIC X. 10 B PIC X. 05 C REDEFINES A PIC X." (1 ∷ [])
    -- a group is not aligned because a member is SYNC; the slack before the member is in the group
    ∷ accepted "05 A PIC X. 05 G. 10 B PIC 9(4) COMP SYNC." 4 false
    (column 0 1 Text ∷ column 1 3 Group ∷ column 1 2 (Binary false) ∷ [])
    -- slack is chosen from the place in the record: none where the list alone would need it; an offset counts from the
    -- list, in a group laid over an item too
    ∷ accepted "05 A PIC X. 05 G. 10 B PIC X. 10 C PIC 9(4) COMP SYNC." 4 false
    (column 0 1 Text ∷ column 1 3 Group ∷ column 0 1 Text ∷ column 1 2 (Binary false) ∷ [])
    ∷ owned "05 A PIC X. 05 G. 10 B PIC 9(4) COMP SYNC." 1 (Owner.Slack 2)
    ∷ reasoned "05 A PIC X. 05 G. 10 B PIC 9(4) COMP SYNC." 2
    (why 1 0 0 0 ++ why 3 0 0 1 ++ why 5 15 1 0 ++ why 2 3 1 1)
    ∷ detailed "05 A PIC X. 05 G. 10 B PIC 9(4) COMP SYNC."
    (rootless 3
    ++ facts 0 5 0 false 0 0 0 (span 9 1) absent absent ++ no_more
    ++ facts 12 5 0 false 1 1 0 absent absent absent ++ no_more
    ++ facts 18 10 1 false 0 2 1 (span 27 4) absent absent ++ more 0 4 0 false (span 32 4) 0)
    ∷ accepted "05 X PIC X. 05 A PIC X(4). 05 G REDEFINES A. 10 B PIC 9(4) COMP SYNC." 5 false
    (column 0 1 Text ∷ column 1 4 Group ∷ column 0 4 Text ∷ column 0 3 Group ∷ column 1 2 (Binary false) ∷ [])
    ∷ accepted far_aligned 2147483647 false
    (column 0 1 Text ∷ column 2147483647 2147483640 Group ∷ column 0 1 Text ∷ column 2147483640 24 Group ∷
    column 0 4 Text ∷ column 9 8 (Float 64) ∷ [])
    -- a group with OCCURS that holds an aligned item has slack at its end, which the owner names by the group; the next
    -- item follows it, and it is no reason of its own
    ∷ accepted padded3 13 false
    (column 0 4 Group ∷ column 0 2 (Binary false) ∷ column 2 1 Text ∷ column 12 1 Text ∷ [])
    ∷ owned padded3 2 (Owner.Piece 2 2 0)
    ∷ owned padded3 3 (Owner.Slack 0)
    ∷ owned padded3 4 (Owner.Piece 1 4 0)
    ∷ owned padded3 11 (Owner.Slack 0)
    ∷ owned padded3 12 (Owner.Piece 3 12 0)
    ∷ reasoned padded3 3 (why 2 3 1 12)
    ∷ extracts padded3 (5 ∷ 1 ∷ []) 11 4 (2 ∷ 1 ∷ 4 ∷ 0 ∷ [])
    ∷ extracts padded3 (5 ∷ 1 ∷ []) 12 4 (1 ∷ 5 ∷ 4 ∷ 0 ∷ [])
    ∷ keyed "C" (pair padded3 "05 A PIC X(12). 05 C PIC X.") 12 1
    -- OCCURS 1 and OCCURS 0 are OCCURS; without it, or on a dropped root, there is no slack at the end
    ∷ accepted "01 R. 05 G OCCURS 1. 10 A PIC 9(4) COMP SYNC. 10 B PIC X." 4 false
    (column 0 4 Group ∷ column 0 2 (Binary false) ∷ column 2 1 Text ∷ [])
    ∷ owned "01 R. 05 G OCCURS 1. 10 A PIC 9(4) COMP SYNC. 10 B PIC X." 3 (Owner.Slack 0)
    ∷ accepted "01 R. 05 G OCCURS 0. 10 A PIC 9(4) COMP SYNC. 10 B PIC X." 0 false
    (column 0 4 Group ∷ column 0 2 (Binary false) ∷ column 2 1 Text ∷ [])
    ∷ accepted "05 G. 10 A PIC 9(4) COMP SYNC. 10 B PIC X. 05 C PIC X." 4 false
    (column 0 3 Group ∷ column 0 2 (Binary false) ∷ column 2 1 Text ∷ column 3 1 Text ∷ [])
    ∷ accepted "01 R OCCURS 2. 05 A PIC 9(4) COMP SYNC. 05 B PIC X." 3 false
    (column 0 2 (Binary false) ∷ column 2 1 Text ∷ [])
    -- the largest alignment counts, at any depth, of floats and binary items alike
    ∷ accepted "01 R. 05 G OCCURS 2. 10 A COMP-2 SYNC. 10 B PIC 9(4) COMP SYNC." 32 false
    (column 0 16 Group ∷ column 0 8 (Float 64) ∷ column 8 2 (Binary false) ∷ [])
    ∷ accepted "01 R. 05 G OCCURS 2. 10 A PIC 9(4) COMP SYNC. 10 B COMP-1 SYNC. 10 C PIC X." 24 false
    (column 0 12 Group ∷ column 0 2 (Binary false) ∷ column 4 4 (Float 32) ∷ column 8 1 Text ∷ [])
    ∷ accepted "01 R. 05 G OCCURS 2. 10 H. 15 A PIC 9(5) COMP SYNC. 15 B PIC X. 10 C PIC X." 16 false
    (column 0 8 Group ∷ column 0 5 Group ∷ column 0 4 (Binary false) ∷ column 4 1 Text ∷ column 5 1 Text ∷ [])
    ∷ owned "01 R. 05 G OCCURS 2. 10 H. 15 A PIC 9(5) COMP SYNC. 15 B PIC X. 10 C PIC X." 15 (Owner.Slack 0)
    ∷ accepted in_padded 32 false
    (column 0 16 Group ∷ column 0 4 Group ∷ column 0 2 (Binary false) ∷ column 2 1 Text ∷ column 8 4 (Float 32) ∷
    column 12 1 Text ∷ [])
    ∷ owned in_padded 3 (Owner.Slack 1)
    ∷ owned in_padded 13 (Owner.Slack 0)
    ∷ owned in_padded 23 (Owner.Slack 1)
    ∷ owned in_padded 28 (Owner.Piece 5 28 0)
    ∷ owned in_padded 31 (Owner.Slack 0)
    -- no slack at the end where no item is aligned: a redefiner is not, and an item in a redefining group is
    ∷ accepted "01 R. 05 G OCCURS 2. 10 A PIC 9(4) COMP. 10 B PIC X SYNC." 6 false
    (column 0 3 Group ∷ column 0 2 (Binary false) ∷ column 2 1 Text ∷ [])
    ∷ accepted "01 R. 05 G OCCURS 2. 10 A PIC X(3). 10 B REDEFINES A PIC 9(4) COMP SYNC." 6 false
    (column 0 3 Group ∷ column 0 3 Group ∷ column 0 3 Text ∷ column 0 2 (Binary false) ∷ [])
    ∷ accepted "01 R. 05 G OCCURS 2. 10 A PIC X(3). 10 B REDEFINES A. 15 C PIC 9(4) COMP SYNC." 8 false
    (column 0 4 Group ∷ column 0 3 Group ∷ column 0 3 Text ∷ column 0 2 Group ∷ column 0 2 (Binary false) ∷ [])
    -- a group with OCCURS and REDEFINES has it too; one with DEPENDING ON has none, and the group around it has
    ∷ accepted "05 A PIC X(9). 05 G REDEFINES A OCCURS 2. 10 B PIC 9(4) COMP SYNC. 10 C PIC X." 9 false
    (column 0 9 Group ∷ column 0 9 Text ∷ column 0 4 Group ∷ column 0 2 (Binary false) ∷ column 2 1 Text ∷ [])
    ∷ accepted "01 R. 05 G OCCURS 1 TO 3 DEPENDING ON N. 10 A PIC 9(4) COMP SYNC. 10 B PIC X." 0 true
    (column 0 3 Group ∷ column 0 2 (Binary false) ∷ column 2 1 Text ∷ [])
    ∷ accepted "01 R. 05 G OCCURS 2. 10 H OCCURS 3 DEPENDING N. 15 A PIC 9(4) COMP SYNC. 15 B PIC X. 10 C PIC X." 4 true
    (column 0 2 Group ∷ column 0 3 Group ∷ column 0 2 (Binary false) ∷ column 2 1 Text ∷ column 0 1 Text ∷ [])
    -- 28 of a group comes before what its list is refused for, 20 included; that of an elementary item after what its
    -- picture is refused for
    ∷ turned_down "01 R. 05 G REDEFINES Z. 10 A PIC Q." 28 6
    ∷ turned_down "05 A PIC X. 05 G REDEFINES A. 10 A PIC Q." 25 30
    ∷ turned_down "01 R. 05 G REDEFINES Z. 10 A REDEFINES Y PIC X." 28 6
    ∷ turned_down "05 A REDEFINES Z PIC Q." 25 0
    ∷ turned_down (joined deep_groups "65 A. 66 A PIC X.") 20 392
    ∷ turned_down (joined deep_groups "65 A REDEFINES Z. 66 A PIC X.") 28 386
    -- 29 by the slack at the end alone, at OCCURS 0 too
    ∷ accepted "01 R. 05 G. 10 A PIC 9(4) COMP SYNC. 10 B PIC X OCCURS 2147483645." 2147483647 false
    (column 0 2147483647 Group ∷ column 0 2 (Binary false) ∷ column 2 1 Text ∷ [])
    ∷ turned_down "01 R. 05 G OCCURS 1. 10 A PIC 9(4) COMP SYNC. 10 B PIC X OCCURS 2147483645." 29 6
    ∷ turned_down "01 R. 05 G OCCURS 0. 10 A PIC 9(4) COMP SYNC. 10 B PIC X OCCURS 2147483645." 29 6
    ∷ accepted "01 R. 05 G OCCURS 0. 10 A PIC 9(4) COMP SYNC. 10 B PIC X OCCURS 2147483644." 0 false
    (column 0 2147483646 Group ∷ column 0 2 (Binary false) ∷ column 2 1 Text ∷ [])
    -- the copybooks that stay as they were: SYNC among the record's fields alone, no refusal inside a group whose
    -- target is missing; one inside a group that has its target, and one of an elementary item, change nothing
    ∷ slack_as_before fish true
    ∷ slack_as_before "X. 05 G. 10 A PIC 9 COMP SYNC." true
    ∷ slack_as_before "05 A PIC X. 05 G. 10 B PIC X. 05 C PIC 9 COMP SYNC OCCURS 2. 05 D PIC X." true
    ∷ slack_as_before "05 A PIC X. 05 G. 10 B PIC 9 COMP SYNC." false
    ∷ slack_as_before "01 R. 05 G OCCURS 2. 10 A PIC X SYNC." false
    ∷ slack_as_before "01 R. 05 G. 10 H SYNC. 15 A PIC X." false
    ∷ slack_as_before "01 R. 05 G REDEFINES Z. 10 A PIC X." true
    ∷ slack_as_before "01 R. 05 G REDEFINES Z. 10 A PIC Q." false
    ∷ slack_as_before "01 R. 05 G REDEFINES Z. 10 A REDEFINES Y PIC X." false
    ∷ slack_as_before "01 R. 05 H. 10 G REDEFINES Z. 15 A PIC Q." false
    ∷ slack_as_before "05 A PIC X. 05 G REDEFINES a. 10 B PIC Q." true
    ∷ slack_as_before "05 A REDEFINES Z PIC Q." true
    ∷ slack_as_before (joined deep_groups "65 A. 66 A PIC X.") true
    ∷ slack_as_before (joined deep_groups "65 A REDEFINES Z. 66 A PIC X.") false
    -- the worked example
    ∷ accepted fish 20 false
    (column 0 5 Text ∷ column 6 2 (Binary false) ∷ column 8 4 (Decimal 4 1 NumRepr.Display SignKind.Unsigned) ∷ [])
    ∷ listed fish 129 fish_listing
    ∷ no_room fish 128 129
    ∷ owned fish 0 (Owner.Piece 0 0 0)
    ∷ owned fish 5 (Owner.Slack 1)
    ∷ owned fish 6 (Owner.Piece 1 6 0)
    ∷ owned fish 19 (Owner.Piece 2 16 3)
    ∷ not_owned fish 20 41
    -- owners
    ∷ owned tank 8 (Owner.Slack 1)
    ∷ owned tank 9 (Owner.Piece 2 9 0)
    ∷ owned tank 11 (Owner.Slack 3)
    ∷ owned tank 12 (Owner.Piece 3 12 0)
    ∷ owned tank 14 (Owner.Piece 3 12 2)
    ∷ owned tank 16 (Owner.Slack 1)
    ∷ owned tank 19 (Owner.Slack 5)
    ∷ owned tank 20 (Owner.Piece 6 20 0)
    ∷ not_owned "05 A PIC X. 05 B REDEFINES A PIC X." 0 40
    ∷ owned "01 R OCCURS 1 TO 2 DEPENDING ON A. 05 A PIC X." 0 (Owner.Piece 0 0 0)
    ∷ not_owned "" 0 41
    -- details
    ∷ detailed "" (rootless 0)
    ∷ no_details "" 16 17
    ∷ detailed fish fish_details
    ∷ no_details fish 205 206
    ∷ detailed tank
    (rootless 7
    ++ facts 0 5 0 false 0 0 0 (span 9 1) absent absent ++ no_more
    ++ facts 12 5 0 false 2 1 0 absent absent absent ++ more 1 0 0 false absent 0
    ++ facts 27 10 1 false 0 1 0 (span 36 1) absent absent ++ no_more
    ++ facts 39 10 1 false 0 4 2 (span 48 4) absent absent ++ more 0 5 0 false (span 53 4) 0
    ++ facts 64 5 0 false 0 17 0 (span 73 1) absent absent ++ no_more
    ++ facts 76 5 0 false 0 20 2 (span 94 4) absent absent ++ more 0 9 0 false (span 99 4) 0
    ++ facts 110 5 0 false 0 20 0 (span 119 1) absent absent ++ no_more)
    -- a fold: the group has no slack, its base has
    ∷ detailed "05 P PIC X. 05 A PIC 9(4) COMP SYNC. 05 B REDEFINES a PIC X(5). 05 C PIC X."
    (rootless 5
    ++ facts 0 5 0 false 0 0 0 (span 9 1) absent absent ++ no_more
    ++ facts 12 5 0 true 2 2 0 absent absent absent ++ no_more
    ++ facts 12 5 1 false 0 2 1 (span 21 4) absent absent ++ more 0 4 0 false (span 26 4) 0
    ++ facts 37 5 1 false 0 2 0 (span 58 4) (span 52 1) absent ++ no_more
    ++ facts 64 5 0 false 0 4 0 (span 73 1) absent absent ++ no_more)
    -- a group with a member of its own name, redefined
    ∷ detailed "05 G. 10 G PIC X. 10 H PIC X. 05 R REDEFINES G. 10 T PIC X."
    (rootless 5
    ++ facts 0 5 0 true 4 0 0 absent absent absent ++ no_more
    ++ facts 6 10 1 false 0 0 0 (span 15 1) absent absent ++ no_more
    ++ facts 18 10 1 false 0 1 0 (span 27 1) absent absent ++ no_more
    ++ facts 30 5 1 false 1 0 0 absent (span 45 1) absent ++ no_more
    ++ facts 48 10 2 false 0 0 0 (span 57 1) absent absent ++ no_more)
    -- first bytes above 32 bits
    ∷ detailed faraway
    (rootless 6
    ++ facts 0 5 0 false 0 0 0 (span 9 4) absent absent ++ no_more
    ++ facts 33 5 0 false 4 2000000000 0 absent absent absent ++ no_more
    ++ facts 48 10 1 false 0 2000000000 0 (span 57 4) absent absent ++ no_more
    ++ facts 81 10 1 false 2 4000000000 0 absent absent (span 113 1) ++ no_more
    ++ facts 116 15 2 false 0 4000000000 0 (span 125 4) absent absent ++ no_more
    ++ facts 149 15 2 false 0 6000000000 0 (span 158 1) absent absent ++ no_more)
    -- the dropped root: one without a name, one that begins later, one of two and one without children, which stay
    ∷ detailed "01. 05 A PIC X." (head 0 1 absent 1 ++ facts 4 5 0 false 0 0 0 (span 13 1) absent absent ++ no_more)
    ∷ detailed "  +3 REC COMP. 7 A PIC 9."
    (head 2 3 (span 5 3) 1 ++ facts 15 7 0 false 0 0 0 (span 23 1) absent absent ++ more 0 1 0 false (span 9 4) 0)
    ∷ detailed "01 A PIC X. 01 B PIC X."
    (rootless 2
    ++ facts 0 1 0 false 0 0 0 (span 9 1) absent absent ++ no_more
    ++ facts 12 1 0 false 0 1 0 (span 21 1) absent absent ++ no_more)
    ∷ detailed "01 A PIC X." (rootless 1 ++ facts 0 1 0 false 0 0 0 (span 9 1) absent absent ++ no_more)
    -- digits of numbers, P included; edited ones have at least 1; texts, groups and floats have none
    ∷ said "05 A PIC 99P. 05 B PIC S9(5)V99 COMP-3. 05 C PIC 9(10) COMP. 05 D PIC S9. 05 E PIC S9 COMP."
    ((0 ∷ 3 ∷ 1 ∷ 0 ∷ 0 ∷ 0 ∷ 0 ∷ []) ∷ (0 ∷ 7 ∷ 2 ∷ 1 ∷ 32 ∷ 6 ∷ 0 ∷ []) ∷ (0 ∷ 10 ∷ 0 ∷ 0 ∷ 55 ∷ 4 ∷ 0 ∷ []) ∷
    (0 ∷ 1 ∷ 0 ∷ 1 ∷ 0 ∷ 0 ∷ 0 ∷ []) ∷ (0 ∷ 1 ∷ 0 ∷ 1 ∷ 86 ∷ 4 ∷ 0 ∷ []) ∷ [])
    ∷ said "05 A PIC ZZ9.99. 05 B PIC -ZP. 05 C PIC B. 05 D PIC V. 05 E PIC X(9). 05 F. 10 G COMP-1."
    ((0 ∷ 5 ∷ 2 ∷ 0 ∷ 0 ∷ 0 ∷ 0 ∷ []) ∷ (0 ∷ 2 ∷ 1 ∷ 1 ∷ 0 ∷ 0 ∷ 0 ∷ []) ∷ (0 ∷ 1 ∷ 0 ∷ 0 ∷ 0 ∷ 0 ∷ 0 ∷ []) ∷
    (0 ∷ 0 ∷ 0 ∷ 0 ∷ 0 ∷ 0 ∷ 0 ∷ []) ∷ (0 ∷ 0 ∷ 0 ∷ 0 ∷ 0 ∷ 0 ∷ 0 ∷ []) ∷ (0 ∷ 0 ∷ 0 ∷ 0 ∷ 0 ∷ 0 ∷ 0 ∷ []) ∷
    (0 ∷ 0 ∷ 0 ∷ 0 ∷ 81 ∷ 6 ∷ 0 ∷ []) ∷ [])
    -- the usage word that holds: the last of its own; that of the nearest group that names one, a text's too; DISPLAY
    -- is such a word, USAGE is not; where none is named there is none
    ∷ said "01 R COMP-5. 05 A PIC 9. 05 B PIC 9 COMP usage is binary. 05 G. 10 C DISPLAY PIC X. 10 D PIC X."
    ((0 ∷ 1 ∷ 0 ∷ 0 ∷ 5 ∷ 6 ∷ 0 ∷ []) ∷ (0 ∷ 1 ∷ 0 ∷ 0 ∷ 50 ∷ 6 ∷ 0 ∷ []) ∷ (0 ∷ 0 ∷ 0 ∷ 0 ∷ 5 ∷ 6 ∷ 0 ∷ []) ∷
    (0 ∷ 0 ∷ 0 ∷ 0 ∷ 69 ∷ 7 ∷ 0 ∷ []) ∷ (0 ∷ 0 ∷ 0 ∷ 0 ∷ 5 ∷ 6 ∷ 0 ∷ []) ∷ [])
    ∷ said "05 G COMP. 10 H COMP-3. 15 A PIC 9. 10 B PIC 9. 05 C PIC 9 VALUE COMP."
    ((0 ∷ 0 ∷ 0 ∷ 0 ∷ 5 ∷ 4 ∷ 0 ∷ []) ∷ (0 ∷ 0 ∷ 0 ∷ 0 ∷ 16 ∷ 6 ∷ 0 ∷ []) ∷ (0 ∷ 1 ∷ 0 ∷ 0 ∷ 16 ∷ 6 ∷ 0 ∷ []) ∷
    (0 ∷ 1 ∷ 0 ∷ 0 ∷ 5 ∷ 4 ∷ 0 ∷ []) ∷ (0 ∷ 1 ∷ 0 ∷ 0 ∷ 0 ∷ 0 ∷ 0 ∷ []) ∷ [])
    -- what SIGN keeps: TRAILING, neither word, LEADING, and the same with SEPARATE, which needs a SIGN; of the last
    -- SIGN, and not inherited; a picture without a sign has the clause too
    ∷ said "05 A PIC 9 SIGN TRAILING. 05 B PIC 9 SIGN IS. 05 C PIC 9 SIGN LEADING."
    ((0 ∷ 1 ∷ 0 ∷ 0 ∷ 0 ∷ 0 ∷ 1 ∷ []) ∷ (0 ∷ 1 ∷ 0 ∷ 0 ∷ 0 ∷ 0 ∷ 1 ∷ []) ∷ (0 ∷ 1 ∷ 0 ∷ 0 ∷ 0 ∷ 0 ∷ 2 ∷ []) ∷ [])
    ∷ said "05 A PIC S9 SIGN TRAILING SEPARATE. 05 B PIC S9 SIGN LEADING SEPARATE. 05 C PIC S9 SEPARATE."
    ((0 ∷ 1 ∷ 0 ∷ 1 ∷ 0 ∷ 0 ∷ 3 ∷ []) ∷ (0 ∷ 1 ∷ 0 ∷ 1 ∷ 0 ∷ 0 ∷ 4 ∷ []) ∷ (0 ∷ 1 ∷ 0 ∷ 1 ∷ 0 ∷ 0 ∷ 0 ∷ []) ∷ [])
    ∷ said "05 A PIC S9 SIGN LEADING SEPARATE SIGN TRAILING. 05 G SIGN LEADING. 10 B PIC S9."
    ((0 ∷ 1 ∷ 0 ∷ 1 ∷ 0 ∷ 0 ∷ 1 ∷ []) ∷ (0 ∷ 0 ∷ 0 ∷ 0 ∷ 0 ∷ 0 ∷ 2 ∷ []) ∷ (0 ∷ 1 ∷ 0 ∷ 1 ∷ 0 ∷ 0 ∷ 0 ∷ []) ∷ [])
    -- the slack at the end, of a base in a fold too; a group made by folding has none of all these
    ∷ said "05 G OCCURS 2 COMP SIGN LEADING. 10 A PIC 9 SYNC. 10 B PIC X. 05 C REDEFINES G PIC X."
    ((0 ∷ 0 ∷ 0 ∷ 0 ∷ 0 ∷ 0 ∷ 0 ∷ []) ∷ (1 ∷ 0 ∷ 0 ∷ 0 ∷ 14 ∷ 4 ∷ 2 ∷ []) ∷ (0 ∷ 1 ∷ 0 ∷ 0 ∷ 14 ∷ 4 ∷ 0 ∷ []) ∷
    (0 ∷ 0 ∷ 0 ∷ 0 ∷ 14 ∷ 4 ∷ 0 ∷ []) ∷ (0 ∷ 0 ∷ 0 ∷ 0 ∷ 0 ∷ 0 ∷ 0 ∷ []) ∷ [])
    -- the reasons of FISH's three entries, byte by byte; 53 past them, before 31; 31 where they have no room
    ∷ reasoned fish 0 (hex "01 00000000 00000000 00000000")
    ∷ reasoned fish 1 (hex "02 0c000000 03000000 05000000  03 00000000 00000000 01000000")
    ∷ reasoned fish 2 (hex "02 1d000000 04000000 08000000")
    ∷ not_reasoned fish 3 0 53 0 0
    ∷ not_reasoned fish 1 25 31 0 26
    ∷ not_reasoned "" 0 0 53 0 0
    ∷ not_reasoned "05 A PIC X." 18446744073709551615 13 53 0 0
    -- a refusal of the reader comes before 53
    ∷ not_reasoned "05 PIC X." 9 0 21 0 0
    -- slack only where there is some: the third item has it, the fourth needs none, the second is not aligned
    ∷ reasoned "05 A PIC X. 05 B PIC 9(4) COMP. 05 C PIC 9(4) COMP SYNC. 05 D PIC 9(4) COMP SYNC." 1 (why 2 3 1 1)
    ∷ reasoned "05 A PIC X. 05 B PIC 9(4) COMP. 05 C PIC 9(4) COMP SYNC. 05 D PIC 9(4) COMP SYNC." 2
    (why 2 15 1 3 ++ why 3 0 0 1)
    ∷ reasoned "05 A PIC X. 05 B PIC 9(4) COMP. 05 C PIC 9(4) COMP SYNC. 05 D PIC 9(4) COMP SYNC." 3 (why 2 35 1 6)
    -- groups in a group, each with its own reasons; the dropped root gives none
    ∷ reasoned nests 1 (why 2 9 1 3)
    ∷ reasoned nests 2 (why 1 0 0 0 ++ why 5 24 1 0 ++ why 2 9 1 3)
    ∷ reasoned nests 3 (why 2 30 1 1 ++ why 5 24 1 0 ++ why 2 9 1 3)
    ∷ reasoned nests 4 (why 1 0 0 0 ++ why 5 42 1 0 ++ why 2 30 1 1 ++ why 5 24 1 0 ++ why 2 9 1 3)
    ∷ reasoned nests 5 (why 2 57 1 1 ++ why 3 0 0 1 ++ why 5 42 1 0 ++ why 2 30 1 1 ++ why 5 24 1 0 ++ why 2 9 1 3)
    ∷ reasoned nests 6 (why 2 24 1 12)
    -- a folded group, its base, its redefiner, the members of that, and an item after the redefiner
    ∷ reasoned overlay 0 (why 1 0 0 0)
    ∷ reasoned overlay 1 (why 1 0 0 0)
    ∷ reasoned overlay 2 (why 4 3 1 0)
    ∷ reasoned overlay 3 (why 1 0 0 0 ++ why 5 18 1 0 ++ why 4 3 1 0)
    ∷ reasoned overlay 4 (why 2 36 1 1 ++ why 3 0 0 1 ++ why 5 18 1 0 ++ why 4 3 1 0)
    ∷ reasoned overlay 5 (why 2 3 1 2)
    -- a redefiner of a redefiner names that, by its own name; the cursor passes both
    ∷ reasoned layers 1 (why 2 3 1 1)
    ∷ reasoned layers 2 (why 2 3 1 1)
    ∷ reasoned layers 3 (why 4 15 1 1)
    ∷ reasoned layers 4 (why 4 30 1 1)
    ∷ reasoned layers 5 (why 2 15 1 5)
    -- the latest earlier sibling of that name
    ∷ reasoned "05 A PIC X. 05 A PIC X(2). 05 B REDEFINES A PIC X(3). 05 A PIC X(4). 05 C REDEFINES A PIC X(5)." 3
    (why 4 15 1 1)
    ∷ reasoned "05 A PIC X. 05 A PIC X(2). 05 B REDEFINES A PIC X(3). 05 A PIC X(4). 05 C REDEFINES A PIC X(5)." 6
    (why 4 57 1 3)
    -- a group with a member of its own name: its members are inside it, its redefiner is not
    ∷ reasoned homonym 1 (why 2 3 1 1)
    ∷ reasoned homonym 2 (why 1 0 0 0 ++ why 5 15 1 0 ++ why 2 3 1 1)
    ∷ reasoned homonym 3 (why 2 21 1 1 ++ why 5 15 1 0 ++ why 2 3 1 1)
    ∷ reasoned homonym 4 (why 4 15 1 1)
    ∷ reasoned homonym 5 (why 2 15 1 3)
    -- a redefiner without a base, for the one of its name is a redefiner itself
    ∷ reasoned "05 A PIC X. 05 B PIC X. 05 C REDEFINES B PIC X. 05 D REDEFINES C PIC X." 4 (why 4 27 1 1)
    -- DEPENDING ON before an item reserves nothing
    ∷ reasoned "05 N PIC 9(2). 05 T OCCURS 5 DEPENDING ON N PIC X(3). 05 Z PIC X. 05 Y PIC X." 1 (why 2 3 1 2)
    ∷ reasoned "05 N PIC 9(2). 05 T OCCURS 5 DEPENDING ON N PIC X(3). 05 Z PIC X. 05 Y PIC X." 2 (why 2 18 1 2)
    ∷ reasoned "05 N PIC 9(2). 05 T OCCURS 5 DEPENDING ON N PIC X(3). 05 Z PIC X. 05 Y PIC X." 3 (why 2 57 1 3)
    -- an item without a name is named by start 0 and length 0, and is FILLER for a REDEFINES
    ∷ reasoned nameless 1 (why 1 0 0 0 ++ why 5 0 0 0 ++ why 1 0 0 0)
    ∷ reasoned nameless 2 (why 2 0 0 1)
    ∷ reasoned nameless 4 (why 4 19 6 1)
    ∷ reasoned nameless 5 (why 2 19 6 3)
    ∷ reasoned nameless 7 (why 1 0 0 0 ++ why 5 0 0 0 ++ why 2 68 1 4)
    -- the sum may pass 32 bits, though no reason does
    ∷ reasoned faraway 5
    (why 2 119 1 2000000000 ++ why 5 84 1 0 ++ why 2 51 1 2000000000 ++ why 5 36 1 0 ++ why 2 3 1 2000000000)
    -- cards: names stand in the card text; 51 comes before 53
    ∷ cards (reasoned "000010 05 TAG PIC X.\n000020* no\n000030 05 SIRE PIC 9(4) COMP SYNC." 1
    (why 2 10 3 1 ++ why 3 0 0 1))
    ∷ cards (not_reasoned "000010 05 TAG PIC X." 1 0 53 0 0)
    ∷ cards (not_reasoned "000010 05 TAG PIC X." 0 12 31 0 13)
    ∷ cards (not_reasoned "      -" 0 12 51 6 0)
    -- values in quotes: neither a period nor `*>` counts inside a literal
    ∷ accepted "05 A PIC X VALUE 'St. 4'. 05 B PIC X." 2 false (column 0 1 Text ∷ column 1 1 Text ∷ [])
    ∷ accepted "05 A PIC X. 88 X VALUE 'a' 'b. c'. 05 B PIC X." 2 false (column 0 1 Text ∷ column 1 1 Text ∷ [])
    ∷ accepted "05 A PIC X VALUE \"it's. \". 05 B PIC X." 2 false (column 0 1 Text ∷ column 1 1 Text ∷ [])
    ∷ accepted "05 A PIC X VALUE X'00. 1'. 05 B PIC X." 2 false (column 0 1 Text ∷ column 1 1 Text ∷ [])
    ∷ accepted "05 A PIC X VALUE 'it''s. so'. 05 B PIC X." 2 false (column 0 1 Text ∷ column 1 1 Text ∷ [])
    ∷ accepted "05 A PIC X VALUE '*> no note'. 05 B PIC X." 2 false (column 0 1 Text ∷ column 1 1 Text ∷ [])
    ∷ accepted "05 A PIC X VALUE 'a.*> b'. 05 B PIC X." 2 false (column 0 1 Text ∷ column 1 1 Text ∷ [])
    ∷ accepted "05 A PIC X VALUE A'. 'B. 05 B PIC X." 2 false (column 0 1 Text ∷ column 1 1 Text ∷ [])
    ∷ accepted "05 A PIC X values\n'a. b'. 05 B PIC X." 2 false (column 0 1 Text ∷ column 1 1 Text ∷ [])
    -- white space in a literal separates words
    ∷ accepted "05 A PIC S9 SIGN LEADING VALUE 'a SEPARATE'." 1 false
    (column 0 1 (Decimal 1 0 NumRepr.Zoned SignKind.Embedded) ∷ [])
    ∷ accepted "05 A PIC S9 SIGN LEADING VALUE 'a SEPARATE b'." 2 false
    (column 0 2 (Int true SignKind.LeadingSeparate) ∷ [])
    -- a name that is VALUE, a target that is, a quote before VALUE, a word that only begins with it, what is cut or
    -- dropped
    ∷ turned_down "05 VALUE 'St. 4'." 10 14
    ∷ accepted "05 VALUE PIC X '. 05 B PIC X." 2 false (column 0 1 Text ∷ column 1 1 Text ∷ [])
    ∷ accepted "05 VALUE PIC X. 05 B REDEFINES VALUE PIC X 'St. 4'. 05 C PIC X." 2 false
    (column 0 1 Group ∷ column 0 1 Text ∷ column 0 1 Text ∷ column 1 1 Text ∷ [])
    ∷ accepted "05 A' PIC X VALUE 'a. b'. 05 B PIC X." 2 false (column 0 1 Text ∷ column 1 1 Text ∷ [])
    ∷ turned_down "05 A PIC X VALUE'St. 4'." 10 21
    ∷ accepted "05 A PIC X VALUE *> 'open\n5. 05 B PIC X." 2 false (column 0 1 Text ∷ column 1 1 Text ∷ [])
    ∷ accepted "05 A PIC X VALUE 5\n* 'open\n. 05 B PIC X." 2 false (column 0 1 Text ∷ column 1 1 Text ∷ [])
    -- 50: a literal that its line does not close, before any 10; 2 comes before it
    ∷ turned_down "05 A PIC X VALUE 'open" 50 17
    ∷ turned_down "05 A PIC X VALUE 'open *> x" 50 17
    ∷ turned_down "05 A PIC X VALUE 'open *> x'x'" 50 29
    ∷ turned_down "05 A PIC X VALUE 'a' 'open.\n'. 05 B PIC X." 50 21
    ∷ turned_down "05 A PIC X VALUE \"a'. 05 B PIC X." 50 17
    ∷ turned_down "05 A VALUE 'a 'b'" 50 16
    ∷ turned_down "05 A PIC X VALUE 5 IT'S." 50 21
    ∷ turned_down "X. 05 A PIC X VALUE 5. 88 Y VALUE '" 50 34
    ∷ turned_down "05 A B VALUE '\u{80}" 2 14
    -- a usage on the dropped root, on one root of two, on a middle group, through groups that name none
    ∷ accepted "01 R COMP. 05 A PIC 9(4). 05 B PIC 9(9)." 6 false
    (column 0 2 (Binary false) ∷ column 2 4 (Binary false) ∷ [])
    ∷ accepted "01 R COMP. 05 A PIC 9(4). 01 S PIC 9(4)." 6 false
    (column 0 2 Group ∷ column 0 2 (Binary false) ∷ column 2 4 (Int false SignKind.Unsigned) ∷ [])
    ∷ accepted "01 R. 05 A PIC 9(4). 05 G COMP. 10 B PIC 9(4). 10 C PIC 9(5). 05 D PIC 9(4)." 14 false
    (column 0 4 (Int false SignKind.Unsigned) ∷ column 4 6 Group ∷ column 0 2 (Binary false) ∷
    column 2 4 (Binary false) ∷ column 10 4 (Int false SignKind.Unsigned) ∷ [])
    ∷ accepted "01 R COMP. 05 G. 10 H. 15 A PIC 9(5)." 4 false
    (column 0 4 Group ∷ column 0 4 Group ∷ column 0 4 (Binary false) ∷ [])
    -- on two groups, one in the other: the nearer one holds, and the outer one again after it
    ∷ accepted "01 R COMP. 05 H COMP-3. 10 A PIC 9(5). 05 B PIC 9(5)." 7 false
    (column 0 3 Group ∷ column 0 3 packed5 ∷ column 3 4 (Binary false) ∷ [])
    -- a member's own holds; DISPLAY on a member and on an inner group takes the outer one back
    ∷ accepted "01 R COMP. 05 A PIC 9(5) COMP-3. 05 B PIC 9(5) DISPLAY. 05 C PIC 9(5)." 12 false
    (column 0 3 packed5 ∷ column 3 5 (Int false SignKind.Unsigned) ∷ column 8 4 (Binary false) ∷ [])
    ∷ accepted "01 R COMP. 05 G USAGE IS DISPLAY. 10 A PIC 9(5). 05 B PIC 9(5)." 9 false
    (column 0 5 Group ∷ column 0 5 (Int false SignKind.Unsigned) ∷ column 5 4 (Binary false) ∷ [])
    ∷ accepted "01 R DISPLAY. 05 G COMP. 10 A PIC 9(5). 05 B PIC 9(5)." 9 false
    (column 0 4 Group ∷ column 0 4 (Binary false) ∷ column 4 5 (Int false SignKind.Unsigned) ∷ [])
    -- on a redefining group
    ∷ accepted "05 A PIC X(8). 05 B REDEFINES A COMP. 10 C PIC 9(4). 10 D PIC 9(9). 05 E PIC 9(4)." 12 false
    (column 0 8 Group ∷ column 0 8 Text ∷ column 0 6 Group ∷ column 0 2 (Binary false) ∷ column 2 4 (Binary false) ∷
    column 8 4 (Int false SignKind.Unsigned) ∷ [])
    -- SYNC under an inherited COMP: slack, and its owner; SYNC and SIGN are not inherited
    ∷ accepted counts 12 false
    (column 0 1 Text ∷ column 4 4 (Binary false) ∷ column 8 4 Group ∷ column 0 1 Text ∷ column 2 2 (Binary false) ∷ [])
    ∷ owned counts 1 (Owner.Slack 1)
    ∷ owned counts 5 (Owner.Piece 1 4 1)
    ∷ owned counts 9 (Owner.Slack 4)
    ∷ owned counts 10 (Owner.Piece 4 10 0)
    ∷ owned "01 R COMP. 05 A PIC X. 05 B PIC 9(4) SYNC DISPLAY." 1 (Owner.Piece 1 1 0)
    ∷ accepted "01 R COMP SYNC. 05 A PIC X. 05 B PIC 9(4)." 3 false (column 0 1 Text ∷ column 1 2 (Binary false) ∷ [])
    ∷ accepted "01 R SIGN LEADING SEPARATE. 05 A PIC S9." 1 false
    (column 0 1 (Decimal 1 0 NumRepr.Zoned SignKind.Embedded) ∷ [])
    -- text stays text, and an edited picture is a number under an inherited COMP; 27 counts a mask only under DISPLAY
    ∷ accepted "01 R COMP. 05 A PIC X(3). 05 B PIC ZZ9.99. 05 C PIC B(256)9." 9 false
    (column 0 3 Text ∷ column 3 4 (Binary false) ∷ column 7 2 (Binary false) ∷ [])
    ∷ accepted "01 R COMP-3. 05 A PIC -ZZ9.99. 05 B PIC A." 4 false
    (column 0 3 (Decimal 5 2 NumRepr.Comp3 SignKind.Embedded) ∷ column 3 1 Text ∷ [])
    ∷ turned_down "01 R COMP. 05 C PIC B(256)9 DISPLAY." 27 11
    -- of several usage words the last holds
    ∷ accepted "05 A COMP DISPLAY PIC 9(4)." 4 false (column 0 4 (Int false SignKind.Unsigned) ∷ [])
    ∷ accepted "05 A DISPLAY PIC 9(4) COMP." 2 false (column 0 2 (Binary false) ∷ [])
    ∷ accepted "05 A PIC 9(4) comp usage display." 4 false (column 0 4 (Int false SignKind.Unsigned) ∷ [])
    ∷ accepted "05 A COMP DISPLAY PIC 9(5) COMP-3." 3 false (column 0 3 packed5 ∷ [])
    -- DISPLAY names a usage where a clause may begin, and nowhere else
    ∷ accepted "05 A COMP PIC 9(4) OCCURS 2 DISPLAY." 8 false (column 0 4 (Int false SignKind.Unsigned) ∷ [])
    ∷ accepted "05 A COMP PIC 9(4) OCCURS 1 TO 2 DISPLAY." 8 false (column 0 4 (Int false SignKind.Unsigned) ∷ [])
    ∷ accepted "05 A COMP PIC 9(4) OCCURS 2 TIMES DISPLAY." 8 false (column 0 4 (Int false SignKind.Unsigned) ∷ [])
    ∷ accepted "05 DISPLAY COMP PIC 9(4)." 2 false (column 0 2 (Binary false) ∷ [])
    ∷ accepted "05 A COMP PIC S9(4) SIGN DISPLAY." 2 false (column 0 2 (Binary true) ∷ [])
    ∷ accepted "05 A COMP PIC 9(4) VALUE 5 DISPLAY." 2 false (column 0 2 (Binary false) ∷ [])
    ∷ turned_down "05 A COMP PIC DISPLAY." 25 0
    -- the copybooks that stay as they were
    ∷ as_before "01 R. 05 A PIC 9 DISPLAY COMP. 05 B PIC 9 DISPLAY. 88 X COMP DISPLAY. 05 COMP PIC X VALUE DISPLAY." true
    ∷ as_before "05 A COMP PIC DISPLAY." true
    ∷ as_before "05 A COMP PIC 9 DISPLAY." false
    ∷ as_before "05 A COMP PIC 9 DISPLAY COMP." false
    ∷ as_before "01 R DISPLAY. 05 A PIC 9." false
    ∷ as_before "01 R. 05 G COMP. 10 A PIC X." false
    -- cards, too
    ∷ cards (accepted "000100 01 R COMP.\n000200     05 A PIC 9(4)." 2 false (column 0 2 (Binary false) ∷ []))
    -- floats, each spelling, wherever the word stands
    ∷ accepted
    "05 A COMP-1. 05 B COMPUTATIONAL-1. 05 C COMP-2. 05 D COMPUTATIONAL-2. 05 E usage is comp-1. 05 F USAGE Comp-2."
    36 false
    (column 0 4 (Float 32) ∷ column 4 4 (Float 32) ∷ column 8 8 (Float 64) ∷ column 16 8 (Float 64) ∷
    column 24 4 (Float 32) ∷ column 28 8 (Float 64) ∷ [])
    ∷ accepted "05 COMP-1 PIC X VALUE COMP-2. 05 A COMP-1 COMP PIC 9(4). 05 B COMP COMP-2." 11 false
    (column 0 1 Text ∷ column 1 2 (Binary false) ∷ column 3 8 (Float 64) ∷ [])
    ∷ listed "05 A COMP-1." 49
    (hex "00 04000000 00 01000000 07 03000000 01000000 00000000 04000000"
    ++ hex "00 00000000 00000000 00000000 00000000 00000000 20")
    ∷ listed "05 A COMP-2." 49
    (hex "00 08000000 00 01000000 07 03000000 01000000 00000000 08000000"
    ++ hex "00 00000000 00000000 00000000 00000000 00000000 40")
    ∷ no_room "05 A COMP-2." 48 49
    ∷ detailed "05 A COMP-2."
    (rootless 1 ++ facts 0 5 0 false 0 0 0 absent absent absent ++ more 0 0 0 false (span 5 6) 0)
    -- SYNC before and after the usage, at odd offsets: slack, its owner and its reason; without SYNC none
    ∷ accepted floats 25 false
    (column 0 1 Text ∷ column 4 4 (Float 32) ∷ column 8 1 Text ∷ column 16 8 (Float 64) ∷ column 24 1 Text ∷ [])
    ∷ owned floats 1 (Owner.Slack 1)
    ∷ owned floats 7 (Owner.Piece 1 4 3)
    ∷ owned floats 9 (Owner.Slack 3)
    ∷ owned floats 15 (Owner.Slack 3)
    ∷ owned floats 16 (Owner.Piece 3 16 0)
    ∷ reasoned floats 3 (hex "02 21000000 01000000 09000000  03 00000000 00000000 07000000")
    ∷ detailed "05 A PIC X. 05 B COMP-1 SYNC."
    (rootless 2
    ++ facts 0 5 0 false 0 0 0 (span 9 1) absent absent ++ no_more
    ++ facts 12 5 0 false 0 4 3 absent absent absent ++ more 0 0 0 false (span 17 6) 0)
    ∷ accepted "05 A PIC X. 05 B COMP-1. 05 C COMP-2." 13 false
    (column 0 1 Text ∷ column 1 4 (Float 32) ∷ column 5 8 (Float 64) ∷ [])
    -- 4 after 4 has none, 8 after 4 has
    ∷ accepted "05 A COMP-1. 05 B COMP-1 SYNC. 05 C COMP-1. 05 D COMP-2 SYNC LEFT." 24 false
    (column 0 4 (Float 32) ∷ column 4 4 (Float 32) ∷ column 8 4 (Float 32) ∷ column 16 8 (Float 64) ∷ [])
    -- inherited, through groups and from a dropped root; a member's own usage holds, SYNC is not inherited
    ∷ accepted "01 R COMP-1 SYNC. 05 X PIC X DISPLAY. 05 A. 05 G. 10 B. 10 C COMP-2. 05 H COMP. 10 D PIC 9(4)." 19 false
    (column 0 1 Text ∷ column 1 4 (Float 32) ∷ column 5 12 Group ∷ column 0 4 (Float 32) ∷ column 4 8 (Float 64) ∷
    column 17 2 Group ∷ column 0 2 (Binary false) ∷ [])
    ∷ accepted "05 X PIC X. 05 G COMP-2. 10 A PIC X COMP. 10 B SYNC. 05 C PIC X." 17 false
    (column 0 1 Text ∷ column 1 15 Group ∷ column 0 1 Text ∷ column 7 8 (Float 64) ∷ column 16 1 Text ∷ [])
    ∷ owned "01 R COMP-1. 05 X PIC X DISPLAY. 05 A SYNC." 3 (Owner.Slack 1)
    -- a group is a group, whatever usage it has and whatever its picture
    ∷ accepted "05 X COMP-2. 05 G COMP-1 PIC X. 10 A." 12 false
    (column 0 8 (Float 64) ∷ column 8 4 Group ∷ column 0 4 (Float 32) ∷ [])
    ∷ accepted "01 R COMP-2 PIC 9. 05 A PIC X DISPLAY." 1 false (column 0 1 Text ∷ [])
    -- 52: a float with a picture, its usage inherited too, before all that the picture says and before 28
    ∷ turned_down "05 A PIC X. 05 B COMP-2 PIC S9(4)." 52 12
    ∷ turned_down "05 A PIC X COMP-1." 52 0
    ∷ turned_down "01 R COMP-1. 05 A. 05 B PIC 9." 52 19
    ∷ turned_down "01 R COMP-2. 05 G. 10 A PIC X." 52 19
    ∷ turned_down "05 A REDEFINES Z COMP-1 PIC (." 52 0
    ∷ turned_down "05 A REDEFINES Z COMP-1." 28 0
    -- 21 and 52 have one place, and floats never meet 21; a bare PIC takes the picture back
    ∷ turned_down "05 A. 05 B COMP-1 PIC X." 21 0
    ∷ turned_down "05 A COMP-1 PIC X. 05 B." 52 0
    ∷ turned_down "01 R COMP-1. 05 A COMP." 21 13
    ∷ accepted "05 A COMP-1 PIC X PIC." 4 false (column 0 4 (Float 32) ∷ [])
    ∷ accepted "01 R COMP-2. 05 A PIC IS." 8 false (column 0 8 (Float 64) ∷ [])
    -- OCCURS, also 0 and DEPENDING ON, and 29
    ∷ accepted "05 X PIC X. 05 A COMP-2 OCCURS 3 SYNC." 32 false (column 0 1 Text ∷ column 8 8 (Float 64) ∷ [])
    ∷ accepted "05 X PIC X. 05 A COMP-1 OCCURS 0 SYNC. 05 B PIC X." 5 false
    (column 0 1 Text ∷ column 4 4 (Float 32) ∷ column 4 1 Text ∷ [])
    ∷ owned "05 X PIC X. 05 A COMP-1 OCCURS 0 SYNC. 05 B PIC X." 3 (Owner.Slack 1)
    ∷ accepted "05 N PIC 9. 05 A COMP-1 OCCURS 1 TO 5 DEPENDING ON N." 1 true
    (column 0 1 (Int false SignKind.Unsigned) ∷ column 1 4 (Float 32) ∷ [])
    ∷ turned_down "05 X PIC X OCCURS 2147483641. 05 A COMP-2 SYNC OCCURS 0." 29 30
    -- REDEFINES of and by floats: a redefiner is not aligned
    ∷ accepted "05 A PIC X(3). 05 B REDEFINES A COMP-2 SYNC. 05 C PIC X." 8 false
    (column 0 8 Group ∷ column 0 3 Text ∷ column 0 8 (Float 64) ∷ column 3 1 Text ∷ [])
    ∷ accepted "05 X PIC X. 05 A COMP-1 SYNC. 05 B REDEFINES A PIC X(5). 05 C COMP-1." 12 false
    (column 0 1 Text ∷ column 4 5 Group ∷ column 0 4 (Float 32) ∷ column 0 5 Text ∷ column 8 4 (Float 32) ∷ [])
    -- cards, too; and copybooks without these words stay as they were
    ∷ cards (accepted "000100 01 R COMP-2.\n000200     05 A." 8 false (column 0 8 (Float 64) ∷ []))
    ∷ cards (turned_down "000100 01 R COMP-2.\n000200     05 A PIC X." 52 31)
    ∷ as_before "05 COMP-1 PIC X VALUE COMP-2. 88 A COMP-1. 05 B PIC COMP-1." true
    ∷ as_before "05 A COMP-1." false
    ∷ as_before "05 A PIC 9 COMPUTATIONAL-2 COMP." false
    -- one key for a family: sets of 2 to 16 whose lengths add up, however large, before any reading
    ∷ keyed "Tag" (pair "01 FISH. 05 TAG PIC X(5). 05 WT PIC 9." "05 tag PIC XXXXX.") 0 5
    ∷ keyed "K" (copies 2 "05 A PIC X(3). 05 K PIC X(2).") 3 2
    ∷ keyed "K" (copies 16 "05 K PIC X.") 0 1
    ∷ not_keyed "K" [] 56 0
    ∷ not_keyed "K" (copies 1 "05 K PIC X.") 56 0
    ∷ not_keyed "K" (copies 17 "05 K PIC X.") 56 0
    ∷ not_a_set "05 K PIC X.05 K PIC X." (11 ∷ 10 ∷ []) LEAST_WORK 56 0
    ∷ not_a_set "05 K PIC X.05 K PIC X." (11 ∷ 12 ∷ []) LEAST_WORK 56 0
    ∷ not_a_set "05 K PIC X.05 K PIC X." (18446744073709551615 ∷ 23 ∷ []) LEAST_WORK 56 0
    ∷ not_a_set "\u{80}" (1 ∷ []) LEAST_WORK 56 0
    ∷ not_a_set "\u{80}" (1 ∷ 1 ∷ []) 0 56 0
    ∷ not_a_set "05 K PIC X.\u{80}" (11 ∷ 1 ∷ []) LEAST_WORK 2 0
    ∷ not_a_set "05 K PIC X.05 K PIC X." (11 ∷ 11 ∷ []) 16383 3 0
    ∷ not_a_set "05 K PIC X." (11 ∷ 0 ∷ []) LEAST_WORK 57 0
    -- the first refusal of a reader, its position counted in that copybook; 57 after all are read
    ∷ not_keyed "K" (pair "05 K PIC X." " 05 K PIC Q.") 25 1
    ∷ not_keyed "K" (pair "05 L PIC X." "05 K PIC Q.") 25 0
    ∷ not_keyed "K" (pair "05 K." "05 K PIC Q.") 21 0
    -- exactly one entry of the name at the top, case aside; one in a group is none
    ∷ not_keyed "K" (pair "05 K PIC X." "05 L PIC X.") 57 0
    ∷ not_keyed "K" (copies 2 "05 K PIC X. 05 k PIC X.") 57 0
    ∷ not_keyed "K" (copies 2 "01 R. 05 G. 10 K PIC X.") 57 0
    ∷ keyed "K" (pair "01 R. 05 K PIC X. 05 G. 10 K PIC X." "01 K PIC X.") 0 1
    ∷ not_keyed "K" (copies 2 "01 R. 05 K PIC X. 01 S PIC X.") 57 0
    ∷ keyed "filler" (copies 2 "05 FILLER PIC X.") 0 1
    ∷ not_keyed "FILLER" (copies 2 "05 FILLER PIC X. 05. 10 A PIC X.") 57 0
    ∷ not_keyed "" (copies 2 "05 FILLER PIC X.") 57 0
    ∷ not_keyed "\u{80}" (copies 2 "05 K PIC X.") 57 0
    -- a group, one made by folding included, and an entry with OCCURS or REDEFINES are no key
    ∷ not_keyed "K" (copies 2 "05 K. 10 A PIC X.") 57 0
    ∷ not_keyed "K" (copies 2 "05 K PIC X. 05 B REDEFINES K PIC X.") 57 0
    ∷ not_keyed "B" (copies 2 "05 K PIC X. 05 B REDEFINES K PIC X.") 57 0
    ∷ not_keyed "K" (copies 2 "05 K PIC X OCCURS 1.") 57 0
    ∷ not_keyed "K" (copies 2 "05 K PIC X OCCURS 0.") 57 0
    ∷ not_keyed "K" (copies 2 "01 R. 05 A PIC X. 05 B REDEFINES A PIC X. 05 K REDEFINES B PIC X.") 57 0
    -- nor one behind a DEPENDING ON in the listing, at any depth; one that folding lost does not count
    ∷ not_keyed "K" (copies 2 "05 T PIC X OCCURS 2 DEPENDING ON N. 05 K PIC X.") 57 0
    ∷ not_keyed "K" (copies 2 "05 G. 10 T PIC X OCCURS 2 DEPENDING ON N. 05 A PIC X. 05 K PIC X.") 57 0
    ∷ keyed "K" (copies 2 "05 K PIC X. 05 T PIC X OCCURS 2 DEPENDING ON N.") 0 1
    ∷ not_keyed "K" (copies 2 "05 T PIC X OCCURS 2 DEPENDING ON N. 05 B REDEFINES T PIC X. 05 K PIC X.") 57 0
    ∷ keyed "K" (copies 2 "05 G OCCURS 2 DEPENDING ON N. 10 G PIC X. 05 B REDEFINES G PIC X. 05 K PIC X.") 0 1
    -- all agree in offset, width, kind and kind details
    ∷ not_keyed "K" (pair "05 K PIC X." "05 A PIC X. 05 K PIC X.") 57 0
    ∷ not_keyed "K" (pair "05 K PIC X." "05 K PIC XX.") 57 0
    ∷ not_keyed "K" (pair "05 K PIC X." "05 K PIC 9.") 57 0
    ∷ not_keyed "K" ("05 K PIC X." ∷ "05 K PIC 9." ∷ "05 K PIC X." ∷ []) 57 0
    ∷ not_keyed "K" (pair "05 K PIC S9 SIGN LEADING SEPARATE." "05 K PIC S9 SIGN TRAILING SEPARATE.") 57 0
    ∷ not_keyed "K" (pair "05 K PIC S9 SIGN LEADING SEPARATE." "05 K PIC 99.") 57 0
    ∷ not_keyed "K" (pair "05 K PIC 9 COMP." "05 K PIC S9 COMP.") 57 0
    ∷ keyed "K" (pair "05 K PIC 9 COMP." "05 K PIC 9(4) COMP.") 0 2
    ∷ not_keyed "K" (pair "05 K PIC 9(4) COMP-3." "05 K PIC 9(5) COMP-3.") 57 0
    ∷ not_keyed "K" (pair "05 K PIC 99V9." "05 K PIC 9V99.") 57 0
    ∷ not_keyed "K" (pair "05 K PIC S9V9." "05 K PIC 9V9.") 57 0
    ∷ not_keyed "K" (pair "05 K PIC 9V9." "05 K PIC 9V9 COMP-3.") 57 0
    ∷ keyed "K" (pair "05 K COMP-1." "01 R COMP-1. 05 K.") 0 4
    ∷ not_keyed "K" (pair "05 K COMP-1." "05 K PIC X(4).") 57 0
    ∷ not_keyed "K" (pair "05 K COMP-1." "05 K COMP-2.") 57 0
    -- an edited key by its mask and not by its place in the text
    ∷ keyed "K" (pair "05 K PIC ZZ9." "01 REC. 05 K PIC z(2)9.") 0 3
    ∷ not_keyed "K" (pair "05 K PIC ZZ9." "05 K PIC Z99.") 57 0
    ∷ not_keyed "K" (pair "05 K PIC ZZ9P." "05 K PIC ZPZ9.") 57 0
    ∷ not_keyed "K" (pair "05 K PIC ZVZ." "05 K PIC ZZ.") 57 0
    ∷ keyed "K" (pair "05 K PIC ZZ9 COMP." "05 K PIC 9 COMP.") 0 2
    -- cards: `000010 01 REC` is level 1, and as free text level 10 with the name 01; places are those in the card text
    ∷ cards (detailed "000010 01 REC PIC X."
    (rootless 1 ++ facts 7 1 0 false 0 0 0 (span 18 1) absent absent ++ no_more))
    ∷ detailed "000010 01 REC PIC X." (rootless 1 ++ facts 0 10 0 false 0 0 0 (span 18 1) absent absent ++ no_more)
    ∷ cards (detailed "000010 01 REC\n000020 COMP. 05 A PIC 9."
    (head 7 1 (span 10 3) 1 ++ facts 27 5 0 false 0 0 0 (span 36 1) absent absent ++ more 0 1 0 false (span 21 4) 0))
    ∷ cards (listed "000010 01 R. 05 TAG\n000020* no\n000030 PIC X." 48
    (hex "00 01000000 00 01000000 01 10000000 03000000 00000000 01000000"
    ++ hex "00 00000000 00000000 00000000 00000000 00000000"))
    ∷ cards (no_room "000010 05 TAG PIC X." 47 48)
    ∷ cards (no_details "000010 05 TAG PIC X." 79 80)
    ∷ cards (accepted card_fish 20 false
    (column 0 5 Text ∷ column 6 2 (Binary false) ∷ column 8 4 (Decimal 4 1 NumRepr.Display SignKind.Unsigned) ∷ []))
    ∷ cards (owned card_fish 5 (Owner.Slack 1))
    ∷ cards (not_owned card_fish 20 41)
    -- last lines of 0, 6, 7, 8, 72, 73 and 80 columns
    ∷ ending "" []
    ∷ ending "000100 05 A PIC X\n" (column 0 1 Text ∷ [])
    ∷ ending "000100 05 A PIC X\n000200" (column 0 1 Text ∷ [])
    ∷ ending "000100 05 A PIC X\n000200 " (column 0 1 Text ∷ [])
    ∷ ending "000100 05 A PIC X\n000200*" (column 0 1 Text ∷ [])
    ∷ ending "000100 05 A PIC\n000200 X" (column 0 1 Text ∷ [])
    ∷ ending "000100                                                       05 A PIC XX" (column 0 2 Text ∷ [])
    ∷ ending "000100                                                       05 A PIC XXX" (column 0 2 Text ∷ [])
    ∷ ending "000100                                                       05 A PIC XXXXXXXXXX" (column 0 2 Text ∷ [])
    -- a period, a `*>` and a literal that reach column 72, and those that go on behind it
    ∷ cards (accepted
    "000100                                                       05 A PIC X.X\n       05 B PIC X."
    2 false (column 0 1 Text ∷ column 1 1 Text ∷ []))
    ∷ cards (accepted
    "000100                                                        05 A PIC X.\n       05 B PIC XX."
    2 false (column 0 2 Text ∷ []))
    ∷ cards (accepted
    "000100                                                      05 A PIC X*>X\n       ."
    1 false (column 0 1 Text ∷ []))
    ∷ cards (turned_down "000100                                                       05 A PIC X*>\n       ." 26 61)
    ∷ cards (accepted
    "000100                                             05 A PIC X VALUE '. ''\r\n       ."
    1 false (column 0 1 Text ∷ []))
    ∷ cards (turned_down "000100                                              05 A PIC X VALUE '. '\n       ." 50 69)
    -- what is ignored says nothing, and the rules of free text hold for what is left
    ∷ cards (accepted "000100 05 A\n000200* VALUE '\n000300 PIC X." 1 false (column 0 1 Text ∷ []))
    ∷ cards (accepted "000100   * 05 NO PIC X.\n       05 A PIC X." 1 false (column 0 1 Text ∷ []))
    ∷ cards (accepted "05 A   05 B PIC X." 1 false (column 0 1 Text ∷ []))
    ∷ cards (turned_down "000100 05 A PIC X9\n" 26 7)
    -- 51, at the first indicator that is none of the four, before 50
    ∷ indicators "\n\r */D"
    ∷ cards (turned_down "000100\r\r\n" 51 6)
    ∷ cards (turned_down "000100 05 A PIC X VALUE 'a\n000200- b'." 51 33)
    ∷ cards (turned_down "000100*\n000200d\n000300-" 51 14)
    -- 2 comes before 51, and looks at ignored columns too
    ∷ cards (turned_down "000100-\u{80}" 2 7)
    ∷ cards (turned_down "000100*                                                                 \u{80}" 2 72)
    -- an extract of FISH, whose items reserve 5, 2 and 12 bytes; the first item is the lowest bit, slack is not counted
    ∷ extracts fish (5 ∷ 3 ∷ 9 ∷ []) 19 8 (7 ∷ 17 ∷ 8 ∷ 0 ∷ [])
    ∷ extracts fish (5 ∷ 3 ∷ 9 ∷ []) 18 8 (5 ∷ 14 ∷ 8 ∷ 0 ∷ [])
    ∷ extracts fish (5 ∷ 3 ∷ 9 ∷ []) 14 8 (6 ∷ 12 ∷ 8 ∷ 0 ∷ [])
    -- the limit need not be met exactly
    ∷ extracts fish (5 ∷ 3 ∷ 9 ∷ []) 13 8 (4 ∷ 9 ∷ 8 ∷ 0 ∷ [])
    ∷ extracts fish (5 ∷ 3 ∷ 9 ∷ []) 1 8 (0 ∷ 0 ∷ 8 ∷ 0 ∷ [])
    ∷ extracts fish (5 ∷ 3 ∷ 9 ∷ []) 18446744073709551615 8 (7 ∷ 17 ∷ 8 ∷ 0 ∷ [])
    -- the earliest if equal
    ∷ extracts fish (4 ∷ 5 ∷ 9 ∷ []) 13 8 (3 ∷ 9 ∷ 8 ∷ 0 ∷ [])
    -- the number looked at is the smaller of the budget and all subsets, and with all looked at it is off by 0
    ∷ extracts fish (5 ∷ 3 ∷ 9 ∷ []) 19 7 (5 ∷ 14 ∷ 7 ∷ 3 ∷ [])
    ∷ extracts fish (5 ∷ 3 ∷ 9 ∷ []) 14 7 (6 ∷ 12 ∷ 7 ∷ 5 ∷ [])
    ∷ extracts fish (5 ∷ 3 ∷ 9 ∷ []) 14 9 (6 ∷ 12 ∷ 8 ∷ 0 ∷ [])
    ∷ extracts fish (5 ∷ 3 ∷ 9 ∷ []) 14 1 (0 ∷ 0 ∷ 1 ∷ 17 ∷ [])
    -- it is off by what all items that fit alone weigh more, whether they fit together or not
    ∷ extracts fish (5 ∷ 3 ∷ 9 ∷ []) 12 3 (1 ∷ 5 ∷ 3 ∷ 12 ∷ [])
    ∷ extracts fish (5 ∷ 3 ∷ 9 ∷ []) 11 3 (1 ∷ 5 ∷ 3 ∷ 3 ∷ [])
    ∷ extracts fish (5 ∷ 3 ∷ 9 ∷ []) 5 3 (1 ∷ 5 ∷ 3 ∷ 3 ∷ [])
    ∷ extracts fish (5 ∷ 3 ∷ 9 ∷ []) 4 3 (2 ∷ 3 ∷ 3 ∷ 0 ∷ [])
    -- a group reserves its width for each occurrence; an item that stands 0 times reserves nothing
    ∷ extracts tank (1 ∷ 9 ∷ 2 ∷ 4 ∷ 1 ∷ []) 16 32 (10 ∷ 13 ∷ 32 ∷ 0 ∷ [])
    ∷ extracts tank (1 ∷ 9 ∷ 2 ∷ 4 ∷ 1 ∷ []) 15 32 (29 ∷ 8 ∷ 32 ∷ 0 ∷ [])
    ∷ extracts tank (1 ∷ 9 ∷ 2 ∷ 4 ∷ 1 ∷ []) 0 32 (8 ∷ 4 ∷ 32 ∷ 0 ∷ [])
    -- without items there is one subset, the empty one
    ∷ extracts "" [] 0 1 (0 ∷ 0 ∷ 1 ∷ 0 ∷ [])
    -- up to 16 items, however many are below them, and weights from `LEAST_WEIGHT` to `MOST_WEIGHT`
    ∷ extracts sixteen (many 16 1000) 16 2 (1 ∷ 1000 ∷ 2 ∷ 15000 ∷ [])
    ∷ extracts sixteen (many 16 1) 0 5 (0 ∷ 0 ∷ 5 ∷ 0 ∷ [])
    -- the reader's refusals, then 40, a dropped root's own clauses aside,
    ∷ not_extracted "05 A PIC X9. 05 B REDEFINES A PIC X." [] 9 0 26
    ∷ not_extracted "05 A PIC X. 05 B REDEFINES A PIC X." [] 9 0 40
    ∷ not_extracted "05 A PIC X. 05 B. 10 C OCCURS 2 DEPENDING ON A PIC X." [] 9 0 40
    ∷ extracts "01 R REDEFINES X OCCURS 2 DEPENDING ON N. 05 A PIC X." (7 ∷ []) 1 2 (1 ∷ 7 ∷ 2 ∷ 0 ∷ [])
    -- 58 for more than 16 items or another number of weights than of items,
    ∷ not_extracted (joined sixteen " 5 R PIC X.") (many 17 1) 9 9 58
    ∷ not_extracted (joined sixteen " 5 R PIC X.") (many 16 0) 9 0 58
    ∷ not_extracted fish (5 ∷ 3 ∷ []) 19 8 58
    ∷ not_extracted fish (5 ∷ 3 ∷ 9 ∷ 1 ∷ []) 19 8 58
    ∷ not_extracted fish (0 ∷ 0 ∷ []) 19 0 58
    ∷ not_extracted "" (1 ∷ []) 0 1 58
    -- 59 for a weight outside its range,
    ∷ not_extracted fish (0 ∷ 3 ∷ 9 ∷ []) 19 8 59
    ∷ not_extracted fish (5 ∷ 3 ∷ 1001 ∷ []) 19 8 59
    ∷ not_extracted fish (5 ∷ 0 ∷ 9 ∷ []) 19 0 59
    ∷ extracts fish (1 ∷ 1000 ∷ 1 ∷ []) 7 8 (3 ∷ 1001 ∷ 8 ∷ 0 ∷ [])
    -- and 60 for a budget of 0
    ∷ not_extracted fish (5 ∷ 3 ∷ 9 ∷ []) 19 0 60
    ∷ not_extracted "" [] 0 0 60
    -- words: those of each statement, with the place of its period or, without one, the length of the text
    ∷ worded "" []
    ∷ worded "01 A. 05 B PIC X." ((4 ∷ 0 ∷ 2 ∷ 3 ∷ 1 ∷ []) ∷ (16 ∷ 6 ∷ 2 ∷ 9 ∷ 1 ∷ 11 ∷ 3 ∷ 15 ∷ 1 ∷ []) ∷ [])
    ∷ worded "05 A PIC 9.9 " ((13 ∷ 0 ∷ 2 ∷ 3 ∷ 1 ∷ 5 ∷ 3 ∷ 9 ∷ 3 ∷ []) ∷ [])
    ∷ worded "05 A\n* x.\n. *> 05 B." ((10 ∷ 0 ∷ 2 ∷ 3 ∷ 1 ∷ []) ∷ [])
    -- empty statements have none, level 88 has its own,
    ∷ worded ". . 05 A. ." ((8 ∷ 4 ∷ 2 ∷ 7 ∷ 1 ∷ []) ∷ [])
    ∷ worded "88 B VALUE 'a. b'. 05 A."
    ((17 ∷ 0 ∷ 2 ∷ 3 ∷ 1 ∷ 5 ∷ 5 ∷ 11 ∷ 3 ∷ 15 ∷ 2 ∷ []) ∷ (23 ∷ 19 ∷ 2 ∷ 22 ∷ 1 ∷ []) ∷ [])
    -- and so has what is refused for what it says
    ∷ turned_down "X PIC. 05 A PIC XX9." 10 0
    ∷ worded "X PIC. 05 A PIC XX9."
    ((5 ∷ 0 ∷ 1 ∷ 2 ∷ 3 ∷ []) ∷ (19 ∷ 7 ∷ 2 ∷ 10 ∷ 1 ∷ 12 ∷ 3 ∷ 16 ∷ 3 ∷ []) ∷ [])
    -- on cards those that the reader sees: not a comment's, and no period behind column 72
    ∷ cards (worded "000100 05 A.\n000200*05 B.\n000300 05 C"
    ((11 ∷ 7 ∷ 2 ∷ 10 ∷ 1 ∷ []) ∷ (37 ∷ 33 ∷ 2 ∷ 36 ∷ 1 ∷ []) ∷ []))
    ∷ cards (worded "000100 05 A                                                             ." ((73 ∷ 7 ∷ 2 ∷ 10 ∷ 1 ∷ []) ∷ []))
    -- 2, then 51, then 50, then 31
    ∷ not_worded "05 A VALUE 'a \u{80}" 0 2 14 0
    ∷ cards (not_worded "000100 05 A VALUE 'a\n000200- b'." 0 51 27 0)
    ∷ cards (not_worded "000100 05 A VALUE 'a\n000200  b'." 0 50 18 0)
    ∷ not_worded "05 A VALUE 'a" 0 50 11 0
    ∷ not_worded "05 A. 06 B" 47 31 0 48
    ∷ []
