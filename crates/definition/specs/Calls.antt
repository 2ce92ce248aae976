-- The calls, each from what the caller hands in to what the call answers and leaves. Most ask something of a copybook's
-- record, in free text or on cards: the layout listing, its details, the reasons of an entry, the byte owner and the
-- extract; then the words, the picture answer, the mask and the record check. A line of a `do` is a check or a stage,
-- and they come in that order.
-- Assumes nothing.
use Rattle.std.specs.Prelude.{ℕ, ◌+◌, Bool, ◌&&◌, ◌||◌, not, List, [], ◌∷◌, ◌++◌, eqb, ltb, length, drop, replicate, if◌then◌else◌}
use Rattle.std.specs.Prelude.{Option, None, Some}
use Rattle.definition.specs.declared.Statement.{Statement}
use Rattle.definition.specs.declared.Usage.{Usage}
use Rattle.definition.specs.declared.SignKind.{SignKind}
use Rattle.definition.specs.declared.Pictured.{Pictured}
use Rattle.definition.specs.declared.Owner.{Owner}
use Rattle.definition.specs.declared.Extract.{Extract}
use Rattle.definition.specs.declared.Report.{Report}
use Rattle.definition.specs.declared.Form.{Form}
use Rattle.definition.specs.declared.Refusal.{Refusal}
use Rattle.definition.specs.declared.TheConstants.{MOST_BYTES, LEAST_WORK, MOST_ITEMS}
use Rattle.definition.specs.Basic.{Answer, Err, Ok, ◌>>=◌, refuse_if, or_refuse}
use Rattle.definition.specs.Words.{tokens_of, first_open, statement_words}
use Rattle.definition.specs.Cards.{view, first_other}
use Rattle.definition.specs.Statement.{statements}
use Rattle.definition.specs.Tree.{Forest, forest, fields, root}
use Rattle.definition.specs.Usages.{inherited}
use Rattle.definition.specs.Picture.{picture, symbols, is_masked, mask}
use Rattle.definition.specs.Fold.{Entries, folded_all}
use Rattle.definition.specs.Record.{unfolded, layout}
use Rattle.definition.specs.Listing.{listing}
use Rattle.definition.specs.Wording.{wording}
use Rattle.definition.specs.Owner.{pieces, owner_of, overlaid}
use Rattle.definition.specs.Details.{listing_details}
use Rattle.definition.specs.Reasons.{reasons_in, reasons_bytes}
use Rattle.definition.specs.Extract.{widths, items, misweighed, extract}

-- ---------------------------------------------------------------- the reader

-- the position of the first byte over 127, counted from p
unfoldable pub first_wide : ℕ → List ℕ → Option ℕ
first_wide p [] = None
first_wide p (b ∷ bs) = if ltb 127 b then Some p else first_wide (p + 1) bs

-- 1: text over `MOST_BYTES` bytes; 2: a byte over 127
unfoldable pub text_checks : List ℕ → Answer (Unit {0})
text_checks text = do
  _ ← refuse_if (ltb MOST_BYTES (length text)) Refusal.TextTooLong
  elim (first_wide 0 text) [ None ↦ Ok tt | Some p ↦ Err (Refusal.WideByte p) ]

-- and 3: lent work memory under `LEAST_WORK` numbers
unfoldable pub entry_checks : List ℕ → ℕ → Answer (Unit {0})
entry_checks text work = do
  _ ← text_checks text
  refuse_if (ltb work LEAST_WORK) Refusal.WorkTooShort

-- 50: the first unclosed literal, at its opening mark
unfoldable pub literal_check : List ℕ → Answer (Unit {0})
literal_check text = elim (first_open (tokens_of text)) [ None ↦ Ok tt | Some p ↦ Err (Refusal.UnclosedLiteral p) ]

-- the kept statements of a copybook; 50 is looked for in the whole text, before the first 10
unfoldable pub kept_statements : List ℕ → Answer (List Statement)
kept_statements text = do
  _ ← literal_check text
  statements text 0 (statement_words text)

-- its statements, with `work` numbers of work memory lent, as a forest, each with the usage that holds for it
unfoldable pub record_tree : List ℕ → ℕ → Answer Forest
record_tree text work = do
  _ ← entry_checks text work
  ss ← kept_statements text
  Ok (inherited (forest ss))

-- and as the fields of the record
unfoldable pub record_fields : List ℕ → ℕ → Answer Forest
record_fields text work = do
  t ← record_tree text work
  Ok (fields t)

-- its folded top list: the refusals so far are the reader's, and a copybook without one is accepted
unfoldable pub entries : List ℕ → ℕ → Answer Entries
entries text work = do
  f ← record_fields text work
  layout text f

-- ---------------------------------------------------------------- what is asked of a record

-- a question of a record: what it answers of a text, of the root that was dropped and the fields that were read from it,
-- and of their entries, laid out, as the copybook has them before folding
abbrev pub Question : Type 0 → Type 0
Question A = List ℕ → Option Statement → Forest → Entries → Answer A

-- the answer about a copybook: its text is read, then laid out, then asked, and the first refusal is given
unfoldable pub asked : {A : Type 0} → Question A → List ℕ → ℕ → Answer A
asked question text work = do
  t ← record_tree text work
  es ← unfolded text (fields t)
  question text (root t) (fields t) es

-- the bytes to be written, or 31 and their number where the lent output has only `room` bytes
abbrev pub fitting : ℕ → List ℕ → Answer (List ℕ)
fitting room bs =
    if ltb room (length bs) then Err (Refusal.OutputTooShort (length bs)) else Ok bs

-- what is written of a record: the layout listing, the details of its entries, or the reasons of an entry by its number:
-- 53 comes after all refusals of the reader but 31
unfoldable pub report : Report → ℕ → Question (List ℕ)
report Report.Listing room text root f es = fitting room (listing (folded_all text es))
report Report.Details room text root f es = fitting room (listing_details root (folded_all text es))
report (Report.Reasons number) room text root f es = do
  rs ← reasons_in number text es
  fitting room (reasons_bytes rs)

-- the owner of a position: 40 for a kept REDEFINES or DEPENDING ON, 41 for a position that no piece has, so for one not
-- below record length (`refuses-41`, of the proofs, says so)
unfoldable pub owner_in : ℕ → Question Owner
owner_in position text root f es = do
  _ ← refuse_if (overlaid f) Refusal.Overlaid
  or_refuse Refusal.OutsideRecord (owner_of (pieces text f) position)

-- an extract of items of these widths: 58 for more than 16 of them or another number of weights, 59 for a weight
-- outside its range, 60 for a budget of 0
unfoldable pub extract_of : List ℕ → List ℕ → ℕ → ℕ → Answer Extract
extract_of bytes weights limit budget = do
  _ ← refuse_if (ltb MOST_ITEMS (length bytes) || not (eqb (length weights) (length bytes))) Refusal.WrongItems
  _ ← refuse_if (misweighed weights) Refusal.BadWeight
  _ ← refuse_if (eqb budget 0) Refusal.NoBudget
  Ok (extract limit budget (items bytes weights))

-- an extract of a record's top-level items: 40 for a kept REDEFINES or DEPENDING ON
unfoldable pub extract_in : List ℕ → ℕ → ℕ → Question Extract
extract_in weights limit budget text root f es = do
  _ ← refuse_if (overlaid f) Refusal.Overlaid
  extract_of (widths (folded_all text es)) weights limit budget

-- ---------------------------------------------------------------- words

-- the words of a text, statement by statement: they ask nothing of what the statements say, so that a copybook that is
-- refused for that (10 to 30, 52) has words too
unfoldable pub words_in : List ℕ → ℕ → ℕ → Answer (List ℕ)
words_in text work room = do
  _ ← entry_checks text work
  _ ← literal_check text
  fitting room (wording text)

-- ---------------------------------------------------------------- pictures and records

-- the picture answer
unfoldable pub picture_answer : Usage → Option SignKind → List ℕ → Answer Pictured
picture_answer usage sign bs = do
  _ ← text_checks bs
  picture 0 usage sign bs

-- the mask of an edited DISPLAY picture, and length 0 otherwise
unfoldable pub picture_mask : Usage → List ℕ → ℕ → Answer (List ℕ)
picture_mask usage bs room = do
  _ ← text_checks bs
  l ← symbols 0 usage bs
  fitting room (if is_masked usage l then mask l else [])

-- the record check: 42 for a record of `len` bytes that is too short, only if not variable
abbrev pub record_check : ℕ → Bool → ℕ → Answer (Unit {0})
record_check record_len is_variable len = refuse_if (not is_variable && ltb len record_len) Refusal.RecordTooShort

-- ---------------------------------------------------------------- cards

-- 51: the first indicator that is none of the four, at that byte
unfoldable pub indicator_check : List ℕ → Answer (Unit {0})
indicator_check text = elim (first_other 0 1 text) [ None ↦ Ok tt | Some p ↦ Err (Refusal.BadIndicator p) ]

-- 1, 2 and 3 look at the whole card text, ignored columns included; then 51
unfoldable pub card_checks : List ℕ → ℕ → Answer (Unit {0})
card_checks text work = do
  _ ← entry_checks text work
  indicator_check text

-- a call for cards: their checks, then the call for free text, on the view; 1, 2 and 3 do not come again (`CardLaws`,
-- of the proofs, says so)
unfoldable pub on_cards : {A : Type 0} → (List ℕ → Answer A) → List ℕ → ℕ → Answer A
on_cards call text work = do
  _ ← card_checks text work
  call (view text)

-- a call for a copybook of either form
abbrev pub called : {A : Type 0} → Form → (List ℕ → Answer A) → List ℕ → ℕ → Answer A
called Form.FreeText call text work = call text
called Form.Cards call text work = on_cards call text work

-- ---------------------------------------------------------------- what a call leaves

-- the answer, the lent output and the lent work memory
pub record After (A : Type 0) : Type 0 where
  pub answer : Answer A
  pub output : List ℕ
  pub work : List ℕ

-- an answer, and what the call left of output and work memory
abbrev pub left : {A : Type 0} → Answer A → List ℕ → List ℕ → After A
left a out work = record { answer = a; output = out; work = work }

-- how many bytes were written
abbrev pub written : Answer (List ℕ) → Answer ℕ
written (Err r) = Err r
written (Ok bs) = Ok (length bs)

-- a refusal changes no byte of the output, and bytes past a written answer keep their values
abbrev pub output_after : Answer (List ℕ) → List ℕ → List ℕ
output_after (Err r) out = out
output_after (Ok bs) out = bs ++ drop (length bs) out

-- work memory is zero after every call
abbrev pub cleared : List ℕ → List ℕ
cleared work = replicate (length work) 0

-- after a call that writes to the output
abbrev pub after_writing : Answer (List ℕ) → List ℕ → List ℕ → After ℕ
after_writing a out work = record { answer = written a; output = output_after a out; work = cleared work }

-- a report of a copybook of this form, with an output and work memory lent
abbrev pub report_call : Form → Report → List ℕ → List ℕ → List ℕ → After ℕ
report_call form what text out work =
    after_writing (called form (λ t. asked (report what (length out)) t (length work)) text (length work)) out work

-- its layout listing, the details of its entries, and the reasons of one
abbrev pub layout_call : Form → List ℕ → List ℕ → List ℕ → After ℕ
layout_call form = report_call form Report.Listing

abbrev pub details_call : Form → List ℕ → List ℕ → List ℕ → After ℕ
details_call form = report_call form Report.Details

abbrev pub reasons_call : Form → List ℕ → ℕ → List ℕ → List ℕ → After ℕ
reasons_call form text number = report_call form (Report.Reasons number) text

-- the words of a copybook of this form, with an output and work memory lent
abbrev pub words_call : Form → List ℕ → List ℕ → List ℕ → After ℕ
words_call form text out work =
    after_writing (called form (λ t. words_in t (length work) (length out)) text (length work)) out work

-- the mask of a picture, with an output lent
abbrev pub mask_call : Usage → List ℕ → List ℕ → After ℕ
mask_call usage bs out = after_writing (picture_mask usage bs (length out)) out []

-- a question of a copybook of this form whose answer is not written, with work memory lent
abbrev pub silent_call : {A : Type 0} → Form → Question A → List ℕ → List ℕ → After A
silent_call form question text work =
    left (called form (λ t. asked question t (length work)) text (length work)) [] (cleared work)

-- the byte owner of a copybook of this form, and an extract, of free text alone
abbrev pub owner_call : Form → List ℕ → ℕ → List ℕ → After Owner
owner_call form text position = silent_call form (owner_in position) text

abbrev pub extract_call : List ℕ → List ℕ → ℕ → ℕ → List ℕ → After Extract
extract_call text weights limit budget = silent_call Form.FreeText (extract_in weights limit budget) text
