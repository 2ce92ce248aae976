-- What holds of every call for the layout listing, from what the calls for it and for the byte owner answer alone, and
-- the definition's `demand3`; of free text and of cards.
-- Assumes nothing.
use Prim.Native.Nat.{ℕ, ◌≤◌}
use mathlib.Core.Path.{◌≡◌, refl, sym, ◌∙◌, ap, ap₂}
use mathlib.Core.Bool.{Bool, true, false}
use mathlib.Core.Logic.{inl, inr}
use mathlib.Core.List.{List, ◌++◌}
use native.Mathlib.Omega.{arith}
use lib.Dec.{ltb}
use lib.ListN.{length, take, drop}
use lib.Seq.{take-append_seam, drop-append_seam}
use borrow.Author.Tests.{le-ltb, ltb-true}
use Rattle.std.specs.Prelude.{None}
use Rattle.definition.specs.declared.Owner.{Owner}
use Rattle.definition.specs.declared.Refusal.{Refusal}
use Rattle.definition.specs.declared.TheConstants.{LEAST_WORK}
use Rattle.definition.specs.Basic.{Answer, Err, Ok, ◌>>=◌, and_then, refuse_if}
use Rattle.definition.specs.Cards.{view, view_in}
use Rattle.definition.specs.declared.Form.{Form}
use Rattle.definition.specs.declared.Report.{Report}
use Rattle.definition.specs.Record.{unfolded, layout}
use Rattle.definition.specs.Calls.{After, left, entry_checks, kept_statements, record_tree, record_fields, entries, fitting}
use Rattle.definition.specs.Calls.{report, asked, owner_in, indicator_check, card_checks, on_cards, called, written}
use Rattle.definition.specs.Calls.{output_after, layout_call}
use Rattle.definition.specs.Fold.{Entries}
use Rattle.definition.specs.Listing.{listing}
use Rattle.definition.specs.Tree.{Forest, forest, fields}
use Rattle.definition.specs.Usages.{inherited}
use Rattle.definition.specs.Demand.{owner_on}
use Rattle.definition.proofs.Answers.{give-next, through, given-same}
use Rattle.definition.proofs.CallsLaws.{called-as, asked-of}
use Rattle.definition.proofs.Demand3.{demand3, refuses-40, refuses-41}
use Rattle.theorems.specs.Answered.{Owns, Accepted, Answered}

-- ---------------------------------------------------------------- the byte owner

-- checks that were passed are passed with any work memory that is enough
checked : (text : List ℕ) (n m : ℕ) → entry_checks text n ≡ Ok tt → LEAST_WORK ≤ m → entry_checks text m ≡ Ok tt
unfolding entry_checks
checked text n m h room =
    through _ _ h λ _ t _.
    ap (λ (a : Answer (Unit {0})). a >>= λ _. refuse_if (ltb m LEAST_WORK) Refusal.WorkTooShort) t
    ∙ give-next tt _
    ∙ rw (le-ltb m LEAST_WORK room)

cards-checked : (text : List ℕ) (n m : ℕ) → card_checks text n ≡ Ok tt → LEAST_WORK ≤ m → card_checks text m ≡ Ok tt
unfolding card_checks
cards-checked text n m h room =
    through _ _ h λ _ e q.
    ap (λ (a : Answer (Unit {0})). a >>= λ _. indicator_check text) (checked text n m e room) ∙ give-next tt _ ∙ q

-- so any call for an accepted copybook is the one for what the reader sees,
called-enough :
    {A B : Type 0} (call : List ℕ → Answer A) (other : List ℕ → Answer B) →
    (form : Form) (text : List ℕ) (n m : ℕ) {a : A} →
    called form call text n ≡ Ok a →
    LEAST_WORK ≤ m →
    called form other text m ≡ other (view_in form text)
unfolding on_cards
called-enough call other Form.FreeText text n m h room = refl
called-enough call other Form.Cards text n m h room =
    through _ _ h λ _ e _.
    ap (λ (a : Answer (Unit {0})). a >>= λ _. other (view text)) (cards-checked text n m e room) ∙ give-next tt _

-- and the same fields are read
enough :
    (text : List ℕ) (n m : ℕ) (f : Forest) → record_fields text n ≡ Ok f → LEAST_WORK ≤ m → record_fields text m ≡ Ok f
unfolding record_fields record_tree
enough text n m f h room =
    through _ _ h λ t h₁ q.
    through _ _ h₁ λ _ e h₂.
    ap
    (λ (a : Answer (Unit {0})).
    (a >>= λ _. (kept_statements text >>= λ ss. Ok (inherited (forest ss)))) >>= λ t. Ok (fields t))
    (checked text n m e room)
    ∙ ap (λ (a : Answer Forest). a >>= λ t. Ok (fields t)) (give-next tt _ ∙ h₂)
    ∙ give-next t _
    ∙ q

-- every call answers with the owner in those fields
module _
    (form : Form)
    (text : List ℕ)
    (n : ℕ)
    (es : Entries)
    (accepted : called form (λ t. entries t n) text n ≡ Ok es)
    (f : Forest)
    (read : record_fields (view_in form text) n ≡ Ok f)
    (tree : Entries)
    (unfolds : unfolded (view_in form text) f ≡ Ok tree)
  where
    owns : (q : ℕ) {a : Answer Owner} → owner_in q (view_in form text) None f tree ≡ a → Owns form text q a
    unfolding owner_in
    owns q e work r work' room h =
        let m = length work in
        ap (λ (x : After Owner). x.answer) h
        ∙ called-enough (λ t. entries t n) (λ t. asked (owner_in q) t m) form text n m accepted room
        ∙ asked-of (owner_in q) (view_in form text) m f tree (enough (view_in form text) n m f read room) unfolds (λ _. refl)
        ∙ e

-- ---------------------------------------------------------------- the demand

-- the refusal is the same where the answers are
refusal-same : {A : Type 0} {r q : Refusal} → ◌≡◌ {A = Answer A} (Err r) (Err q) → r ≡ q
refusal-same h = cc

-- an accepted copybook
module _
    (form : Form)
    (text out work : List ℕ)
    (es : Entries)
    (read : called form (λ t. entries t (length work)) text (length work) ≡ Ok es)
  where
    is-accepted : Accepted form text work es
    unfolding layout owner_in
    is-accepted =
        let k = demand3 form text (length work) es read in
        let seen = view_in form text in
        let n = length work in
        through _ _ k.laid_out λ tree unfolds _.
        let asks : (q : ℕ) → owner_on form text n q ≡ owner_in q seen None k.of tree =
        λ q. called-as (λ t. entries t n) (λ t. asked (owner_in q) t n) form text n read
        ∙ asked-of (owner_in q) seen n k.of tree k.read unfolds (λ _. refl) in
        record {
          kept = k;
          names = λ free q l.
              owns form text n es read k.of k.read tree unfolds q (sym (asks q) ∙ (k.demand free).named q l);
          ends = λ free q l.
              owns form text n es read k.of k.read tree unfolds q (refuses-41 seen k.of es k.laid_out free q tree l);
          refuses = λ over q.
              owns form text n es read k.of k.read tree unfolds q (refuses-40 seen k.of tree over q);
        }

    -- its listing has room, or hasn't
    answered :
        (b : Bool) →
        ltb (length out) (length (listing es)) ≡ b →
        (r : Answer ℕ) {out' : List ℕ} →
        r ≡ written (fitting (length out) (listing es)) →
        out' ≡ output_after (fitting (length out) (listing es)) out →
        Answered form text out work r out'
    answered true e (Ok n) h o = absurd (let z : ◌≡◌ {A = ℕ} 0 1 = cc in omega arith)
    answered true e (Err r) h o = (
      rw e at o,
      inl (record {
        shown = es;
        short = ltb-true (length out) (length (listing es)) e;
        tells = refusal-same (rw e at h);
        accepted = is-accepted;
      }),
    )
    answered false e (Err r) h o = absurd (let z : ◌≡◌ {A = ℕ} 0 1 = cc in omega arith)
    answered false e (Ok n) h o =
        let bs = listing es in
        let long : n ≡ length bs = given-same (rw e at h) in
        let after : _ ≡ bs ++ drop (length bs) out = rw e at o in
        record {
          shown = es;
          written = ap₂ take long after ∙ take-append_seam bs (drop (length bs) out);
          behind =
              ap₂ drop long after ∙ drop-append_seam bs (drop (length bs) out) ∙ ap (λ (m : ℕ). drop m out) (sym long);
          accepted = is-accepted;
        }

-- a copybook that the reader refuses
not-read :
    (form : Form) (text out work : List ℕ) (q : Refusal) →
    called form (λ t. entries t (length work)) text (length work) ≡ Err q →
    (r : Answer ℕ) {out' : List ℕ} →
    r ≡ Err q →
    out' ≡ out →
    Answered form text out work r out'
not-read form text out work q e (Ok n) h o = absurd (let z : ◌≡◌ {A = ℕ} 0 1 = cc in omega arith)
not-read form text out work q e (Err r) h o = (o, inr (e ∙ ap Err (sym (refusal-same h))))

-- a call in two lines
called-then :
    {A B : Type 0} (form : Form) (call : List ℕ → Answer A) (f : A → Answer B) (text : List ℕ) (n : ℕ) →
    called form (λ t. call t >>= f) text n ≡ (called form call text n >>= f)
unfolding on_cards and_then
called-then Form.FreeText call f text n = refl
called-then Form.Cards call f text n = go (card_checks text n)
  where
    go : (a : Answer (Unit {0})) → (a >>= λ _. call (view text) >>= f) ≡ ((a >>= λ _. call (view text)) >>= f)
    go (Err r) = refl
    go (Ok u) = refl

-- the listing is that of the entries
listed :
    (text : List ℕ) (n room : ℕ) →
    asked (report Report.Listing room) text n ≡ (entries text n >>= λ es. fitting room (listing es))
unfolding asked report entries record_fields layout and_then
listed text n room = grind arith

-- every call for the layout listing
pub answered_listing :
    (form : Form) (text out work : List ℕ) (r : Answer ℕ) (out' work' : List ℕ) →
    left r out' work' ≡ layout_call form text out work →
    Answered form text out work r out'
unfolding and_then
answered_listing form text out work r out' work' h = by-reading (called form (λ t. entries t n) text n) refl
  where
    n : ℕ
    n = length work

    same :
        called form (λ t. asked (report Report.Listing (length out)) t n) text n
        ≡ (called form (λ t. entries t n) text n >>= λ es. fitting (length out) (listing es))
    same =
        ap (λ (call : List ℕ → Answer (List ℕ)). called form call text n) (λ i t. listed t n (length out) i)
        ∙ called-then form (λ t. entries t n) (λ es. fitting (length out) (listing es)) text n

    answer : r ≡ written (called form (λ t. entries t n) text n >>= λ es. fitting (length out) (listing es))
    answer = ap (λ (x : After ℕ). x.answer) h ∙ ap written same

    output : out' ≡ output_after (called form (λ t. entries t n) text n >>= λ es. fitting (length out) (listing es)) out
    output = ap (λ (x : After ℕ). x.output) h ∙ ap (λ (a : Answer (List ℕ)). output_after a out) same

    by-reading : (a : Answer Entries) → called form (λ t. entries t n) text n ≡ a → Answered form text out work r out'
    by-reading (Ok es) e =
        let is_short = ltb (length out) (length (listing es)) in
        answered form text out work es e is_short refl r (rw e at answer) (rw e at output)
    by-reading (Err q) e = not-read form text out work q e r (rw e at answer) (rw e at output)
