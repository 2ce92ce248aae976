-- Laws of the calls: what a text and work memory that pass the checks have, and a call for a copybook that another call
-- accepted.
-- Assumes nothing.
use Prim.Native.Nat.{ℕ, ◌≤◌}
use mathlib.Core.Path.{◌≡◌, sym, ◌∙◌, ap, subst}
use mathlib.Core.List.{List}
use lib.ListN.{length}
use Rattle.definition.specs.declared.TheConstants.{MOST_BYTES, LEAST_WORK}
use native.Mathlib.Omega.{arith}
use Rattle.definition.specs.declared.Refusal.{Refusal}
use Rattle.std.specs.Prelude.{Option}
use Rattle.definition.specs.Basic.{Answer, Err, Ok, ◌>>=◌, and_then}
use Rattle.definition.specs.Cards.{view_in}
use Rattle.definition.specs.declared.Form.{Form}
use Rattle.definition.specs.declared.Statement.{Statement}
use Rattle.definition.specs.Tree.{Forest, fields, root}
use Rattle.definition.specs.Fold.{Entries}
use Rattle.definition.specs.Record.{unfolded, layout}
use Rattle.definition.specs.Usages.{record_of}
use Rattle.definition.specs.Calls.{text_checks, entry_checks, on_cards, called, kept_statements, record_tree, record_fields}
use Rattle.definition.specs.Calls.{entries, Question, asked}
use Rattle.definition.proofs.Answers.{through, given-same}

-- ---------------------------------------------------------------- the checks of what a caller lends

-- what a text and n numbers of work memory that pass have
pub record Passes (text : List ℕ) (n : ℕ) : Type 0 where
  pub short : length text ≤ MOST_BYTES
  pub room : LEAST_WORK ≤ n
  pub is : entry_checks text n ≡ Ok tt

entry-passes : (text : List ℕ) (n : ℕ) → entry_checks text n ≡ Ok tt → Passes text n
unfolding entry_checks text_checks and_then
entry-passes text n h = record { short = grind arith; room = grind arith; is = h }

pub passes :
    (text : List ℕ) (n : ℕ) {c : Answer (Unit {0})} → c ≡ entry_checks text n → c ≡ Ok tt → Passes text n
passes text n p e = entry-passes text n (sym p ∙ e)

-- ---------------------------------------------------------------- free text and cards

-- where one call for a copybook was not refused, every call for it is the one for what the reader sees
module _ {A B : Type 0} (call : List ℕ → Answer A) (other : List ℕ → Answer B) where
  pub called-as :
      (form : Form) (text : List ℕ) (work : ℕ) {a : A} →
      called form call text work ≡ Ok a →
      called form other text work ≡ other (view_in form text)
  unfolding on_cards and_then
  called-as form text work h = grind arith

-- ---------------------------------------------------------------- fields

-- fields that were read are those of the kept statements
pub through-fields :
    {C : Type 0} (text : List ℕ) (work : ℕ) (f : Forest) →
    record_fields text work ≡ Ok f →
    ((ss : List Statement) → kept_statements text ≡ Ok ss → record_of ss ≡ f → C) →
    C
unfolding record_fields record_tree
through-fields text work f h k =
    through _ _ h λ t h₁ q.
    through _ _ h₁ λ _ _ h₂.
    through _ _ h₂ λ ss kept r.
    k ss kept (ap fields (given-same r) ∙ given-same q)

-- ---------------------------------------------------------------- questions

-- a question is asked of the record that was read and laid out; one that answers the same whatever root was dropped,
-- answers so
pub asked-of :
    {A : Type 0} (question : Question A) (text : List ℕ) (work : ℕ) (f : Forest) (es : Entries) {a : Answer A} →
    record_fields text work ≡ Ok f →
    unfolded text f ≡ Ok es →
    ((root : Option Statement) → question text root f es ≡ a) →
    asked question text work ≡ a
unfolding asked record_fields and_then
asked-of question text work f es {a} read laid_out same =
    through _ _ read λ t is_read q.
    let is : fields t ≡ f = given-same q in
    ap
    (λ (x : Answer Forest). x >>= λ u. unfolded text (fields u) >>= λ us. question text (root u) (fields u) us)
    is_read
    ∙ (subst (λ (g : Forest). (unfolded text g >>= λ us. question text (root t) g us) ≡ a) (sym is)
    (ap (λ (x : Answer Entries). x >>= λ us. question text (root t) f us) laid_out ∙ same (root t)))

-- what the reader refuses, is refused whatever is asked
pub reader-refuses :
    {A : Type 0} (question : Question A) (text : List ℕ) (work : ℕ) (r : Refusal) →
    entries text work ≡ Err r →
    asked question text work ≡ Err r
unfolding entries asked record_fields layout and_then
reader-refuses question text work r h = grind arith
