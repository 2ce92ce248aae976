-- The calls of the definition are calls with a question of `answers`: what is done with an answer is done with that of
-- the question, since a refusal stays.
-- Assumes nothing.
use Prim.Native.Nat.{ℕ}
use mathlib.Core.Path.{◌≡◌, refl, sym, ◌∙◌, ap}
use mathlib.Core.List.{List, []}
use lib.ListN.{length}
use Rattle.definition.specs.declared.Form.{Form}
use Rattle.definition.specs.declared.Refusal.{Refusal}
use Rattle.definition.specs.declared.Report.{Report}
use Rattle.definition.specs.declared.Owner.{Owner}
use Rattle.definition.specs.declared.Extract.{Extract}
use Rattle.definition.specs.Basic.{Answer, Err, Ok, ◌>>=◌, and_then}
use Rattle.definition.specs.Cards.{view}
use Rattle.definition.specs.Tree.{Forest, fields, root}
use Rattle.definition.specs.Fold.{Entries}
use Rattle.definition.specs.Record.{unfolded}
use Rattle.definition.specs.Calls.{left, cleared, record_tree, Question, asked, report, owner_in, extract_in, called}
use Rattle.definition.specs.Calls.{card_checks, on_cards, after_writing, report_call, silent_call, owner_call, extract_call}
use Rattle.record.specs.Asking.{Given, after_given, asked_call}
use Rattle.copybook.specs.declared.answers.OwnerAt.{OwnerAt}
use Rattle.copybook.specs.declared.answers.ExtractBy.{ExtractBy}
use Rattle.copybook.specs.declared.answers.ReportOf.{ReportOf}
use Rattle.copybook.specs.Questions.{written_as, unwritten, report_given, owner_given, extract_given}

module _ {A B : Type 0} (g : Answer A → Answer B) (stays : (r : Refusal) → g (Err r) ≡ Err r) where
  in-asked :
      (q : Question A) (text : List ℕ) (work : ℕ) →
      g (asked q text work) ≡ asked (λ t r f es. g (q t r f es)) text work
  unfolding asked and_then
  in-asked q text work = by-tree (record_tree text work)
    where
      by-laid :
          (t : Forest) (x : Answer Entries) →
          g (x >>= λ es. q text (root t) (fields t) es) ≡ (x >>= λ es. g (q text (root t) (fields t) es))
      by-laid t (Err r) = stays r
      by-laid t (Ok es) = refl

      by-tree :
          (a : Answer Forest) →
          g (a >>= λ t. unfolded text (fields t) >>= λ es. q text (root t) (fields t) es)
          ≡ (a >>= λ t. unfolded text (fields t) >>= λ es. g (q text (root t) (fields t) es))
      by-tree (Err r) = stays r
      by-tree (Ok t) = by-laid t (unfolded text (fields t))

  in-called :
      (form : Form) (q : Question A) (text : List ℕ) (work : ℕ) →
      g (called form (λ t. asked q t work) text work) ≡ called form (λ t. asked (λ t r f es. g (q t r f es)) t work) text work
  unfolding on_cards and_then
  in-called Form.FreeText q text work = in-asked q text work
  in-called Form.Cards q text work = by-checks (card_checks text work)
    where
      by-checks :
          (a : Answer (Unit {0})) →
          g (a >>= λ _. asked q (view text) work) ≡ (a >>= λ _. asked (λ t r f es. g (q t r f es)) (view text) work)
      by-checks (Err r) = stays r
      by-checks (Ok u) = in-asked q (view text) work

-- ---------------------------------------------------------------- what is written

written-given : (a : Answer (List ℕ)) (out work : List ℕ) → after_writing a out work ≡ after_given (written_as a) out work
written-given (Err r) out work = refl
written-given (Ok bs) out work = refl

report-asked :
    (form : Form) (what : Report) (text out work : List ℕ) →
    report_call form what text out work ≡ asked_call form (report_given (record { what = what })) text out work
report-asked form what text out work =
    written-given (called form (λ t. asked (report what (length out)) t (length work)) text (length work)) out work
    ∙ ap (λ a. after_given a out work) (in-called written_as (λ r. refl) form (report what (length out)) text (length work))

-- in each form, so that a goal with the form in it is met
module _ (what : Report) (text out work : List ℕ) where
  pub report-text :
      report_call Form.FreeText what text out work
      ≡ asked_call Form.FreeText (report_given (record { what = what })) text out work
  report-text = report-asked Form.FreeText what text out work

  pub report-cards :
      report_call Form.Cards what text out work
      ≡ asked_call Form.Cards (report_given (record { what = what })) text out work
  report-cards = report-asked Form.Cards what text out work

pub ruleset report_steps = (report-text, report-cards)

-- ---------------------------------------------------------------- what is not

unwritten-given : {A : Type 0} (a : Answer A) (out work : List ℕ) → left a out (cleared work) ≡ after_given (unwritten a) out work
unwritten-given (Err r) out work = refl
unwritten-given (Ok x) out work = refl

pub silent-asked :
    {A : Type 0} (form : Form) (q : Question A) (text work : List ℕ) {r : Answer A} {out w : List ℕ} →
    left r out w ≡ asked_call form (λ _ t r f es. unwritten (q t r f es)) text [] work →
    left r [] w ≡ silent_call form q text work
silent-asked form q text work h =
    let e = h ∙ ap (λ a. after_given a [] work) (sym (in-called unwritten (λ r. refl) form q text (length work)))
    ∙ sym (unwritten-given (called form (λ t. asked q t (length work)) text (length work)) [] work) in
    λ i. record { answer = (e i).answer; output = []; work = (e i).work }
