-- The bytes that are answered of an entry are its item's own reasons, then for each group outward kind 5 and the
-- group's own.
-- Assumes nothing.
use Prim.Native.Nat.{ℕ, zero, suc, ◌+◌, ◌≤◌}
use mathlib.Core.Path.{◌≡◌, refl, sym, ◌∙◌, ap, subst}
use mathlib.Core.List.{List, [], ◌∷◌, ◌++◌, append_assoc}
use native.Mathlib.Omega.{arith}
use mathlib.Core.Logic.{◌⊎◌, inl, inr, ⊎_elim}
use Rattle.definition.specs.declared.Statement.{Statement}
use Rattle.definition.specs.declared.Entry.{Entry}
use Rattle.definition.specs.declared.Reason.{Reason}
use Rattle.definition.specs.Basic.{Ok, and_then}
use Rattle.definition.specs.Tree.{Forest, leaf, item}
use Rattle.definition.specs.Fold.{Entries, end, entry, reserved}
use Rattle.definition.specs.Cards.{view_in}
use Rattle.definition.specs.declared.Form.{Form}
use Rattle.definition.specs.Calls.{entries, called}
use Rattle.definition.specs.Demand.{Among}
use Rattle.definition.specs.Explained.{Latest, Turn, Because, Explains}
use Rattle.definition.specs.Reasons.{plain, slack_of, own as own_of, inside as inside_of, Chain as Reasons, chain as reasons_at}
use Rattle.definition.specs.Reasons.{chains, reasons_bytes}
use Rattle.definition.proofs.Pieces.{among-append, among-left, among-right}
use Rattle.definition.proofs.Begins.{Rises, beginnings, fields-begin}
use Rattle.definition.proofs.Why.{explained}
use Rattle.theorems.specs.Chains.{first, after, slack, inside, Item, item_of, items, begins, InTurn, Own, Outward, Chain, Chained}

bytes-append : (xs ys : List Reason) → reasons_bytes (xs ++ ys) ≡ reasons_bytes xs ++ reasons_bytes ys
unfolding reasons_bytes
bytes-append [] ys = refl
bytes-append (x ∷ xs) ys = simp (bytes-append xs ys, append_assoc)

-- a reason before slack, if any
slack-bytes : (r : Reason) (n : ℕ) → reasons_bytes (r ∷ slack_of n) ≡ reasons_bytes (r ∷ []) ++ slack n
unfolding reasons_bytes
slack-bytes r zero = refl
slack-bytes r (suc n) = simp append_assoc

first-bytes : reasons_bytes (Reason.First ∷ []) ≡ first
unfolding reasons_bytes
first-bytes = refl

module _ (text : List ℕ) where
  module _ (base : ℕ) (s : Statement) (kids : Forest) (seen : List Entry) (e : Entry) where
    after-bytes : (t : Entry) (n : ℕ) → reasons_bytes (Reason.After t.name n ∷ []) ≡ after t.name n
    unfolding reasons_bytes
    after-bytes t n = refl

    in-turn :
        ((seen ≡ []) × Turn text base s kids seen e Reason.First)
        ⊎ ((t : Entry) × Latest plain seen t × Turn text base s kids seen e (Reason.After t.name (t.offset + reserved t))) →
        InTurn text (item_of s kids base seen e) (reasons_bytes (own_of text seen e))
    in-turn h =
        ⊎_elim
        (λ (f : (seen ≡ []) × Turn text base s kids seen e Reason.First).
        record {
          reached = 0;
          places = first;
          placed-by = inl (f.0, refl, refl);
          bytes-are = ap reasons_bytes f.1.reasons ∙ slack-bytes Reason.First e.slack ∙ ap (λ (l : List ℕ). l ++ slack e.slack) first-bytes;
          stands = f.1.stands;
          fewest = f.1.fewest;
        })
        (λ (l : (t : Entry) × Latest plain seen t × Turn text base s kids seen e (Reason.After t.name (t.offset + reserved t))).
        let t = l.0 in
        let n = t.offset + reserved t in
        record {
          reached = n;
          places = after t.name n;
          placed-by = inr (t, l.1, refl, refl);
          bytes-are = ap reasons_bytes l.2.reasons ∙ slack-bytes (Reason.After t.name n) e.slack ∙ ap (λ (l : List ℕ). l ++ slack e.slack) (after-bytes t n);
          stands = l.2.stands;
          fewest = l.2.fewest;
        })
        h

    own-bytes : Because text base s kids seen e → Own text (item_of s kids base seen e) (reasons_bytes (own_of text seen e))
    unfolding reasons_bytes
    own-bytes b =
        record {
          with-redefines = λ g.
              let t = b.laid-over g in
              record { target = t.0; nearest = t.1; bytes-are = ap reasons_bytes t.2; stands = t.3 };
          without = λ g. in-turn (b.in-turn g);
        }

  -- the item of a chain of reasons
  record Told (among : List (List Item)) (c : Reasons) : Type 0 where
    which : Item
    groups : List Item
    stands : Among (which ∷ groups) among
    begins-there : which.statement.at ≡ c.at
    chain : Chain text (which ∷ groups) (reasons_bytes c.reasons)

  wider : (a b : List (List Item)) (c : Reasons) → ((p : List Item) → Among p a → Among p b) → Told a c → Told b c
  wider a b c f t =
      record {
        which = t.which;
        groups = t.groups;
        stands = f (t.which ∷ t.groups) t.stands;
        begins-there = t.begins-there;
        chain = t.chain;
      }

  tells :
      (f : Forest) (es : Entries) (base : ℕ) (groups : List Item) (outward : List Reason) (seen : List Entry) →
      Explains text base seen f es →
      Outward text groups (reasons_bytes outward) →
      (c : Reasons) →
      Among c (chains text outward seen es) →
      Told (items groups base seen f es) c
  unfolding chains reasons_bytes
  tells leaf end base groups outward seen x o c a = absurd a
  tells (item s kids later) (entry e members others) base groups outward seen x o c a =
      let i = item_of s kids base seen e in
      let mine = own_of text seen e in
      let has = own-bytes base s kids seen e x.1 in
      let reasons = mine ++ outward in
      let both = bytes-append mine outward in
      let below = chains text (inside_of e ∷ reasons) [] members in
      let after-it = chains text outward (e ∷ seen) others in
      let inner = items (i ∷ groups) (base + e.offset) [] kids members in
      let more = items groups base (e ∷ seen) later others in
      let out : Outward text (i ∷ groups) (reasons_bytes (inside_of e ∷ reasons)) =
      (reasons_bytes mine, reasons_bytes outward, ap (λ (l : List ℕ). inside e.name ++ l) both, has, o) in
      ⊎_elim
      (λ (q : c ≡ reasons_at e.at reasons).
      subst (Told ((i ∷ groups) ∷ (inner ++ more))) (sym q)
      (record {
        which = i;
        groups = groups;
        stands = inl refl;
        begins-there = sym x.0.0;
        chain = (reasons_bytes mine, reasons_bytes outward, both, has, o);
      }))
      (λ (m : Among c (below ++ after-it)).
      ⊎_elim
      (λ (l : Among c below).
      wider inner ((i ∷ groups) ∷ (inner ++ more)) c (λ p h. inr (among-left p inner more h))
      (tells kids members (base + e.offset) (i ∷ groups) (inside_of e ∷ reasons) [] x.2 out c l))
      (λ (l : Among c after-it).
      wider more ((i ∷ groups) ∷ (inner ++ more)) c (λ p h. inr (among-right p inner more h))
      (tells later others base groups outward (e ∷ seen) x.3 o c l))
      (among-append c below after-it m))
      a
  tells leaf (entry e members others) base groups outward seen x o c a = elim x [ ]
  tells (item s kids later) end base groups outward seen x o c a = elim x [ ]

-- ---------------------------------------------------------------- one item

-- where they begin
abbrev all_begin : List (List Item) → List ℕ
all_begin [] = []
all_begin (p ∷ ps) = begins p ∷ all_begin ps

begin-append : (ps qs : List (List Item)) → all_begin (ps ++ qs) ≡ all_begin ps ++ all_begin qs
begin-append [] qs = refl
begin-append (p ∷ ps) qs = ap (λ (l : List ℕ). begins p ∷ l) (begin-append ps qs)

items-begin :
    (text : List ℕ) (f : Forest) (es : Entries) (base : ℕ) (groups : List Item) (seen : List Entry) →
    Explains text base seen f es →
    all_begin (items groups base seen f es) ≡ beginnings f
items-begin text leaf end base groups seen x = refl
items-begin text (item s kids later) (entry e members others) base groups seen x =
    let i = item_of s kids base seen e in
    cc (
      begin-append (items (i ∷ groups) (base + e.offset) [] kids members) (items groups base (e ∷ seen) later others),
      items-begin text kids members (base + e.offset) (i ∷ groups) [] x.2,
      items-begin text later others base groups (e ∷ seen) x.3,
    )
items-begin text leaf (entry e members others) base groups seen x = elim x [ ]
items-begin text (item s kids later) end base groups seen x = elim x [ ]

among-from : (ps : List (List Item)) (n : ℕ) (p : List Item) → Rises n (all_begin ps) → Among p ps → n ≤ begins p
among-from [] n p r a = absurd a
among-from (q ∷ ps) n p r a = grind (arith, among-from ps (suc (begins q)) p r.1)

one-item :
    (ps : List (List Item)) (n : ℕ) (p q : List Item) →
    Rises n (all_begin ps) →
    Among p ps →
    Among q ps →
    begins p ≡ begins q →
    p ≡ q
one-item [] n p q r a b same = absurd a
one-item (x ∷ ps) n p q r a b same =
    grind (
      arith,
      among-from ps (suc (begins x)) p r.1,
      among-from ps (suc (begins x)) q r.1,
      one-item ps (suc (begins x)) p q r.1,
    )

-- ---------------------------------------------------------------- the answers

pub chained :
    (form : Form) (text : List ℕ) (work : ℕ) (es : Entries) →
    called form (λ t. entries t work) text work ≡ Ok es →
    Chained form text work es
unfolding reasons_bytes and_then
chained form text work es h =
    let x = explained form text work es h in
    record {
      of = x.of;
      tree = x.tree;
      read = x.read;
      laid_out = x.laid_out;
      one-item = λ p q.
          one-item (items [] 0 [] x.of x.tree) 0 p q
          (subst (Rises 0) (sym (items-begin _ x.of x.tree 0 [] [] x.reasoned.rules))
          (fields-begin (view_in form text) work x.of x.read));
      answered = λ n e q.
          let a = x.reasoned.answered n e q in
          let t = tells _ x.of x.tree 0 [] [] [] x.reasoned.rules refl a.0 a.1 in
          record {
            which = t.which;
            groups = t.groups;
            stands = t.stands;
            begins-there = t.begins-there ∙ a.2;
            bytes = reasons_bytes a.0.reasons;
            chain = t.chain;
            answer = λ room. x.calls n room ∙ rw (a.4);
          };
    }
