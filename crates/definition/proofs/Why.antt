-- The reasons of every accepted copybook are those by which the layout rules placed its items.
-- Assumes nothing.
use Prim.Native.Nat.{ℕ, zero, suc, ◌+◌, ◌-◌, ◌≤◌, max}
use mathlib.Core.Path.{◌≡◌, refl, sym, ◌∙◌, ap, subst}
use mathlib.Core.Bool.{Bool, true, false}
use mathlib.Core.List.{List, [], ◌∷◌, ◌++◌, map}
use Rattle.std.specs.Prelude.{Option, None, Some}
use mathlib.Core.Logic.{◌⊎◌, inl, inr}
use native.Mathlib.Omega.{arith}
use lib.ListN.{length, get_or, length-append}
use Rattle.definition.specs.declared.Span.{Span}
use Rattle.definition.specs.declared.Pictured.{Pictured}
use Rattle.definition.specs.declared.Statement.{Statement}
use Rattle.definition.specs.declared.Entry.{Entry}
use Rattle.definition.specs.declared.Reason.{Reason}
use Rattle.definition.specs.declared.Refusal.{Refusal}
use Rattle.std.specs.Prelude.{if◌then◌else◌}
use Rattle.definition.specs.Basic.{Err, same, uppers, is_given, fewest, Answer, Ok, and_then}
use Rattle.definition.specs.Basic.{or_refuse}
use Rattle.definition.specs.Tree.{Forest, leaf, item}
use Rattle.definition.specs.Fold.{Entries, end, entry, append, reserved, entry_end, name_of, same_name, Place}
use Rattle.definition.specs.Fold.{place_of, search_back, find, rebased, redefiners, with_redefiners, fold_check}
use Rattle.definition.specs.Fold.{folded_list, folded_below, folded_all}
use Rattle.definition.specs.Layout.{Laid, start, slack_from, entry_of, advance, lay}
use Rattle.definition.specs.Record.{unfolded, layout}
use Rattle.definition.specs.Storage.{place_alignment}
use Rattle.definition.specs.Cards.{view_in}
use Rattle.definition.specs.declared.Form.{Form}
use Rattle.definition.specs.declared.Report.{Report}
use Rattle.definition.specs.Calls.{record_fields, asked, entries, report, called}
use Rattle.definition.specs.Demand.{Fewest, Among}
use Rattle.definition.specs.Reasons.{adds, after, slack_of, inside, latest, plain, has_name, or_first}
use Rattle.definition.specs.Reasons.{placing, own, Chain, chain, chains, chain_at, flat, numbered, reasons_in}
use Rattle.definition.specs.Explained.{inside_names, Latest, Turn, Because, Explains, added, is_placing, placings#}
use Rattle.definition.specs.Explained.{insides, every, from_start, placed_for, groups_around, Reasoned, Explained}
use Rattle.definition.proofs.Lists.{by_cases}
use Rattle.definition.proofs.WordLaws.{same-equal, same_self}
use Rattle.definition.proofs.CallsLaws.{called-as, asked-of}
use Rattle.definition.proofs.Answers.{through, given-same}
use Rattle.definition.proofs.LayoutLaws.{find-hit, find-miss}
use Rattle.definition.proofs.LayoutLaws.{check-base}
use Rattle.definition.proofs.Cover.{entry_laid, item-laid, laid-out, start-given}
use Rattle.definition.proofs.Pieces.{among-left, among-right}
use Rattle.definition.proofs.SpotLaws.{place-fewest}
use Rattle.definition.proofs.Begins.{Rises, beginnings, fields-begin}

-- ---------------------------------------------------------------- one item

-- where the cursor stands: at the end of the latest sibling without REDEFINES
abbrev reached_by : List Entry → ℕ
reached_by seen = adds (or_first after (latest plain seen))

flat-length : (es : Entries) (b : ℕ) → length (flat es) ≡ length (from_start b es)
flat-length end b = refl
flat-length (entry e members later) b =
    omega (
      arith,
      length-append (flat members) (flat later),
      length-append (from_start (b + e.offset) members) (from_start b later),
      flat-length members (b + e.offset),
      flat-length later b,
    )

pub latest-hit : (has : Entry → Bool) (e : Entry) (seen : List Entry) → has e ≡ true → latest has (e ∷ seen) ≡ Some e
unfolding latest
latest-hit has e seen h = rw (h, latest)

pub latest-miss :
    (has : Entry → Bool) (e : Entry) (seen : List Entry) →
    has e ≡ false →
    latest has (e ∷ seen) ≡ latest has seen
unfolding latest
latest-miss has e seen h = rw (h, latest)

pub latest-empty : (has : Entry → Bool) → latest has [] ≡ None
unfolding latest
latest-empty has = refl

-- what is found is the latest that has it
latest-is : (has : Entry → Bool) (seen : List Entry) (t : Entry) → latest has seen ≡ Some t → Latest has seen t
unfolding latest
latest-is has [] t h = absurd (cc)
latest-is has (e ∷ seen) t h =
    by_cases (has e)
    (λ y.
    let same : e ≡ t = grind arith in
    record {
      since = [];
      before = seen;
      stands = ap (λ (x : Entry). x ∷ seen) same;
      it-has = subst (λ (x : Entry). has x ≡ true) same y;
      none-since = tt;
    })
    (λ y.
    let l = latest-is has seen t (grind arith) in
    record {
      since = e ∷ l.since;
      before = l.before;
      stands = ap (λ (x : List Entry). e ∷ x) l.stands;
      it-has = l.it-has;
      none-since = (y, l.none-since);
    })

-- the latest sibling without REDEFINES after an entry
pub latest-next :
    (e : Entry) (seen : List Entry) (b : Bool) →
    is_given e.redefines ≡ b →
    latest plain (e ∷ seen) ≡ (if b then latest plain seen else Some e)
unfolding latest
latest-next e seen b h = grind arith

-- slack adds its bytes
pub added-slack : (n : ℕ) → added (slack_of n) ≡ n
added-slack n = grind arith

module _ (text : List ℕ) where
  -- the place that is found is that of the latest sibling of the name
  find-latest :
      (w : Span) (seen : List Entry) (n : ℕ) →
      find text w (map place_of seen) ≡ Some n →
      (t : Entry) × (latest (has_name text w) seen ≡ Some t) × (n ≡ t.offset)
  unfolding find search_back latest
  find-latest w [] n h = absurd (cc)
  find-latest w (e ∷ seen) n h =
      by_cases (same_name text w e.name)
      (λ y. (e, grind arith, grind arith))
      (λ y. let r = find-latest w seen n (grind arith) in (r.0, grind arith, r.2))

  -- the slack of an item is what lies between the cursor and the item, in a list that starts at the byte `base`
  module _ (base : ℕ) (s : Statement) (kids : Forest) (seen : List Entry) (c : Pictured) (offset inner at_end : ℕ) where
    -- the item's entry
    abbrev it : Entry
    it = entry_of s c offset (slack_from (reached_by seen) s offset) inner at_end

    module _ (begins : start text s kids (map place_of seen) base (reached_by seen) ≡ Ok offset) where
      over-target :
          is_given s.clauses.redefines ≡ true →
          (t : Entry)
          × Latest (has_name text s.clauses.redefines) seen t
          × (own text seen it ≡ Reason.Over t.name t.offset ∷ [])
          × (offset ≡ t.offset)
      over-target g =
          let found : or_refuse (Refusal.NoTarget s.at) (find text s.clauses.redefines (map place_of seen)) ≡ Ok offset =
          rw (g, start) at begins in
          let t = find-latest s.clauses.redefines seen offset (grind arith) in
          (t.0, latest-is (has_name text s.clauses.redefines) seen t.0 t.1, grind arith, t.2)

      module _ (g : is_given s.clauses.redefines ≡ false) where
        at_offset : reached_by seen + fewest (place_alignment text s kids) (base + reached_by seen) ≡ offset
        at_offset = given-same (sym (start-given text base (reached_by seen) (map place_of seen) s kids g) ∙ begins)

        slack-is : fewest (place_alignment text s kids) (base + reached_by seen) ≡ it.slack
        slack-is =
            omega (arith, at_offset) ∙ sym (ap (λ (b : Bool). if b then 0 else offset - reached_by seen) g)

        turn : (r : Reason) → or_first after (latest plain seen) ≡ r → Turn text base s kids seen it r
        turn r is =
            let begun : reached_by seen ≡ adds r = ap adds is in
            record {
              reasons = grind arith;
              stands = omega (arith, at_offset, slack-is);
              fewest =
                  subst (λ (n : ℕ). Fewest (place_alignment text s kids) (base + n) it.slack) begun
                  (subst (Fewest (place_alignment text s kids) (base + reached_by seen)) slack-is
                  (place-fewest text s kids (base + reached_by seen)));
            }

        by-latest :
            (latest plain seen ≡ None → seen ≡ []) →
            (o : Option Entry) →
            latest plain seen ≡ o →
            ((seen ≡ []) × Turn text base s kids seen it Reason.First)
            ⊎ ((t : Entry) × Latest plain seen t × Turn text base s kids seen it
            (Reason.After t.name (t.offset + reserved t)))
        by-latest first None q = inl (first q, turn Reason.First (ap (or_first after) q))
        by-latest first (Some t) q =
            inr (t, latest-is plain seen t q, turn (Reason.After t.name (t.offset + reserved t)) (ap (or_first after) q))

      because : (latest plain seen ≡ None → seen ≡ []) → Because text base s kids seen it
      because first = record { laid-over = over-target; in-turn = λ g. by-latest g first (latest plain seen) refl }

  -- the cursor after an entry
  moves :
      (e : Entry) (seen : List Entry) (b : Bool) →
      is_given e.redefines ≡ b →
      advance (reached_by seen) e ≡ reached_by (e ∷ seen)
  unfolding latest
  moves e seen b h = grind arith

  none-earlier : (has : Entry → Bool) (t : Entry) → Latest has [] t → ⊥
  none-earlier has t l = omega (arith, ap length l.stands, length-append l.since (t ∷ l.before))

  first_next :
      (base : ℕ) (s : Statement) (kids : Forest) (e : Entry) (seen : List Entry) →
      Because text base s kids seen e →
      (latest plain seen ≡ None → seen ≡ []) →
      (b : Bool) →
      is_given s.clauses.redefines ≡ b →
      is_given e.redefines ≡ b →
      latest plain (e ∷ seen) ≡ None →
      e ∷ seen ≡ []
  first_next base s kids e seen r first true g h q =
      let t = r.laid-over g in
      let empty = first (sym (latest-next e seen true h) ∙ q) in
      absurd (none-earlier (has_name text s.clauses.redefines) t.0
      (subst (λ (l : List Entry). Latest (has_name text s.clauses.redefines) l t.0) empty t.1))
  first_next base s kids e seen r first false g h q = absurd (cc (latest-next e seen false h))

  pub explains :
      (f : Forest) (depth base : ℕ) (seen : List Entry) (cursor reach : ℕ) (l : Laid) →
      cursor ≡ reached_by seen →
      (latest plain seen ≡ None → seen ≡ []) →
      lay text depth base (map place_of seen) cursor reach f ≡ Ok l →
      Explains text base seen f l.entries
  unfolding lay latest
  explains leaf depth base seen cursor reach l q first h =
      subst (λ (x : Laid). Explains text base seen leaf x.entries) (given-same h) tt
  explains (item s kids later) depth base seen cursor reach l q first h =
      let r = item-laid text depth base (map place_of seen) cursor reach s kids later l h in
      let e = entry_laid text s kids cursor r.has r.offset r.inner in
      let begins = ap (start text s kids (map place_of seen) base) (sym q) ∙ r.begins in
      let because-it =
      subst (λ (n : ℕ). Because text base s kids seen (entry_laid text s kids n r.has r.offset r.inner)) (sym q)
      (because base s kids seen r.has r.offset r.inner.width e.slack_at_end begins first) in
      let inner = explains kids (suc depth) (base + r.offset) [] 0 0 r.inner refl (λ _. refl) r.inner-laid in
      let moved = ap (λ (n : ℕ). advance n e) q ∙ moves e seen (is_given e.redefines) refl in
      let others =
      explains later depth base (e ∷ seen) (advance cursor e) (max reach (entry_end e)) r.rest moved
      (first_next base s kids e seen because-it first (is_given s.clauses.redefines) refl refl) r.later-laid in
      subst (λ (x : Laid). Explains text base seen (item s kids later) x.entries) (sym r.result)
      ((refl, refl), because-it, inner, others)

  -- ---------------------------------------------------------------- sums and counts

  -- an item's own reasons add up to its offset
  pub added-own :
      (base : ℕ) (s : Statement) (kids : Forest) (seen : List Entry) (e : Entry) →
      Because text base s kids seen e →
      added (own text seen e) ≡ e.offset
  added-own base s kids seen e r = grind (arith, r.laid-over, r.in-turn, added-slack)

  added-append : (xs ys : List Reason) → added (xs ++ ys) ≡ added xs + added ys
  added-append [] ys = omega arith
  added-append (x ∷ xs) ys = omega (arith, added-append xs ys)

  every_append : {A : Type 0} (f : List Reason → A) (xs ys : List Chain) → every f (xs ++ ys) ≡ every f xs ++ every f ys
  every_append f [] ys = refl
  every_append {A = A} f (x ∷ xs) ys = ap (λ (l : List A). f x.reasons ∷ l) (every_append f xs ys)

  pub sums :
      (f : Forest) (es : Entries) (base : ℕ) (seen : List Entry) (outward : List Reason) →
      Explains text base seen f es →
      every added (chains text outward seen es) ≡ from_start (added outward) es
  unfolding chains
  sums leaf end base seen outward x = refl
  sums (item s kids later) (entry e members others) base seen outward x =
      let reasons = own text seen e ++ outward in
      grind (
        arith,
        added-append (own text seen e) outward,
        added-own base s kids seen e x.1,
        every_append added (chains text (inside e ∷ reasons) [] members) (chains text outward (e ∷ seen) others),
        sums kids members (base + e.offset) [] (inside e ∷ reasons) x.2,
        sums later others base (e ∷ seen) outward x.3,
      )
  sums leaf (entry e members others) base seen outward x = elim x [ ]
  sums (item s kids later) end base seen outward x = elim x [ ]

  -- a placing reason is one, and names no group
  abbrev Placing : Reason → Type 0
  Placing r = (is_placing r ≡ true) × (inside_names r ≡ [])

  placing-kind : (seen : List Entry) (e : Entry) → Placing (placing text seen e)
  placing-kind seen e = grind arith

  slack-placings : (n : ℕ) (outward : List Reason) → placings# (slack_of n ++ outward) ≡ placings# outward
  slack-placings n outward = grind arith

  slack-insides : (n : ℕ) (outward : List Reason) → insides (slack_of n ++ outward) ≡ insides outward
  slack-insides n outward = grind arith

  own-placings :
      (seen : List Entry) (e : Entry) (outward : List Reason) →
      placings# (own text seen e ++ outward) ≡ suc (placings# outward)
  own-placings seen e outward = grind (arith, placing-kind, slack-placings)

  own-insides :
      (seen : List Entry) (e : Entry) (outward : List Reason) →
      insides (own text seen e ++ outward) ≡ insides outward
  own-insides seen e outward = grind (arith, placing-kind, slack-insides)

  pub placed-once :
      (es : Entries) (seen : List Entry) (outward : List Reason) →
      every placings# (chains text outward seen es) ≡ placed_for (suc (placings# outward)) es
  unfolding chains
  placed-once end seen outward = refl
  placed-once (entry e members later) seen outward =
      let reasons = own text seen e ++ outward in
      grind (
        arith,
        own-placings seen e outward,
        every_append placings# (chains text (inside e ∷ reasons) [] members) (chains text outward (e ∷ seen) later),
        placed-once members [] (inside e ∷ reasons),
        placed-once later (e ∷ seen) outward,
      )

  pub inside-each :
      (es : Entries) (seen : List Entry) (outward : List Reason) →
      every insides (chains text outward seen es) ≡ groups_around (insides outward) es
  unfolding chains
  inside-each end seen outward = refl
  inside-each (entry e members later) seen outward =
      let reasons = own text seen e ++ outward in
      grind (
        arith,
        own-insides seen e outward,
        every_append insides (chains text (inside e ∷ reasons) [] members) (chains text outward (e ∷ seen) later),
        inside-each members [] (inside e ∷ reasons),
        inside-each later (e ∷ seen) outward,
      )

  -- ---------------------------------------------------------------- folding keeps every place

  -- two names that are the same go for each other
  same_name-left : (v w x : Span) → same_name text v w ≡ true → same_name text w x ≡ same_name text v x
  same_name-left v w x h =
      ap (λ (l : List ℕ). same l (uppers (name_of text x)))
      (sym (same-equal (uppers (name_of text v)) (uppers (name_of text w)) h))

  -- the check looks at no list below
  check-below :
      (es : Entries) (bases : List Place) →
      fold_check text bases (folded_below text es) ≡ fold_check text bases es
  unfolding fold_check folded_below and_then
  check-below end bases = refl
  check-below (entry e members later) bases =
      grind (arith, check-below later bases, check-below later (place_of e ∷ bases))

  -- what a redefiner that was checked went through
  record CheckedEntry (bases : List Place) (e : Entry) (later : Entries) : Type 0 where
    rest : fold_check text bases later ≡ Ok tt
    starts-in : (base : ℕ) → find text e.redefines bases ≡ Some base → base ≤ e.offset

  checked-entry :
      (bases : List Place) (e : Entry) (members later : Entries) →
      is_given e.redefines ≡ true →
      fold_check text bases (entry e members later) ≡ Ok tt →
      CheckedEntry bases e later
  unfolding fold_check and_then
  checked-entry bases e members later g h = record { rest = grind arith; starts-in = λ base k. grind arith }

  -- every list below was checked
  abbrev pub Checked : Entries → Type 0
  Checked end = Unit {0}
  Checked (entry e members later) = (fold_check text [] members ≡ Ok tt) × Checked members × Checked later

  lay-checked :
      (f : Forest) (depth base : ℕ) (seen : List Place) (cursor reach : ℕ) (l : Laid) →
      lay text depth base seen cursor reach f ≡ Ok l →
      Checked l.entries
  unfolding lay
  lay-checked leaf depth base seen cursor reach l h = subst (λ (x : Laid). Checked x.entries) (given-same h) tt
  lay-checked (item s kids later) depth base seen cursor reach l h =
      let r = item-laid text depth base seen cursor reach s kids later l h in
      let inner = lay-checked kids (suc depth) (base + r.offset) [] 0 0 r.inner r.inner-laid in
      let others = lay-checked later depth base _ _ _ r.rest r.later-laid in
      subst (λ (x : Laid). Checked x.entries) (sym r.result) (r.checked, inner, others)

  -- what holds of the first byte and of the place in the record of every entry of a list and below it, holds of those
  -- that folding leaves
  module _ (P : ℕ → ℕ → Type 0) where
    abbrev All : ℕ → Entries → Type 0
    All base end = Unit {0}
    All base (entry e members later) = P e.at (base + e.offset) × All (base + e.offset) members × All base later

    all-if : (base : ℕ) (b : Bool) (x y : Entries) → All base x → All base y → All base (if b then x else y)
    all-if base b x y h k = grind arith

    all_append : (base : ℕ) (x y : Entries) → All base x → All base y → All base (append x y)
    unfolding append
    all_append base end y h k = k
    all_append base (entry e members later) y h k = (h.0, h.1, all_append base later y h.2 k)

    -- an entry at a place, however the place is counted
    all-entry :
        (b c : ℕ) (e e' : Entry) (members later : Entries) →
        e'.at ≡ e.at →
        c + e'.offset ≡ b + e.offset →
        P e.at (b + e.offset) →
        All (b + e.offset) members →
        All c later →
        All c (entry e' members later)
    all-entry b c e e' members later same place h m l = (
      subst (λ (n : ℕ). P n (c + e'.offset)) (sym same) (subst (P e.at) (sym place) h),
      subst
          (λ (n : ℕ). All n members) (sym place) m,
      l,
    )

    all-redefiners :
        (es : Entries) (base : Place) (bases : List Place) (b : ℕ) →
        ((w : Span) → same_name text base.name w ≡ true → find text w bases ≡ Some base.offset) →
        fold_check text bases es ≡ Ok tt →
        All b es →
        All (b + base.offset) (redefiners text base es)
    unfolding redefiners fold_check and_then
    all-redefiners end base bases b found h a = tt
    all-redefiners (entry e members later) base bases b found h a =
        by_cases (is_given e.redefines)
        (λ g.
        let x = checked-entry bases e members later g h in
        let l = λ (n : same_name text base.name e.redefines ≡ true). x.starts-in base.offset (found e.redefines n) in
        let own = all-entry b (b + base.offset) e (rebased base.offset e) members (redefiners text base later) refl in
        grind (arith, l, own, all-redefiners later base bases b found x.rest a.2))
        (λ g.
        let next = sym (check-base text bases e members later g) ∙ h in
        let ih = λ (n : same_name text base.name e.name ≡ false).
        all-redefiners later base (place_of e ∷ bases) b
        (λ w q. find-miss text w (place_of e) bases (same_name-left base.name w e.name q ∙ n) ∙ found w q) next a.2 in
        grind (arith, ih))

    all-with :
        (b : ℕ) (e : Entry) (members rs later : Entries) →
        P e.at (b + e.offset) →
        All (b + e.offset) members →
        All (b + e.offset) rs →
        All b later →
        All b (with_redefiners text e members rs later)
    all-with b e members rs later h m r l = grind (arith, all-if, all_append, all-entry)

    all-folded :
        (es : Entries) (bases : List Place) (b : ℕ) →
        fold_check text bases es ≡ Ok tt →
        All b es →
        All b (folded_list text bases es)
    unfolding folded_list
    all-folded end bases b h a = tt
    all-folded (entry e members later) bases b h a =
        by_cases (is_given e.redefines)
        (λ g. grind (arith, all-folded later bases b (checked-entry bases e members later g h).rest a.2))
        (λ g.
        let next = sym (check-base text bases e members later g) ∙ h in
        let under = all-redefiners later (place_of e) (place_of e ∷ bases) b
        (λ w q. find-hit text w (place_of e) bases
        (same_name-left e.name w e.name q ∙ same_self (uppers (name_of text e.name)))) next a.2 in
        grind (
          arith,
          all-with b e members (redefiners text (place_of e) later) (folded_list text (place_of e ∷ bases) later) a.0 a.1 under
              (all-folded later (place_of e ∷ bases) b next a.2),
        ))

    all-below : (es : Entries) (b : ℕ) → Checked es → All b es → All b (folded_below text es)
    unfolding folded_below
    all-below end b c a = tt
    all-below (entry e members later) b c a = (
      a.0,
      all-folded (folded_below text members) [] (b + e.offset) (check-below members [] ∙ c.0)
          (all-below members (b + e.offset) c.1 a.1),
      all-below later b c.2 a.2,
    )

    abbrev AllIn : List Entry → List ℕ → Type 0
    AllIn [] ps = Unit {0}
    AllIn (e ∷ es) [] = ⊥
    AllIn (e ∷ es) (p ∷ ps) = P e.at p × AllIn es ps

    all_in :
        (xs : List Entry) (ps : List ℕ) (ys : List Entry) (qs : List ℕ) →
        length xs ≡ length ps →
        AllIn xs ps →
        AllIn ys qs →
        AllIn (xs ++ ys) (ps ++ qs)
    all_in [] [] ys qs n h k = k
    all_in [] (p ∷ ps) ys qs n h k = absurd (omega arith)
    all_in (x ∷ xs) [] ys qs n h k = absurd (omega arith)
    all_in (x ∷ xs) (p ∷ ps) ys qs n h k = (h.0, all_in xs ps ys qs (omega arith) h.1 k)

    all-flat : (es : Entries) (b : ℕ) → All b es → AllIn (flat es) (from_start b es)
    all-flat end b h = tt
    all-flat (entry e members later) b h = (
      h.0,
      all_in (flat members) (from_start (b + e.offset) members) (flat later) (from_start b later)
          (flat-length members (b + e.offset)) (all-flat members (b + e.offset) h.1) (all-flat later b h.2),
    )

    numbered-has :
        (n : ℕ) (es : List Entry) (ps : List ℕ) (e : Entry) →
        AllIn es ps →
        numbered n es ≡ Some e →
        P e.at (get_or ps n 0)
    numbered-has n [] ps e h q = absurd (cc)
    numbered-has n (x ∷ es) [] e h q = absurd h
    numbered-has zero (x ∷ es) (p ∷ ps) e h q = grind arith
    numbered-has (suc n) (x ∷ es) (p ∷ ps) e h q = numbered-has n es ps e h.1 q

  all_map : (P Q : ℕ → ℕ → Type 0) → ((n p : ℕ) → P n p → Q n p) → (es : Entries) (b : ℕ) → All P b es → All Q b es
  all_map P Q f end b h = tt
  all_map P Q f (entry e members later) b h =
      (f e.at (b + e.offset) h.0, all_map P Q f members (b + e.offset) h.1, all_map P Q f later b h.2)

  -- ---------------------------------------------------------------- the statement behind an entry

  -- a chain of a statement that begins there, and that adds up to the place
  abbrev Has : List Chain → ℕ → ℕ → Type 0
  Has cs at place = (c : Chain) × Among c cs × (c.at ≡ at) × (added c.reasons ≡ place)

  chains-all :
      (f : Forest) (es : Entries) (base : ℕ) (outward : List Reason) (seen : List Entry) →
      Explains text base seen f es →
      All (Has (chains text outward seen es)) (added outward) es
  unfolding chains
  chains-all leaf end base outward seen x = tt
  chains-all (item s kids later) (entry e members others) base outward seen x =
      let reasons = own text seen e ++ outward in
      let here = chain e.at reasons in
      let below = chains text (inside e ∷ reasons) [] members in
      let after-it = chains text outward (e ∷ seen) others in
      let whole = here ∷ (below ++ after-it) in
      let sum : added reasons ≡ added outward + e.offset =
      omega (arith, added-append (own text seen e) outward, added-own base s kids seen e x.1) in
      let from : 0 + added reasons ≡ added outward + e.offset = omega (arith, sum) in (
        (here, inl refl, refl, sum),
        all_map (Has below) (Has whole)
            (λ n p h. (h.0, inr (among-left h.0 below after-it h.1), h.2, h.3)) members
            (added outward + e.offset)
            (subst (λ (n : ℕ). All (Has below) n members) from
            (chains-all kids members (base + e.offset) (inside e ∷ reasons) [] x.2)),
        all_map (Has after-it) (Has whole)
            (λ n p h. (h.0, inr (among-right h.0 below after-it h.1), h.2, h.3)) others (added outward)
            (chains-all later others base outward (e ∷ seen) x.3),
      )
  chains-all leaf (entry e members others) base outward seen x = elim x [ ]
  chains-all (item s kids later) end base outward seen x = elim x [ ]

  -- the chains stand in the order of the statements
  abbrev pub starts : List Chain → List ℕ
  starts [] = []
  starts (c ∷ cs) = c.at ∷ starts cs

  starts-append : (xs ys : List Chain) → starts (xs ++ ys) ≡ starts xs ++ starts ys
  starts-append [] ys = refl
  starts-append (x ∷ xs) ys = ap (λ (l : List ℕ). x.at ∷ l) (starts-append xs ys)

  pub chains-begin :
      (f : Forest) (es : Entries) (base : ℕ) (seen : List Entry) (outward : List Reason) →
      Explains text base seen f es →
      starts (chains text outward seen es) ≡ beginnings f
  unfolding chains
  chains-begin leaf end base seen outward x = refl
  chains-begin (item s kids later) (entry e members others) base seen outward x =
      let reasons = own text seen e ++ outward in
      cc (
        starts-append (chains text (inside e ∷ reasons) [] members) (chains text outward (e ∷ seen) others),
        chains-begin kids members (base + e.offset) [] (inside e ∷ reasons) x.2,
        chains-begin later others base (e ∷ seen) outward x.3,
      )
  chains-begin leaf (entry e members others) base seen outward x = elim x [ ]
  chains-begin (item s kids later) end base seen outward x = elim x [ ]

  among-from : (cs : List Chain) (n : ℕ) (c : Chain) → Rises n (starts cs) → Among c cs → n ≤ c.at
  among-from [] n c r a = absurd a
  among-from (d ∷ cs) n c r a = grind (arith, among-from cs (suc d.at) c r.1)

  one-chain :
      (cs : List Chain) (n : ℕ) (c d : Chain) →
      Rises n (starts cs) →
      Among c cs →
      Among d cs →
      c.at ≡ d.at →
      c ≡ d
  one-chain [] n c d r a b q = absurd a
  one-chain (x ∷ cs) n c d r a b q =
      grind (
        arith,
        among-from cs (suc x.at) c r.1,
        among-from cs (suc x.at) d r.1,
        one-chain cs (suc x.at) c d r.1,
      )

  -- so the search for a statement's chain finds it
  pub chain-of :
      (cs : List Chain) (n : ℕ) (c : Chain) →
      Rises n (starts cs) →
      Among c cs →
      chain_at c.at cs ≡ c.reasons
  unfolding chain_at
  chain-of [] n c r a = absurd a
  chain-of (d ∷ cs) n c r a = grind (arith, among-from cs (suc d.at) c r.1, chain-of cs (suc d.at) c r.1)

  -- ---------------------------------------------------------------- the answer

  -- what an accepted record went through: its tree is explained, and every list of it was checked
  pub record Went (f : Forest) (tree : Entries) : Type 0 where
    pub rules : Explains text 0 [] f tree
    pub checked : Checked tree
    pub top : fold_check text [] tree ≡ Ok tt

  pub went : (f : Forest) (tree : Entries) → unfolded text f ≡ Ok tree → Went f tree
  unfolding latest
  went f tree h =
      let r = laid-out text f tree h in
      subst (Went f) r.is
      (record {
        rules = explains f 0 0 [] 0 0 r.list refl (λ _. refl) r.list-laid;
        checked = lay-checked f 0 0 [] 0 0 r.list r.list-laid;
        top = r.list-checked;
      })

  module _ (f : Forest) (tree : Entries) (laid_out : unfolded text f ≡ Ok tree) (rise : Rises 0 (beginnings f)) where
    pub answered :
        (n : ℕ) (e : Entry) →
        numbered n (flat (folded_all text tree)) ≡ Some e →
        (c : Chain) × Among c (chains text [] [] tree) × (c.at ≡ e.at) ×
        (added c.reasons ≡ get_or (from_start 0 (folded_all text tree)) n 0) × (reasons_in n text tree ≡ Ok c.reasons)
    unfolding reasons_in and_then
    answered n e q =
        let cs = chains text [] [] tree in
        let w = went f tree laid_out in
        let P = Has cs in
        let below = all-below P tree 0 w.checked (chains-all f tree 0 [] [] w.rules) in
        let folded = all-folded P (folded_below text tree) [] 0 (check-below tree [] ∙ w.top) below in
        let r =
        numbered-has P n (flat (folded_all text tree)) (from_start 0 (folded_all text tree)) e
        (all-flat P (folded_all text tree) 0 folded) q in
        let found = ap (λ (x : ℕ). chain_at x cs) (sym r.2)
        ∙ chain-of cs 0 r.0 (subst (Rises 0) (sym (chains-begin f tree 0 [] [] w.rules)) rise) r.1 in
        (r.0, r.1, r.2, r.3, rw q (ap Ok found))

    pub past : (n : ℕ) → numbered n (flat (folded_all text tree)) ≡ None → reasons_in n text tree ≡ Err Refusal.NoSuchEntry
    unfolding reasons_in and_then
    past n q = rw q

-- every accepted copybook has its reasons
reasoned :
    (text : List ℕ) (work : ℕ) (f : Forest) (tree es : Entries) →
    record_fields text work ≡ Ok f →
    unfolded text f ≡ Ok tree →
    folded_all text tree ≡ es →
    Reasoned text f tree es
reasoned text work f tree es read laid_out folds =
    let rules = (went text f tree laid_out).rules in
    let rise = fields-begin text work f read in
    let cs = chains text [] [] tree in
    record {
      rules = rules;
      sums = sums text f tree 0 [] [] rules;
      placed-once = placed-once text tree [] [];
      inside-each = inside-each text tree [] [];
      one-chain = λ c d. one-chain text cs 0 c d (subst (Rises 0) (sym (chains-begin text f tree 0 [] [] rules)) rise);
      answered = λ n e q.
          subst (λ (x : Entries). (c : Chain) × Among c cs × (c.at ≡ e.at) ×
          (added c.reasons ≡ get_or (from_start 0 x) n 0) × (reasons_in n text tree ≡ Ok c.reasons)) folds
          (answered text f tree laid_out rise n e (ap (λ (x : Entries). numbered n (flat x)) folds ∙ q));
      past = λ n q. past text f tree laid_out rise n (ap (λ (x : Entries). numbered n (flat x)) folds ∙ q);
    }

pub explained :
    (form : Form) (text : List ℕ) (work : ℕ) (es : Entries) →
    called form (λ t. entries t work) text work ≡ Ok es →
    Explained form text work es
unfolding entries layout report
explained form text work es h =
    let seen = view_in form text in
    let laying : List ℕ → Answer Entries = λ t. entries t work in
    let accepted : entries seen work ≡ Ok es = sym (called-as laying laying form text work h) ∙ h in
    through _ _ accepted λ f read h₁.
    through _ _ h₁ λ tree laid_out h₂.
    let folds = given-same h₂ in
    record {
      of = f;
      read = read;
      tree = tree;
      laid_out = laid_out;
      folds = sym folds;
      reasoned = reasoned seen work f tree es read laid_out folds;
      calls = λ n room.
          called-as laying (λ t. asked (report (Report.Reasons n) room) t work) form text work h
          ∙ asked-of (report (Report.Reasons n) room) seen work f tree read laid_out (λ _. refl);
    }
