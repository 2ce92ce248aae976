-- A copybook with no usage on a group, no DISPLAY after another usage word and no word that names a float has the
-- entries that it had while neither DISPLAY nor those words named a usage and none was inherited. Word by word, both
-- readings say the same but for a DISPLAY that is named; a layout never asks for that.
-- Assumes nothing.
use Prim.Native.Nat.{ℕ, suc, ◌+◌, max}
use Prim.Native.String.{String}
use mathlib.Core.Path.{◌≡◌, refl, sym, ap, subst, ◌∙◌}
use mathlib.Core.Bool.{Bool, true, false, ◌&&◌, ◌||◌, not}
use mathlib.Core.List.{List, [], ◌∷◌, map}
use Rattle.std.specs.Prelude.{Option, None, Some}
use native.Mathlib.Omega.{arith}
use lib.Dec.{eqb, leb}
use Rattle.std.proofs.lemmas.Bool.{and_parts, or_parts}
use Rattle.definition.specs.declared.Span.{Span}
use Rattle.definition.specs.declared.Usage.{Usage}
use Rattle.definition.specs.declared.ItemUsage.{ItemUsage}
use Rattle.definition.specs.declared.NamedUsage.{NamedUsage}
use Rattle.definition.specs.declared.Entry.{Entry}
use Rattle.definition.specs.declared.Clauses.{Clauses}
use Rattle.definition.specs.declared.Keyword.{Keyword}
use Rattle.definition.specs.declared.ParseState.{ParseState}
use Rattle.definition.specs.declared.ParseState.TheVariants.{Clause, IsPicture, APicture, Target, ACount, To}
use Rattle.definition.specs.declared.ParseState.TheVariants.{Bound, Times, DependingOn, OnName, AName, UsageIs}
use Rattle.definition.specs.declared.ParseState.TheVariants.{SignIs, SignWord, Side, Nothing}
use Rattle.definition.specs.declared.Missing.{Missing}
use Rattle.definition.specs.declared.Pictured.{Pictured}
use Rattle.definition.specs.declared.Statement.{Statement}
use Rattle.definition.specs.declared.Refusal.{Refusal}
use Rattle.definition.specs.declared.TheConstants.{MOST_STATEMENTS}
use Rattle.std.specs.Prelude.{if◌then◌else◌}
use Rattle.definition.specs.Basic.{bytes, absent, is_given, fewest, same, uppers, part, digits, number, count}
use Rattle.definition.specs.Basic.{Answer, Err, Ok, ◌>>=◌, and_then, refuse_if, or_refuse}
use Rattle.definition.specs.Words.{statement_words}
use Rattle.definition.specs.Statement.{key, Spelling, spellings, meaning, keyword_of, clauses_of, no_clauses}
use Rattle.definition.specs.Statement.{with_picture, with_usage, with_sign, with_depending, with_redefines, counted}
use Rattle.definition.specs.Statement.{Step, go, missing, sign_words, begin}
use Rattle.definition.specs.Statement.{on_clause, on_depending, on_times, on_sign, clause_step, separated}
use Rattle.definition.specs.Statement.{step}
use Rattle.definition.specs.Statement.{finish, clauses, held, usage_of, named_usage, statement_of, named, statement}
use Rattle.definition.specs.Statement.{statements}
use Rattle.definition.specs.Tree.{Forest, leaf, item, above, not_above, forest, fields}
use Rattle.definition.specs.Usages.{inheriting, inherit, inherited, record_of}
use Rattle.definition.specs.Picture.{is_alignable}
use Rattle.definition.specs.Storage.{elementary, or_none, place_alignment, alignment, width_alignment, repeats}
use Rattle.definition.specs.Fold.{Entries, end, entry, append, Place, place_of, find, has_member, redefiners, widest, union_members}
use Rattle.definition.specs.Fold.{entry_end, with_redefiners, fold_check, folded_list, folded_below}
use Rattle.definition.specs.Layout.{shallow, content, start, slack_from, entry_of, too_large, advance}
use Rattle.definition.specs.Layout.{Laid, lay}
use Rattle.definition.specs.Record.{record_length, variable, ends_fit, unfolded, layout}
use Rattle.definition.specs.Listing.{members#, entry_bytes, entries_bytes, listing}
use Rattle.definition.specs.Calls.{kept_statements, record_tree, record_fields, entries}
use Rattle.theorems.specs.Ungrouped.{is_one_of, new_words, as_seen, clauses_alone, named_alone, statement_alone}
use Rattle.theorems.specs.Ungrouped.{statements_alone, entries_alone, listed, unworded, but_words, other, is_named, lasts, lasting, is_skipped}
use Rattle.theorems.specs.Ungrouped.{lasting_in, lasting_all, names_usage, is_plain, plain_groups, plain_read}
use Rattle.theorems.specs.Ungrouped.{plain_usages}
use Rattle.definition.proofs.Lists.{by_cases}
use Rattle.definition.proofs.WordLaws.{never, same-equal}
use Rattle.definition.proofs.LayoutLaws.{lay_item}

-- ---------------------------------------------------------------- clauses without DISPLAY

abbrev if_other : NamedUsage → ItemUsage → Option NamedUsage
if_other u (ItemUsage.Picture Usage.Display) = None
if_other u (ItemUsage.Picture Usage.Comp3) = Some u
if_other u (ItemUsage.Picture Usage.Comp) = Some u
if_other u ItemUsage.Comp1 = Some u
if_other u ItemUsage.Comp2 = Some u

abbrev undisplay : Option NamedUsage → Option NamedUsage
undisplay None = None
undisplay (Some u) = if_other u u.usage

abbrev forget : Clauses → Clauses
forget c =
    clauses_of c.picture (undisplay c.usage) c.sign c.sync c.occurs c.depending c.redefines

abbrev forget_step : Step → Step
forget_step (Ok (e, c)) = go e (forget c)
forget_step (Err m) = Err m

-- what is not another usage is none without DISPLAY
none_other : (u : Option NamedUsage) → is_named other u ≡ false → undisplay u ≡ None
none_other u h = grind arith

-- one of two is true, and the other is not
first_part : {a b : Bool} → (a || b) ≡ true → b ≡ false → a ≡ true
first_part h p = grind arith

second_part : {a b : Bool} → (a || b) ≡ true → a ≡ false → b ≡ true
second_part h p = grind arith

-- ---------------------------------------------------------------- a word that is none of the new ones

abbrev is_old : Option Keyword → Bool
is_old (Some (Keyword.Names (ItemUsage.Picture Usage.Display))) = false
is_old (Some (Keyword.Names ItemUsage.Comp1)) = false
is_old (Some (Keyword.Names ItemUsage.Comp2)) = false
is_old (Some Keyword.Picture) = true
is_old (Some Keyword.Redefines) = true
is_old (Some Keyword.Occurs) = true
is_old (Some Keyword.Usage) = true
is_old (Some (Keyword.Names (ItemUsage.Picture Usage.Comp3))) = true
is_old (Some (Keyword.Names (ItemUsage.Picture Usage.Comp))) = true
is_old (Some Keyword.Sign) = true
is_old (Some Keyword.Sync) = true
is_old (Some Keyword.Value) = true
is_old None = true

-- of these spellings the new words alone mean what is new
abbrev new_alone : List Spelling → Bool
new_alone [] = true
new_alone (s ∷ ss) = (is_old (Some s.means) || is_one_of new_words (bytes s.word)) && new_alone ss

module _ (u : List ℕ) (h : is_one_of new_words u ≡ false) where
  meaning-old : (ss : List Spelling) → new_alone ss ≡ true → is_old (meaning u ss) ≡ true
  meaning-old [] t = refl
  meaning-old (s ∷ ss) t =
      let both = and_parts (is_old (Some s.means) || is_one_of new_words (bytes s.word)) (new_alone ss) t in
      by_cases (key s.word u)
      (λ e. rw e (first_part both.0 (ap (is_one_of new_words) (sym (same-equal u (bytes s.word) e)) ∙ h)))
      (λ e. rw e (meaning-old ss both.1))

  keyword-old : is_old (keyword_of u) ≡ true
  unfolding keyword_of same
  keyword-old = meaning-old spellings refl

-- ---------------------------------------------------------------- one word

module _ (c : Clauses) where
  begin-forget : (w : Span) (k : Option Keyword) → is_old k ≡ true → begin w k (forget c) ≡ forget_step (begin w k c)
  begin-forget w k n = grind arith

  counted-forget : (m : Missing) (e : ParseState) (o : Option ℕ) → counted m e (forget c) o ≡ forget_step (counted m e c o)
  counted-forget n e o = grind arith

  -- by a test
  either :
      (b : Bool) (x y : Step) {x' y' : Step} →
      x' ≡ forget_step x →
      y' ≡ forget_step y →
      (if b then x' else y') ≡ forget_step (if b then x else y)
  either b x y p q = grind arith

  module _ (u : List ℕ) (h : is_one_of new_words u ≡ false) (w : Span) where
    on-clause : on_clause w u (forget c) ≡ forget_step (on_clause w u c)
    on-clause = begin-forget w (keyword_of u) (keyword-old u h)

    on-depending : on_depending w u (forget c) ≡ forget_step (on_depending w u c)
    on-depending = either (key "DEPENDING" u) (go OnName c) (on_clause w u c) refl on-clause

    on-times : on_times w u (forget c) ≡ forget_step (on_times w u c)
    on-times = either (key "TIMES" u) (go DependingOn c) (on_depending w u c) refl on-depending

    clause-step-forget : (e : ParseState) → clause_step e w u (forget c) ≡ forget_step (clause_step e w u c)
    unfolding clause_step
    clause-step-forget Clause = on-clause
    clause-step-forget IsPicture = either (key "IS" u) (go APicture c) (go Clause (with_picture w c)) refl refl
    clause-step-forget APicture = refl
    clause-step-forget Target = refl
    clause-step-forget ACount = counted-forget Missing.Count To (count u)
    clause-step-forget To = either (key "TO" u) (go Bound c) (on_times w u c) refl on-times
    clause-step-forget Bound = counted-forget Missing.Bound Times (count u)
    clause-step-forget Times = on-times
    clause-step-forget DependingOn = on-depending
    clause-step-forget OnName = either (key "ON" u) (go AName c) (go Clause (with_depending w c)) refl refl
    clause-step-forget AName = refl
    clause-step-forget UsageIs = either (key "IS" u) (go Clause c) (on_clause w u c) refl on-clause
    clause-step-forget SignIs = either (key "IS" u) (go SignWord c) (on_sign u c) refl refl
    clause-step-forget SignWord = refl
    clause-step-forget Side = either (key "LEFT" u || key "RIGHT" u) (go Clause c) (on_clause w u c) refl on-clause
    clause-step-forget Nothing = refl

separated-forget : (u : List ℕ) (s : Step) → separated u (forget_step s) ≡ forget_step (separated u s)
separated-forget u s = grind arith

-- ---------------------------------------------------------------- a new word

-- what holds of each of these words holds of a word that is one of them
abbrev Each : (List ℕ → Type 0) → List String → Type 0
Each P [] = Unit {0}
Each P (k ∷ ks) = P (bytes k) × Each P ks

one_of : (P : List ℕ → Type 0) (ks : List String) → Each P ks → (u : List ℕ) → is_one_of ks u ≡ true → P u
one_of P [] h u e = never e
one_of P (k ∷ ks) h u e =
    by_cases (key k u)
    (λ p. subst P (sym (same-equal u (bytes k) p)) h.0)
    (λ p. one_of P ks h.1 u (rw p at e))

-- a word is none of these
abbrev NoneOf : List String → List ℕ → Type 0
NoneOf [] u = Unit {0}
NoneOf (k ∷ ks) u = (key k u ≡ false) × NoneOf ks u

none_of : (ks : List String) (u : List ℕ) → is_one_of ks u ≡ false → NoneOf ks u
none_of [] u h = tt
none_of (k ∷ ks) u h = let both = or_parts (key k u) (is_one_of ks u) h in (both.0, none_of ks u both.1)

-- the words that a clause goes on with
abbrev onward : List String
onward = "IS" ∷ "TO" ∷ "TIMES" ∷ "DEPENDING" ∷ "ON" ∷ "LEFT" ∷ "RIGHT" ∷ "LEADING" ∷ "SEPARATE" ∷ []

-- a word that is none of those, and no count
record Silent (u : List ℕ) : Type 0 where
  no-onward : is_one_of onward u ≡ false
  no-count : count u ≡ None

-- what such a word does, where `began` is what it does at a clause
abbrev silently : ParseState → Span → Clauses → Step → Step
silently Clause w c began = began
silently IsPicture w c began = go Clause (with_picture w c)
silently APicture w c began = go Clause (with_picture w c)
silently Target w c began = go Clause (with_redefines w c)
silently ACount w c began = Err Missing.Count
silently To w c began = began
silently Bound w c began = Err Missing.Bound
silently Times w c began = began
silently DependingOn w c began = began
silently OnName w c began = go Clause (with_depending w c)
silently AName w c began = go Clause (with_depending w c)
silently UsageIs w c began = began
silently SignIs w c began = go Clause (with_sign (Some (sign_words false false)) c)
silently SignWord w c began = go Clause (with_sign (Some (sign_words false false)) c)
silently Side w c began = began
silently Nothing w c began = go Nothing c

module _ {u : List ℕ} (q : Silent u) where
  abbrev no : NoneOf onward u
  no = none_of onward u q.no-onward

  no-separate : (s : Step) → separated u s ≡ s
  no-separate (Ok (e, c)) = rw no.1.1.1.1.1.1.1.1.0
  no-separate (Err m) = refl

  silent-clause :
      (e : ParseState) (w : Span) (c : Clauses) →
      clause_step e w u c ≡ silently e w c (begin w (keyword_of u) c)
  unfolding clause_step
  silent-clause e w c = grind (arith, q.no-count, no)

  silent-step : (e : ParseState) (w : Span) (c : Clauses) → step e w u c ≡ silently e w c (begin w (keyword_of u) c)
  unfolding step
  silent-step e w c = no-separate (clause_step e w u c) ∙ silent-clause e w c

-- a step lasts where it names no float and takes no other usage back
abbrev Lasts : Clauses → Step → Type 0
Lasts c (Ok (e, d)) = lasts c.usage d.usage ≡ true
Lasts c (Err m) = Unit {0}

-- the empty word does nothing where a clause may begin
empty-step : (e : ParseState) (w : Span) (c : Clauses) → step e w [] c ≡ silently e w c (go Clause c)
unfolding keyword_of same number digits
empty-step e w c = silent-step (record { no-onward = refl; no-count = refl }) e w c

module _ (c : Clauses) where
  -- a usage that is named leaves what it was without DISPLAY
  abbrev Leaves : NamedUsage → Type 0
  Leaves v = lasts c.usage (Some v) ≡ true → go Clause (forget c) ≡ go Clause (forget (with_usage v c))

  silently-forget :
      (v : NamedUsage) →
      Leaves v →
      (e : ParseState) (w : Span) →
      Lasts c (silently e w c (go Clause (with_usage v c))) →
      silently e w (forget c) (go Clause (forget c)) ≡ forget_step (silently e w c (go Clause (with_usage v c)))
  silently-forget v left e w h = grind arith

  -- the word was the empty one
  abbrev Forgets : List ℕ → Type 0
  Forgets u =
      (e : ParseState) (w : Span) →
      Lasts c (step e w u c) →
      step e w [] (forget c) ≡ forget_step (step e w u c)

  names-forget :
      (u : List ℕ) (v : ItemUsage) →
      is_one_of onward u ≡ false →
      count u ≡ None →
      ((w : Span) → begin w (keyword_of u) c ≡ go Clause (with_usage (named_usage v w) c)) →
      ((w : Span) → Leaves (named_usage v w)) →
      Forgets u
  names-forget u v o n b left e w h =
      let there : step e w u c ≡ silently e w c (go Clause (with_usage (named_usage v w) c)) =
      silent-step (record { no-onward = o; no-count = n }) e w c ∙ ap (silently e w c) (b w) in
      empty-step e w (forget c)
      ∙ silently-forget (named_usage v w) (left w) e w (subst (Lasts c) there h)
      ∙ ap forget_step (sym there)

  -- DISPLAY names what is none without it; a float is not named
  display-leaves : (w : Span) → Leaves (named_usage (ItemUsage.Picture Usage.Display) w)
  display-leaves w h =
      ap
      (λ (u : Option NamedUsage).
      go Clause (clauses_of c.picture u c.sign c.sync c.occurs c.depending c.redefines))
      (none_other c.usage (grind arith))

  new-forget : Each Forgets new_words
  unfolding keyword_of same number digits
  new-forget = (
    names-forget (bytes "DISPLAY") (ItemUsage.Picture Usage.Display) refl refl (λ w. refl) display-leaves,
    (
      names-forget (bytes "COMP-1") ItemUsage.Comp1 refl refl (λ w. refl) (λ w h. never h),
      (
        names-forget (bytes "COMPUTATIONAL-1") ItemUsage.Comp1 refl refl (λ w. refl) (λ w h. never h),
        (
          names-forget (bytes "COMP-2") ItemUsage.Comp2 refl refl (λ w. refl) (λ w h. never h),
          (names-forget (bytes "COMPUTATIONAL-2") ItemUsage.Comp2 refl refl (λ w. refl) (λ w h. never h), tt),
        ),
      ),
    ),
  )

  step_other :
      (e : ParseState) (w : Span) (u : List ℕ) →
      is_one_of new_words u ≡ false →
      step e w u (forget c) ≡ forget_step (step e w u c)
  unfolding step
  step_other e w u p = ap (separated u) (clause-step-forget c u p w e) ∙ separated-forget u (clause_step e w u c)

  step-forget :
      (e : ParseState) (w : Span) (u : List ℕ) →
      Lasts c (step e w u c) →
      step e w (as_seen u) (forget c) ≡ forget_step (step e w u c)
  step-forget e w u h =
      by_cases (is_one_of new_words u)
      (λ p. rw p (one_of Forgets new_words new-forget u p e w h))
      (λ p. rw p (step_other e w u p))

-- ---------------------------------------------------------------- a statement

-- an answer, with what it gives changed
abbrev pub mapped : {A B : Type 0} → (A → B) → Answer A → Answer B
mapped f a = a >>= λ x. Ok (f x)

abbrev pub forget_statement : Statement → Statement
forget_statement s = statement_of s.level s.at s.name (forget s.clauses)

finish-forget : (at : ℕ) (e : ParseState) (c : Clauses) → finish at e (forget c) ≡ mapped forget (finish at e c)
unfolding and_then
finish-forget at e c = grind arith

module _ (text : List ℕ) where
  -- what comes after a step, before and now
  abbrev on_alone : ℕ → List Span → Step → Answer Clauses
  on_alone at ws s = elim s [ Ok (e, c) ↦ clauses_alone text at e c ws | Err m ↦ Err (missing at m) ]

  abbrev on_now : ℕ → List Span → Step → Answer Clauses
  on_now at ws s = elim s [ Ok (e, c) ↦ clauses text at e c ws | Err m ↦ Err (missing at m) ]

  abbrev lasting_on : Clauses → List Span → Step → Bool
  lasting_on c ws s =
      elim s [ Ok (e, d) ↦ lasts c.usage d.usage && lasting text e d ws | Err m ↦ true ]

  after-step :
      (at : ℕ) (ws : List Span) (c : Clauses) →
      ((e : ParseState) (d : Clauses) →
      lasting text e d ws ≡ true →
      clauses_alone text at e (forget d) ws ≡ mapped forget (clauses text at e d ws)) →
      (s : Step) →
      lasting_on c ws s ≡ true →
      Lasts c s × (on_alone at ws (forget_step s) ≡ mapped forget (on_now at ws s))
  unfolding and_then
  after-step at ws c ih s h = grind arith

  clauses-forget :
      (ws : List Span) (at : ℕ) (e : ParseState) (c : Clauses) →
      lasting text e c ws ≡ true →
      clauses_alone text at e (forget c) ws ≡ mapped forget (clauses text at e c ws)
  unfolding clauses clauses_alone lasting
  clauses-forget [] at e c h = finish-forget at e c
  clauses-forget (w ∷ ws) at e c h =
      let u = uppers (part text w) in
      let next = after-step at ws c (λ e' d k. clauses-forget ws at e' d k) (step e w u c) h in
      cc (step-forget c e w u next.0, next.1)

  named-forget :
      (at level : ℕ) (n : Span) (ws : List Span) →
      lasting text Clause no_clauses ws ≡ true →
      named_alone text at level (n ∷ ws) ≡ mapped forget_statement (named text at level (n ∷ ws))
  unfolding named named_alone and_then
  named-forget at level n ws h = grind (arith, clauses-forget ws at Clause no_clauses h)

  -- ---------------------------------------------------------------- statements

  abbrev forget_kept : Option Statement → Option Statement
  forget_kept None = None
  forget_kept (Some s) = Some (forget_statement s)

  -- a statement that begins at a position, by its level
  abbrev levelled : ℕ → (ℕ → Answer Statement) → Option ℕ → Answer (Option Statement)
  levelled at read o = do
    level ← or_refuse (Refusal.BadLevel at) o
    if eqb level 88 then Ok None else do
      s ← read level
      Ok (Some s)

  by_level :
      (at : ℕ) (alone now : ℕ → Answer Statement) (o : Option ℕ) →
      (is_skipped o ≡ false → (level : ℕ) → alone level ≡ mapped forget_statement (now level)) →
      levelled at alone o ≡ mapped forget_kept (levelled at now o)
  unfolding and_then
  by_level at alone now o h = grind arith

  statement-forget :
      (ws : List Span) → lasting_in text ws ≡ true → statement_alone text ws ≡ mapped forget_kept (statement text ws)
  unfolding statement statement_alone named named_alone and_then
  statement-forget [] h = refl
  statement-forget (w ∷ []) h =
      by_level w.start (λ level. named_alone text w.start level []) (λ level. named text w.start level [])
      (number 256 (part text w)) (λ _ level. refl)
  statement-forget (w ∷ n ∷ ws) h =
      by_level w.start (λ level. named_alone text w.start level (n ∷ ws))
      (λ level. named text w.start level (n ∷ ws)) (number 256 (part text w))
      (λ p level. named-forget w.start level n ws (second_part h p))

  -- what comes after a statement, where `rest` are the later ones, counted from a number on
  abbrev kept_on : (ℕ → Answer (List Statement)) → ℕ → Option Statement → Answer (List Statement)
  kept_on rest n r =
      elim r [
        | None ↦ rest n
        | Some s ↦ do
          _ ← refuse_if (leb MOST_STATEMENTS n) (Refusal.TooManyStatements s.at)
          ss ← rest (suc n)
          Ok (s ∷ ss)
      ]

  after-statement :
      (before now : ℕ → Answer (List Statement)) (n : ℕ) →
      ((m : ℕ) → before m ≡ mapped (map forget_statement) (now m)) →
      (a : Answer (Option Statement)) →
      (mapped forget_kept a >>= kept_on before n) ≡ mapped (map forget_statement) (a >>= kept_on now n)
  unfolding and_then
  after-statement before now n ih a = grind arith

  pub statements-forget :
      (wss : List (List Span)) (n : ℕ) →
      lasting_all text wss ≡ true →
      statements_alone text n wss ≡ mapped (map forget_statement) (statements text n wss)
  unfolding statements statements_alone lasting_all and_then
  statements-forget [] n h = refl
  statements-forget (ws ∷ wss) n h =
      let both = and_parts (lasting_in text ws) (lasting_all text wss) h in
      let before : ℕ → Answer (List Statement) = λ m. statements_alone text m wss in
      let now : ℕ → Answer (List Statement) = λ m. statements text m wss in
      cc (
        statement-forget ws both.0,
        after-statement before now n (λ m. statements-forget wss m both.1) (statement text ws),
      )

-- ---------------------------------------------------------------- the forest

abbrev map_forest : (Statement → Statement) → Forest → Forest
map_forest g leaf = leaf
map_forest g (item s kids later) = item (g s) (map_forest g kids) (map_forest g later)

above-forget : (n : ℕ) (f : Forest) → above n (map_forest forget_statement f) ≡ map_forest forget_statement (above n f)
unfolding above
above-forget n leaf = refl
above-forget n (item s kids later) = grind (arith, above-forget n later)

not_above-forget :
    (n : ℕ) (f : Forest) → not_above n (map_forest forget_statement f) ≡ map_forest forget_statement (not_above n f)
unfolding not_above
not_above-forget n leaf = refl
not_above-forget n (item s kids later) = grind (arith, not_above-forget n later)

forest-forget : (ss : List Statement) → forest (map forget_statement ss) ≡ map_forest forget_statement (forest ss)
unfolding forest
forest-forget [] = refl
forest-forget (s ∷ ss) =
    cc (forest-forget ss, above-forget s.level (forest ss), not_above-forget s.level (forest ss))

fields_map : (g : Statement → Statement) (f : Forest) → fields (map_forest g f) ≡ map_forest g (fields f)
unfolding fields
fields_map g f = grind arith

-- where no group names a usage, each statement has its own
abbrev alone : Statement → Statement
alone s = inheriting None s

none_named : (u : Option NamedUsage) → not (names_usage u) ≡ true → held None u ≡ None
none_named u h = grind arith

plain-within : (s : Statement) (kids : Forest) → is_plain s kids ≡ true → inherit (alone s).usage kids ≡ inherited kids
unfolding inherit
plain-within s kids h = grind (arith, none_named)

inherited-plain : (f : Forest) → plain_groups f ≡ true → inherited f ≡ map_forest alone f
unfolding inherit plain_groups
inherited-plain leaf h = refl
inherited-plain (item s kids later) h = grind (arith, plain-within s kids, inherited-plain kids, inherited-plain later)

-- a line of a `do` that both have, and one whose value one of them changes
pub same-line :
    {A B C : Type 0} (h : B → C) (a : Answer A) (f : A → Answer C) (g : A → Answer B) →
    ((x : A) → f x ≡ mapped h (g x)) →
    (a >>= f) ≡ mapped h (a >>= g)
unfolding and_then
same-line h (Ok x) f g e = e x
same-line h (Err r) f g e = refl

pub changed-line :
    {A D B C : Type 0} (h : B → C) (u : A → D) (a : Answer A) (f : D → Answer C) (g : A → Answer B) →
    ((x : A) → f (u x) ≡ mapped h (g x)) →
    (mapped u a >>= f) ≡ mapped h (a >>= g)
unfolding and_then
changed-line h u (Ok x) f g e = e x
changed-line h u (Err r) f g e = refl

-- ---------------------------------------------------------------- without the words of usages

-- a statement that names nothing, and has the usage that holds for it, by no word
abbrev pub bare : Statement → Statement
bare s =
    let c = s.clauses in
    record {
      level = s.level;
      at = s.at;
      name = s.name;
      clauses = clauses_of c.picture None c.sign c.sync c.occurs c.depending c.redefines;
      usage = Some (named_usage (usage_of s.usage) absent);
    }

abbrev pub bares : Forest → Forest
bares f = map_forest bare f

-- DISPLAY holds where none is named, so that both readings have the same statements
usage-forget : (u : Option NamedUsage) → usage_of (undisplay u) ≡ usage_of (held None u)
usage-forget u = grind arith

bares-forget : (f : Forest) → bares (map_forest forget_statement f) ≡ bares (map_forest alone f)
bares-forget leaf = refl
bares-forget (item s kids later) =
    let c = s.clauses in
    λ i. item (record {
      level = s.level;
      at = s.at;
      name = s.name;
      clauses = clauses_of c.picture None c.sign c.sync c.occurs c.depending c.redefines;
      usage = Some (named_usage (usage-forget c.usage i) absent);
    }) (bares-forget kids i) (bares-forget later i)

module _ (text : List ℕ) where
  -- a layout does not ask for words
  elementary-bare : (s : Statement) → elementary text (bare s) ≡ elementary text s
  elementary-bare s = grind arith

  pub content-bare : (s : Statement) (kids : Forest) → content text (bare s) (bares kids) ≡ content text s kids
  content-bare s leaf = elementary-bare s
  content-bare s (item t kids later) = refl

  pub aligned-bare :
      (s : Statement) (kids : Forest) →
      place_alignment text (bare s) (bares kids) ≡ place_alignment text s kids
  aligned-bare s leaf =
      ap
      (λ (a : Answer Pictured). let c = or_none a in
      if s.clauses.sync && not (is_given s.clauses.redefines) && is_alignable c.kind then c.width else 1)
      (elementary-bare s)
  aligned-bare s (item t kids later) = refl

  alignment-bare : (f : Forest) → alignment text (bares f) ≡ alignment text f
  unfolding alignment
  alignment-bare leaf = refl
  alignment-bare (item s kids later) =
      λ i. max (aligned-bare s kids i) (max (alignment-bare kids i) (alignment-bare later i))

  pub shallow-bare : (depth : ℕ) (f : Forest) → shallow depth (bares f) ≡ shallow depth f
  shallow-bare depth leaf = refl
  shallow-bare depth (item s kids later) = refl

  -- nor does a fold
  member-unworded : (w : Span) (es : Entries) → has_member text w (unworded es) ≡ has_member text w es
  unfolding has_member
  member-unworded w end = refl
  member-unworded w (entry e members later) = grind (arith, member-unworded w later)

  append-unworded : (a b : Entries) → append (unworded a) (unworded b) ≡ unworded (append a b)
  unfolding append
  append-unworded end b = refl
  append-unworded (entry e members later) b = cc (append-unworded later b)

  widest-unworded : (es : Entries) → widest (unworded es) ≡ widest es
  unfolding widest
  widest-unworded end = refl
  widest-unworded (entry e members later) = cc (widest-unworded later)

  redefiners-unworded :
      (base : Place) (es : Entries) →
      redefiners text base (unworded es) ≡ unworded (redefiners text base es)
  unfolding redefiners
  redefiners-unworded base end = refl
  redefiners-unworded base (entry e members later) = grind (arith, redefiners-unworded base later)

  pub check-unworded : (es : Entries) (bases : List Place) → fold_check text bases (unworded es) ≡ fold_check text bases es
  unfolding fold_check and_then
  check-unworded end bases = refl
  check-unworded (entry e members later) bases =
      grind (arith, check-unworded later bases, check-unworded later (place_of e ∷ bases))

  with-unworded :
      (e : Entry) (members rs later : Entries) →
      with_redefiners text (record e { usage = absent }) (unworded members) (unworded rs) (unworded later)
      ≡ unworded (with_redefiners text e members rs later)
  with-unworded e members end later = refl
  with-unworded e members (entry r ms rs) later =
      let both = union_members text e members (entry r ms rs) in
      let same : union_members text (record e { usage = absent }) (unworded members) (unworded (entry r ms rs))
      ≡ unworded both =
      grind (arith, member-unworded e.name members, append-unworded members (entry r ms rs)) in
      cc (same, widest-unworded both)

  pub folded-unworded :
      (es : Entries) (bases : List Place) →
      folded_list text bases (unworded es) ≡ unworded (folded_list text bases es)
  unfolding folded_list
  folded-unworded end bases = refl
  folded-unworded (entry e members later) bases =
      grind (
        arith,
        folded-unworded later bases,
        folded-unworded later (place_of e ∷ bases),
        redefiners-unworded (place_of e) later,
        with-unworded e members (redefiners text (place_of e) later) (folded_list text (place_of e ∷ bases) later),
      )

  pub below-unworded : (es : Entries) → folded_below text (unworded es) ≡ unworded (folded_below text es)
  unfolding folded_below
  below-unworded end = refl
  below-unworded (entry e members later) =
      cc (below-unworded members, folded-unworded (folded_below text members) [], below-unworded later)

  pub fit-unworded : (es : Entries) → ends_fit (unworded es) ≡ ends_fit es
  unfolding ends_fit and_then
  fit-unworded end = refl
  fit-unworded (entry e members later) = grind (arith, fit-unworded later)

  -- so a list laid
  abbrev pub unworded_list : Laid → Laid
  unworded_list l = record { entries = unworded l.entries; width = l.width }

  item-unworded :
      (seen : List Place) (cursor reach : ℕ) (s : Statement) (own : Answer Pictured) (begins : Answer ℕ)
      (deep : Answer (Unit {0})) (below : ℕ → Answer Laid) (multiple : ℕ) (after : List Place → ℕ → ℕ → Answer Laid) →
      lay_item text seen cursor reach (bare s) own begins deep (λ o. mapped unworded_list (below o)) multiple
      (λ seen' cursor' reach'. mapped unworded_list (after seen' cursor' reach'))
      ≡ mapped unworded_list (lay_item text seen cursor reach s own begins deep below multiple after)
  unfolding and_then
  item-unworded seen cursor reach s own begins deep below multiple after =
      let u = unworded_list in
      same-line u own _ _ λ c.
      same-line u begins _ _ λ offset.
      same-line u deep _ _ λ _.
      changed-line u u (below offset) _ _ λ inner.
      let slack_at_end = fewest multiple (c.width + inner.width) in
      let e = entry_of s c offset (slack_from cursor s offset) inner.width slack_at_end in
      ap
      (λ (a : Answer (Unit {0})). a >>= λ _.
      refuse_if (too_large e) (Refusal.TooLarge s.at) >>= λ _.
      mapped u (after (place_of e ∷ seen) (advance cursor e) (max reach (entry_end e))) >>= λ l.
      Ok (record { entries = entry (record e { usage = absent }) (unworded inner.entries) l.entries; width = l.width }))
      (check-unworded inner.entries [])
      ∙ (same-line u (fold_check text [] inner.entries) _ _ λ _.
      same-line u (refuse_if (too_large e) (Refusal.TooLarge s.at)) _ _ λ _.
      changed-line u u (after (place_of e ∷ seen) (advance cursor e) (max reach (entry_end e))) _ _ λ l. refl)

  lay-unworded :
      (f : Forest) (depth base : ℕ) (seen : List Place) (cursor reach : ℕ) →
      lay text depth base seen cursor reach (bares f) ≡ mapped unworded_list (lay text depth base seen cursor reach f)
  unfolding lay and_then
  lay-unworded leaf depth base seen cursor reach = refl
  lay-unworded (item s kids later) depth base seen cursor reach =
      (λ i. lay_item text seen cursor reach (bare s)
      (content-bare s kids i)
      (if is_given s.clauses.redefines then or_refuse (Refusal.NoTarget s.at) (find text s.clauses.redefines seen)
      else Ok (cursor + fewest (aligned-bare s kids i) (base + cursor)))
      (shallow-bare (suc depth) kids i)
      (λ offset. lay-unworded kids (suc depth) (base + offset) [] 0 0 i)
      (if repeats s.clauses.occurs && not (is_given s.clauses.depending) then alignment-bare kids i else 1)
      (λ seen' cursor' reach'. lay-unworded later depth base seen' cursor' reach' i))
      ∙ item-unworded seen cursor reach s (content text s kids) (start text s kids seen base cursor)
      (shallow (suc depth) kids)
      (λ offset. lay text (suc depth) (base + offset) [] 0 0 kids) (width_alignment text s kids)
      (λ seen' cursor' reach'. lay text depth base seen' cursor' reach' later)

  layout-unworded : (f : Forest) → layout text (bares f) ≡ mapped unworded (layout text f)
  unfolding layout unfolded and_then
  layout-unworded f =
      let l = lay-unworded f 0 0 [] 0 0 in
      grind (arith, l, check-unworded, fit-unworded, folded-unworded, below-unworded)

-- ---------------------------------------------------------------- the entries

-- the fields of statements, none of them a group that names a usage, laid out in a way that asks for no words
pub fields-forget :
    (lays : Forest → Answer Entries) (ss : List Statement) →
    ((f : Forest) → lays (bares f) ≡ mapped unworded (lays f)) →
    plain_groups (forest ss) ≡ true →
    mapped unworded (lays (fields (forest (map forget_statement ss)))) ≡ mapped unworded (lays (record_of ss))
fields-forget lays ss unasked h =
    let f = forest ss in
    ap (λ (x : Forest). mapped unworded (lays x))
    (ap fields (forest-forget ss) ∙ fields_map forget_statement f)
    ∙ sym (unasked (map_forest forget_statement (fields f)))
    ∙ ap lays (bares-forget (fields f))
    ∙ unasked (map_forest alone (fields f))
    ∙ ap (λ (x : Forest). mapped unworded (lays x))
    (sym (fields_map alone f) ∙ ap fields (sym (inherited-plain f h)))

-- so by the layout of today
record-forget :
    (text : List ℕ) (ss : List Statement) →
    plain_groups (forest ss) ≡ true →
    mapped unworded (layout text (fields (forest (map forget_statement ss)))) ≡ mapped unworded
    (layout text (record_of ss))
record-forget text ss h = fields-forget (layout text) ss (layout-unworded text) h

-- a copybook with no usage on a group, no DISPLAY after another usage word and no word that names a float has the
-- entries that it had, but for the words of usages
pub same_entries :
    (text : List ℕ) (work : ℕ) →
    plain_usages text ≡ true →
    mapped unworded (entries_alone text work) ≡ mapped unworded (entries text work)
unfolding entries_alone entries record_fields record_tree kept_statements and_then
same_entries text work h =
    let both = and_parts (lasting_all text (statement_words text)) (plain_read (kept_statements text)) h in
    grind (arith, statements-forget text (statement_words text) 0 both.0, record-forget text)

-- ---------------------------------------------------------------- the listing

length-unworded : (es : Entries) → record_length (unworded es) ≡ record_length es
unfolding record_length
length-unworded end = refl
length-unworded (entry e members later) = cc (length-unworded later)

variable-unworded : (es : Entries) → variable (unworded es) ≡ variable es
unfolding variable
variable-unworded end = refl
variable-unworded (entry e members later) = cc (variable-unworded members, variable-unworded later)

members-unworded : (es : Entries) → members# (unworded es) ≡ members# es
members-unworded end = refl
members-unworded (entry e members later) = cc (members-unworded later)

bytes-unworded : (es : Entries) → entries_bytes (unworded es) ≡ entries_bytes es
unfolding entries_bytes entry_bytes
bytes-unworded end = refl
bytes-unworded (entry e members later) =
    cc (members-unworded members, bytes-unworded members, bytes-unworded later)

listing-unworded : (es : Entries) → listing (unworded es) ≡ listing es
unfolding listing
listing-unworded es = cc (length-unworded es, variable-unworded es, members-unworded es, bytes-unworded es)

pub listed-unworded : (a : Answer Entries) → listed (but_words a) ≡ listed a
unfolding and_then
listed-unworded (Ok es) = ap Ok (listing-unworded es)
listed-unworded (Err r) = refl

-- so it has the listing that it had
pub same-listing :
    (text : List ℕ) (work : ℕ) →
    plain_usages text ≡ true →
    listed (entries_alone text work) ≡ listed (entries text work)
same-listing text work h =
    sym (listed-unworded (entries_alone text work))
    ∙ ap listed (same_entries text work h)
    ∙ listed-unworded (entries text work)
