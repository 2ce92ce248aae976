-- One step of the search for a name, of folding, of laying a sibling list, and of the record.
-- Assumes nothing.
use Prim.Native.Nat.{ℕ, ◌+◌, max}
use mathlib.Core.Path.{◌≡◌, refl, ap}
use mathlib.Core.Bool.{true, false}
use mathlib.Core.List.{List, [], ◌∷◌}
use Rattle.std.specs.Prelude.{None, Some}
use Rattle.definition.specs.declared.Span.{Span}
use Rattle.definition.specs.declared.Pictured.{Pictured}
use Rattle.definition.specs.declared.Statement.{Statement}
use Rattle.definition.specs.declared.Entry.{Entry}
use Rattle.definition.specs.declared.Refusal.{Refusal}
use Rattle.definition.specs.Basic.{is_given, fewest, Answer, Ok, ◌>>=◌, refuse_if}
use Rattle.definition.specs.Layout.{slack_from, entry_of, too_large, advance, Laid}
use Rattle.definition.specs.Fold.{Entries, end, entry, append, entry_end}
use Rattle.definition.specs.Fold.{same_name, Place, place_of, Search, one_more, search_back, find}
use Rattle.definition.specs.Fold.{rebased, redefiners, fold_check}

module _ (text : List ℕ) where
  -- ---------------------------------------------------------------- names

  module _ (w : Span) where
    pub search-none : search_back text w [] ≡ record { found = None; compared = 0 }
    unfolding search_back
    search-none = refl

    pub find_none : find text w [] ≡ None
    unfolding find
    find_none = ap (λ (s : Search). s.found) search-none

    module _ (p : Place) (ps : List Place) where
      -- a place of that name; one of another name
      module _ (h : same_name text w p.name ≡ true) where
        pub search-hit : search_back text w (p ∷ ps) ≡ record { found = Some p.offset; compared = 1 }
        unfolding search_back
        search-hit = rw (h, search_back)

        pub find-hit : find text w (p ∷ ps) ≡ Some p.offset
        unfolding find
        find-hit = ap (λ (s : Search). s.found) search-hit

      module _ (h : same_name text w p.name ≡ false) where
        pub search-miss : search_back text w (p ∷ ps) ≡ one_more (search_back text w ps)
        unfolding search_back
        search-miss = rw (h, search_back)

        pub find-miss : find text w (p ∷ ps) ≡ find text w ps
        unfolding find
        find-miss = ap (λ (s : Search). s.found) search-miss

  -- ---------------------------------------------------------------- redefiners

  module _ (base : Place) where
    pub redefiners-none : redefiners text base end ≡ end
    unfolding redefiners
    redefiners-none = refl

    module _ (e : Entry) (members later : Entries) where
      -- a redefiner of that name; one of another name
      module _ (g : is_given e.redefines ≡ true) where
        pub redefiners-hit :
            same_name text base.name e.redefines ≡ true →
            redefiners text base (entry e members later) ≡ entry (rebased base.offset e) members (redefiners text base later)
        unfolding redefiners
        redefiners-hit h = rw (h, g)

        pub redefiners-miss :
            same_name text base.name e.redefines ≡ false →
            redefiners text base (entry e members later) ≡ redefiners text base later
        unfolding redefiners
        redefiners-miss h = rw (h, g)

      -- the next base of that name; one of another name
      module _ (g : is_given e.redefines ≡ false) where
        pub redefiners-ends :
            same_name text base.name e.name ≡ true →
            redefiners text base (entry e members later) ≡ end
        unfolding redefiners
        redefiners-ends h = rw (h, g)

        pub redefiners-next :
            same_name text base.name e.name ≡ false →
            redefiners text base (entry e members later) ≡ redefiners text base later
        unfolding redefiners
        redefiners-next h = rw (h, g)

  -- ---------------------------------------------------------------- fold

  -- a base is looked for among the later ones
  pub check-base :
      (bases : List Place) (e : Entry) (members later : Entries) →
      is_given e.redefines ≡ false →
      fold_check text bases (entry e members later) ≡ fold_check text (place_of e ∷ bases) later
  unfolding fold_check
  check-base bases e members later g = rw (g, fold_check)

  -- ---------------------------------------------------------------- a sibling list

  -- an item laid, line by line of `lay`, by what it takes of its text and of the lists below and after it: what it is,
  -- where it starts, the depth of its list, that list, and what its width is a multiple of
  abbrev pub lay_item :
      List Place →
      ℕ →
      ℕ →
      Statement →
      Answer Pictured →
      Answer ℕ →
      Answer (Unit {0}) →
      (ℕ → Answer Laid) →
      ℕ →
      (List Place → ℕ → ℕ → Answer Laid) →
      Answer Laid
  lay_item seen cursor reach s own begins deep below alignment after = do
    c ← own
    offset ← begins
    _ ← deep
    inner ← below offset
    _ ← fold_check text [] inner.entries
    let slack_at_end = fewest alignment (c.width + inner.width)
    let e = entry_of s c offset (slack_from cursor s offset) inner.width slack_at_end
    _ ← refuse_if (too_large e) (Refusal.TooLarge s.at)
    l ← after (place_of e ∷ seen) (advance cursor e) (max reach (entry_end e))
    Ok (record { entries = entry e inner.entries l.entries; width = l.width })

-- ---------------------------------------------------------------- lists of entries

pub append-none : (b : Entries) → append end b ≡ b
unfolding append
append-none b = refl

module _ (e : Entry) (members later : Entries) where
  pub append-entry : (b : Entries) → append (entry e members later) b ≡ entry e members (append later b)
  unfolding append
  append-entry b = refl
