-- Folded lists, entry by entry: a list is what its first entry comes to and then the rest; what is counted or measured
-- of two lists together; the redefiners of a base.
-- Assumes nothing.
use Prim.Native.Nat.{ℕ, ◌+◌, max}
use mathlib.Core.Path.{◌≡◌, refl, ap, ◌∙◌}
use mathlib.Core.Bool.{Bool, true, false}
use mathlib.Core.List.{List, ◌∷◌}
use Rattle.std.specs.Prelude.{Option, None, Some}
use native.Mathlib.Omega.{arith}
use Rattle.definition.specs.declared.Span.{Span}
use Rattle.definition.specs.declared.Entry.{Entry}
use Rattle.std.specs.Prelude.{if◌then◌else◌}
use Rattle.definition.specs.Basic.{is_given}
use Rattle.definition.specs.Fold.{Entries, end, entry, append, same_name, same_spelling, Place, place_of, find, has_member}
use Rattle.definition.specs.Fold.{rebased, redefiners, widest, with_redefiners, folded_list, folded_below, folded_all}
use Rattle.definition.specs.Listing.{members#}
use Rattle.layout.specs.declared.unions.Standing.{Standing}
use Rattle.layout.specs.Shown.{standing, bases_after, shown_as, shown_named}

-- ---------------------------------------------------------------- two lists together

pub append-end : (a : Entries) → append a end ≡ a
unfolding append
append-end end = refl
append-end (entry e ms later) = ap (entry e ms) (append-end later)

pub append-append : (a b c : Entries) → append (append a b) c ≡ append a (append b c)
unfolding append
append-append end b c = refl
append-append (entry e ms later) b c = ap (entry e ms) (append-append later b c)

pub count-append : (a b : Entries) → members# (append a b) ≡ members# a + members# b
unfolding append
count-append end b = omega arith
count-append (entry e ms later) b = omega (arith, count-append later b)

pub widest-append : (a b : Entries) → widest (append a b) ≡ max (widest a) (widest b)
unfolding append widest
widest-append end b = omega arith
widest-append (entry e ms later) b = omega (arith, widest-append later b)

pub member-append : (text : List ℕ) (w : Span) (a b : Entries) → has_member text w (append a b) ≡ (if has_member text w a then true else has_member text w b)
unfolding append has_member
member-append text w end b = refl
member-append text w (entry e ms later) b = go (same_spelling text w e.name) (member-append text w later b)
  where
    go :
        (h : Bool) →
        has_member text w (append later b) ≡ (if has_member text w later then true else has_member text w b) →
        (if h then true else has_member text w (append later b)) ≡ (if (if h then true else has_member text w later) then true else has_member text w b)
    go true ih = refl
    go false ih = ih

-- ---------------------------------------------------------------- one entry of a folded list

or-false : (b : Bool) → (if b then true else false) ≡ b
or-false true = refl
or-false false = refl

module _ (text : List ℕ) where
  -- a base with its redefiners comes before the later entries
  with-later : (e : Entry) (members rs later : Entries) → with_redefiners text e members rs later ≡ append (with_redefiners text e members rs end) later
  unfolding append
  with-later e members end later = refl
  with-later e members (entry r ms rs) later = refl

  module _ (bases : List Place) (e : Entry) (members later : Entries) where
    pub list-base :
        is_given e.redefines ≡ false →
        folded_list text bases (entry e members later)
        ≡ with_redefiners text e members (redefiners text (place_of e) later) (folded_list text (place_of e ∷ bases) later)
    unfolding folded_list
    list-base g = rw (g, folded_list)

    module _ (g : is_given e.redefines ≡ true) where
      pub list-alone :
          find text e.redefines bases ≡ None →
          folded_list text bases (entry e members later) ≡ entry e members (folded_list text bases later)
      unfolding folded_list
      list-alone h = rw (g, h, folded_list)

      pub list-under :
          {base : ℕ} →
          find text e.redefines bases ≡ Some base →
          folded_list text bases (entry e members later) ≡ folded_list text bases later
      unfolding folded_list
      list-under h = rw (g, h, folded_list)

    list-found :
        is_given e.redefines ≡ true →
        (o : Option ℕ) →
        find text e.redefines bases ≡ o →
        folded_list text bases (entry e members later)
        ≡ append (shown_as text (standing text bases e) e members later) (folded_list text (bases_after e bases) later)
    unfolding append
    list-found g None h = list-alone g h ∙ rw (g, h)
    list-found g (Some base) h = list-under g h ∙ rw (g, h)

    list-given :
        (b : Bool) →
        is_given e.redefines ≡ b →
        folded_list text bases (entry e members later)
        ≡ append (shown_as text (standing text bases e) e members later) (folded_list text (bases_after e bases) later)
    list-given true g = list-found g (find text e.redefines bases) refl
    list-given false g =
        list-base g
        ∙ with-later e members (redefiners text (place_of e) later) (folded_list text (place_of e ∷ bases) later)
        ∙ rw g

    -- what it comes to, and then the rest
    pub list-step :
        folded_list text bases (entry e members later)
        ≡ append (shown_as text (standing text bases e) e members later) (folded_list text (bases_after e bases) later)
    list-step = list-given (is_given e.redefines) refl

  -- ---------------------------------------------------------------- what an entry comes to

  module _ (e : Entry) (members : Entries) where
    own_name : (name : Span) (rs : Entries) → has_member text name (with_redefiners text e members rs end) ≡ same_spelling text name e.name
    unfolding has_member
    own_name name end = or-false (same_spelling text name e.name)
    own_name name (entry r ms rs) = or-false (same_spelling text name e.name)

    pub shown-named : (name : Span) (s : Standing) (later : Entries) → has_member text name (shown_as text s e members later) ≡ shown_named text name s e
    unfolding has_member
    shown-named name Standing.Under later = refl
    shown-named name Standing.Alone later = or-false (same_spelling text name e.name)
    shown-named name Standing.Base later = own_name name (redefiners text (place_of e) later)

  -- ---------------------------------------------------------------- redefiners

  -- the redefiners among entries whose members are folded
  pub redefiners-below : (base : Place) (es : Entries) → redefiners text base (folded_below text es) ≡ folded_below text (redefiners text base es)
  unfolding folded_below redefiners
  redefiners-below base end = refl
  redefiners-below base (entry e members later) =
      go (is_given e.redefines) (same_name text base.name e.redefines) (same_name text base.name e.name) (redefiners-below base later)
    where
      go :
          (g a b : Bool) →
          redefiners text base (folded_below text later) ≡ folded_below text (redefiners text base later) →
          (if g then (if a then entry (rebased base.offset e) (folded_all text members) (redefiners text base (folded_below text later)) else redefiners text base (folded_below text later))
          else if b then end
          else redefiners text base (folded_below text later))
          ≡ folded_below text
          (if g then (if a then entry (rebased base.offset e) members (redefiners text base later) else redefiners text base later)
          else if b then end
          else redefiners text base later)
      go true true b ih = ap (entry (rebased base.offset e) (folded_all text members)) ih
      go true false b ih = ih
      go false a true ih = refl
      go false a false ih = ih
