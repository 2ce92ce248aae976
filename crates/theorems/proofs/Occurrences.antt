-- What `Demand` comes to, occurrence by occurrence: the bytes from the sum of offset + number × width along the groups
-- around an elementary entry on, for each choice of occurrence numbers below the counts, are its piece; each piece is
-- one of these; there are as many as the counts multiply to.
-- Assumes nothing.
use Prim.Native.Nat.{ℕ, zero, suc, ◌+◌, ◌*◌, ◌-◌, ◌≤◌, ◌<◌, max}
use mathlib.Core.Path.{◌≡◌, refl, sym, ◌∙◌, ap, subst}
use mathlib.Core.Bool.{true, ◌&&◌, not}
use mathlib.Core.List.{List, [], ◌∷◌, ◌++◌}
use mathlib.Core.Logic.{◌⊎◌, inl, inr, ⊎_elim}
use native.Mathlib.Omega.{arith}
use native.Mathlib.Nat.{zero-mul, suc-mul}
use Rattle.definition.specs.declared.Owner.{Owner}
use Rattle.definition.specs.declared.Statement.{Statement}
use Rattle.definition.specs.declared.Entry.{Entry}
use Rattle.definition.specs.Basic.{is_given, Answer, Ok}
use Rattle.definition.specs.Tree.{Forest, leaf, item}
use Rattle.definition.specs.Fold.{Entries, end, entry, times, total}
use Rattle.definition.specs.Layout.{entry_of}
use Rattle.definition.specs.Record.{record_length}
use Rattle.definition.specs.Storage.{storage, is_aligned, place_alignment, alignment, repeats, width_alignment}
use Rattle.definition.specs.Owner.{Holder, occurrence, slack, pieces}
use Rattle.definition.specs.Placed.{content_of}
use Rattle.definition.specs.Search.{entries#}
use Rattle.definition.specs.Demand.{Fewest, Tells, Spot, spot, gap, each, single, spots_of, Among}
use Rattle.definition.specs.Demand.{naming, Demand}
use Rattle.theorems.specs.Occurrences.{Within, Occurs, AlignedTo, Largest, ItemOf, Slackened, Ended, pieces#, here#, counts}
use Rattle.std.proofs.lemmas.Bool.{and_parts}
use Rattle.definition.proofs.Answers.{given-same}
use Rattle.definition.proofs.Lists.{by_cases, order}
use Rattle.definition.proofs.Slack.{leaf-wide}
use Rattle.definition.proofs.Pieces.{among-append, among-left, among-right, laid-before}

-- ---------------------------------------------------------------- occurrences

module _ (width : ℕ) (one : ℕ → List Spot) (y : Spot) where
  each_in : (n first i : ℕ) → i < n → Among y (one (first + i * width)) → Among y (each n first width one)
  each_in zero first i h a = absurd (omega arith)
  each_in (suc n) first zero h a =
      among-left y (one first) (each n (first + width) width one)
      (subst (λ (x : ℕ). Among y (one x)) (omega (arith, zero-mul width)) a)
  each_in (suc n) first (suc i) h a =
      among-right y (one first) (each n (first + width) width one)
      (each_in n (first + width) i (omega arith)
      (subst (λ (x : ℕ). Among y (one x)) (omega (arith, suc-mul i width)) a))

  each-out : (n first : ℕ) → Among y (each n first width one) → (i : ℕ) × (i < n) × Among y (one (first + i * width))
  each-out zero first a = absurd a
  each-out (suc n) first a =
      ⊎_elim
      (λ (m : Among y (one first)).
      (0, omega arith, subst (λ (x : ℕ). Among y (one x)) (omega (arith, zero-mul width)) m))
      (λ (m : Among y (each n (first + width) width one)).
      let r = each-out n (first + width) m in
      (suc r.0, omega (arith, r.1), subst (λ (x : ℕ). Among y (one x)) (omega (arith, suc-mul r.0 width)) r.2))
      (among-append y (one first) (each n (first + width) width one) a)

-- what is told of an entry and of those after it
module _ (k base : ℕ) (e : Entry) (members later : Entries) (y : Spot) where
  -- one occurrence of the entry
  abbrev one_of : ℕ → List Spot
  one_of first = single k e members first (spots_of (suc k) first members)

  -- which it is, and that it is that
  abbrev InOne : Type 0
  InOne = (i : ℕ) × (i < times e.occurs) × Among y (one_of (base + e.offset + i * e.width))

  -- is its slack, one of its occurrences, or what is told of the later ones
  split-told :
      Among y (spots_of k base (entry e members later)) →
      Among y (gap k (base + (e.offset - e.slack)) e.slack)
      ⊎ (InOne ⊎ Among y (spots_of (suc k + entries# members) base later))
  unfolding spots_of
  split-told a =
      let before = gap k (base + (e.offset - e.slack)) e.slack in
      let own = each (times e.occurs) (base + e.offset) e.width one_of in
      let rest = spots_of (suc k + entries# members) base later in
      ⊎_elim
      (λ (m : Among y (before ++ own)).
      ⊎_elim
      (λ (g : Among y before). inl g)
      (λ (g : Among y own). inr (inl (each-out e.width one_of y (times e.occurs) (base + e.offset) g)))
      (among-append y before own m))
      (λ (m : Among y rest). inr (inr m))
      (among-append y (before ++ own) rest a)

  -- and the last two are told
  told-one : InOne → Among y (spots_of k base (entry e members later))
  unfolding spots_of
  told-one r =
      let before = gap k (base + (e.offset - e.slack)) e.slack in
      let own = each (times e.occurs) (base + e.offset) e.width one_of in
      among-left y (before ++ own) (spots_of (suc k + entries# members) base later)
      (among-right y before own (each_in e.width one_of y (times e.occurs) (base + e.offset) r.0 r.1 r.2))

  told-later :
      Among y (spots_of (suc k + entries# members) base later) →
      Among y (spots_of k base (entry e members later))
  unfolding spots_of
  told-later m =
      let before = gap k (base + (e.offset - e.slack)) e.slack in
      let own = each (times e.occurs) (base + e.offset) e.width one_of in
      among-right y (before ++ own) (spots_of (suc k + entries# members) base later) m

gap-slack : (k first n m : ℕ) (b w : ℕ) {A : Type 0} → Among (spot (occurrence m) b w) (gap k first n) → A
gap-slack k first n m b w a = grind arith

single-in :
    (k : ℕ) (e : Entry) (members : Entries) (start : ℕ) (y : Spot) (inner : List Spot) {P : Type 0} →
    (P → Among y inner) →
    Within k e.width members start y P →
    Among y (single k e members start inner)
single-in k e members start y inner f w =
    grind (arith, among-left y inner (gap k (start + (e.width - e.slack_at_end)) e.slack_at_end))

single-out :
    (k : ℕ) (e : Entry) (members : Entries) (start n first width : ℕ) (inner : List Spot) {P : Type 0} →
    (Among (spot (occurrence n) first width) inner → P) →
    Among (spot (occurrence n) first width) (single k e members start inner) →
    Within k e.width members start (spot (occurrence n) first width) P
single-out k e end start n first width inner f a = grind arith
single-out k e (entry m ms later) start n first width inner f a =
    let behind = start + (e.width - e.slack_at_end) in
    let z = spot (occurrence n) first width in
    ⊎_elim
    (λ (b : Among z inner). f b)
    (λ (b : Among z (gap k behind e.slack_at_end)). gap-slack k behind e.slack_at_end n first width b)
    (among-append z inner (gap k behind e.slack_at_end) a)

module _ (n first width : ℕ) where
  abbrev y : Spot
  y = spot (occurrence n) first width

  pub occurs-told : (es : Entries) (k base : ℕ) → Occurs k base es y → Among y (spots_of k base es)
  unfolding Occurs spots_of
  occurs-told end k base o = absurd o
  occurs-told (entry e members later) k base o =
      let from : ℕ → ℕ = λ i. base + e.offset + i * e.width in
      ⊎_elim
      (λ (r :
      (i : ℕ)
      × (i < times e.occurs)
      × Within k e.width members (from i) y (Occurs (suc k) (from i) members y)).
      told-one k base e members later y (
        r.0,
        r.1,
        single-in k e members (from r.0) y _ (occurs-told members (suc k) (from r.0)) r.2,
      ))
      (λ (r : Occurs (suc k + entries# members) base later y).
      told-later k base e members later y (occurs-told later _ base r))
      o

  pub told-occurs : (es : Entries) (k base : ℕ) → Among y (spots_of k base es) → Occurs k base es y
  unfolding Occurs spots_of
  told-occurs end k base a = absurd a
  told-occurs (entry e members later) k base a =
      ⊎_elim
      (λ (g : Among y (gap k (base + (e.offset - e.slack)) e.slack)). gap-slack k _ _ n first width g)
      (λ (m :
      InOne k base e members later y
      ⊎ Among y (spots_of (suc k + entries# members) base later)).
      ⊎_elim
      (λ (r : InOne k base e members later y).
      let c = base + e.offset + r.0 * e.width in
      inl (r.0, r.1, single-out k e members c n first width _ (told-occurs members (suc k) c) r.2))
      (λ (l : Among y (spots_of (suc k + entries# members) base later)).
      inr (told-occurs later _ base l))
      m)
      (split-told k base e members later y a)

-- ---------------------------------------------------------------- owners

module _ {text : List ℕ} {owner : ℕ → Answer Owner} {f : Forest} {es : Entries} (d : Demand text owner f es) where
  -- each byte of each occurrence is owned by it
  pub occurrence-owned :
      (k first width place : ℕ) →
      Occurs 0 0 es (spot (occurrence k) first width) →
      place < width →
      owner (first + place) ≡ Ok (Owner.Piece k first place)
  occurrence-owned k first width place o l =
      let y = spot (occurrence k) first width in
      let listed = occurs-told k first width es 0 0 o in
      let ends = laid-before (pieces text f) 0 y (subst (Among y) (sym d.in_order) listed) in
      let below : first + place < record_length es = omega (arith, ends, d.covered) in
      let one = d.one-owner (first + place) below in
      let same : y ≡ one.owner = one.only y listed (record { starts = omega arith; ends = omega arith }) in
      let here : first + place - first ≡ place = omega arith in
      d.named (first + place) below
      ∙ ap (λ (x : Spot). Ok (naming x.holder x.first (first + place))) (sym same)
      ∙ ap (λ (n : ℕ). Ok (Owner.Piece k first n)) here

  -- and a byte that is owned by a piece is a byte of such an occurrence
  pub owner-occurs :
      (q k first place : ℕ) →
      q < record_length es →
      owner q ≡ Ok (Owner.Piece k first place) →
      (width : ℕ) × Occurs 0 0 es (spot (occurrence k) first width) × (place < width) × (q ≡ first + place)
  owner-occurs q k first place l e =
      let one = d.one-owner q l in
      by-holder one.owner.holder one.owner.first one.owner.width (given-same (sym (d.named q l) ∙ e)) one.listed one.has.starts one.has.ends
    where
      by-holder :
          (h : Holder) (b w : ℕ) →
          naming h b q ≡ Owner.Piece k first place →
          Among (spot h b w) (spots_of 0 0 es) →
          b ≤ q →
          q < b + w →
          (width : ℕ) × Occurs 0 0 es (spot (occurrence k) first width) × (place < width) × (q ≡ first + place)
      by-holder (occurrence j) b w n a s t = (w, grind (arith, told-occurs j b w es 0 0 a), grind arith, grind arith)
      by-holder (slack j) b w n a s t = absurd (cc)

-- ---------------------------------------------------------------- the largest alignment

module _ (text : List ℕ) where
  place-held :
      (s : Statement) (kids : Forest) →
      (place_alignment text s kids ≡ 1)
      ⊎ ((is_aligned text s kids ≡ true) × ((storage text s).width ≡ place_alignment text s kids))
  place-held s kids = by_cases (is_aligned text s kids) (λ y. inr (y, rw y)) (λ y. inl (rw y))

  -- of two numbers that are 1 or have this, the larger is
  larger : (P : ℕ → Type 0) (a b : ℕ) → (a ≡ 1) ⊎ P a → (b ≡ 1) ⊎ P b → (max a b ≡ 1) ⊎ P (max a b)
  larger P a b x y =
      ⊎_elim
      (λ (l : a < b). subst (λ (n : ℕ). (n ≡ 1) ⊎ P n) (omega arith) y)
      (λ (l : b ≤ a). subst (λ (n : ℕ). (n ≡ 1) ⊎ P n) (omega arith) x)
      (order a b)

  -- the alignment of a list is 1, or that of an item in it,
  alignment-held : (f : Forest) → (alignment text f ≡ 1) ⊎ AlignedTo text (alignment text f) f
  unfolding alignment
  alignment-held leaf = inl refl
  alignment-held (item s kids later) =
      let P : ℕ → Type 0 = λ m. AlignedTo text m (item s kids later) in
      larger P (place_alignment text s kids) (max (alignment text kids) (alignment text later))
      (⊎_elim
      (λ (z : place_alignment text s kids ≡ 1). inl z)
      (λ (z : (is_aligned text s kids ≡ true) × ((storage text s).width ≡ place_alignment text s kids)). inr (inl z))
      (place-held s kids))
      (larger P (alignment text kids) (alignment text later)
      (⊎_elim
      (λ (z : alignment text kids ≡ 1). inl z)
      (λ (z : AlignedTo text (alignment text kids) kids). inr (inr (inl z)))
      (alignment-held kids))
      (⊎_elim
      (λ (z : alignment text later ≡ 1). inl z)
      (λ (z : AlignedTo text (alignment text later) later). inr (inr (inr z)))
      (alignment-held later)))

  -- and none in it is larger
  alignment-most : (f : Forest) (w : ℕ) → AlignedTo text w f → w ≤ alignment text f
  unfolding alignment
  alignment-most leaf w a = absurd a
  alignment-most (item s kids later) w a =
      let inner = alignment-most kids w in
      let others = alignment-most later w in
      ⊎_elim
      (λ (b : (is_aligned text s kids ≡ true) × ((storage text s).width ≡ w)).
      let own : place_alignment text s kids ≡ (storage text s).width = rw b.0 in
      omega (arith, own, b.1))
      (λ (b : AlignedTo text w kids ⊎ AlignedTo text w later).
      ⊎_elim
      (λ (c : AlignedTo text w kids). omega (arith, inner c))
      (λ (c : AlignedTo text w later). omega (arith, others c))
      b)
      a

  pub alignment-largest : (f : Forest) → 1 < alignment text f → Largest text (alignment text f) f
  alignment-largest f l =
      ⊎_elim
      (λ (z : alignment text f ≡ 1). absurd (omega arith))
      (λ (z : AlignedTo text (alignment text f) f). record { one = z; most = alignment-most f })
      (alignment-held f)

-- ---------------------------------------------------------------- slack

gap_at : (k b g : ℕ) (y : Spot) → Among y (gap k b g) → (y ≡ spot (slack k) b g) × (0 < g)
gap_at k b g y a = grind arith

module _ (n first width : ℕ) where
  abbrev z : Spot
  z = spot (slack n) first width

  -- behind the members of a group
  abbrev Behind : ℕ → Entry → Entries → ℕ → Type 0
  Behind k e end c = ⊥
  Behind k e (entry m ms later) c = Among z (gap k (c + (e.width - e.slack_at_end)) e.slack_at_end)

  single-slack :
      (k : ℕ) (e : Entry) (members : Entries) (c : ℕ) (inner : List Spot) →
      Among z (single k e members c inner) →
      Among z inner ⊎ Behind k e members c
  single-slack k e end c inner a = grind arith
  single-slack k e (entry m ms later) c inner a =
      among-append z inner (gap k (c + (e.width - e.slack_at_end)) e.slack_at_end) a

  module _ (text : List ℕ) (whole : Forest) where
    before-aligned :
        (s : Statement) (kids : Forest) (of : ItemOf whole s kids) (members : Entries) (e : Entry) (k base reached : ℕ) →
        e ≡ entry_of s (content_of text s kids) e.offset e.slack (record_length members) e.slack_at_end →
        e.offset ≡ reached + e.slack →
        Fewest (place_alignment text s kids) (base + reached) e.slack →
        Fewest (width_alignment text s kids) ((content_of text s kids).width + record_length members) e.slack_at_end →
        Tells text (base + e.offset) 0 kids members →
        z ≡ spot (slack k) (base + (e.offset - e.slack)) e.slack →
        0 < e.slack →
        Slackened text whole first width
    unfolding record_length
    before-aligned s (item u more later) of members e k base reached told-so at fewest ends t q l =
        absurd (omega (arith, fewest.small))
    before-aligned s leaf of (entry m ms others) e k base reached told-so at fewest ends t q l = absurd t
    before-aligned s leaf of end e k base reached told-so at fewest ends t q l =
        let starts : first ≡ base + reached = ap (λ (x : Spot). x.first) q ∙ omega (arith, at) in
        let wide : width ≡ e.slack = ap (λ (x : Spot). x.width) q in
        let none : e.slack_at_end ≡ 0 = omega (arith, ends.small, leaf-wide text s) in
        by_cases (is_aligned text s leaf)
        (λ y.
        let own : place_alignment text s leaf ≡ (storage text s).width = rw y in
        record {
          statement = s;
          of = of;
          slackened = e;
          base = base;
          reached = reached;
          is_one = y;
          told-so =
              told-so
              ∙ (λ i. entry_of s (storage text s) e.offset (sym wide i) 0 (none i));
          from = starts;
          up_to = omega (arith, starts, wide, at);
          fewest =
              subst (λ (x : ℕ). Fewest (storage text s).width x width) (sym starts)
              (subst (λ (x : ℕ). Fewest (storage text s).width (base + reached) x) (sym wide)
              (subst (λ (x : ℕ). Fewest x (base + reached) e.slack) own fewest));
        })
        (λ y. let own : place_alignment text s leaf ≡ 1 = rw y in absurd (omega (arith, fewest.small, own)))

    at-end :
        (s : Statement) (kids : Forest) (of : ItemOf whole s kids) (members : Entries) (e : Entry) (k c : ℕ) →
        e ≡ entry_of s (content_of text s kids) e.offset e.slack (record_length members) e.slack_at_end →
        Fewest (width_alignment text s kids) ((content_of text s kids).width + record_length members) e.slack_at_end →
        Tells text c 0 kids members →
        Behind k e members c →
        Ended text whole first width
    at-end s kids of end e k c told-so fewest t b = absurd b
    at-end s leaf of (entry m ms later) e k c told-so fewest t b = absurd t
    at-end s (item u below more) of (entry m ms later) e k c told-so fewest t b =
        let kids = item u below more in
        let long = record_length (entry m ms later) in
        let at = gap_at k (c + (e.width - e.slack_at_end)) e.slack_at_end z b in
        let wide : width ≡ e.slack_at_end = ap (λ (x : Spot). x.width) at.0 in
        let padded : e.width ≡ 0 + long + e.slack_at_end = ap (λ (x : Entry). x.width) told-so in
        let none : 0 + long ≡ long = omega arith in
        by_cases (repeats s.clauses.occurs && not (is_given s.clauses.depending))
        (λ y.
        let both = and_parts (repeats s.clauses.occurs) (not (is_given s.clauses.depending)) y in
        let own : width_alignment text s kids ≡ alignment text kids = rw y in
        let fewest' =
        subst (λ (x : ℕ). Fewest (alignment text kids) x e.slack_at_end) none
        (subst (λ (x : ℕ). Fewest x (0 + long) e.slack_at_end) own fewest)
        in
        record {
          statement = s;
          list = kids;
          of = of;
          start = c;
          members = entry m ms later;
          told-there = t;
          has-occurs = both.0;
          no-depending = grind arith;
          largest = alignment-largest text kids (omega (arith, fewest'.small, at.1));
          from = ap (λ (x : Spot). x.first) at.0 ∙ omega (arith, padded);
          fewest = subst (λ (x : ℕ). Fewest (alignment text kids) long x) (sym wide) fewest';
        })
        (λ y. let own : width_alignment text s kids ≡ 1 = rw y in absurd (omega (arith, fewest.small, own, at.1)))

    pub slack-stands :
        (f : Forest) (es : Entries) (k base reached : ℕ) →
        ((u : Statement) (below : Forest) → ItemOf f u below → ItemOf whole u below) →
        Tells text base reached f es →
        Among z (spots_of k base es) →
        Slackened text whole first width ⊎ Ended text whole first width
    unfolding spots_of
    slack-stands leaf end k base reached of t a = absurd a
    slack-stands (item s kids later) (entry e members others) k base reached of t a =
        let own : ItemOf whole s kids = of s kids (inl (refl, refl)) in
        ⊎_elim
        (λ (g : Among z (gap k (base + (e.offset - e.slack)) e.slack)).
        let at = gap_at k (base + (e.offset - e.slack)) e.slack z g in
        let here : base + e.offset + 0 * e.width ≡ base + e.offset = omega arith in
        inl (before-aligned s kids own members e k base reached t.0 t.1 t.2 t.3
        (subst (λ (x : ℕ). Tells text x 0 kids members) here (t.4 0 (omega arith))) at.0 at.1))
        (λ (m :
        InOne k base e members others z
        ⊎ Among z (spots_of (suc k + entries# members) base others)).
        ⊎_elim
        (λ (r : InOne k base e members others z).
        let c = base + e.offset + r.0 * e.width in
        ⊎_elim
        (λ (o : Among z (spots_of (suc k) c members)). slack-stands kids members (suc k) c 0 (λ u below o. of u below (inr (inl o))) (t.4 r.0 (omega (arith, r.1))) o)
        (λ (o : Behind k e members c). inr (at-end s kids own members e k c t.0 t.3 (t.4 r.0 (omega (arith, r.1))) o))
        (single-slack k e members c _ r.2))
        (λ (l : Among z (spots_of (suc k + entries# members) base others)).
        slack-stands later others _ base (e.offset + total e) (λ u below o. of u below (inr (inr o))) t.5 l)
        m)
        (split-told k base e members others z a)
    slack-stands leaf (entry e members others) k base reached of t a = absurd t
    slack-stands (item s kids later) end k base reached of t a = absurd t

-- ---------------------------------------------------------------- how many

module _ (n : ℕ) where
  pieces#-append : (xs ys : List Spot) → pieces# n (xs ++ ys) ≡ pieces# n xs + pieces# n ys
  pieces#-append [] ys = omega arith
  pieces#-append (x ∷ xs) ys = omega (arith, pieces#-append xs ys)

  pieces#-each :
      (c first w m : ℕ) (one : ℕ → List Spot) →
      ((b : ℕ) → pieces# n (one b) ≡ m) →
      pieces# n (each c first w one) ≡ c * m
  pieces#-each zero first w m one h = sym (zero-mul m)
  pieces#-each (suc c) first w m one h =
      omega (
        arith,
        pieces#-append (one first) (each c (first + w) w one),
        h first,
        pieces#-each c (first + w) w m one h,
        suc-mul c m,
      )

  pieces#-gap : (k first g : ℕ) → pieces# n (gap k first g) ≡ 0
  pieces#-gap k first g = grind arith

  pieces#-single :
      (k : ℕ) (e : Entry) (members : Entries) (b : ℕ) (inner : List Spot) (m : ℕ) →
      pieces# n inner ≡ m →
      pieces# n (single k e members b inner) ≡ here# n k members m
  pieces#-single k e end b inner m h = grind arith
  pieces#-single k e (entry t ms later) b inner m h =
      let behind = b + (e.width - e.slack_at_end) in
      omega (arith, pieces#-append inner (gap k behind e.slack_at_end), pieces#-gap k behind e.slack_at_end)

  -- there are as many pieces of an entry as the counts multiply to
  pub counted : (es : Entries) (k base : ℕ) → pieces# n (spots_of k base es) ≡ counts n k es
  unfolding spots_of counts
  counted end k base = refl
  counted (entry e members later) k base =
      let before = gap k (base + (e.offset - e.slack)) e.slack in
      let one : ℕ → List Spot = λ c. single k e members c (spots_of (suc k) c members) in
      let own = each (times e.occurs) (base + e.offset) e.width one in
      let rest = spots_of (suc k + entries# members) base later in
      let ih = counted members (suc k) in
      omega (
        arith,
        pieces#-append (before ++ own) rest,
        pieces#-append before own,
        pieces#-gap k (base + (e.offset - e.slack)) e.slack,
        pieces#-each (times e.occurs) (base + e.offset) e.width (here# n k members (counts n (suc k) members)) one
            (λ b. pieces#-single k e members b (spots_of (suc k) b members) (counts n (suc k) members) (ih b)),
        counted later (suc k + entries# members) base,
      )
