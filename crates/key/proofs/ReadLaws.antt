-- The key of a copybook is what a question for it finds.
-- Assumes nothing.
use Rattle.std.proofs.Common.{ℕ, ◌≡◌, refl, ap, List}
use Rattle.definition.specs.Basic.{Answer, Err, Ok, ◌>>=◌, and_then}
use Rattle.definition.specs.Calls.{record_tree, record_fields, entries, asked}
use Rattle.definition.specs.Fold.{Entries, folded_all}
use Rattle.definition.specs.Key.{key_among, key_in}
use Rattle.definition.specs.Record.{unfolded, layout}
use Rattle.definition.specs.Tree.{Forest, fields, root}
use Rattle.key.proofs.SoughtLaws.{sought-key}
use Rattle.record.specs.Asking.{value_of}
use Rattle.key.specs.declared.family.KeyNamed.{KeyNamed}
use Rattle.key.specs.Sets.{key_given, read_key}

pub key-asked :
    (k : KeyNamed) (text : List ℕ) (n room : ℕ) →
    read_key text (value_of (asked (key_given k room) text n)) ≡ key_in n k.name.now text
unfolding asked key_in entries record_fields layout and_then
key-asked k text n room = by-tree (record_tree text n)
  where
    by-laid :
        (t : Forest) (x : Answer Entries) →
        read_key text (value_of (x >>= λ es. key_given k room text (root t) (fields t) es))
        ≡ ((x >>= λ es. Ok (folded_all text es)) >>= λ es. Ok (key_among text k.name.now es))
    by-laid t (Err r) = refl
    by-laid t (Ok es) = ap Ok (sought-key text k.name.now (folded_all text es))

    by-tree :
        (a : Answer Forest) →
        read_key text (value_of (a >>= λ t. unfolded text (fields t) >>= λ es. key_given k room text (root t) (fields t) es))
        ≡ (((a >>= λ t. Ok (fields t)) >>= λ f. unfolded text f >>= λ es. Ok (folded_all text es)) >>= λ es. Ok (key_among text k.name.now es))
    by-tree (Err r) = refl
    by-tree (Ok t) = by-laid t (unfolded text (fields t))
