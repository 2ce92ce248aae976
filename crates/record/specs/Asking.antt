-- What is answered of a record, with what is written, and what a call leaves that asks it.
-- Assumes nothing.
use Rattle.std.specs.Prelude.{ℕ, List, ◌++◌, length, drop}
use Rattle.definition.specs.Basic.{Answer, Err, Ok}
use Rattle.definition.specs.declared.Form.{Form}
use Rattle.definition.specs.Calls.{Question, asked, After, cleared, called}

-- what is answered, and the bytes that are written
pub record Given (A : Type 0) : Type 0 where
  pub value : A
  pub bytes : List ℕ

abbrev pub value_of : {A : Type 0} → Answer (Given A) → Answer A
value_of (Err r) = Err r
value_of (Ok a) = Ok a.value

-- a refusal changes no byte of the output, and bytes past what is written keep their values
abbrev pub output_of : {A : Type 0} → Answer (Given A) → List ℕ → List ℕ
output_of (Err r) out = out
output_of (Ok a) out = a.bytes ++ drop (length a.bytes) out

-- after a call
abbrev pub after_given : {A : Type 0} → Answer (Given A) → List ℕ → List ℕ → After A
after_given a out work = record { answer = value_of a; output = output_of a out; work = cleared work }

-- a call for a copybook of this form, with an output and work memory lent; a question takes the room of the output
abbrev pub asked_call : {A : Type 0} → Form → (ℕ → Question (Given A)) → List ℕ → List ℕ → List ℕ → After A
asked_call form question text out work =
    after_given (called form (λ t. asked (question (length out)) t (length work)) text (length work)) out work
