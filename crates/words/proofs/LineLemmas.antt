-- What `clap` says of the command line.
use Rattle.std.proofs.Common.{◌≡◌, ◌∙◌, ap, sym, refl, true, false, [], ◌∷◌, inl, inr, arith}
use Rattle.std.specs.Prelude.{List}
use Rattle.clap.specs.Words.{App, Kinds, HasKind, Text, fault_of, is_simple, is_simple_and_free, kind_of}
use Rattle.clap.specs.Walk.{is_empty}
use Rattle.clap.specs.declared.error.Error.{Error}
use Rattle.clap.specs.declared.error.kind.ErrorKind.TheVariants.{OutOfMemory}
use Rattle.clap.proofs.OnLiterals.{clap_on_literals}
use Rattle.words.specs.Line.{command_line}

-- the command line is one of which `clap` says when its reading fails
pub line_is_simple : is_simple_and_free command_line ≡ true
unfolding clap_on_literals
line_is_simple = refl

has_none : (kinds : Kinds) → kinds ≡ [] → is_empty kinds ≡ true
has_none kinds e = ap is_empty e

has_some : (kinds : Kinds) (error : Error) → HasKind kinds error → (kind_of error ≡ OutOfMemory → ⊥) → is_empty kinds ≡ false
has_some [] error (inl out) other = absurd (other out)
has_some [] error (inr among) other = absurd among
has_some (k ∷ ks) error has other = grind arith

-- a reading that passes
pub passes : (app : App) (words : List Text) → app ≡ command_line → (is_simple_and_free app ≡ true → fault_of app words ≡ []) → is_empty (fault_of command_line words) ≡ true
passes app words same none = has_none (fault_of command_line words) (ap (λ (a : App). fault_of a words) (sym same) ∙ none (ap is_simple_and_free same ∙ line_is_simple))

-- a reading that fails, and not for want of memory
pub fails : (app : App) (words : List Text) (error : Error) → app ≡ command_line → (is_simple_and_free app ≡ true → HasKind (fault_of app words) error) → (kind_of error ≡ OutOfMemory → ⊥)
    → is_empty (fault_of command_line words) ≡ false
fails app words error same has other = ap (λ (a : App). is_empty (fault_of a words)) (sym same) ∙ has_some (fault_of app words) error (has (ap is_simple_and_free same ∙ line_is_simple)) other

pub line_is_simple_alone : is_simple command_line ≡ true
unfolding clap_on_literals
line_is_simple_alone = refl
