-- The command line that `clap` reads.
use Rattle.std.specs.Prelude.{List, [], Bool, true, false, codes, Option, Some, None, if◌then◌else◌, unwrap_or}
use Rattle.std.specs.Str.{bytes_eq}
use Rattle.clap.specs.Words.{App, Rule, Row, Text, new_app, new_rule, with_rule, matches_of, fault_of, first_of}
use Rattle.clap.specs.Simple.{on_top}
use Rattle.clap.specs.Walk.{is_empty}
use Rattle.clap.specs.declared.builder.action.ArgAction.TheVariants.{SetTrue}

-- an option with one value
abbrev pub option_rule : Text → Rule
option_rule name = record (new_rule name) { long = Some name }

-- an option without a value
abbrev pub flag_rule : Text → Rule
flag_rule name = record (new_rule name) { long = Some name; action = Some SetTrue }

-- a word that is no option, and has to be there
abbrev pub place_rule : Text → Rule
place_rule name = record (new_rule name) { required = true }

-- the command: its places, of which the graph may be left out, its options and its flag; the words don't hold the program's own name
abbrev pub command_line : App
command_line =
    with_rule (with_rule (with_rule (with_rule (with_rule (with_rule (with_rule
    (on_top (λ s. record s { no_binary_name = true }) (new_app (codes "sam")))
    (place_rule (codes "COMMAND")))
    (place_rule (codes "SUBJECT")))
    (new_rule (codes "GRAPH")))
    (option_rule (codes "capacity")))
    (option_rule (codes "of")))
    (option_rule (codes "schedule")))
    (flag_rule (codes "fused"))

-- what is given under each name
pub record Given : Type 0 where
  pub command : Text
  pub subject : Text
  pub graph : Option Text
  pub capacity : Option Text
  pub of : Option Text
  pub schedule : Option Text
  pub fused : Bool

-- what `clap` tells of a flag, which is `true` where it is given
abbrev pub is_true_text : Option Text → Bool
is_true_text None = false
is_true_text (Some text) = bytes_eq text (codes "true")

abbrev pub given_in : List Row → Given
given_in rows = record {
  command = unwrap_or (first_of (codes "COMMAND") rows) [];
  subject = unwrap_or (first_of (codes "SUBJECT") rows) [];
  graph = first_of (codes "GRAPH") rows;
  capacity = first_of (codes "capacity") rows;
  of = first_of (codes "of") rows;
  schedule = first_of (codes "schedule") rows;
  fused = is_true_text (first_of (codes "fused") rows);
}

-- what `clap` reads of the words, or none where its reading fails
abbrev pub given_of : List Text → Option Given
given_of words = if is_empty (fault_of command_line words) then Some (given_in (matches_of command_line words)) else None
