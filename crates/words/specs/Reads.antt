-- What the reading of the words gives.
use Rattle.std.specs.Prelude.{◌≡◌, List, true, false, Result, Ok, Err}
use Rattle.clap.specs.Words.{Text, found_of, rows_of, matches_of, fault_of}
use Rattle.clap.specs.Walk.{is_empty}
use Rattle.clap.specs.declared.parser.matches.ArgMatches.{ArgMatches}
use Rattle.words.specs.Line.{command_line}
use Rattle.words.specs.declared.asking.Refusal.{Refusal}
use Rattle.words.specs.declared.asking.Refusal.TheVariants.{Usage, OutOfMemory}

pub record HasRead (words : List Text) (m : ArgMatches) : Type 0 where
  pub passes : is_empty (fault_of command_line words) ≡ true
  pub rows : rows_of (found_of m) ≡ matches_of command_line words

abbrev pub Reads : List Text → Result ArgMatches Refusal → Type 0
Reads words (Ok m) = HasRead words m
Reads words (Err Usage) = is_empty (fault_of command_line words) ≡ false
Reads words (Err OutOfMemory) = Unit {0}
