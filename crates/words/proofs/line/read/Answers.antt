use Rattle.std.proofs.Common.{◌∙◌, ap, map, string_bytes}
use Rattle.clap.specs.Words.{App, app_of, matches_of, is_simple}
use Rattle.words.proofs.LineLemmas.{passes, fails, line_is_simple_alone}
use Rattle.words.proofs.line.read.Goals as goal

pub returns-in-Ok-try_get_matches_from : goal.returns-in-Ok-try_get_matches_from
returns-in-Ok-try_get_matches_from c =
    let words = map string_bytes c.args.words.now in
    let same = c.in-Ok.ensures in
    record {
      passes = passes (app_of c.in-Ok.command) words same c.in-Ok-try_get_matches_from.ensures.kinds;
      rows = (c.in-Ok-try_get_matches_from.ensures.matches (ap is_simple same ∙ line_is_simple_alone)).0
          ∙ ap (λ (a : App). matches_of a words) same;
    }

pub returns : goal.returns
returns c =
    fails (app_of c.in-Ok.command) (map string_bytes c.args.words.now) c.in-Err-try_get_matches_from.error c.in-Ok.ensures
    c.in-Err-try_get_matches_from.ensures.kinds (λ h. c.in_default.not-OutOfMemory (c.kind.ensures ∙ h))
